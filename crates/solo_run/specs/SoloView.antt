-- The view of a one-thread run: the states of the stations in order, the pending messages, and the trace.
use Rattle.std.specs.Prelude.{◌≡◌, ℕ, zero, suc, ◌+◌, ◌≤◌, List, [], ◌∷◌, ◌++◌, length, Some, None, slice_get}
use Rattle.std.specs.Prelude.{unwrap_or}
use Rattle.std.specs.List.{AllByRecursion, sum_by}
use Rattle.sim_base.specs.Order.{msg_cmp}
use Rattle.sim_base.specs.declared.message.Msg.{Msg}
use Rattle.sim_base.specs.declared.entry.Entry.{Entry}
use Rattle.sim_base.specs.declared.entry.Line.{Line}
use Rattle.run_laws.specs.Queue.{Sorted}
use Rattle.run_laws.specs.Machine.{Config}
use Rattle.run_laws.specs.World.{World, log_of}
use Rattle.net_model.specs.Net.{Net}
use Rattle.net_model.specs.Rules.{IsNet}
use Rattle.stations.specs.Fits.{FitsState, SuitsNet}
use Rattle.stations.specs.Handling.{StateView}
use Rattle.stations.specs.Opening.{setup}
use Rattle.solo_run.specs.EventLists.{IsForStation}
use Rattle.solo_run.specs.Limit.{receiver, first_beyond}

-- entries of a trace, in order
abbrev pub Entries : Type 0
Entries = List (Entry Msg Line)

-- the view of a one-thread run in contracts: the states, the pending messages in their order, and the trace
pub record SoloView : Type 0 where
  pub states : List StateView
  pub pending : List Msg
  pub trace : Entries

-- the view with this message put back as the first pending one
abbrev pub with_due : Msg → SoloView → SoloView
with_due m v = record v { pending = m ∷ v.pending }

-- the state of station s; a number without a station has its opening state
abbrev pub state_of : Net → List StateView → ℕ → StateView
state_of net states zero = (setup net zero).state
state_of net states (suc i) = unwrap_or (slice_get states i) (setup net (suc i)).state

-- the world that the run of a clone has reached
abbrev pub config_of : Net → SoloView → Config (World StateView Msg Line) Msg
config_of net v = record {
  at = record { states = state_of net v.states; trace = v.trace };
  pending = v.pending;
}

-- the state of station i + 1, in a run with this trace
pub record IsStateAfter (net : Net) (trace : Entries) (i : ℕ) (st : StateView) : Type 0 where
  pub fits : FitsState st
  pub suits : SuitsNet net st
  pub station : st.sender.station ≡ i + 1
  pub within : st.handled ≤ net.limit
  pub log : st.handled ≡ length (log_of receiver (i + 1) trace)

-- a run of a model's network after past entries, which count towards the limit: no log is beyond it
pub record IsSoloAfter (net : Net) (past : Entries) (v : SoloView) : Type 0 where
  pub valid : IsNet net
  pub count : length v.states ≡ length net.sites
  pub states : (i : ℕ) (st : StateView) → slice_get v.states i ≡ Some st → IsStateAfter net (past ++ v.trace) i st
  pub sorted : Sorted msg_cmp v.pending
  pub targets : AllByRecursion (IsForStation (length net.sites)) v.pending
  pub total : length (past ++ v.trace) ≡ sum_by (λ st. st.handled) v.states
  pub below : first_beyond net.limit past v.trace ≡ None

-- a run of a model's network from the start, without a past
abbrev pub IsSolo : Net → SoloView → Type 0
IsSolo net v = IsSoloAfter net [] v
