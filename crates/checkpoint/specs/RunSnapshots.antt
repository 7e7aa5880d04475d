-- The snapshot of a clone's run at a front.
use Rattle.std.specs.Prelude.{◌≡◌, ℕ, zero, suc, ◌-◌, ◌<◌, ◌≤◌, List, [], ◌∷◌, length, map, min, take, true, IfSome}
use Rattle.std.specs.List.{AllByRecursion}
use Rattle.sim_base.specs.Clones.{Clone}
use Rattle.sim_base.specs.Names.{is_name}
use Rattle.sim_base.specs.declared.entry.Entry.{Entry}
use Rattle.sim_base.specs.declared.entry.Line.{Line}
use Rattle.sim_base.specs.declared.lists.TheConstants.{MAX_DECISIONS}
use Rattle.sim_base.specs.declared.message.Msg.{Msg}
use Rattle.run_laws.specs.Handlers.{AreForStations}
use Rattle.run_laws.specs.Runs.{run, end_of}
use Rattle.net_model.specs.Net.{Net, HasStation}
use Rattle.solo_run.specs.SoloView.{SoloView, IsSolo, config_of}
use Rattle.stations.specs.Handling.{StateView}
use Rattle.stations.specs.Runs.{simulation, log_at}
use Rattle.stations.specs.Saving.{saved_of}
use Rattle.trace_report.specs.TraceText.{entry_line}
use Rattle.checkpoint.specs.Due.{is_sayable}
use Rattle.checkpoint.specs.Snapshots.{SnapshotView}

-- the states of n stations from station s on
abbrev pub states_from : (ℕ → StateView) → ℕ → ℕ → List StateView
states_from states s zero = []
states_from states s (suc n) = states s ∷ states_from states (suc s) n

-- the line of an entry without its line feed
abbrev pub trace_line : Net → Entry Msg Line → List ℕ
trace_line net e = take (length (entry_line net e) - 1) (entry_line net e)

-- the snapshot of a clone's run to a front
abbrev pub snapshot_of : Net → Clone → ℕ → SnapshotView
snapshot_of net c front = record {
  who = c.name;
  front = front;
  end = c.end;
  saved = map saved_of (states_from (run (simulation net) c.plans front).at.states 1 (length net.sites));
  due = (run (simulation net) c.plans front).pending;
  lines = map (trace_line net) (run (simulation net) c.plans front).at.trace;
}

-- a clone whose name and decisions words can say. Its decisions are for stations, and come before the horizon, as its
-- end does
pub record IsSayableClone (net : Net) (c : Clone) : Type 0 where
  pub name : is_name c.name ≡ true
  pub stations : AreForStations (simulation net) c.plans
  pub time_max : AllByRecursion (λ p. p.at < net.horizon) c.plans
  pub at_most : length c.plans ≤ MAX_DECISIONS
  pub sayable : AllByRecursion (λ p. is_sayable p.change ≡ true) c.plans
  pub end : IfSome c.end (λ at. at < net.horizon)

-- the run of such a clone to a front, at most its end: no log is beyond the limit
pub record HasSnapshot (net : Net) (c : Clone) (front : ℕ) : Type 0 where
  pub clone : IsSayableClone net c
  pub within : front ≤ min net.horizon (end_of (simulation net) c)
  pub length_max : (s : ℕ) → HasStation net s → length (log_at net c s front) ≤ net.limit

-- a one-thread run of such a clone has come to a front
pub record IsRunAt (net : Net) (c : Clone) (front : ℕ) (v : SoloView) : Type 0 where
  pub clone : IsSayableClone net c
  pub within : front ≤ min net.horizon (end_of (simulation net) c)
  pub solo : IsSolo net v
  pub is : config_of net v ≡ run (simulation net) c.plans front
