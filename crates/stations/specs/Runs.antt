-- The runs of a network: the definitions of a run, applied to its stations.
use Rattle.std.specs.Prelude.{ℕ, List, length}
use Rattle.sim_base.specs.Order.{msg_cmp}
use Rattle.sim_base.specs.Clones.{Clone}
use Rattle.sim_base.specs.Same.{same_entry}
use Rattle.sim_base.specs.declared.message.Msg.{Msg}
use Rattle.sim_base.specs.declared.message.Payload.TheVariants.{Set}
use Rattle.sim_base.specs.declared.entry.Entry.{Entry}
use Rattle.sim_base.specs.declared.entry.Line.{Line}
use Rattle.sim_base.specs.declared.decision.Planned.{Planned}
use Rattle.run_laws.specs.Simulation.{Simulation}
use Rattle.run_laws.specs.Machine.{Config}
use Rattle.run_laws.specs.Window.{LocalStation}
use Rattle.run_laws.specs.World as world
use Rattle.run_laws.specs.Runs as runs
use Rattle.run_laws.specs.Laws as laws
use Rattle.run_laws.specs.Fronts as fronts
use Rattle.run_laws.specs.Sharing as sharing
use Rattle.net_model.specs.Net.{Net}
use Rattle.stations.specs.Handling.{StateView, handle}
use Rattle.stations.specs.Opening.{setup}

-- the message of the decision at place k of a clone's list: the analyst is sender 0
abbrev pub set_message : ℕ → Planned → Msg
set_message k p = record {
  key = record { time = p.at; sender = 0; number = k };
  to = p.station;
  payload = Set p.change;
}

-- a network as a simulation: the order of messages, the stations and how they handle, and the bounds
abbrev pub simulation : Net → Simulation StateView Msg Line
simulation net = record {
  order = msg_cmp;
  time = λ m. m.key.time;
  to = λ m. m.to;
  stations = length net.sites;
  setup = setup net;
  handle = λ s st m. handle net st m;
  set_message = set_message;
  lookahead = net.lookahead;
  horizon = net.horizon;
  limit = net.limit;
}

-- the trace of a clone
abbrev pub trace_of : Net → Clone → List (Entry Msg Line)
trace_of net c = runs.trace_of (simulation net) c

-- the log of a station of a clone before a front
abbrev pub log_at : Net → Clone → ℕ → ℕ → List (Entry Msg Line)
log_at net c s front = runs.log_at (simulation net) c s front

-- the state of a station after a log, from its opening on
abbrev pub replay : Net → ℕ → List (Entry Msg Line) → StateView
replay net s log = world.replay (λ (m : Msg). m.to) (λ (r : ℕ). handle net) s (setup net s).state log

-- the state of a station at a front
abbrev pub state_at : Net → Clone → ℕ → ℕ → StateView
state_at net c s front = runs.state_at (simulation net) c s front

-- one station's window alone, from its state in a clone at a front, to a bound
abbrev pub window : Net → Clone → ℕ → ℕ → ℕ → Config (LocalStation StateView Msg Line) Msg
window net c s front bound = laws.window (simulation net) c s front bound

-- the next front of the clones
abbrev pub next_front : Net → List Clone → ℕ → ℕ
next_front net cs front = fronts.next_front (simulation net) cs front

-- from a front on, these are the next fronts of the clones, up to the horizon
abbrev pub AreFronts : Net → List Clone → ℕ → List ℕ → Type 0
AreFronts net cs front fs = fronts.AreFronts (simulation net) cs front fs

-- a clone's log at a station is beyond the limit
abbrev pub IsBeyond : Net → ℕ → ℕ → Clone → Type 0
IsBeyond net s front c = sharing.IsBeyond (simulation net) s front c

-- the number of copies of a station at a front
abbrev pub copies : Net → List Clone → ℕ → ℕ → ℕ
copies net cs s front = sharing.copies (simulation net) same_entry cs s front

-- the number of messages that its copies handled before the front, each once
abbrev pub handled_once : Net → List Clone → ℕ → ℕ → ℕ
handled_once net cs s front = sharing.handled_once (simulation net) same_entry cs s front

-- and the number that would be handled there if each clone were run alone
abbrev pub handled_alone : Net → List Clone → ℕ → ℕ → ℕ
handled_alone net cs s front = sharing.handled_alone (simulation net) cs s front
