-- Journals of decisions and fronts, and the situation after one.
use Rattle.std.specs.Prelude.{ℕ, ◌+◌, Bool, true, false, List, [], ◌∷◌, ◌++◌, length, fold, unwrap_or}
use Rattle.sim_base.specs.declared.decision.Decision.{Decision}
use Rattle.sim_base.specs.declared.decision.Decision.TheVariants.{Fork, Set, End}
use Rattle.sim_base.specs.declared.decision.Planned.{Planned}
use Rattle.sim_base.specs.declared.message.Change.{Change}
use Rattle.sim_base.specs.Clones.{Clone, base, clones_with_fork, clones_with_plan, clones_with_end, place_of}
use Rattle.net_model.specs.Net.{Net, station_named}
use Rattle.decision_book.specs.declared.call.Call.{Call}
use Rattle.decision_book.specs.declared.call.Reply.{Reply}
use Rattle.decision_book.specs.declared.call.Reply.TheVariants.{Accepted, Full}

-- a journal is a list of events: a front to which the simulation was raised, or a call
pub data Event : Type 0 where
  NewFront : ℕ → Event
  NewCall : Call → Event

-- the calls of a journal
abbrev pub calls_of : List Event → List Call
calls_of [] = []
calls_of (NewFront f ∷ es) = calls_of es
calls_of (NewCall c ∷ es) = c ∷ calls_of es

-- the fronts of a journal
abbrev pub fronts_of : List Event → List ℕ
fronts_of [] = []
fronts_of (NewFront f ∷ es) = f ∷ fronts_of es
fronts_of (NewCall c ∷ es) = fronts_of es

-- the last front of a journal, or this one if it has none
abbrev pub front_from : ℕ → List Event → ℕ
front_from f [] = f
front_from f (NewFront g ∷ es) = front_from g es
front_from f (NewCall c ∷ es) = front_from f es

-- the last front of a journal, or 0 if it has none
abbrev pub front_of : List Event → ℕ
front_of events = front_from 0 events

-- the data that a reply depends on: the network, the clones with their lists, the front, and the number of calls
pub record Situation : Type 0 where
  pub net : Net
  pub clones : List Clone
  pub front : ℕ
  pub calls : ℕ

-- before all decisions: the base clone alone, at front 0
abbrev pub outset : Net → Situation
outset net = record { net = net; clones = base ∷ []; front = 0; calls = 0 }

-- the place of the clone with this name (0 if there is none)
abbrev pub clone_place : List ℕ → List Clone → ℕ
clone_place name clones = unwrap_or (place_of name clones) 0

-- the plan that a set adds to a decision list
abbrev pub plan_of_set : Net → ℕ → List ℕ → Change → Planned
plan_of_set net at station change =
    record { at = at; station = unwrap_or (station_named station net) 0; change = change }

-- the clones after an accepted decision
abbrev pub clones_after : Net → List Clone → Decision → List Clone
clones_after net clones (Fork new old) = clones_with_fork clones new (clone_place old clones)
clones_after net clones (Set who at station change) =
    clones_with_plan clones (clone_place who clones) (plan_of_set net at station change)
clones_after net clones (End who at) = clones_with_end clones (clone_place who clones) at

-- the new clones if a decision is accepted; a refusal does not change them
abbrev pub if_accepted : Reply → List Clone → List Clone → List Clone
if_accepted Accepted new old = new
if_accepted refusal new old = old

-- the clones after a decision had this reply
abbrev pub clones_after_reply : Net → List Clone → Decision → Reply → List Clone
clones_after_reply net clones d reply = if_accepted reply (clones_after net clones d) clones

-- the situation after one more event
abbrev pub after_event : Situation → Event → Situation
after_event s (NewFront f) = record s { front = f }
after_event s (NewCall call) = record s {
  clones = clones_after_reply s.net s.clones call.decision call.reply;
  calls = s.calls + 1;
}

-- the situation after a journal
abbrev pub after : Net → List Event → Situation
after net events = fold after_event (outset net) events

-- the call of a decision that had this reply after these events
abbrev pub call_of : ℕ → List Event → Decision → Reply → Call
call_of caller events d reply =
    record { caller = caller; fronts = length (fronts_of events); decision = d; reply = reply }

-- the journal after a decision had this reply; Full does not change it
abbrev pub with_reply : List Event → ℕ → Decision → Reply → List Event
with_reply events caller d Full = events
with_reply events caller d reply = events ++ NewCall (call_of caller events d reply) ∷ []

-- whether it is the reply of a full journal
abbrev pub is_full : Reply → Bool
is_full Full = true
is_full _ = false
