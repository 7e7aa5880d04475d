-- Right journals.
use Rattle.std.specs.Prelude.{◌≡◌, ◌≢◌, ℕ, ◌<◌, ◌≤◌, List, [], ◌∷◌, ◌++◌, length}
use Rattle.sim_base.specs.declared.decision.Decision.{Decision}
use Rattle.net_model.specs.Net.{Net}
use Rattle.decision_book.specs.declared.call.Call.{Call}
use Rattle.decision_book.specs.declared.call.Reply.TheVariants.{Full}
use Rattle.decision_book.specs.Journal.{Event, NewFront, NewCall, fronts_of, after, with_reply}
use Rattle.decision_book.specs.Replies.{reply}

-- the journal after a decision is asked for and gets the reply of the table
abbrev pub journal_with : Net → List Event → ℕ → Decision → List Event
journal_with net events caller d = with_reply events caller d (reply (after net events) d)

-- a call with the right number of fronts before it, and with the reply of the table, which is not Full
pub record IsRightCall (net : Net) (before : List Event) (call : Call) : Type 0 where
  pub fronts : call.fronts ≡ length (fronts_of before)
  pub answer : call.reply ≡ reply (after net before) call.decision
  pub not_full : call.reply ≢ Full

-- an event that may follow these: a higher front, at most the horizon, or a call with the right reply
abbrev pub MayFollow : Net → List Event → Event → Type 0
MayFollow net before (NewFront f) = ((after net before).front < f) × (f ≤ net.horizon)
MayFollow net before (NewCall call) = IsRightCall net before call

-- P holds of each event of a journal and the events before it, of which `before` are the first
abbrev pub EachAfter : (List Event → Event → Type 0) → List Event → List Event → Type 0
EachAfter P before [] = Unit {0}
EachAfter P before (e ∷ es) = P before e × EachAfter P (before ++ e ∷ []) es

-- each call has the reply of the table after the events before it, and none is Full. The fronts rise and are at most
-- the horizon
abbrev pub IsRight : Net → List Event → Type 0
IsRight net events = EachAfter (MayFollow net) [] events
