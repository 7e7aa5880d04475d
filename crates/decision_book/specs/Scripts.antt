-- The decisions of a script, made in order at front 0.
use Rattle.std.specs.Prelude.{ℕ, ◌+◌, List, [], ◌∷◌, fold, map, Option, Some, None}
use Rattle.sim_base.specs.declared.decision.Decision.{Decision}
use Rattle.sim_base.specs.Clones.{Clone}
use Rattle.net_model.specs.Net.{Net}
use Rattle.decision_book.specs.declared.call.Reply.{Reply}
use Rattle.decision_book.specs.declared.call.Reply.TheVariants.{Accepted, Full}
use Rattle.decision_book.specs.declared.call.Call.{Call}
use Rattle.decision_book.specs.Journal.{Event, Situation, outset, clones_after_reply, calls_of}
use Rattle.decision_book.specs.Replies.{reply}
use Rattle.decision_book.specs.Right.{journal_with}

-- a decision, and the analyst who asks for it
pub record Question : Type 0 where
  pub caller : ℕ
  pub decision : Decision

-- the journal without fronts that has these decisions in order, each with its reply after those before it
abbrev pub journal_of_script : Net → List Question → List Event
journal_of_script net questions = fold (λ events q. journal_with net events q.caller q.decision) [] questions

-- a call with the reply Full is not counted
abbrev pub calls_after : Reply → ℕ → ℕ
calls_after Full calls = calls
calls_after _ calls = calls + 1

-- the situation after a decision, which is independent of the caller
abbrev pub after_decision : Situation → Decision → Situation
after_decision s d = record s {
  clones = clones_after_reply s.net s.clones d (reply s d);
  calls = calls_after (reply s d) s.calls;
}

-- the situation after these decisions
abbrev pub after_all : Situation → List Decision → Situation
after_all s ds = fold after_decision s ds

-- the resulting clones of the decisions of a script
abbrev pub lists_of : Net → List Decision → List Clone
lists_of net ds = (after_all (outset net) ds).clones

-- the refusal at this place, or else a later one
abbrev pub refusal_or : ℕ → Reply → Option (ℕ × Reply) → Option (ℕ × Reply)
refusal_or place Accepted later = later
refusal_or place refusal later = Some (place, refusal)

-- the first refused decision, with indices from `place` on: its index and the refusal
abbrev pub first_refusal_from : Situation → ℕ → List Decision → Option (ℕ × Reply)
first_refusal_from s place [] = None
first_refusal_from s place (d ∷ ds) =
    refusal_or place (reply s d) (first_refusal_from (after_decision s d) (place + 1) ds)

-- the first refused decision of a script: its index, from 0, and the refusal
abbrev pub first_refusal : Net → List Decision → Option (ℕ × Reply)
first_refusal net ds = first_refusal_from (outset net) 0 ds

-- a call before others, if this reply is Accepted
abbrev pub accepted_onto : Reply → Call → List Call → List Call
accepted_onto Accepted call later = call ∷ later
accepted_onto refusal call later = later

-- the accepted calls among these, in order
abbrev pub accepted_of : List Call → List Call
accepted_of [] = []
accepted_of (c ∷ cs) = accepted_onto c.reply c (accepted_of cs)

-- the accepted decisions of a journal, in order
abbrev pub accepted_decisions : List Event → List Decision
accepted_decisions events = map (λ c. c.decision) (accepted_of (calls_of events))
