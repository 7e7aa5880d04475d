-- The decisions of a script, made in its order at front 0 before the simulation begins. Looks are skipped.
use Rattle.std.specs.Prelude.{◌≡◌, ◌≢◌, ℕ, List, [], ◌∷◌, Option, Some, None, option_map, slice_get, unwrap_or}
use Rattle.sim_base.specs.Clones.{Clone}
use Rattle.net_model.specs.Net.{Net}
use Rattle.decision_script.specs.Alone.{decisions}
use Rattle.decision_script.specs.Stating.{ScriptView}
use Rattle.decision_script.specs.declared.item.Act.{Act}
use Rattle.decision_script.specs.declared.item.Act.TheVariants.{Decide, Look}
use Rattle.decision_script.specs.declared.item.Item.{Item}
use Rattle.decision_book.specs.Books.{BookView}
use Rattle.decision_book.specs.Journal.{Event, Situation, after}
use Rattle.decision_book.specs.Replies.{reply}
use Rattle.decision_book.specs.Right.{journal_with}
use Rattle.decision_book.specs.Scripts.{Question, first_refusal, journal_of_script, lists_of}
use Rattle.decision_book.specs.declared.call.Reply.{Reply}
use Rattle.decision_book.specs.declared.call.Reply.TheVariants.{Accepted}
use Rattle.study_run.specs.Accepted.{IsAcceptedJournal}
use Rattle.cloner_top.specs.declared.stop.Stop.{Stop}
use Rattle.cloner_top.specs.declared.stop.Stop.TheVariants.{BadDecision}

-- who asks what, prepended to other questions
abbrev pub questions_onto : ℕ → Act → List Question → List Question
questions_onto analyst (Decide d) qs = record { caller = analyst; decision = d } ∷ qs
questions_onto analyst (Look who station) qs = qs

-- who asks what, in the order of a script
abbrev pub questions : List Item → List Question
questions [] = []
questions (i ∷ is) = questions_onto i.analyst i.act (questions is)

-- the line of a decision, prepended to other lines; a look has none
abbrev pub lines_onto : ℕ → Act → List ℕ → List ℕ
lines_onto line (Decide d) ls = line ∷ ls
lines_onto line (Look who station) ls = ls

-- the lines of the decisions
abbrev pub decision_lines : List Item → List ℕ
decision_lines [] = []
decision_lines (i ∷ is) = lines_onto i.line i.act (decision_lines is)

-- the journal of a script whose decisions are each asked by their analyst
abbrev pub script_journal : Net → ScriptView → List Event
script_journal net s = journal_of_script net (questions s.items)

-- the clones after the decisions of a script
abbrev pub clones_of : Net → ScriptView → List Clone
clones_of net s = lists_of net (decisions s.items)

-- the clones after the decisions in a book
abbrev pub clones_of_book : BookView → List Clone
clones_of_book book = (after book.net book.events).clones

-- a refusal with its script line, from its index among the decisions
abbrev pub by_line : List ℕ → ℕ × Reply → Reply × ℕ
by_line lines refusal = (refusal.1, unwrap_or (slice_get lines refusal.0) 0)

-- the first refused decision of a script: its reply and its line
abbrev pub first_refused : Net → ScriptView → Option (Reply × ℕ)
first_refused net s = option_map (by_line (decision_lines s.items)) (first_refusal net (decisions s.items))

-- the journal after an item
abbrev pub journal_after : Net → List Event → ℕ → Act → List Event
journal_after net events analyst (Decide d) = journal_with net events analyst d
journal_after net events analyst (Look who station) = events

-- an item is a look, or a decision that is accepted
abbrev pub AcceptsAct : Situation → Act → Type 0
AcceptsAct s (Decide d) = reply s d ≡ Accepted
AcceptsAct s (Look who station) = Unit {0}

-- an item is a decision that is refused with this stop
abbrev pub RefusesAct : Situation → ℕ → Act → Stop → Type 0
RefusesAct s line (Decide d) stop = (reply s d ≢ Accepted) × (stop ≡ BadDecision (reply s d) line)
RefusesAct s line (Look who station) stop = ⊥

-- the stop for the first refused decision
abbrev pub IsRefusal : Net → ScriptView → Stop → Type 0
IsRefusal net s (BadDecision reply line) = first_refused net s ≡ Some (reply, line)
IsRefusal net s stop = ⊥

-- a book in which all decisions of a script were accepted
pub record IsDecided (net : Net) (s : ScriptView) (book : BookView) : Type 0 where
  pub net_is : book.net ≡ net
  pub events : book.events ≡ script_journal net s
  pub none : first_refused net s ≡ None
  pub accepted : IsAcceptedJournal net book.events
  pub clones : (after net book.events).clones ≡ clones_of net s
