-- The laws of decisions: `src/laws.rt` shows that they hold.
use Rattle.std.specs.Prelude.{◌≡◌, ◌≢◌, Some, ℕ, ◌<◌, List, [], ◌∷◌, ◌++◌, length, map, Option, None}
use Rattle.std.specs.List.{find, AllByRecursion}
use Rattle.std.specs.Option.{option_or}
use Rattle.std.specs.Str.{bytes_eq}
use Rattle.sim_base.specs.declared.decision.Decision.{Decision}
use Rattle.sim_base.specs.Clones.{Clone, clone_at}
use Rattle.net_model.specs.Net.{Net, HasStation}
use Rattle.decision_book.specs.declared.call.Call.{Call}
use Rattle.decision_book.specs.declared.call.Reply.TheVariants.{Accepted}
use Rattle.decision_script.specs.Alone.{alone, alone_of, decisions}
use Rattle.decision_script.specs.Stating.{ScriptView}
use Rattle.decision_book.specs.Journal.{Event, NewCall, outset, clones_after, after, calls_of, front_of}
use Rattle.decision_book.specs.Plans.{ArePlanned}
use Rattle.decision_book.specs.Replies.{reply}
use Rattle.decision_book.specs.Right.{journal_with, IsRight}
use Rattle.decision_book.specs.Scripts.{Question, journal_of_script, accepted_decisions, after_decision}
use Rattle.decision_book.specs.Scripts.{after_all, lists_of, first_refusal, first_refusal_from}

-- the front after a journal is its last front, or 0, and the number of calls is that of the journal
abbrev pub SituationOfJournal : Net → Type 0
SituationOfJournal net = (events : List Event)
    → after net events ≡ record {
      net = net;
      clones = (after net events).clones;
      front = front_of events;
      calls = length (calls_of events);
    }

-- the decisions of a planned clone are for existing stations
abbrev pub PlansAreForStations : Net → Type 0
PlansAreForStations net = (clones : List Clone) (c : ℕ) → ArePlanned net clones
    → AllByRecursion (λ p. HasStation net p.station) (clone_at clones c).plans

-- the situation after a decision is independent of the caller
abbrev pub AskingIsAfterDecision : Net → Type 0
AskingIsAfterDecision net = (events : List Event) (caller : ℕ) (d : Decision)
    → after net (journal_with net events caller d) ≡ after_decision (after net events) d

-- the situation after the journal of a script is the one after its decisions
abbrev pub SituationOfScript : Net → Type 0
SituationOfScript net = (questions : List Question)
    → after net (journal_of_script net questions) ≡ after_all (outset net) (map (λ q. q.decision) questions)

-- the journal of a script is right
abbrev pub ScriptIsRight : Net → Type 0
ScriptIsRight net = (questions : List Question) → IsRight net (journal_of_script net questions)

-- one more accepted decision has its effect on the lists
abbrev pub AcceptedAdds : Net → Type 0
AcceptedAdds net = (ds : List Decision) (d : Decision) → reply (after_all (outset net) ds) d ≡ Accepted
    → lists_of net (ds ++ d ∷ []) ≡ clones_after net (lists_of net ds) d

-- the first refusal of two sequences of decisions is that of the first sequence, if there is one, otherwise that of the
-- second
abbrev pub RefusedFirst : Net → Type 0
RefusedFirst net = (ds more : List Decision) → first_refusal net (ds ++ more) ≡ option_or (first_refusal net ds)
    (first_refusal_from (after_all (outset net) ds) (length ds) more)

-- so one more accepted decision adds no refusal, if there was none
abbrev pub AcceptedLeavesNoRefusal : Net → Type 0
AcceptedLeavesNoRefusal net = (ds : List Decision) (d : Decision) → first_refusal net ds ≡ None
    → reply (after_all (outset net) ds) d ≡ Accepted → first_refusal net (ds ++ d ∷ []) ≡ None

-- and a refused one is the first refusal, independent of the decisions after it
abbrev pub RefusedIsFirst : Net → Type 0
RefusedIsFirst net = (ds : List Decision) (d : Decision) (more : List Decision) → first_refusal net ds ≡ None
    → reply (after_all (outset net) ds) d ≢ Accepted
    → first_refusal net (ds ++ d ∷ more) ≡ Some (length ds, reply (after_all (outset net) ds) d)

-- the clone with this name
abbrev pub clone_named : List ℕ → List Clone → Option Clone
clone_named name clones = find (λ c. bytes_eq c.name name) clones

-- the decisions that reach a clone are all accepted, and lead to the same list and the same end
pub record IsAlone (net : Net) (who : List ℕ) (ds : List Decision) : Type 0 where
  pub accepted : first_refusal net (alone who ds) ≡ None
  pub same : clone_named who (lists_of net (alone who ds)) ≡ clone_named who (lists_of net ds)

-- so it is if all decisions of a script are accepted
abbrev pub AloneSuffices : Net → Type 0
AloneSuffices net = (who : List ℕ) (ds : List Decision) → first_refusal net ds ≡ None → IsAlone net who ds

-- the decisions of a clone's own script are all accepted, and lead to the same list and the same end
pub record IsOwnScript (net : Net) (who : List ℕ) (s : ScriptView) : Type 0 where
  pub accepted : first_refusal net (decisions (alone_of s who).items) ≡ None
  pub same : clone_named who (lists_of net (decisions (alone_of s who).items)) ≡ clone_named who
      (lists_of net (decisions s.items))

-- the same for scripts
abbrev pub OwnScriptSuffices : Net → Type 0
OwnScriptSuffices net = (who : List ℕ) (s : ScriptView) → first_refusal net (decisions s.items) ≡ None
    → IsOwnScript net who s

-- the accepted decisions of a journal, as a script
pub record IsItsScript (net : Net) (events : List Event) : Type 0 where
  -- are all accepted before the simulation begins
  pub accepted : first_refusal net (accepted_decisions events) ≡ None
  -- and lead to the same clones
  pub lists : lists_of net (accepted_decisions events) ≡ (after net events).clones

-- so it is for each right journal
abbrev pub JournalIsScript : Net → Type 0
JournalIsScript net = (events : List Event) → IsRight net events → 0 < net.horizon → IsItsScript net events

-- calls at the horizon do not change the clones
abbrev pub ClosedChangesNothing : Net → Type 0
ClosedChangesNothing net = (before : List Event) (calls : List Call) → (after net before).front ≡ net.horizon
    → IsRight net (before ++ map NewCall calls)
    → (after net (before ++ map NewCall calls)).clones ≡ (after net before).clones
