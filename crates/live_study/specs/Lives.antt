-- What a live run leaves.
use Rattle.std.specs.Prelude.{◌≡◌, ℕ, List, [], map, IfOk, IfErr}
use Rattle.std.specs.List.{AllByRecursion, flat_map}
use Rattle.sim_base.specs.Reserved.{ReservedView}
use Rattle.net_model.specs.Net.{Net}
use Rattle.decision_script.specs.Stating.{ScriptView}
use Rattle.decision_book.specs.Journal.{Event, after}
use Rattle.decision_book.specs.Books.{BookView}
use Rattle.decision_desk.specs.Accounts.{accounts_of, calls_by}
use Rattle.decision_desk.specs.Legal.{IsLegal}
use Rattle.journal_text.specs.declared.looked.Looked.{Looked}
use Rattle.world_core.specs.Worlds.{WorldView}
use Rattle.live_study.specs.Asking.{AllAsked, SeatedAnalyst, accounts_in}
use Rattle.live_study.specs.Engines.{StopsEngine}
use Rattle.live_study.specs.Looks.{AreLooks, AreMadeLooks, IsTrueLook, NeverFall, SeesItsStation, look_of}
use Rattle.live_study.specs.Scripts.{AskedLook, IsJournalOf}
use Rattle.live_study.specs.declared.run.LiveRun.{LiveRun}

-- a journal in which all was asked: it is legal, each analyst's calls in it are its decisions, in order, and no
-- other caller has calls
pub record IsAllAsked (net : Net) (seated : List SeatedAnalyst) (book : BookView) : Type 0 where
  pub net_is : book.net ≡ net
  pub legal : IsLegal net book.events
  pub asked_all : AllAsked book.events seated
  pub others : (x : ℕ) → accounts_of x (accounts_in seated) ≡ 0 → calls_by x book.events ≡ []

-- what each analyst has looked at, in order
abbrev pub looks_made : List (ReservedView Looked) → List (List AskedLook)
looks_made looks = map (λ r. map look_of r.items) looks

-- the looks of all analysts, one after the other
abbrev pub all_looks : List (ReservedView Looked) → List Looked
all_looks looks = flat_map (λ r. r.items) looks

-- these analysts saw nothing exactly if there is no such station, and no front of one of them falls
pub record AreSeenLooks (net : Net) (looks : List (ReservedView Looked)) : Type 0 where
  pub seen : AllByRecursion (SeesItsStation net) (all_looks looks)
  pub rise : AllByRecursion (λ r. NeverFall r.items) looks

-- what they saw is true of this journal
abbrev pub AreTrueLooks : Net → List Event → List (ReservedView Looked) → Type 0
AreTrueLooks net events looks = AllByRecursion (IsTrueLook net events) (all_looks looks)

-- a run that was finished: the last front of the journal is the horizon, and the world is there with the clones
-- that the journal leaves
pub record IsAtHorizon (net : Net) (book : BookView) (world : WorldView) : Type 0 where
  pub last : (after net book.events).front ≡ net.horizon
  pub world_is : world ≡ record { net = net; clones = (after net book.events).clones; front = net.horizon }

-- the live run of a script
pub record IsLiveRun (net : Net) (script : ScriptView) (run : LiveRun) : Type 0 where
  -- however it ends: one legal journal, in which each analyst's decisions are in order, and no others
  pub journal : IsJournalOf net script run.book
  -- and all looks of the script, in order, which saw nothing exactly if there is no such station
  pub made : AreMadeLooks net script (all_looks run.looks.items)
  -- at the horizon: what was seen at each of them is true of the journal's clones at a front
  pub looks : IfOk run.run (λ w. AreLooks net script run.book.events (all_looks run.looks.items))
  -- and the world has the journal's clones
  pub finished : IfOk run.run (λ w. IsAtHorizon net run.book w)
  -- or why the engine stopped, over the journal
  pub stopped : IfErr run.run (λ e. StopsEngine net run.book.events e)
