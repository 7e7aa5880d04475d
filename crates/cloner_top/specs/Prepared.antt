-- Studies that are ready to run: all texts are read, and no message is handled yet.
use Rattle.std.specs.Prelude.{◌≡◌, Option, Ok}
use Rattle.sim_outer.specs.Files.{Files}
use Rattle.command_words.specs.Requests.{AssignmentView}
use Rattle.study_run.specs.Accepted.{IsAcceptedJournal}
use Rattle.checkpoint.specs.Accepted.{IsAccepted}
use Rattle.study_run.specs.SayableRuns.{AreSayable}
use Rattle.watch_points.specs.Checking.{fit}
use Rattle.cloner_top.specs.declared.prepared.Prepared.{Prepared}
use Rattle.cloner_top.specs.declared.prepared.Prepared.TheVariants.{Decided, Resuming, Undecided, Watching}
use Rattle.cloner_top.specs.declared.refusal.Refusal.{Refusal}
use Rattle.cloner_top.specs.declared.refusal.Refusal.TheVariants.{NotRead, OutOfMemory, Stopped}
use Rattle.cloner_top.specs.Answers.{IsLawfulEnding}
use Rattle.cloner_top.specs.Deciding.{clones_of_book}
use Rattle.cloner_top.specs.Endings.{Ending, MayGoOn, MayLive, MayRunWatched, MaySimulate, early_stop}
use Rattle.cloner_top.specs.Texts.{IsDue, IsUnread}

-- how a prepared study may end
abbrev pub MayEndFrom : Prepared → Ending → Type 0
MayEndFrom (Decided decided) end =
    MaySimulate decided.mode decided.plan.model.value (clones_of_book decided.plan.book) end
MayEndFrom (Undecided study) end = MayLive study.model.value study.script end
MayEndFrom (Watching w) end = MayRunWatched w.plan.model.value (clones_of_book w.plan.book) w.watches end
MayEndFrom (Resuming r) end = MayGoOn r.model.value r.snapshot end

-- all decisions in the plan were accepted, and words can say them; the watches fit; and the snapshot is accepted
abbrev pub IsReady : Prepared → Type 0
IsReady (Decided decided) = IsAcceptedJournal decided.plan.book.net decided.plan.book.events
    × AreSayable (clones_of_book decided.plan.book)
IsReady (Undecided study) = Unit {0}
IsReady (Watching w) = IsAcceptedJournal w.plan.book.net w.plan.book.events
    × (fit w.plan.model.value (clones_of_book w.plan.book) w.watches ≡ Ok tt)
IsReady (Resuming r) = IsAccepted r.model.value r.snapshot

-- each ending of the prepared study is one that the assignment allows
abbrev pub IsPrepared : Option Files → AssignmentView → Prepared → Type 0
IsPrepared files a p = (end : Ending) → MayEndFrom p end → IsLawfulEnding files a end

-- why nothing is ready: out of memory, a required text was not read, or the study is not run
abbrev pub IsNotPrepared : Type 0 → Option Files → AssignmentView → Refusal → Type 0
IsNotPrepared rose files a OutOfMemory = Unit {0}
IsNotPrepared rose files a (NotRead text) = IsDue a files text × IsUnread rose a files text
IsNotPrepared rose files a (Stopped stop) = IsLawfulEnding files a (early_stop stop)
IsNotPrepared rose files a refusal = ⊥
