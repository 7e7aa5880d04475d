-- The result of a live study, from which its texts are made.
use Rattle.std.specs.Prelude.{◌≡◌, ℕ, ◌+◌, ◌<◌, List, [], ◌∷◌, length, IfOk, IfErr}
use Rattle.sim_base.specs.Clones.{clone_at}
use Rattle.net_model.specs.Net.{Net, HasStation}
use Rattle.decision_script.specs.Stating.{ScriptView}
use Rattle.decision_book.specs.Journal.{Event, after}
use Rattle.world_core.specs.Worlds.{WorldView, total_handled}
use Rattle.study_run.specs.declared.fault.StudyFault.{StudyFault}
use Rattle.study_run.specs.declared.fault.StudyFault.TheVariants.{NoMemory, LimitMet}
use Rattle.journal_text.specs.JournalText.{journal_text}
use Rattle.live_study.specs.Lives.{IsLiveRun, all_looks}
use Rattle.live_study.specs.declared.run.LiveRun.{LiveRun}
use Rattle.cloner_top.specs.declared.excess.Excess.{Excess}
use Rattle.cloner_top.specs.declared.halt.Halt.{Halt}
use Rattle.cloner_top.specs.declared.halt.Halt.TheVariants.{Refused, Overrun}
use Rattle.cloner_top.specs.declared.refusal.Refusal.TheVariants.{OutOfMemory}
use Rattle.cloner_top.specs.Endings.{IsExcessOf, MayLive, limit_met_at, run_texts, whole_output}
use Rattle.cloner_top.specs.RunTexts.{MayPutRun}

-- a live study of a script was run, and this is the text of its journal
pub record IsJournaledRun (net : Net) (s : ScriptView) (old_steps new_steps : ℕ) (live : LiveRun) (text : List ℕ) :
    Type 0 where
  pub live_run : IsLiveRun net s live
  pub steps : IfOk live.run (λ w. new_steps ≡ old_steps + total_handled net w.clones net.horizon)
  pub idle : IfErr live.run (λ e. new_steps ≡ old_steps)
  pub text_is : text ≡ journal_text s.analysts live.book.events (all_looks live.looks.items)

-- the station and the clone of a limit exist
abbrev pub NamesStationAndClone : Net → List Event → StudyFault → Type 0
NamesStationAndClone net events NoMemory = Unit {0}
NamesStationAndClone net events (LimitMet station who) =
    HasStation net station × (who < length (after net events).clones)

-- the halt has this text and this excess
abbrev pub HaltsWith : List ℕ → Excess → Halt → Type 0
HaltsWith text excess (Refused refusal) = ⊥
HaltsWith text excess (Overrun journal is) = (journal.items ≡ text) × (is ≡ excess)

-- the halt for an error of the run
abbrev pub HaltsFor : Net → List Event → List ℕ → StudyFault → Halt → Type 0
HaltsFor net events text NoMemory halt = halt ≡ Refused OutOfMemory
HaltsFor net events text (LimitMet station who) halt =
    HaltsWith text (limit_met_at net station (clone_at (after net events).clones who).name) halt

-- the world of a live study at the horizon, and the text of its journal
pub record IsLiveWorld (net : Net) (s : ScriptView) (old_steps new_steps : ℕ) (world : WorldView) (text : List ℕ) :
    Type 0 where
  pub may_put : MayPutRun net world
  pub may : MayLive net s (whole_output (text ∷ run_texts net world.clones)
      (total_handled net world.clones net.horizon))
  pub steps : new_steps ≡ old_steps + total_handled net world.clones net.horizon

-- why there is no world: out of memory, or a limit is exceeded and the journal is put before the error line
abbrev pub StopsLive : Net → ScriptView → ℕ → ℕ → Halt → Type 0
StopsLive net s old_steps new_steps (Refused OutOfMemory) = Unit {0}
StopsLive net s old_steps new_steps (Refused refusal) = ⊥
StopsLive net s old_steps new_steps (Overrun journal excess) =
    IsExcessOf (MayLive net s) old_steps new_steps (journal.items ∷ []) excess
