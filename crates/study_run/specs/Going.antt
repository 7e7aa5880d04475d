-- A run of all clones, continued from a world.
use Rattle.std.specs.Prelude.{◌≡◌, ℕ, ◌+◌, List, Result, IfOk, IfErr}
use Rattle.sim_base.specs.Clones.{Clone}
use Rattle.net_model.specs.Net.{Net}
use Rattle.world_core.specs.Worlds.{WorldView, total_handled}
use Rattle.study_run.specs.Faults.{IsFaultOfAll}
use Rattle.study_run.specs.Limits.{AreWithin}
use Rattle.study_run.specs.Overs.{HasCome}
use Rattle.study_run.specs.declared.fault.StudyFault.{StudyFault}

-- a world of this network that a run of its clones has reached
pub record IsUnderWay (net : Net) (w : WorldView) : Type 0 where
  pub net_is : w.net ≡ net
  pub come : HasCome net w.clones w.front

-- a run went on from the first world to the second, and each shared message was counted once
pub record HasGoneOn (net : Net) (old new : WorldView) (old_steps new_steps : ℕ) : Type 0 where
  pub under_way : IsUnderWay net new
  pub clones : new.clones ≡ old.clones
  pub steps : new_steps + total_handled net old.clones old.front ≡ old_steps + total_handled net old.clones new.front

-- or it stopped: as the whole run does, if the steps so far are the messages handled up to the first world
abbrev pub HasStopped : Net → WorldView → ℕ → ℕ → StudyFault → Type 0
HasStopped net old old_steps new_steps e = (start : ℕ) → old_steps ≡ start + total_handled net old.clones old.front
    → IsFaultOfAll net old.clones start new_steps e

-- the run of a study's clones from front 0: a world of this network and these clones at the horizon, with no log beyond
-- the limit and shared messages handled once; or out of memory, or the limit is met
pub record IsStudyRun (net : Net) (clones : List Clone) (old_steps new_steps : ℕ) (run : Result WorldView StudyFault) :
    Type 0 where
  pub net_is : IfOk run (λ w. w.net ≡ net)
  pub clones_are : IfOk run (λ w. w.clones ≡ clones)
  pub front : IfOk run (λ w. w.front ≡ net.horizon)
  pub within : IfOk run (λ w. AreWithin net w.clones)
  pub steps : IfOk run (λ w. new_steps ≡ old_steps + total_handled net w.clones net.horizon)
  pub fault : IfErr run (λ e. IsFaultOfAll net clones old_steps new_steps e)
