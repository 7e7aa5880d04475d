-- Runs in rounds: each station follows the clocks of its inbound links, until all are at the horizon.
use Rattle.std.specs.Prelude.{◌≡◌, ℕ, suc, ◌+◌, ◌/◌, ◌<◌, ◌≤◌, List, Result, IfOk, IfErr, length}
use Rattle.sim_base.specs.Clones.{Clone, clone_at}
use Rattle.net_model.specs.Net.{HasStation, Net}
use Rattle.stations.specs.Runs.{IsBeyond}
use Rattle.world_core.specs.Overs.{most_handled}
use Rattle.world_core.specs.Worlds.{total_handled}
use Rattle.study_run.specs.Limits.{AreWithin}
use Rattle.study_run.specs.Work.{IsFew}
use Rattle.study_run.specs.declared.fault.StudyFault.{StudyFault}
use Rattle.study_run.specs.declared.fault.StudyFault.TheVariants.{LimitMet, NoMemory}
use Rattle.link_clocks.specs.LinkWorlds.{LinkView, total_after}
use Rattle.link_clocks.specs.NetClocks.{AreAllDone, AreAllRounds}
use Rattle.study_run.specs.declared.linked_study.LinkedWorld.{LinkedWorld}

-- the clocks were not all at the horizon before the last of k rounds
abbrev pub IsGoingBefore : Net → ℕ → Type 0
IsGoingBefore net k = (j : ℕ) → k ≡ suc j → ¬ (AreAllDone net j)

-- a run in rounds went on from the first world to the second: no round was superfluous, and each shared message was
-- counted once
pub record HasGoneOn (old new : LinkView) (old_steps new_steps : ℕ) : Type 0 where
  pub net_is : new.net ≡ old.net
  pub clones_are : new.clones ≡ old.clones
  pub going : IsGoingBefore old.net old.rounds → IsGoingBefore old.net new.rounds
  pub steps : new_steps + total_after old.net old.clones old.rounds
      ≡ old_steps + total_after old.net old.clones new.rounds

-- the log of a clone at a station is beyond the limit at the horizon
pub record IsOverrun (net : Net) (clones : List Clone) (station who : ℕ) : Type 0 where
  pub is_station : HasStation net station
  pub clone : who < length clones
  pub beyond : IsBeyond net station net.horizon (clone_at clones who)

-- a run in rounds stopped: out of memory has no cause; the limit names a log that is beyond it, and then at most the
-- limit was handled for each clone at each station
abbrev pub HasStopped : LinkView → ℕ → ℕ → StudyFault → Type 0
HasStopped old old_steps new_steps NoMemory = Unit {0}
HasStopped old old_steps new_steps (LimitMet station who) = IsOverrun old.net old.clones station who
    × (new_steps + total_after old.net old.clones old.rounds ≤ old_steps + most_handled old.net (length old.clones))

-- the fault of a whole run
abbrev pub IsFaultOfLinked : Net → List Clone → ℕ → ℕ → StudyFault → Type 0
IsFaultOfLinked net clones old_steps new_steps NoMemory = Unit {0}
IsFaultOfLinked net clones old_steps new_steps (LimitMet station who) = IsOverrun net clones station who
    × IsFew net (length clones) old_steps new_steps

-- the run of these clones in rounds: a world of this network and these clones at the horizon, after the network's
-- number of rounds; no log is beyond the limit, and shared messages were handled once; or out of memory, or the limit
-- is met
pub record IsLinkedRun (net : Net) (clones : List Clone) (old_steps new_steps : ℕ)
    (run : Result LinkedWorld StudyFault) : Type 0 where
  pub net_is : IfOk run (λ r. r.world.net ≡ net)
  pub clones_are : IfOk run (λ r. r.world.clones ≡ clones)
  pub front : IfOk run (λ r. r.world.front ≡ net.horizon)
  pub within : IfOk run (λ r. AreWithin net r.world.clones)
  pub rounds : IfOk run (λ r. AreAllRounds net r.rounds)
  pub rounds_few : IfOk run (λ r. r.rounds ≤ net.horizon / net.lookahead + 1)
  pub steps : IfOk run (λ r. new_steps ≡ old_steps + total_handled net clones net.horizon)
  pub fault : IfErr run (λ e. IsFaultOfLinked net clones old_steps new_steps e)
