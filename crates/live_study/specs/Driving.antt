-- The engine's way to the horizon: what it begins with, and what it ends with.
use Rattle.std.specs.Prelude.{◌≡◌, ◌+◌, ◌<◌, ◌≤◌, ℕ, Bool, List, length, Result, IfOk, IfErr}
use Rattle.atomic_table.specs.Seated.{TableId}
use Rattle.decision_desk.specs.Passes.{HelmView}
use Rattle.phys_proc.specs.Racks.{RackView}
use Rattle.decision_book.specs.Journal.{after}
use Rattle.world_core.specs.Overs.{most_handled}
use Rattle.world_core.specs.Worlds.{WorldView, total_handled}
use Rattle.study_run.specs.declared.fault.StudyFault.{StudyFault}
use Rattle.study_run.specs.declared.fault.StudyFault.TheVariants.{NoMemory, LimitMet}
use Rattle.live_study.specs.Engines.{InStep, Steers, StopsEngine}
use Rattle.live_study.specs.Looks.{AreAtFront}
use Rattle.live_study.specs.Showing.{AreShownOf, AreShownTo, TellsEach}

-- what the engine begins with
pub record MayDrive (table : TableId) (h : HelmView) (w : WorldView) (published : List RackView) : Type 0 where
  -- the helm is one of the desk with this table
  pub desk : h.desk ≡ table
  -- the world is where the helm's journal has led
  pub in_step : InStep h w
  -- what is published is of this journal and this world
  pub shown : AreShownOf h w published
  -- the world is before the horizon
  pub below_horizon : w.front < w.net.horizon

-- the helm may take a turn: it is one of the desk with this table, and the world is where its journal has led,
-- before the horizon
pub record MayTurn (table : TableId) (h : HelmView) (w : WorldView) : Type 0 where
  pub desk : h.desk ≡ table
  pub in_step : InStep h w
  pub below : w.front < w.net.horizon

-- the racks of the world may be shown: it is at a front of the helm's journal, and this number of stations is done
pub record MayShow (h : HelmView) (w : WorldView) (done : ℕ) (published : List RackView) : Type 0 where
  pub net : w.net ≡ h.net
  pub at : AreAtFront h.net h.helm w.front w.clones
  pub shown : AreShownTo h w done published

-- what it ends with: its helm, how the run ended, what was published in the end, and what the stocker needs to tell
-- each reader of it: the number of its readers, whether it has published, and its number of handles
pub record HasDriven (old new : HelmView) (run : Result WorldView StudyFault) (published : List RackView)
    (readers : ℕ) (has_published : Bool) (spares : ℕ) : Type 0 where
  -- all of the helm but the journal is as it was
  pub steers : Steers old new
  -- the world is at the horizon, where the helm's journal has led
  pub in_step : IfOk run (λ w. InStep new w × (w.front ≡ w.net.horizon))
  -- and its racks are published, of which each reader can be told
  pub shown : IfOk run (λ w. AreShownOf new w published)
  pub tells : IfOk run (λ _. TellsEach readers has_published spares)
  -- or it stopped, out of memory or at the limit
  pub stops : IfErr run (λ e. StopsEngine new.net new.helm e)

-- from the first world to the second each message was counted once for all clones that share it
abbrev pub CountsOnce : WorldView → WorldView → ℕ → ℕ → Type 0
CountsOnce old new old_steps new_steps =
    new_steps + total_handled old.net old.clones old.front ≡ old_steps + total_handled new.net new.clones new.front

-- if the limit is met, no more were counted than it allows the clones that the helm's journal leaves
abbrev pub CountsFew : HelmView → WorldView → ℕ → ℕ → StudyFault → Type 0
CountsFew h old old_steps new_steps NoMemory = Unit {0}
CountsFew h old old_steps new_steps (LimitMet station who) =
    new_steps + total_handled old.net old.clones old.front
    ≤ old_steps + most_handled h.net (length (after h.net h.helm).clones)

-- what the engine hands back of its counter: at the horizon the number that the counter counted, which is each message
-- that was handled, once for all clones that share it; if the engine stopped, nothing
pub record HasCounted (run : Result WorldView StudyFault) (counter many : ℕ) : Type 0 where
  pub counts : IfOk run (λ w. many ≡ counter)
  pub once : IfOk run (λ w. counter ≡ total_handled w.net w.clones w.front)
  pub none : IfErr run (λ e. many ≡ 0)
