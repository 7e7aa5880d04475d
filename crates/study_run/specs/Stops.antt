-- Why a run with watches has no result.
use Rattle.std.specs.Prelude.{◌≡◌, ℕ, ◌+◌, ◌<◌, List, length}
use Rattle.sim_base.specs.Clones.{Clone}
use Rattle.net_model.specs.Net.{HasStation, Net}
use Rattle.run_laws.specs.Queue.{In}
use Rattle.stations.specs.Runs.{IsBeyond}
use Rattle.world_core.specs.declared.world.WorldFault.{WorldFault}
use Rattle.world_core.specs.declared.world.WorldFault.TheVariants as window
use Rattle.study_run.specs.Work.{IsFew}
use Rattle.study_run.specs.declared.fault.StudyFault.{StudyFault}
use Rattle.study_run.specs.declared.fault.StudyFault.TheVariants.{LimitMet, NoMemory}
use Rattle.watch_points.specs.CloneNumbers.{IsPlaceOf, clone_number, numbered_name}
use Rattle.watch_points.specs.Triggers.{clones_with_branches}
use Rattle.watch_points.specs.Watchers.{WatcherView}
use Rattle.watch_points.specs.declared.watch.Watch.{Watch}

-- a run of these clones with these watches meets the limit: the clone with this number has a log beyond the limit at
-- this station at the horizon; no more was handled than the limit allows
pub record StopsWatched (net : Net) (script : List Clone) (ws : List Watch)
    (old_steps new_steps station number : ℕ) : Type 0 where
  pub clone : Clone
  pub is_one : In clone (clones_with_branches net script ws)
  pub in_range : number < length script + length ws
  pub name : clone.name ≡ numbered_name script ws number
  pub is_station : HasStation net station
  pub beyond : IsBeyond net station net.horizon clone
  pub at_most : IsFew net (length (clones_with_branches net script ws)) old_steps new_steps

-- the causes of a fault: out of memory has none; the limit names a clone by its number
abbrev pub IsFaultOfWatched : Net → List Clone → List Watch → ℕ → ℕ → StudyFault → Type 0
IsFaultOfWatched net script ws old_steps new_steps NoMemory = Unit {0}
IsFaultOfWatched net script ws old_steps new_steps (LimitMet station number) =
    StopsWatched net script ws old_steps new_steps station number

-- a window's fault names a place in the world that the watcher follows
abbrev pub HasPlace : WatcherView → WorldFault → Type 0
HasPlace w window.NoMemory = Unit {0}
HasPlace w (window.EventLimit station who kept) = IsPlaceOf w who

-- the same fault of the run, with the clone's number
abbrev pub numbered_fault : WatcherView → WorldFault → StudyFault
numbered_fault w window.NoMemory = NoMemory
numbered_fault w (window.EventLimit station who kept) = LimitMet station (clone_number w who)
