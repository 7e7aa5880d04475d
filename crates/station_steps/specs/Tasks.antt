-- The tasks of workers at the copies of stations.
use Rattle.std.specs.Prelude.{◌≡◌, ◌≤◌, ℕ, List, length, slice_get, Some}
use Rattle.net_model.specs.Net.{Net}
use Rattle.phys_proc.specs.Procs.{ProcView}
use Rattle.station_steps.specs.Windows.{IsNumbered, bound_of}
use Rattle.station_steps.specs.declared.tasks.StationTask.{StationTask}

-- a task for place i: to step the copies of station i + 1 to a bound that is not past the horizon
abbrev pub IsStationTask : Net → ℕ → StationTask → Type 0
IsStationTask net i task = IsNumbered net i task.proc × (task.bound ≤ net.horizon)

-- a task for each station: to step its copies to the bound at its place
pub record AreSteps (procs : List ProcView) (bounds : List ℕ) (tasks : List StationTask) : Type 0 where
  pub count : length tasks ≡ length procs
  pub each : (i : ℕ) (p : ProcView) → slice_get procs i ≡ Some p
      → slice_get tasks i ≡ Some (record { proc = p; bound = bound_of bounds i })
