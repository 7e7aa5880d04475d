-- The tasks of a window and their results, place by place.
use Rattle.std.proofs.Common.{ℕ, List, arith, get_or}
use Rattle.std.proofs.Common.{subst, sym}
use Rattle.std.proofs.lemmas.Option.{slice_get_within, get_or_from_slice_get}
use Rattle.net_model.specs.Net.{Net}
use Rattle.phys_proc.specs.Procs.{ProcView}
use Rattle.station_steps.specs.declared.station_step.StationStep.{StationStep}
use Rattle.crew_pool.specs.Tasks.{AnswersTo, EachAt, MayRunAll}
use Rattle.station_steps.specs.Tasks.{AreSteps, IsStationTask}
use Rattle.station_steps.specs.Windows.{AllFlow, AreBounds, AreStations, IsFlow, bound_of}
use Rattle.station_steps.specs.declared.tasks.StationTask.{StationTask}
use Rattle.station_steps.proofs.Places.{got_within}

-- the task of these copies and this bound
abbrev pub step_task : ProcView → ℕ → StationTask
step_task p bound = record { proc = p; bound = bound }

-- ---- MayRunAll

-- stations that are numbered may be stepped to their bounds
pub steps_may_run : (net : Net) (procs : List ProcView) (bounds : List ℕ) (tasks : List StationTask)
    → AreSteps procs bounds tasks → AreStations net procs → AreBounds net procs bounds
    → MayRunAll (IsStationTask net) tasks
steps_may_run net procs bounds tasks are all bounded = record {
  at_most = let n = are.count in let k = all.at_most in omega (arith, n, k);
  ready = ready;
}
  where
    ready : EachAt (IsStationTask net) tasks
    ready i d l =
        let found = got_within procs i (let n = are.count in omega (arith, l, n)) in
        let task = get_or_from_slice_get tasks i (step_task found.0 (bound_of bounds i)) d
        (are.each i found.0 found.1) in
        subst (IsStationTask net i) (sym task) (
          all.procs_in_order i found.0 found.1,
          bounded.time_max i 0 (let n = are.count in let k = bounded.count in
              omega (arith, l, n, k)),
        )

-- ---- EachAt

-- the results of tasks are those of steps
pub steps_answered : (net : Net) (ends : ℕ → ℕ) (procs : List ProcView) (bounds : List ℕ) (tasks : List StationTask)
    (flows : List StationStep) → AreSteps procs bounds tasks
    → EachAt (AnswersTo (λ i (task : StationTask) flow. IsFlow net ends task.bound i task.proc flow) tasks) flows
    → AllFlow net ends (bound_of bounds) procs flows
steps_answered net ends procs bounds tasks flows are h = each
  where
    each : AllFlow net ends (bound_of bounds) procs flows
    each i p flow got there =
        let step : StationTask = step_task p (bound_of bounds i) in
        subst (λ (t : StationTask). IsFlow net ends t.bound i t.proc flow)
        (get_or_from_slice_get tasks i step step (are.each i p got))
        (subst (λ o. let t = get_or tasks i step in IsFlow net ends t.bound i t.proc o)
        (get_or_from_slice_get flows i flow flow there)
        (h i flow (slice_get_within flows i flow there) step))
