use Rattle.study_run.specs.Onwards.{LeadsTo, run_state}
use Rattle.study_run.proofs.driver.go.Given as goal

abbrev pub invariant-step : goal.invariant-step
invariant-step g l = record {
  leads : LeadsTo g.A.Onwards.has_gone_on (run_state l.fn.mode l.fn.world l.fn.steps)
      (run_state l.mode l.world l.steps);
}

abbrev pub decreases-step : goal.decreases-step
decreases-step g l = g.A.Onwards.left l.mode l.world
