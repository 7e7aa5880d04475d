use Rattle.std.proofs.Common.{subst}
use Rattle.phys_proc.specs.Ends.{ends_in}
use Rattle.station_steps.specs.Stepping.{AllSteppedAndGiven}
use Rattle.station_steps.specs.Windows.{WindowView, bound_of}
use Rattle.station_steps.proofs.stepper.WithCrew.step_all.Goals as goal

pub returns-clause-stepped : goal.returns-clause-stepped
returns-clause-stepped g c =
    let s = c.in_ok-stepped.stepped in
    subst (λ (w : WindowView). AllSteppedAndGiven w.net (ends_in w.net.horizon w.ends)
    (bound_of c.args.buffers.now.bounds.items) c.args.procs.now.items c.step_by_crew.new.procs.items s.over
    c.args.steps.now c.step_by_crew.new.steps) c.in_ok-work.ensures.value c.in_ok-stepped.ensures.stepped
