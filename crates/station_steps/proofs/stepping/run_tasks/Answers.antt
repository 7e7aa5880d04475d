use Rattle.phys_proc.specs.Ends.{ends_in}
use Rattle.station_steps.proofs.Working.{steps_answered, steps_may_run}
use Rattle.station_steps.proofs.stepping.run_tasks.Goals as goal

pub all-requires-clause-may_run : goal.all-requires-clause-may_run
all-requires-clause-may_run g c κs within =
    steps_may_run c.args.work.value.net c.args.procs.items c.args.bounds.now c.in_ok-tasks.tasks.items
    c.in_ok-tasks.ensures.tasks c.requires.stations c.requires.bounds

pub returns-clause-flows : goal.returns-clause-flows
returns-clause-flows g c =
    let w = c.args.work.value in
    steps_answered w.net (ends_in w.net.horizon w.ends) c.args.procs.items c.args.bounds.now
    c.in_ok-tasks.tasks.items c.in_ok-flows.flows.items c.in_ok-tasks.ensures.tasks
    c.in_ok-flows.ensures.have_run.answers
