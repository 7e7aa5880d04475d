use Rattle.link_clocks.specs.LinkWorlds.{LinkView}
use Rattle.study_run.specs.Onwards.{RunState}
use Rattle.study_run.specs.declared.linked.LinkedRun.{LinkedRun}
use Rattle.study_run.proofs.LinkedWhole.{HasGoneOn-first, IsLinkedRun-ended, IsLinkedRun-stopped}
use Rattle.study_run.proofs.linked_study.run_to_horizon.Goals as goal

pub go_to_end-requires-clause-come : goal.go_to_end-requires-clause-come
go_to_end-requires-clause-come g c κs within = (
  record { mode = record {}; world = c.args.world; steps = c.args.steps.now },
  HasGoneOn-first c.args.world c.args.steps.now,
)

pub returns-in-Ok : goal.returns-in-Ok
returns-in-Ok g c =
    let w = c.args.world in
    let first : RunState LinkedRun LinkView = record { mode = record {}; world = w; steps = c.args.steps.now } in
    let e = c.finish.ensures in
    record {
      runs = IsLinkedRun-ended w c.in-Ok.world c.args.steps.now c.go_to_end.new.steps c.finish.result c.requires.first
          (c.in-Ok.ensures.goes.goes_on first (HasGoneOn-first w c.args.steps.now)) c.in-Ok.ensures.done e.valid
          e.world e.rounds e.within;
    }

pub returns-in-Err : goal.returns-in-Err
returns-in-Err g c =
    let w = c.args.world in
    let first : RunState LinkedRun LinkView = record { mode = record {}; world = w; steps = c.args.steps.now } in
    record {
      runs = IsLinkedRun-stopped w c.args.steps.now c.go_to_end.new.steps c.in-Err.fault c.requires.first
          (c.in-Err.ensures.goes.stops first (HasGoneOn-first w c.args.steps.now));
    }
