use Rattle.std.proofs.Common.{subst}
use Rattle.net_model.specs.Rules.{IsNet}
use Rattle.world_core.specs.Worlds.{WorldView}
use Rattle.study_run.specs.Onwards.{RunState}
use Rattle.study_run.specs.declared.plain.PlainRun.{PlainRun}
use Rattle.study_run.proofs.Goings.{HasGoneOn-first, IsStudyRun-went}
use Rattle.study_run.proofs.study.run_alone_to_horizon.Goals as goal

pub go_alone-requires : goal.go_alone-requires
go_alone-requires g c = record {
  come = (
    record { mode = record {}; world = c.args.world; steps = c.args.steps.now },
    HasGoneOn-first c.args.world c.args.steps.now c.requires.front,
  );
}

pub returns : goal.returns
returns g c =
    let w = c.args.world in
    let first : RunState PlainRun WorldView = record { mode = record {}; world = w; steps = c.args.steps.now } in
    let gone = HasGoneOn-first w c.args.steps.now c.requires.front in
    let goes = c.go_alone.ensures.goes in
    record {
      runs = IsStudyRun-went w c.requires.front c.args.steps.now c.go_alone.new.steps c.go_alone.result
          (subst IsNet c.model.ensures.value c.horizon-valid.ensures.valid) (goes.goes_on first gone)
          (goes.stops first gone) c.go_alone.ensures.done;
    }
