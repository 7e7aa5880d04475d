use Rattle.std.proofs.Common.{sym, subst}
use Rattle.study_run.specs.Linking.{HasStopped}
use Rattle.study_run.proofs.Rounds.{HasGoneOn-round, HasStopped-round, fewer-left}
use Rattle.study_run.proofs.linked.LinkedRunOnwardsLinkWorld.advance.Goals as goal

pub returns-in-Ok-clause-goes : goal.returns-in-Ok-clause-goes
returns-in-Ok-clause-goes g c = record {
  goes_on = λ first gone. HasGoneOn-round first.world c.args.world first.steps c.args.steps.now gone c.in-Ok.world
      c.advance.new.steps c.requires.going c.in-Ok.ensures.value c.in-Ok.ensures.steps;
  stops = λ first gone. tt;
}

pub returns-in-Ok-clause-left : goal.returns-in-Ok-clause-left
returns-in-Ok-clause-left g c = fewer-left c.args.world c.in-Ok.world c.is_done-valid.ensures.valid c.requires.going
    c.in-Ok.ensures.value

pub returns-in-Err-clause-goes : goal.returns-in-Err-clause-goes
returns-in-Err-clause-goes g c = record {
  goes_on = λ first gone. tt;
  stops = λ first gone.
      subst (HasStopped first.world first.steps c.advance.new.steps) (sym c.fault_of_window.ensures.value)
      (HasStopped-round first.world c.args.world first.steps c.args.steps.now gone c.advance.new.steps
      c.in-Err.fault c.is_done-valid.ensures.valid c.in-Err.ensures.fault);
}
