use Rattle.std.proofs.Common.{sym, subst}
use Rattle.study_run.specs.Going.{HasStopped}
use Rattle.study_run.proofs.Goings.{HasGoneOn-window, HasStopped-window}
use Rattle.study_run.proofs.Windows.{IsWindow-left}
use Rattle.study_run.proofs.plain.PlainRunOnwardsWorld.advance.Goals as goal

pub returns-in-Ok-clause-goes : goal.returns-in-Ok-clause-goes
returns-in-Ok-clause-goes g c = record {
  goes_on = λ first gone. HasGoneOn-window first.world.net first.world c.args.world first.steps c.args.steps.now
      c.next_window.new.steps gone c.in-Ok.world c.in-Ok.ensures.window;
  stops = λ first gone. tt;
}

pub returns-in-Ok-clause-left : goal.returns-in-Ok-clause-left
returns-in-Ok-clause-left g c = IsWindow-left c.args.world c.args.steps.now c.next_window.new.steps c.in-Ok.world
    c.in-Ok.ensures.window

pub returns-in-Err-clause-goes : goal.returns-in-Err-clause-goes
returns-in-Err-clause-goes g c = record {
  goes_on = λ first gone. tt;
  stops = λ first gone.
      subst (HasStopped first.world.net first.world first.steps c.next_window.new.steps)
      (sym c.fault_of_window.ensures.value)
      (HasStopped-window first.world.net first.world c.args.world first.steps c.args.steps.now
      c.next_window.new.steps gone c.in-Err.fault c.in-Err.ensures.window);
}
