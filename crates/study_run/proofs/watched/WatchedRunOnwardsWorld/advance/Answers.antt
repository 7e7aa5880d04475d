use Rattle.std.proofs.Common.{sym, subst}
use Rattle.study_run.specs.Watching.{HasStopped}
use Rattle.study_run.proofs.WatchedWindows.{HasStopped-window, after_window, fault-place, left-made, window-follows}
use Rattle.study_run.proofs.WatchedWindows.{window-is}
use Rattle.study_run.proofs.watched.WatchedRunOnwardsWorld.advance.Goals as goal

pub make_branches-requires-clause-follows : goal.make_branches-requires-clause-follows
make_branches-requires-clause-follows g c =
    let come = c.requires.come in
    window-follows come.0.mode.watcher come.0.world come.0.steps c.args.self.now.watcher c.args.world c.args.steps.now
    c.next_window.new.steps come.1 c.in-Ok.world c.in-Ok.ensures.window

pub make_branches-requires-clause-window : goal.make_branches-requires-clause-window
make_branches-requires-clause-window g c =
    let come = c.requires.come in
    window-is come.0.mode.watcher come.0.world come.0.steps c.args.self.now.watcher c.args.world c.args.steps.now
    c.next_window.new.steps come.1 c.in-Ok.world c.in-Ok.ensures.window

pub returns-in-Ok-clause-goes : goal.returns-in-Ok-clause-goes
returns-in-Ok-clause-goes g c = record {
  goes_on = λ first gone. (after_window first.mode.watcher first.world first.steps c.args.self.now.watcher c.args.world
      c.args.steps.now c.next_window.new.steps gone c.in-Ok.world c.make_branches.new.watcher c.make_branches.result
      c.in-Ok.ensures.window c.make_branches.ensures.made c.make_branches.ensures.memory).0;
  stops = λ first gone. (after_window first.mode.watcher first.world first.steps c.args.self.now.watcher c.args.world
      c.args.steps.now c.next_window.new.steps gone c.in-Ok.world c.make_branches.new.watcher c.make_branches.result
      c.in-Ok.ensures.window c.make_branches.ensures.made c.make_branches.ensures.memory).1;
}

pub returns-in-Ok-clause-left : goal.returns-in-Ok-clause-left
returns-in-Ok-clause-left g c = left-made c.args.self.now.watcher c.make_branches.new.watcher c.args.world
    c.args.steps.now c.next_window.new.steps c.in-Ok.world c.make_branches.result c.in-Ok.ensures.window
    c.make_branches.ensures.made

pub fault_of-requires : goal.fault_of-requires
fault_of-requires g c =
    let come = c.requires.come in
    record {
      place = fault-place come.0.mode.watcher come.0.world come.0.steps c.args.self.now.watcher c.args.world
          c.args.steps.now c.next_window.new.steps come.1 c.in-Err.fault c.in-Err.ensures.window;
    }

pub returns-in-Err-clause-goes : goal.returns-in-Err-clause-goes
returns-in-Err-clause-goes g c = record {
  goes_on = λ first gone. tt;
  stops = λ first gone.
      subst (HasStopped first.mode.watcher first.world first.steps c.next_window.new.steps)
      (sym c.fault_of.ensures.value)
      (HasStopped-window first.mode.watcher first.world first.steps c.args.self.now.watcher c.args.world
      c.args.steps.now c.next_window.new.steps gone c.in-Err.fault c.in-Err.ensures.window);
}
