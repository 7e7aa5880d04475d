use Rattle.world_core.specs.Worlds.{WorldView}
use Rattle.study_run.specs.Onwards.{RunState}
use Rattle.study_run.specs.declared.watched.WatchedRun.{WatchedRun}
use Rattle.study_run.proofs.WatchedWhole.{HasWatched-first, IsWatchedRun-ended, IsWatchedRun-stopped}
use Rattle.study_run.proofs.watched_study.go_on.Goals as goal

pub go_to_end-requires-clause-come : goal.go_to_end-requires-clause-come
go_to_end-requires-clause-come g c κs within = (
  record {
    mode = c.args.beginning.mode;
    world = c.args.beginning.world;
    steps = c.args.steps.now;
  },
  HasWatched-first c.args.beginning.mode.watcher c.args.beginning.world c.args.steps.now c.requires.front
      c.requires.has_watches,
)

pub returns-in-Ok : goal.returns-in-Ok
returns-in-Ok g c =
    let begun = c.args.beginning in
    let first : RunState WatchedRun WorldView = record {
      mode = begun.mode;
      world = begun.world;
      steps = c.args.steps.now;
    } in
    let gone = HasWatched-first begun.mode.watcher begun.world c.args.steps.now c.requires.front
    c.requires.has_watches in
    record {
      runs = IsWatchedRun-ended begun.mode.watcher begun.world c.args.steps.now
          c.go_to_end.new.mode.watcher
          c.in-Ok.world c.go_to_end.new.steps c.put_in_order.result (c.in-Ok.ensures.goes.goes_on first gone)
          c.in-Ok.ensures.done c.put_in_order.ensures.world c.put_in_order.ensures.order
          c.put_in_order.ensures.within c.put_in_order.ensures.memory;
    }

pub returns : goal.returns
returns g c =
    let begun = c.args.beginning in
    let first : RunState WatchedRun WorldView = record {
      mode = begun.mode;
      world = begun.world;
      steps = c.args.steps.now;
    } in
    let gone = HasWatched-first begun.mode.watcher begun.world c.args.steps.now c.requires.front
    c.requires.has_watches in
    record {
      runs = IsWatchedRun-stopped begun.mode.watcher begun.world c.args.steps.now c.go_to_end.new.steps
          c.in-Err.fault (c.in-Err.ensures.goes.stops first gone);
    }
