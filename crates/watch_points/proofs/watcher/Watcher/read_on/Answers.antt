use Rattle.std.proofs.Common.{drop, sym, ap, ◌∙◌}
use Rattle.std.proofs.lemmas.Option.{slice_get_within}
use Rattle.watch_points.specs.Due.{due_in}
use Rattle.watch_points.specs.Triggers.{enough_wait, time_of}
use Rattle.watch_points.proofs.MadeBranch.{waiting-passing, waiting-step}
use Rattle.watch_points.proofs.PassingWatcher.{source_in_range, station_is, watch-in_range, watch_absent, watch_is_due}
use Rattle.watch_points.proofs.watcher.Watcher.read_on.Goals as goal

pub source_place-requires : goal.source_place-requires
source_place-requires c = record {
  in_range = source_in_range c.args.self.now c.args.world c.args.i c.requires.passing c.args.active c.requires.is_watch;
}

pub returns-in_default-clause-passing : goal.returns-in_default-clause-passing
returns-in_default-clause-passing c =
    watch_absent c.args.self.now c.args.world c.args.i c.requires.passing c.args.active c.requires.is_watch c.args.seen
    c.requires.waits (sym c.source_place.ensures.value ∙ c.in_default.is)

pub log-log-requires-clause-in_range : goal.log-log-requires-clause-in_range
log-log-requires-clause-in_range c =
    watch-in_range c.args.self.now c.args.world c.args.i c.requires.passing c.args.active c.requires.is_watch
    c.args.seen
    c.requires.waits c.in-Some.clone c.in-Some.start (sym c.source_place.ensures.value ∙ c.in-Some.is)

pub log-log-requires-clause-is_station : goal.log-log-requires-clause-is_station
log-log-requires-clause-is_station c =
    station_is c.args.self.now c.args.world c.args.i c.requires.passing c.args.active c.requires.is_watch

pub set_progress-requires : goal.set_progress-requires
set_progress-requires c = record {
  in_range = slice_get_within c.args.self.now.active c.args.i c.args.active c.requires.is_watch;
}

pub returns-in_default-first_wait-clause-passing : goal.returns-in_default-first_wait-clause-passing
returns-in_default-first_wait-clause-passing c =
    waiting-passing c.args.self.now c.args.world c.args.i c.requires.passing c.args.active c.requires.is_watch
    c.set_progress.new.self c.len-seen.result (c.set_progress.ensures.value c.args.active c.requires.is_watch)
    c.args.seen c.requires.waits c.in-Some.clone c.in-Some.start (sym c.source_place.ensures.value ∙ c.in-Some.is)
    c.log-log.result.now c.log-log.ensures.value (sym c.first_wait.ensures.value ∙ c.in_default-first_wait.is)
    c.len-seen.ensures.value

pub returns-in_default-first_wait-clause-step : goal.returns-in_default-first_wait-clause-step
returns-in_default-first_wait-clause-step c =
    waiting-step c.args.self.now c.args.world c.args.i c.requires.passing c.args.active c.requires.is_watch
    c.set_progress.new.self c.len-seen.result (c.set_progress.ensures.value c.args.active c.requires.is_watch)

pub make_branch-requires : goal.make_branch-requires
make_branch-requires c = record {
  is_due = watch_is_due c.args.self.now c.args.world c.args.i c.requires.passing c.args.active c.requires.is_watch
      c.args.seen c.requires.waits c.in-Some.clone c.in-Some.start
      (sym c.source_place.ensures.value ∙ c.in-Some.is) c.in-Some-first_wait.due
      (ap (λ l. due_in time_of (enough_wait c.args.active.watch.least) c.in-Some.start (drop c.args.seen l))
      (sym c.log-log.ensures.value)
      ∙ sym c.first_wait.ensures.value ∙ c.in-Some-first_wait.is);
}
