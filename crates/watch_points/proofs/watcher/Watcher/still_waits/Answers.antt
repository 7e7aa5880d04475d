use Rattle.std.proofs.Common.{◌≡◌, Some, refl, sym, ap, ◌∙◌, arith}
use Rattle.std.specs.Prelude.{slice_get}
use Rattle.watch_points.specs.Watchers.{WatcherView}
use Rattle.watch_points.proofs.Elements.{slice_get-here}
use Rattle.watch_points.proofs.MadeBranch.{waiting-step}
use Rattle.watch_points.proofs.PassingWatcher.{source_in_range, station_is, watch-in_range, watch_absent}
use Rattle.watch_points.proofs.PassingWatcher.{watch_not_waiting}
use Rattle.watch_points.proofs.Peaks.{still_waits-passing, still_waits-same}
use Rattle.watch_points.proofs.WholePass.{IsStep-none}
use Rattle.watch_points.proofs.watcher.Watcher.still_waits.Goals as goal

pub returns-in_default : goal.returns-in_default
returns-in_default c =
    let here = slice_get-here c.self.inside.active.items c.args.self.now.active c.args.i c.index-active.result.now
    (ap (λ (w : WatcherView). w.active) c.self.view_is) c.requires.in_range c.index-active.ensures in
    record {
      peak = c.requires.peak;
      passing = λ sure. watch_not_waiting c.args.self.now c.args.world.now c.args.i c.requires.passing
          c.index-active.result.now here c.in_default.not-Waiting;
      step = λ sure. IsStep-none c.args.self.now c.args.world.now;
      same = λ never. refl;
    }

pub source_place-requires : goal.source_place-requires
source_place-requires c = record {
  in_range = source_in_range c.args.self.now c.args.world.now c.args.i c.requires.passing c.index-active.result.now
      (slice_get-here c.self.inside.active.items c.args.self.now.active c.args.i c.index-active.result.now
      (ap (λ (w : WatcherView). w.active) c.self.view_is) c.requires.in_range c.index-active.ensures);
}

pub returns-in_default-source_place-clause-passing : goal.returns-in_default-source_place-clause-passing
returns-in_default-source_place-clause-passing c sure =
    watch_absent c.args.self.now c.args.world.now c.args.i c.requires.passing c.index-active.result.now
    (slice_get-here c.self.inside.active.items c.args.self.now.active c.args.i c.index-active.result.now
    (ap (λ (w : WatcherView). w.active) c.self.view_is) c.requires.in_range c.index-active.ensures)
    c.in-Waiting.seen c.in-Waiting.is (sym c.source_place.ensures.value ∙ c.in_default-source_place.is)

pub peak_from-read-requires-clause-in_range : goal.peak_from-read-requires-clause-in_range
peak_from-read-requires-clause-in_range c =
    watch-in_range c.args.self.now c.args.world.now c.args.i c.requires.passing c.index-active.result.now
    (slice_get-here c.self.inside.active.items c.args.self.now.active c.args.i c.index-active.result.now
    (ap (λ (w : WatcherView). w.active) c.self.view_is) c.requires.in_range c.index-active.ensures)
    c.in-Waiting.seen c.in-Waiting.is c.in-Some.clone c.in-Some.field-0-1
    (sym c.source_place.ensures.value ∙ c.in-Some.is)

pub peak_from-read-requires-clause-is_station : goal.peak_from-read-requires-clause-is_station
peak_from-read-requires-clause-is_station c =
    station_is c.args.self.now c.args.world.now c.args.i c.requires.passing c.index-active.result.now
    (slice_get-here c.self.inside.active.items c.args.self.now.active c.args.i c.index-active.result.now
    (ap (λ (w : WatcherView). w.active) c.self.view_is) c.requires.in_range c.index-active.ensures)

pub returns-then-seen-read-clause-passing : goal.returns-then-seen-read-clause-passing
returns-then-seen-read-clause-passing c sure =
    let low = c.if-least-read.false in
    still_waits-same c.args.self.now c.args.world.now c.args.i c.requires.passing c.index-active.result.now
    (slice_get-here c.self.inside.active.items c.args.self.now.active c.args.i c.index-active.result.now
    (ap (λ (w : WatcherView). w.active) c.self.view_is) c.requires.in_range c.index-active.ensures)
    c.in-Waiting.seen c.in-Waiting.is c.in-Some.clone c.in-Some.field-0-1
    (sym c.source_place.ensures.value ∙ c.in-Some.is) c.peak_from-read.result c.peak_from-read.ensures.peak
    c.peak_from-read.ensures.from (omega (arith, low)) c.if-seen-read.true

pub returns-clause-passing : goal.returns-clause-passing
returns-clause-passing c sure =
    let here : slice_get c.args.self.now.active c.args.i ≡ Some c.index-active.result.now =
    slice_get-here c.self.inside.active.items c.args.self.now.active c.args.i c.index-active.result.now
    (ap (λ (w : WatcherView). w.active) c.self.view_is) c.requires.in_range c.index-active.ensures in
    let low = c.if-least-read.false in
    still_waits-passing c.args.self.now c.args.world.now c.args.i c.requires.passing c.index-active.result.now here
    c.in-Waiting.seen c.in-Waiting.is c.in-Some.clone c.in-Some.field-0-1
    (sym c.source_place.ensures.value ∙ c.in-Some.is) c.peak_from-read.result c.peak_from-read.ensures.peak
    c.peak_from-read.ensures.from (omega (arith, low)) c.set_progress.new.self
    (c.set_progress.ensures.value c.index-active.result.now here)

pub returns-clause-step : goal.returns-clause-step
returns-clause-step c sure =
    let here : slice_get c.args.self.now.active c.args.i ≡ Some c.index-active.result.now =
    slice_get-here c.self.inside.active.items c.args.self.now.active c.args.i c.index-active.result.now
    (ap (λ (w : WatcherView). w.active) c.self.view_is) c.requires.in_range c.index-active.ensures in
    waiting-step c.args.self.now c.args.world.now c.args.i c.requires.passing c.index-active.result.now here
    c.set_progress.new.self c.peak_from-read.result.len (c.set_progress.ensures.value c.index-active.result.now here)
