use Rattle.std.proofs.Common.{ap}
use Rattle.watch_points.specs.Watchers.{WatcherView}
use Rattle.watch_points.proofs.Elements.{slice_get-here}
use Rattle.watch_points.proofs.PassingWatcher.{watch_made, watch_past}
use Rattle.watch_points.proofs.watcher.Watcher.look.Goals as goal

pub returns-in-Made-clause-passing : goal.returns-in-Made-clause-passing
returns-in-Made-clause-passing c =
    watch_made c.args.self.now c.args.world c.args.i c.requires.passing c.index-active.result.now
    (slice_get-here c.self.inside.active.items c.args.self.now.active c.args.i c.index-active.result.now
    (ap (λ (w : WatcherView). w.active) c.self.view_is) c.requires.in_range c.index-active.ensures)
    c.in-Made.place c.in-Made.start c.in-Made.is

pub returns-in-PastHorizon-clause-passing : goal.returns-in-PastHorizon-clause-passing
returns-in-PastHorizon-clause-passing c =
    watch_past c.args.self.now c.args.world c.args.i c.requires.passing c.index-active.result.now
    (slice_get-here c.self.inside.active.items c.args.self.now.active c.args.i c.index-active.result.now
    (ap (λ (w : WatcherView). w.active) c.self.view_is) c.requires.in_range c.index-active.ensures)
    c.in-PastHorizon.is
