use Rattle.std.proofs.Common.{sym, ◌∙◌}
use Rattle.watch_points.proofs.StartedWatches.{source_named-there}
use Rattle.watch_points.proofs.watcher.start_watch.Goals as goal

pub unreachable-requires : goal.unreachable-requires
unreachable-requires c = source_named-there c.args.lists.now.clones c.args.earlier.now c.args.watch.who
    c.requires.fits.source (sym c.source_named.ensures.value ∙ c.in_default.is)
