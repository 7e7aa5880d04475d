use Rattle.std.proofs.Common.{arith, ◌+◌}
use Rattle.sim_base.specs.Clones.{clone_at}
use Rattle.queue_stats.specs.Rows.{row}
use Rattle.queue_stats.proofs.Gathering.{places-min, places-max, earlier-row}
use Rattle.queue_stats.proofs.rows.next_stats.Goals as goal

pub earlier_stats-stats-requires-clause-places_min : goal.earlier_stats-stats-requires-clause-places_min
earlier_stats-stats-requires-clause-places_min c =
    places-min c.args.model.now c.args.world.now.clones c.args.clone c.first_with-first.result c.args.s
    (omega (arith, c.if-first-clone.true)) c.requires.in_range c.requires.s_max c.requires.server c.args.servers
    c.requires.servers

pub earlier_stats-stats-requires-clause-places_max : goal.earlier_stats-stats-requires-clause-places_max
earlier_stats-stats-requires-clause-places_max c =
    places-max c.args.model.now c.args.world.now.clones c.args.clone c.first_with-first.result c.args.s
    (omega (arith, c.if-first-clone.true)) c.requires.in_range c.requires.s_max c.requires.server c.args.servers
    c.requires.servers c.args.rows.now c.requires.so_far

pub stats_like-requires-clause-stats : goal.stats_like-requires-clause-stats
stats_like-requires-clause-stats c =
    c.earlier_stats-stats.ensures.value
    (row c.args.model.now (clone_at c.args.world.now.clones c.first_with-first.result) (c.args.s + 1))
    (earlier-row c.args.model.now c.args.world.now.clones c.args.clone c.first_with-first.result c.args.s
    (omega (arith, c.if-first-clone.true)) c.requires.in_range c.requires.s_max c.requires.server c.args.servers
    c.requires.servers c.args.rows.now c.requires.so_far)
