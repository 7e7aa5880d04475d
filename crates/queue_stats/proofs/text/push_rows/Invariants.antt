use Rattle.std.proofs.Common.{◌≡◌, ◌++◌, drop}
use Rattle.std.specs.List.{flat_map}
use Rattle.queue_stats.specs.StatsText.{stats_line}
use Rattle.queue_stats.proofs.text.push_rows.Given as goal

abbrev pub invariant-rows : goal.invariant-rows
invariant-rows l = l.out.items ++ flat_map (stats_line l.model) (drop l.row-index l.rows) ≡ l.fn.out.items
    ++ flat_map (stats_line l.model) l.rows
