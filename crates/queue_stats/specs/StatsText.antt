-- The text of queue statistics: a line for each clone and server.
use Rattle.std.specs.Prelude.{ℕ, ◌++◌, List, Option, Some, None, codes, decimal}
use Rattle.std.specs.List.{flat_map}
use Rattle.net_model.specs.Net.{Net, site_of}
use Rattle.queue_stats.specs.declared.waits.Waits.{Waits}
use Rattle.queue_stats.specs.declared.text.StatRow.{StatRow}

-- the sum of the waits and the longest wait, or `-` for each if no waits are reported
abbrev pub waits_text : Option Waits → List ℕ
waits_text None = codes " waited=- longest=-"
waits_text (Some w) = codes " waited=" ++ decimal w.waited ++ codes " longest=" ++ decimal w.longest

-- the line of a row: the names of the clone and of the server, and its figures
abbrev pub stats_line : Net → StatRow → List ℕ
stats_line net row =
    row.who ++ codes " " ++ (site_of net row.station).name
    ++ codes " arrived=" ++ decimal row.stats.arrived
    ++ codes " lost=" ++ decimal row.stats.lost
    ++ codes " done=" ++ decimal row.stats.done
    ++ codes " most=" ++ decimal row.stats.most
    ++ codes " present=" ++ decimal row.stats.present
    ++ waits_text row.stats.waits ++ codes "\n"

-- the text of some rows: a heading, and a line for each row
abbrev pub stats_text : Net → List StatRow → List ℕ
stats_text net rows = codes "stats\n" ++ flat_map (stats_line net) rows
