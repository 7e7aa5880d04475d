-- The statistics of a server's queue.
use Rattle.std.specs.Prelude.{ℕ, ◌==◌, ◌&&◌, Bool, List, Some, None, if◌then◌else◌}
use Rattle.sim_base.specs.declared.entry.Entry.{Entry}
use Rattle.sim_base.specs.declared.entry.Line.{Line}
use Rattle.sim_base.specs.declared.message.Msg.{Msg}
use Rattle.net_model.specs.Net.{Net, site_of}
use Rattle.queue_stats.specs.declared.waits.Waits.{Waits}
use Rattle.queue_stats.specs.declared.stats.Stats.{Stats}
use Rattle.queue_stats.specs.Moments.{Moment, moments, is_change}
use Rattle.queue_stats.specs.Figures.{count, arrival_count, loss_count, departure_count, most_waiting, present, waits}
use Rattle.queue_stats.specs.Figures.{total, greatest}
use Rattle.queue_stats.specs.Laws.{is_single_by_arrival}

-- the sum of some waits, and the longest
abbrev pub waits_summary : List ℕ → Waits
waits_summary ns = record { waited = total ns; longest = greatest ns }

-- waits are reported at a single server that serves by arrival, if no parameter changed and no job was lost
abbrev pub reports_waits : Bool → List Moment → Bool
reports_waits single ms = single && (count is_change ms == 0 && loss_count ms == 0)

-- the statistics of a log until time h
abbrev pub stats : Bool → ℕ → List (Entry Msg Line) → Stats
stats single h log = record {
  arrived = arrival_count (moments log);
  lost = loss_count (moments log);
  done = departure_count (moments log);
  most = most_waiting (moments log);
  present = present h (moments log);
  waits = if reports_waits single (moments log) then Some (waits_summary (waits (moments log))) else None;
}

-- the statistics of a log of the server s until time h. The kind of s decides if it is a single server by arrival
abbrev pub server_stats : Net → ℕ → ℕ → List (Entry Msg Line) → Stats
server_stats net s h log = stats (is_single_by_arrival (site_of net s).kind) h log
