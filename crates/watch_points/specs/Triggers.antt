-- Watches of a network as triggers: when enough jobs first wait, and the branches that this makes.
use Rattle.std.specs.Prelude.{ℕ, nat_le, List, map, Bool, false, Option, unwrap_or}
use Rattle.sim_base.specs.Clones.{Clone}
use Rattle.sim_base.specs.declared.entry.Line.{Line}
use Rattle.sim_base.specs.declared.entry.Line.TheVariants.{Server}
use Rattle.sim_base.specs.declared.message.Msg.{Msg}
use Rattle.net_model.specs.Net.{Net, station_named}
use Rattle.stations.specs.Runs.{simulation, log_at}
use Rattle.watch_points.specs.Branches as branches
use Rattle.watch_points.specs.Branches.{Trigger}
use Rattle.watch_points.specs.Due.{due_in}
use Rattle.watch_points.specs.declared.watch.Watch.{Watch}

-- the time stamp of a message
abbrev pub time_of : Msg → ℕ
time_of m = m.key.time

-- the counts of a server at which at least this number of jobs wait
abbrev pub enough_wait : ℕ → Line → Bool
enough_wait least (Server busy wait done lost) = nat_le least wait
enough_wait least _ = false

-- the number of the station of this name
abbrev pub station_number : Net → List ℕ → ℕ
station_number net name = unwrap_or (station_named name net) 0

-- a watch as a trigger: its stations by their numbers
abbrev pub trigger_of : Net → Watch → Trigger Line
trigger_of net w = record {
  who = w.who;
  station = station_number net w.station;
  condition = enough_wait w.least;
  new = w.new;
  target = station_number net w.target;
  change = w.change;
}

-- the watches as triggers, in their order
abbrev pub triggers_of : Net → List Watch → List (Trigger Line)
triggers_of net ws = map (trigger_of net) ws

-- the time at which at least this number of jobs first wait at a server of a clone, from a start on
abbrev pub first_wait : Net → Clone → ℕ → ℕ → ℕ → Option ℕ
first_wait net c s start least = due_in time_of (enough_wait least) start (log_at net c s net.horizon)

-- the clones of the whole run: these, and then, in the order of the watches, the branch of each watch that is due so
-- early that its change, later by the lookahead, comes before the horizon
abbrev pub clones_with_branches : Net → List Clone → List Watch → List Clone
clones_with_branches net cs ws = branches.clones_with_branches (simulation net) cs (triggers_of net ws)
