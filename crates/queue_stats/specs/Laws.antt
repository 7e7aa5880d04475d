-- Properties of the log of a server in every run.
use Rattle.std.specs.Prelude.{ℕ, ◌≡◌, ◌<◌, ◌≤◌, ◌==◌, ◌&&◌, not, List, Bool, true, false, min}
use Rattle.std.specs.List.{AllByRecursion}
use Rattle.sim_base.specs.Clones.{Clone}
use Rattle.sim_base.specs.declared.entry.Entry.{Entry}
use Rattle.sim_base.specs.declared.entry.Line.{Line}
use Rattle.sim_base.specs.declared.message.Msg.{Msg}
use Rattle.net_model.specs.declared.station.Kind.{Kind}
use Rattle.net_model.specs.declared.station.Kind.TheVariants as kind
use Rattle.net_model.specs.Net.{Net, HasStation, site_of}
use Rattle.run_laws.specs.Runs.{end_of}
use Rattle.stations.specs.Runs.{simulation, log_at}
use Rattle.queue_stats.specs.Moments.{moments, is_change}
use Rattle.queue_stats.specs.Figures.{count, present, time_in_system}
use Rattle.queue_stats.specs.Lindley.{IsLindley}
use Rattle.queue_stats.specs.Queues.{IsQueue}

-- ---- the logs from which statistics are computed

-- a station of this kind is a server
abbrev pub is_server : Kind → Bool
is_server (kind.Server servers room lo hi by_class) = true
is_server _ = false

-- a station of this kind is a single server that serves by arrival
abbrev pub is_single_by_arrival : Kind → Bool
is_single_by_arrival (kind.Server servers room lo hi by_class) = servers == 1 && not by_class
is_single_by_arrival _ = false

-- the log of a station in some clone at a front, until the front or the clone's end, whichever is earlier
pub record IsLogOf (net : Net) (s until : ℕ) (log : List (Entry Msg Line)) : Type 0 where
  pub clone : Clone
  pub front : ℕ
  pub within : front ≤ net.horizon
  pub is : log ≡ log_at net clone s front
  pub end : until ≡ min front (end_of (simulation net) clone)

-- ---- the laws

-- the log is the history of a queue, and all of it is before the front and the clone's end
pub record IsQueueUntil (net : Net) (c : Clone) (s front servers : ℕ) : Type 0 where
  pub queue : IsQueue servers (moments (log_at net c s front))
  pub time_max : AllByRecursion (λ x. x.time < min front (end_of (simulation net) c)) (moments (log_at net c s front))

-- the log of every server is such a history, in any clone and at any front
abbrev pub LogsAreQueues : Net → Type 0
LogsAreQueues net = (c : Clone) (s front servers room lo hi : ℕ) (by_class : Bool) → HasStation net s
    → (site_of net s).kind ≡ kind.Server servers room lo hi by_class → IsQueueUntil net c s front servers

-- Little's law in every run: the number in the system, summed over the times before the end, is the time in the system,
-- summed over the visits
abbrev pub RunsKeepLittle : Net → Type 0
RunsKeepLittle net = (c : Clone) (s front servers room lo hi : ℕ) (by_class : Bool) → HasStation net s
    → (site_of net s).kind ≡ kind.Server servers room lo hi by_class
    → present (min front (end_of (simulation net) c)) (moments (log_at net c s front))
    ≡ time_in_system (min front (end_of (simulation net) c)) (moments (log_at net c s front))

-- Lindley's equation in every run, at a station of one server until a parameter changes
abbrev pub RunsKeepLindley : Net → Type 0
RunsKeepLindley net = (c : Clone) (s front room lo hi : ℕ) (by_class : Bool) → HasStation net s
    → (site_of net s).kind ≡ kind.Server 1 room lo hi by_class → count is_change (moments (log_at net c s front)) ≡ 0
    → IsLindley (moments (log_at net c s front))
