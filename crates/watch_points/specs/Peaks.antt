-- The longest waiting line in the last part of a log.
use Rattle.std.specs.Prelude.{◌≡◌, ℕ, ◌≤◌, List, drop, length}
use Rattle.std.specs.List.{AllByRecursion}
use Rattle.sim_base.specs.Clones.{clone_at}
use Rattle.sim_base.specs.declared.entry.Entry.{Entry}
use Rattle.sim_base.specs.declared.entry.Line.{Line}
use Rattle.sim_base.specs.declared.entry.Line.TheVariants.{Server}
use Rattle.sim_base.specs.declared.message.Msg.{Msg}
use Rattle.stations.specs.Runs.{log_at}
use Rattle.world_core.specs.Worlds.{WorldView}
use Rattle.watch_points.specs.declared.peak.Peak.{Peak}

-- the number of jobs that wait at a server, and 0 for another station
abbrev pub waiting_jobs : Line → ℕ
waiting_jobs (Server busy wait done lost) = wait
waiting_jobs _ = 0

-- in no entry more jobs wait
abbrev pub NoMoreWait : ℕ → List (Entry Msg Line) → Type 0
NoMoreWait most entries = AllByRecursion (λ (e : Entry Msg Line). waiting_jobs e.line ≤ most) entries

-- a peak has the length of its log in the world, and no more jobs wait in the entries from its first one on
pub record IsPeak (world : WorldView) (p : Peak) : Type 0 where
  pub len : p.len ≡ length (log_at world.net (clone_at world.clones p.clone) p.station world.front)
  pub most : NoMoreWait p.most
      (drop p.from (log_at world.net (clone_at world.clones p.clone) p.station world.front))

-- a peak is of the log of this clone and station, and of all entries from a place on
pub record IsPeakFrom (clone station from : ℕ) (p : Peak) : Type 0 where
  pub clone_is : p.clone ≡ clone
  pub station_is : p.station ≡ station
  pub from_max : p.from ≤ from
