-- The statistics of a study: a row for each clone and server, and their text.
use Rattle.std.specs.Prelude.{ℕ, zero, suc, ◌≡◌, ◌+◌, ◌++◌, List, [], ◌∷◌, length, take, min, if◌then◌else◌}
use Rattle.std.specs.List.{flat_map}
use Rattle.sim_base.specs.Clones.{Clone, clone_at}
use Rattle.run_laws.specs.Runs.{end_of}
use Rattle.net_model.specs.Net.{Net, site_of}
use Rattle.stations.specs.Runs.{simulation, log_at}
use Rattle.world_core.specs.Worlds.{WorldView}
use Rattle.queue_stats.specs.Laws.{is_server}
use Rattle.queue_stats.specs.Figures.{one_if}
use Rattle.queue_stats.specs.Stats.{server_stats}
use Rattle.queue_stats.specs.StatsText.{stats_text}
use Rattle.queue_stats.specs.declared.text.StatRow.{StatRow}

-- a clone's row of a server: the statistics of its log at the horizon, until the horizon or the clone's end, whichever
-- is earlier
abbrev pub row : Net → Clone → ℕ → StatRow
row net c s = record {
  who = c.name;
  station = s;
  stats = server_stats net s (min net.horizon (end_of (simulation net) c)) (log_at net c s net.horizon);
}

-- a clone's row of a station, if the station is a server
abbrev pub station_rows : Net → Clone → ℕ → List StatRow
station_rows net c s = if is_server (site_of net s).kind then row net c s ∷ [] else []

-- a clone's rows of the servers among the first n stations, in file order
abbrev pub first_rows : Net → Clone → ℕ → List StatRow
first_rows net c zero = []
first_rows net c (suc n) = first_rows net c n ++ station_rows net c (suc n)

-- a clone's rows of all servers
abbrev pub clone_rows : Net → Clone → List StatRow
clone_rows net c = first_rows net c (length net.sites)

-- the rows of some clones, clone by clone
abbrev pub rows : Net → List Clone → List StatRow
rows net cs = flat_map (clone_rows net) cs

-- the number of servers among the first n stations
abbrev pub server_count : Net → ℕ → ℕ
server_count net zero = 0
server_count net (suc n) = server_count net n + one_if (is_server (site_of net (suc n)).kind)

-- the rows of all clones before clone c, and those of its first s stations
abbrev pub rows_before : Net → List Clone → ℕ → ℕ → List StatRow
rows_before net cs c s = rows net (take c cs) ++ first_rows net (clone_at cs c) s

-- the text of the statistics of some clones
abbrev pub statistics : Net → List Clone → List ℕ
statistics net cs = stats_text net (rows net cs)

-- a world of this model at the horizon
pub record IsAtHorizon (model : Net) (w : WorldView) : Type 0 where
  pub net : w.net ≡ model
  pub front : w.front ≡ model.horizon
