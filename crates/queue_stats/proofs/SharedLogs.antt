-- The statistics of a clone, from those of another clone with the same log.
use Rattle.std.proofs.Common.{◌≡◌, ℕ, ◌≤◌, true, length, min, refl, sym, ap, ◌∙◌, arith}
use Rattle.sim_base.specs.Clones.{Clone}
use Rattle.net_model.specs.Net.{Net, HasStation, site_of}
use Rattle.net_model.specs.Rules.{IsNet}
use Rattle.run_laws.specs.Runs.{end_of}
use Rattle.stations.specs.Runs.{simulation, log_at}
use Rattle.queue_stats.specs.declared.stats.Stats.{Stats}
use Rattle.queue_stats.specs.Laws.{is_server}
use Rattle.queue_stats.specs.Stats.{server_stats}
use Rattle.queue_stats.specs.CommonLogs.{HaveCommonLog}
use Rattle.queue_stats.specs.Rows.{row}

module _ (net : Net) (valid : IsNet net) (one other : Clone) (s from until : ℕ) (is_station : HasStation net s)
    (server : is_server (site_of net s).kind ≡ true)
    (from_is : from ≡ min net.horizon (end_of (simulation net) one))
    (until_is : until ≡ min net.horizon (end_of (simulation net) other))
    (same : log_at net one s net.horizon ≡ log_at net other s net.horizon)
    (entries_max : length (log_at net other s net.horizon) ≤ net.limit) where
  -- the log is that of both clones
  abbrev common-log : (stats : Stats) → stats ≡ (row net one s).stats → HaveCommonLog stats from until
  common-log stats is = record {
    net = net;
    station = s;
    log = log_at net other s net.horizon;
    valid = valid;
    is_station = is_station;
    server = server;
    of_from = record { clone = one; front = net.horizon; within = omega arith; is = sym same; end = from_is };
    of_until = record { clone = other; front = net.horizon; within = omega arith; is = refl; end = until_is };
    entries_max = entries_max;
    is = is ∙ ap (λ h. server_stats net s h (log_at net one s net.horizon)) (sym from_is)
        ∙ ap (λ l. server_stats net s from l) same;
  }

  -- the statistics of that log until the other clone's end are those of its row
  pub row-other : (stats result : Stats) → stats ≡ (row net one s).stats
      → ((c : HaveCommonLog stats from until) → result ≡ server_stats c.net c.station until c.log)
      → result ≡ (row net other s).stats
  row-other stats result is value =
      value (common-log stats is) ∙ ap (λ h. server_stats net s h (log_at net other s net.horizon)) until_is
