-- Statistics of a log that several clones share.
use Rattle.std.specs.Prelude.{ℕ, ◌≡◌, ◌≤◌, List, length, true}
use Rattle.sim_base.specs.declared.entry.Entry.{Entry}
use Rattle.sim_base.specs.declared.entry.Line.{Line}
use Rattle.sim_base.specs.declared.message.Msg.{Msg}
use Rattle.net_model.specs.Net.{Net, HasStation, site_of}
use Rattle.net_model.specs.Rules.{IsNet}
use Rattle.queue_stats.specs.declared.stats.Stats.{Stats}
use Rattle.queue_stats.specs.Laws.{IsLogOf, is_server}
use Rattle.queue_stats.specs.Stats.{server_stats}

-- statistics of a server until `from`, whose log is also that of a clone simulated until `until`
pub record HaveCommonLog (stats : Stats) (from until : ℕ) : Type 0 where
  pub net : Net
  pub station : ℕ
  pub log : List (Entry Msg Line)
  pub valid : IsNet net
  pub is_station : HasStation net station
  pub server : is_server (site_of net station).kind ≡ true
  pub of_from : IsLogOf net station from log
  pub of_until : IsLogOf net station until log
  pub entries_max : length log ≤ net.limit
  pub is : stats ≡ server_stats net station from log
