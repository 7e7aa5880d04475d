-- The limit of a log: when the logs of a run are within it, and where a run meets it first.
use Rattle.std.specs.Prelude.{◌≡◌, ℕ, ◌<◌, ◌≤◌, List, ◌∷◌, ◌++◌, length, min}
use Rattle.sim_base.specs.Clones.{Clone, with_end}
use Rattle.sim_base.specs.declared.message.Msg.{Msg}
use Rattle.sim_base.specs.declared.entry.Entry.{Entry}
use Rattle.sim_base.specs.declared.entry.Line.{Line}
use Rattle.net_model.specs.Net.{Net, HasStation}
use Rattle.run_laws.specs.Queue.{In}
use Rattle.run_laws.specs.Runs.{end_of}
use Rattle.run_laws.specs.Sharing.{IsWithinLimit}
use Rattle.run_laws.specs.World.{log_of}
use Rattle.stations.specs.Runs.{AreFronts, simulation, trace_of}
use Rattle.solo_run.specs.Limit.{receiver}
use Rattle.world_core.specs.Overs.{IsFirstBeyond, NoneBeyond}

-- no log of the clone's whole run is beyond the limit
abbrev pub IsWithin : Net → Clone → Type 0
IsWithin net c = IsWithinLimit (simulation net) net.horizon c

-- no log of any of the clones is beyond the limit
abbrev pub AreWithin : Net → List Clone → Type 0
AreWithin net clones = NoneBeyond net clones net.horizon

-- a window of the clones' run ends at f: f is one of their next fronts from 0 on
pub record IsWindowEnd (net : Net) (clones : List Clone) (f : ℕ) : Type 0 where
  pub fronts : List ℕ
  pub are_fronts : AreFronts net clones 0 fronts
  pub is_one : In f fronts

-- a run of these clones meets the limit here: the bound is the least window end at which some log is longer; there this
-- is the least station with such a log, and this is the least such clone
pub record MeetsLimit (net : Net) (clones : List Clone) (station who : ℕ) : Type 0 where
  pub bound : ℕ
  pub is_end : IsWindowEnd net clones bound
  pub first : IsFirstBeyond net clones bound station who
  pub before : (f : ℕ) → IsWindowEnd net clones f → f < bound → NoneBeyond net clones f

-- a station's log is full before an entry of its own, and no log has more entries by then
pub record IsFirstFull (limit : ℕ) (trace : List (Entry Msg Line)) (station : ℕ) : Type 0 where
  pub done : List (Entry Msg Line)
  pub entry : Entry Msg Line
  pub rest : List (Entry Msg Line)
  pub parts : trace ≡ done ++ entry ∷ rest
  pub is_for : entry.msg.to ≡ station
  pub full : length (log_of receiver station done) ≡ limit
  pub within : (s : ℕ) → length (log_of receiver s done) ≤ limit

-- the run of one clone meets the limit here: its trace has an entry for this station after the station's log is full,
-- and no log is longer before
pub record MeetsLimitAlone (net : Net) (c : Clone) (station : ℕ) : Type 0 where
  pub is_station : HasStation net station
  pub first : IsFirstFull net.limit (trace_of net c) station

-- the time at which a clone stops if it is stopped at a time: its end or the horizon if they are earlier
abbrev pub last_time : Net → ℕ → Clone → ℕ
last_time net time c = min time (min net.horizon (end_of (simulation net) c))

-- the clone, ended at that time
abbrev pub until : Net → ℕ → Clone → Clone
until net time c = with_end c (last_time net time c)
