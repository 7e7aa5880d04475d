-- A world: all clones at a front, and the stations' copies of them.
use Rattle.std.specs.Prelude.{◌≡◌, ℕ, ◌+◌, ◌<◌, ◌≤◌, List, [], ◌∷◌, length, slice_get}
use Rattle.std.specs.Prelude.{nat_lt, Some}
use Rattle.sim_base.specs.Clones.{Clone, base, clone_at}
use Rattle.sim_base.specs.declared.lists.TheConstants.{MAX_CLONES}
use Rattle.clone_sets.specs.Sets.{has}
use Rattle.net_model.specs.Net.{Net}
use Rattle.net_model.specs.Rules.{IsNet}
use Rattle.stations.specs.Runs.{simulation, handled_once}
use Rattle.run_laws.specs.Handlers.{AllAreForStations}
use Rattle.run_laws.specs.SharedTexts.{station_sum}
use Rattle.run_laws.specs.Copies.{Stands, ends_of}
use Rattle.run_laws.specs.Runs.{end_of}
use Rattle.phys_proc.specs.Ends.{ends_in}
use Rattle.phys_proc.specs.Procs.{ProcView}
use Rattle.station_steps.specs.Windows.{IsNumbered}

-- what contracts see of a world: its network, its clones with their decisions and ends, and the time that all have
-- reached
pub record WorldView : Type 0 where
  pub net : Net
  pub clones : List Clone
  pub front : ℕ

-- a world as it opens: the base clone alone, before anything is handled
abbrev pub opening_world : Net → WorldView
opening_world net = record { net = net; clones = base ∷ []; front = 0 }

-- the copies at place i are those of station i + 1, and represent the clones at the front: each clone is in one copy,
-- whose log, state and messages are the clone's own; two clones share a copy if their logs are equal
pub record StandsAt (net : Net) (cs : List Clone) (front i : ℕ) (p : ProcView) : Type 0 where
  pub station : IsNumbered net i p
  pub living : (c : ℕ) → has p.living c ≡ nat_lt c (length cs)
  pub once : p.handled ≡ handled_once net cs (i + 1) front
  pub copies : Stands (simulation net) has cs front (i + 1) p.copies

-- the invariant of a world: the copies of every station represent the clones at the front
pub record WorldStands (net : Net) (cs : List Clone) (ended : List (ℕ × ℕ)) (front : ℕ) (procs : List ProcView) :
    Type 0 where
  pub valid : IsNet net
  pub time_max : front ≤ net.horizon
  pub count : length procs ≡ length net.sites
  pub at_most : length cs ≤ MAX_CLONES
  pub ends : ends_in net.horizon ended ≡ ends_of (simulation net) cs
  pub for_stations : AllAreForStations (simulation net) cs
  pub each : (i : ℕ) (p : ProcView) → slice_get procs i ≡ Some p → StandsAt net cs front i p

-- the number of messages that the stations have handled, shared ones once, each up to its time
abbrev pub total_at : Net → List Clone → (ℕ → ℕ) → ℕ
total_at net cs cut = station_sum (λ s. handled_once net cs s (cut s)) (length net.sites)

-- the same, all up to a front
abbrev pub total_handled : Net → List Clone → ℕ → ℕ
total_handled net cs front = total_at net cs (λ s. front)

-- clones whose decisions are for stations, and that end at the horizon at the latest
pub record AreInNet (net : Net) (cs : List Clone) : Type 0 where
  pub plans : AllAreForStations (simulation net) cs
  pub ends : (k : ℕ) → k < length cs → end_of (simulation net) (clone_at cs k) ≤ net.horizon
