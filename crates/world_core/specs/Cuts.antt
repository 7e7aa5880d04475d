-- All clones at a cut: each station at its own time, with copies that represent the clones there. A front is the cut
-- with one time for all stations.
use Rattle.std.specs.Prelude.{◌≡◌, ℕ, ◌+◌, ◌<◌, ◌≤◌, List, length, slice_get, nat_lt, Some}
use Rattle.sim_base.specs.Clones.{Clone}
use Rattle.sim_base.specs.declared.lists.TheConstants.{MAX_CLONES}
use Rattle.clone_sets.specs.Sets.{has}
use Rattle.net_model.specs.Net.{Net}
use Rattle.net_model.specs.Rules.{IsNet}
use Rattle.stations.specs.Good.{IsGood}
use Rattle.stations.specs.Runs.{simulation, handled_once}
use Rattle.run_laws.specs.Handlers.{AllAreForStations}
use Rattle.run_laws.specs.Copies.{ends_of}
use Rattle.phys_proc.specs.Ends.{ends_in}
use Rattle.phys_proc.specs.Procs.{ProcView}
use Rattle.station_steps.specs.Windows.{IsNumbered, bound_of}
use Rattle.link_laws.specs.Cuts.{IsRoundOf}
use Rattle.link_laws.specs.CutCopies.{StandsAtCut}
use Rattle.world_core.specs.Overs.{NoneBeyondAt}
use Rattle.world_core.specs.Worlds.{total_at}

-- the copies at place i are those of station i + 1, and represent the clones at a cut: the log and state of a copy are
-- those at the station's time, and each clone takes exactly the messages that wait there
pub record CutStandsAt (net : Net) (cs : List Clone) (cut : ℕ → ℕ) (i : ℕ) (p : ProcView) : Type 0 where
  pub station : IsNumbered net i p
  pub living : (c : ℕ) → has p.living c ≡ nat_lt c (length cs)
  pub once : p.handled ≡ handled_once net cs (i + 1) (cut (i + 1))
  pub copies : StandsAtCut (simulation net) has cs cut (i + 1) p.copies

-- the copies of every station represent the clones at a cut
pub record CutStands (net : Net) (cs : List Clone) (ended : List (ℕ × ℕ)) (cut : ℕ → ℕ) (procs : List ProcView) :
    Type 0 where
  pub valid : IsNet net
  pub count : length procs ≡ length net.sites
  pub at_most : length cs ≤ MAX_CLONES
  pub ends : ends_in net.horizon ended ≡ ends_of (simulation net) cs
  pub for_stations : AllAreForStations (simulation net) cs
  pub each : (i : ℕ) (p : ProcView) → slice_get procs i ≡ Some p → CutStandsAt net cs cut i p

-- a step of stations that represent the clones at a cut, to these bounds: the next times of a round
pub record IsStepTo (net : Net) (cs : List Clone) (ended : List (ℕ × ℕ)) (cut next : ℕ → ℕ) (bounds : List ℕ)
    (procs : List ProcView) : Type 0 where
  pub stands : CutStands net cs ended cut procs
  pub round : IsRoundOf (simulation net) (IsGood net) cs cut next
  pub bounds_are : (i : ℕ) → i < length procs → bound_of bounds i ≡ next (i + 1)

-- the stations after a step: they represent the clones at the next cut, shared messages were counted once, and no log
-- is beyond the limit
pub record HasSteppedTo (net : Net) (cs : List Clone) (ended : List (ℕ × ℕ)) (cut next : ℕ → ℕ)
    (old_steps new_steps : ℕ) (procs : List ProcView) : Type 0 where
  pub stands : CutStands net cs ended next procs
  pub steps : new_steps + total_at net cs cut ≡ old_steps + total_at net cs next
  pub length_max : NoneBeyondAt net cs next
