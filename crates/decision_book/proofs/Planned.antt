-- Accepted decisions keep the lists planned.
use Rattle.std.proofs.Common.{◌≡◌, ℕ, ◌+◌, ◌<◌, ◌≤◌, List, [], ◌∷◌, length, arith, zero, suc, Some, None}
use Rattle.std.proofs.Common.{slice_set, length-set, true, Option, option_map, Result, Ok, Err, is_ok, position, refl}
use Rattle.std.specs.List.{AllByRecursion}
use Rattle.std.proofs.lemmas.List.{length_push}
use Rattle.sim_base.specs.declared.decision.Planned.{Planned}
use Rattle.sim_base.specs.Clones.{Clone, clone_at, clones_with_fork, clones_with_plan, clones_with_end, fork_of}
use Rattle.sim_base.specs.Clones.{with_plan}
use Rattle.sim_base.specs.declared.lists.TheConstants.{MAX_CLONES, MAX_DECISIONS}
use Rattle.sim_base.proofs.ListLaws.{all_push, all_set, all_weaker}
use Rattle.std.specs.Str.{bytes_eq}
use Rattle.sim_base.specs.declared.message.Change.{Change}
use Rattle.net_model.specs.Net.{Net, HasStation, station_named, site_of}
use Rattle.stations.specs.declared.change.ChangeFault.{ChangeFault}
use Rattle.stations.specs.Changes.{accepts}
use Rattle.decision_book.specs.Laws.{PlansAreForStations}
use Rattle.decision_book.specs.Plans.{IsPlan, IsPlanned, ArePlanned}

-- ---- ArePlanned

-- each clone is planned, and so is the default one
pub planned_at : (net : Net) (clones : List Clone) (c : ℕ) → AllByRecursion (IsPlanned net) clones
    → IsPlanned net (clone_at clones c)
planned_at net [] c h = record { plans = tt; length_max = omega arith; end = tt }
planned_at net (k ∷ ks) zero h = h.0
planned_at net (k ∷ ks) (suc c) h = planned_at net ks c h.1

-- a fork keeps the lists planned if there is a free place for one more clone
pub planned_forked : (net : Net) (clones : List Clone) (new : List ℕ) (old : ℕ) → ArePlanned net clones
    → length clones < MAX_CLONES → ArePlanned net (clones_with_fork clones new old)
planned_forked net clones new old h few =
    let from = planned_at net clones old h.each in
    let fork : Clone = fork_of (clone_at clones old) new in
    record {
      at_most = omega (arith, few, length_push clones fork);
      each = all_push (IsPlanned net) clones fork h.each (record
          { plans = from.plans; length_max = from.length_max; end = tt });
    }

-- planned clones stay so if one is replaced by a planned one
planned_replaced : (net : Net) (clones : List Clone) (c : ℕ) (k : Clone) → ArePlanned net clones → IsPlanned net k
    → ArePlanned net (slice_set clones c k)
planned_replaced net clones c k h p =
    record { at_most = rw length-set h.at_most; each = all_set (IsPlanned net) clones c k h.each p }

-- so does an end before the horizon
pub planned_ended : (net : Net) (clones : List Clone) (c at : ℕ) → ArePlanned net clones → at < net.horizon
    → ArePlanned net (clones_with_end clones c at)
planned_ended net clones c at h early =
    let from = planned_at net clones c h.each in
    planned_replaced net clones c (record (clone_at clones c) { end = Some at }) h
    (record { plans = from.plans; length_max = from.length_max; end = early })

-- and so does one more set that may be planned, if the clone's list has a free place
pub planned_added : (net : Net) (clones : List Clone) (c : ℕ) (plan : Planned) → ArePlanned net clones
    → length (clone_at clones c).plans < MAX_DECISIONS → IsPlan net plan
    → ArePlanned net (clones_with_plan clones c plan)
planned_added net clones c plan h s p =
    let from = planned_at net clones c h.each in
    planned_replaced net clones c (with_plan (clone_at clones c) plan) h
    (record {
      plans = all_push (IsPlan net) (clone_at clones c).plans plan from.plans p;
      length_max = omega (arith, s, length_push (clone_at clones c).plans plan);
      end = from.end;
    })

-- ---- IsPlan

-- one more than a place is at least 1
from_one : (o : Option ℕ) (s : ℕ) → option_map (λ i. i + 1) o ≡ Some s → 1 ≤ s
from_one None s h = absurd cc
from_one (Some i) s h = let same : i + 1 ≡ s = cc in omega arith

-- so the number of a station that is found by its name is at least 1
pub station_named-low : (name : List ℕ) (net : Net) (s : ℕ) → station_named name net ≡ Some s → 1 ≤ s
station_named-low name net s e = from_one (position (λ site. bytes_eq site.name name) net.sites) s e

-- a change that a station takes is accepted
taken_from : (r : Result (Unit {0}) ChangeFault) (u : Unit {0}) → r ≡ Ok u → is_ok r ≡ true
taken_from (Ok v) u h = refl
taken_from (Err e) u h = absurd cc

-- a set before the horizon may be planned if its station exists and accepts the change
pub plan_taken : (net : Net) (at s : ℕ) (station : List ℕ) (change : Change) (u : Unit {0})
    → station_named station net ≡ Some s → s ≤ length net.sites → accepts (site_of net s) change ≡ Ok u
    → at < net.horizon → IsPlan net (record { at = at; station = s; change = change })
plan_taken net at s station change u number last taken early = record {
  time_max = early;
  is_station = record { low = station_named-low station net s number; high = last };
  taken = taken_from (accepts (site_of net s) change) u taken;
}

-- ---- PlansAreForStations

-- each set in a planned clone's list is for a station that is there
pub plans_are_for_stations : (net : Net) → PlansAreForStations net
plans_are_for_stations net clones c h = let one = planned_at net clones c h.each in
    all_weaker (IsPlan net) (λ (p : Planned). HasStation net p.station) (clone_at clones c).plans
    (λ p is. is.is_station) one.plans
