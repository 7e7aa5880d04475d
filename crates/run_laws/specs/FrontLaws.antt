-- The laws of due times and of fronts, as statements that contracts cite.
use Rattle.std.specs.Prelude.{◌≡◌, ℕ, zero, suc, ◌<◌, ◌≤◌, List, ◌∷◌}
use Rattle.std.specs.Prelude.{Bool, Option, Some, None, if◌then◌else◌, length, nat_lt}
use Rattle.std.specs.List.{AllByRecursion}
use Rattle.std.specs.Ordering.{nat_cmp}
use Rattle.sim_base.specs.Clones.{Clone, clones_with_fork, fork_of, with_plan, with_end}
use Rattle.sim_base.specs.declared.decision.Planned.{Planned}
use Rattle.run_laws.specs.Queue.{In, Sorted}
use Rattle.run_laws.specs.Simulation.{Simulation}
use Rattle.run_laws.specs.Runs.{end_of, IsTimelyEnd, MayFork, due_at}
use Rattle.run_laws.specs.Fronts.{earlier, least_time, least_of, least, next_front, window_end, AreFronts}
use Rattle.run_laws.specs.Handlers.{IsStation, AreForStations, AllAreForStations}
use Rattle.run_laws.specs.Copies.{Copy, Carries, messages_taken, ends_of, Stands}

-- a time if it comes before another
abbrev pub time_before : ℕ → Option ℕ → Option ℕ
time_before at None = None
time_before at (Some t) = if nat_lt t at then Some t else None

module _ {M : Type 0} (time : M → ℕ) where
  -- t is the least time of the messages with P, None if there are none
  abbrev pub IsLeastTime : (M → Type 0) → Option ℕ → Type 0
  IsLeastTime P None = (m : M) → P m → ⊥
  IsLeastTime P (Some t) = ((m : M) × P m × (time m ≡ t)) × ((m : M) → P m → t ≤ time m)

module _ {S M N : Type 0} (sim : Simulation S M N) where
  -- each is later than the one before, none is past the horizon, and the last is the horizon
  pub record RiseToHorizon (front : ℕ) (fs : List ℕ) : Type 0 where
    pub rise : Sorted nat_cmp (front ∷ fs)
    pub within : AllByRecursion (λ f. f ≤ sim.horizon) (front ∷ fs)
    pub horizon : In sim.horizon (front ∷ fs)

  -- each window may extend by the lookahead, up to the horizon
  abbrev pub FrontIsFar : Type 0
  FrontIsFar = (cs : List Clone) (front : ℕ) → window_end sim (Some front) ≤ next_front sim cs front

  -- so below the horizon the next front is later
  abbrev pub FrontRises : Type 0
  FrontRises = (cs : List Clone) (front : ℕ) → 0 < sim.lookahead → front < sim.horizon → front < next_front sim cs front

  -- the fronts of a run rise, and end at the horizon
  abbrev pub FrontsRise : Type 0
  FrontsRise = (cs : List Clone) (front : ℕ) (fs : List ℕ) → 0 < sim.lookahead → AreFronts sim cs front fs →
      RiseToHorizon front fs

  -- from each front on there is such a list of fronts
  abbrev pub FrontsGoOn : Type 0
  FrontsGoOn = (cs : List Clone) (front : ℕ) → 0 < sim.lookahead → front ≤ sim.horizon →
      (fs : List ℕ) × AreFronts sim cs front fs

  -- and only one
  abbrev pub FrontsAreOne : Type 0
  FrontsAreOne = (cs : List Clone) (front : ℕ) (fs gs : List ℕ) → AreFronts sim cs front fs
      → AreFronts sim cs front gs →
      fs ≡ gs

  -- the least due time of a clone at the stations 1 to n
  abbrev pub least_to : Clone → ℕ → ℕ → Option ℕ
  least_to c front zero = None
  least_to c front (suc n) = earlier (least_to c front n) (least_time sim.time (due_at sim c (suc n) front))

  -- the least due time of a clone is the least of its stations'
  abbrev pub LeastIsOfStations : Type 0
  LeastIsOfStations = (c : Clone) (front : ℕ) → AreForStations sim c.plans →
      least_of sim c front ≡ least_to c front sim.stations

  -- a decision at the front or later adds its own time, if that comes before the clone's end
  abbrev pub LeastAtDecision : Type 0
  LeastAtDecision = (c : Clone) (p : Planned) (front : ℕ) (t : ℕ) → sim.time (sim.set_message (length c.plans) p) ≡ t →
      front ≤ t →
      least_of sim (with_plan c p) front
      ≡ (if nat_lt t (end_of sim c) then earlier (Some t) (least_of sim c front) else least_of sim c front)

  -- an end at the front or later keeps the least time if it comes before the end
  abbrev pub LeastAtEnd : Type 0
  LeastAtEnd = (c : Clone) (at front : ℕ) → IsTimelyEnd sim c front at →
      least_of sim (with_end c at) front ≡ time_before at (least_of sim c front)

  -- a fork of a clone without end has the least time of that clone
  abbrev pub LeastAtFork : Type 0
  LeastAtFork = (c : Clone) (name : List ℕ) (front : ℕ) → c.end ≡ None →
      least_of sim (fork_of c name) front ≡ least_of sim c front

  -- so the next front does not change
  abbrev pub FrontStaysAtFork : Type 0
  FrontStaysAtFork = (cs : List Clone) (old front : ℕ) (name : List ℕ) → MayFork cs old →
      next_front sim (clones_with_fork cs name old) front ≡ next_front sim cs front

module _ {S M N : Type 0} (K : Type 0) (sim : Simulation S M N) where
  -- a message that a clone takes from a copy of some station
  pub record IsTaken (has : K → ℕ → Bool) (cs : List Clone) (copies : ℕ → List (Copy S M N K)) (m : M) : Type 0 where
    pub station : ℕ
    pub is_station : IsStation sim station
    pub copy : Copy S M N K
    pub is_copy : In copy (copies station)
    pub clone : ℕ
    pub is_in : Carries has copy clone
    pub is_taken : In m (messages_taken sim has (ends_of sim cs) clone copy.pending)

  -- if the copies of all stations represent the clones, the least time that they take is the least that is due
  abbrev pub LeastIsOfCopies : Type 0
  LeastIsOfCopies = (has : K → ℕ → Bool) (cs : List Clone) (front : ℕ) (copies : ℕ → List (Copy S M N K))
      (t : Option ℕ) →
      AllAreForStations sim cs →
      ((s : ℕ) → IsStation sim s → Stands sim has cs front s (copies s)) →
      IsLeastTime sim.time (IsTaken has cs copies) t → least sim cs front ≡ t
