-- The laws of copies, as statements that contracts cite: the copies of each station always represent the clones.
use Rattle.std.specs.Prelude.{◌≡◌, ℕ, ◌<◌, List, [], ◌∷◌, Bool, length}
use Rattle.std.specs.List.{AllZip}
use Rattle.sim_base.specs.Clones.{Clone, base, clone_at, clones_with_plan, clones_with_end, clones_with_fork}
use Rattle.sim_base.specs.declared.decision.Planned.{Planned}
use Rattle.run_laws.specs.Simulation.{Simulation}
use Rattle.run_laws.specs.Runs.{IsTimelyPlan, IsTimelyEnd, MayFork}
use Rattle.run_laws.specs.Handlers.{IsStation}
use Rattle.run_laws.specs.Copies.{Copy, AreOf, IsGiven, IsForked, first_copy, ends_of, Stands}

-- K are sets of clones
module _ {S M N : Type 0} (K : Type 0) (sim : Simulation S M N) where
  -- before anything was handled, one copy of a station represents the first clone
  abbrev pub StandsAtStart : Type 0
  StandsAtStart = (has : K → ℕ → Bool) (only : K) (s : ℕ) → AreOf has only 0 → IsStation sim s →
      Stands sim has (base ∷ []) 0 s (first_copy sim only s ∷ [])

  -- a decision of clone who, at or after the front and for this station, is given only to that clone
  abbrev pub StandsAfterDecision : Type 0
  StandsAfterDecision = (has : K → ℕ → Bool) (cs : List Clone) (front s who : ℕ) (p : Planned) (m : M) (k : K)
      (olds done : List (Copy S M N K)) →
      IsTimelyPlan sim cs front who p m → sim.to m ≡ s →
      AreOf has k who →
      AllZip (IsGiven sim has (ends_of sim cs) m k) olds done →
      Stands sim has cs front s olds → Stands sim has (clones_with_plan cs who p) front s done

  -- a decision for another station leaves the copies of this one unchanged
  abbrev pub StandsAfterOtherDecision : Type 0
  StandsAfterOtherDecision = (has : K → ℕ → Bool) (cs : List Clone) (front s who : ℕ) (p : Planned) (m : M)
      (olds : List (Copy S M N K)) →
      IsTimelyPlan sim cs front who p m → ¬ (sim.to m ≡ s) →
      Stands sim has cs front s olds → Stands sim has (clones_with_plan cs who p) front s olds

  -- an end at or after the front, not past the clone's present end, leaves the copies unchanged
  abbrev pub StandsAfterEnd : Type 0
  StandsAfterEnd = (has : K → ℕ → Bool) (cs : List Clone) (front s who at : ℕ) (olds : List (Copy S M N K)) →
      who < length cs → IsTimelyEnd sim (clone_at cs who) front at →
      Stands sim has cs front s olds → Stands sim has (clones_with_end cs who at) front s olds

  -- a fork adds the new clone to its old one, which must have no end
  abbrev pub StandsAfterFork : Type 0
  StandsAfterFork = (has : K → ℕ → Bool) (cs : List Clone) (front s old : ℕ) (name : List ℕ)
      (olds done : List (Copy S M N K)) →
      MayFork cs old →
      AllZip (IsForked sim has (ends_of sim cs) old (length cs)) olds done →
      Stands sim has cs front s olds → Stands sim has (clones_with_fork cs name old) front s done
