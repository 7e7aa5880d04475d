-- Branches stay, and a window's branches are not late.
use Rattle.std.proofs.Common.{ℕ, ◌≤◌, List, arith}
use Rattle.sim_base.specs.Clones.{Clone}
use Rattle.run_laws.specs.Queue.{In}
use Rattle.run_laws.specs.Simulation.{Simulation}
use Rattle.run_laws.specs.Fronts.{IsWindow}
use Rattle.watch_points.specs.BranchLaws.{BranchIsNotLate, DueAtFront, DueIsNotLate, BranchesStay}
use Rattle.watch_points.proofs.Branches.{FrontPair, agree-all, agree-initial}

module _ {S M N : Type 0} {sim : Simulation S M N} (known : DueAtFront sim) where
  -- two fronts in their order, with no condition on late starts
  any_fronts : (front bound : ℕ) → front ≤ bound → FrontPair sim front bound (λ c. Unit {0}) (λ t. Unit {0})
  any_fronts front bound l = record { order = l; later = λ s t h k. tt; due = λ w b t there k e f. tt }

  -- a branch stays
  pub branches_stay : BranchesStay sim
  branches_stay names bs ws front bound valid l x i =
      (agree-all sim known (any_fronts front bound l) names bs bs ws
      (agree-initial sim known (any_fronts front bound l) names bs valid.clones) valid.new_names valid.targets
      (λ y j. tt)).at.within x i

  module _ (not_late : DueIsNotLate sim) where
    -- a window's front and bound
    pub window_fronts : (cs : List Clone) (front bound : ℕ) → IsWindow sim cs front bound →
        FrontPair sim front bound (λ c. In c cs) (λ t. bound ≤ t)
    window_fronts cs front bound w = record {
      order = w.later;
      later = λ s t h k. omega (arith, h, k);
      due = λ trigger b t there k e f.
          not_late trigger.condition cs b.clone trigger.station b.start front bound t there k w e f;
    }

    -- a window's branches are not late
    pub branch_is_not_late : BranchIsNotLate sim
    branch_is_not_late names bs ws cs front bound valid w all y i =
        let fronts = window_fronts cs front bound w in
        (agree-all sim known fronts names bs bs ws (agree-initial sim known fronts names bs valid.clones)
        valid.new_names valid.targets all).at.is_late y i
