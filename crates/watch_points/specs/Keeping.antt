-- Clones of a world, in the order in which they were made, that hold the branches of triggers.
use Rattle.std.specs.Prelude.{◌≡◌, ℕ, ◌<◌, List, ◌++◌, length, map, Option, Some, None, slice_get}
use Rattle.std.specs.Prelude.{if◌then◌else◌, nat_lt, ⊤}
use Rattle.std.specs.List.{range_with_len}
use Rattle.std.specs.Option.{option_flatten}
use Rattle.sim_base.specs.Clones.{Clone, clone_at}
use Rattle.run_laws.specs.Simulation.{Simulation}
use Rattle.watch_points.specs.Branches.{Branch, Trigger, initial_branch, present, outcomes, branches_at}
use Rattle.run_laws.specs.Orders.{IsPlaceOrder, in_order}

-- the branch is the clone at this place, or there is neither a branch nor a place
abbrev pub IsPlaced : List Clone → Option Branch → Option ℕ → Type 0
IsPlaced cs None None = ⊤
IsPlaced cs None (Some k) = ⊥
IsPlaced cs (Some b) None = ⊥
IsPlaced cs (Some b) (Some k) = (k < length cs) × (clone_at cs k ≡ b.clone)

-- the value at a place of a list, if there is one
abbrev pub option_at : {X : Type 0} → List (Option X) → ℕ → Option X
option_at os i = option_flatten (slice_get os i)

-- the places in the order of the triggers: those of the script's n clones, then those of the branches
abbrev pub trigger_order : ℕ → List (Option ℕ) → List ℕ
trigger_order n places = range_with_len 0 n ++ present places

-- the clones are exactly those of the script, then the branches that are the triggers' outcomes; places has the place
-- of each trigger's branch
pub record HoldsOutcomes {N : Type 0} (outcome : ℕ → Option Branch) (ls : List Clone) (ws : List (Trigger N))
    (cs : List Clone) (places : List (Option ℕ)) : Type 0 where
  pub script : (k : ℕ) → k < length ls → clone_at cs k ≡ clone_at ls k
  pub same_length : length places ≡ length ws
  pub placed : (j : ℕ) → IsPlaced cs (outcome j) (option_at places j)
  pub order : IsPlaceOrder (length cs) (trigger_order (length ls) places)

module _ {S M N : Type 0} (sim : Simulation S M N) where
  -- the branch of the trigger at place i, if it makes one, from the logs before a front
  abbrev pub outcome_at : ℕ → List Clone → List (Trigger N) → ℕ → Option Branch
  outcome_at front ls ws i = option_at (outcomes sim front (map initial_branch ls) ws) i

  -- the clones are exactly those of the script, then the branches that follow from the logs before a front
  abbrev pub HoldsBranches : ℕ → List Clone → List (Trigger N) → List Clone → List (Option ℕ) → Type 0
  HoldsBranches front ls ws cs places = HoldsOutcomes (outcome_at front ls ws) ls ws cs places

  -- such clones are, in the order of the triggers, the script's clones and then the branches
  abbrev pub ClonesInTriggerOrder : Type 0
  ClonesInTriggerOrder = (front : ℕ) (ls : List Clone) (ws : List (Trigger N)) (cs : List Clone)
      (places : List (Option ℕ)) →
      HoldsBranches front ls ws cs places →
      in_order cs (trigger_order (length ls) places)
      ≡ map (λ (b : Branch). b.clone) (branches_at sim front (map initial_branch ls) ws)

  -- a pass goes through the triggers in their order, after the world has advanced from a front to a bound
  module _ (front bound : ℕ) (ls : List Clone) (ws : List (Trigger N)) where
    -- the outcome of the trigger at place j after a pass has gone through the first i triggers
    abbrev pub outcome_after : ℕ → ℕ → Option Branch
    outcome_after i j = if nat_lt j i then outcome_at bound ls ws j else outcome_at front ls ws j

    -- the clones are those of the script, then the branches after a pass through the first i triggers
    abbrev pub HoldsAfter : ℕ → List Clone → List (Option ℕ) → Type 0
    HoldsAfter i cs places = HoldsOutcomes (outcome_after i) ls ws cs places
