-- The laws of a pass through the triggers at a window's end, as statements that contracts cite.
use Rattle.std.specs.Prelude.{◌≡◌, ◌⊎◌, ℕ, ◌+◌, ◌<◌, ◌≤◌, List, Option, Some, None, length, map, slice_get, slice_set}
use Rattle.std.specs.Prelude.{take}
use Rattle.sim_base.specs.Clones.{Clone, clone_at, clones_with_fork, clones_with_plan, place_of}
use Rattle.run_laws.specs.Queue.{In}
use Rattle.run_laws.specs.Simulation.{Simulation}
use Rattle.run_laws.specs.Fronts.{IsWindow}
use Rattle.run_laws.specs.Handlers.{IsStation}
use Rattle.watch_points.specs.Branches.{Branch, Trigger, branch_named, branches_at, due_time, initial_branch}
use Rattle.watch_points.specs.Keeping.{HoldsAfter, HoldsBranches, option_at, outcome_at}
use Rattle.watch_points.specs.BranchLaws.{AreValidTriggers}

-- both are the same, or only the second is a branch, and its start is late
abbrev pub SameOrLate : (ℕ → Type 0) → Option Branch → Option Branch → Type 0
SameOrLate Late o p = (o ≡ p) ⊎ ((o ≡ None) × ((y : Branch) × (p ≡ Some y) × Late y.start))

module _ {S M N : Type 0} (sim : Simulation S M N) where
  -- at front 0 no trigger is due, so the script's clones hold the branches
  abbrev pub HoldsAtStart : Type 0
  HoldsAtStart = (ls : List Clone) (ws : List (Trigger N)) → HoldsBranches sim 0 ls ws ls (map (λ w. None) ws)

  -- before a pass the clones hold the branches of the front
  abbrev pub PassBegins : Type 0
  PassBegins = (front bound : ℕ) (ls : List Clone) (ws : List (Trigger N)) (cs : List Clone)
      (places : List (Option ℕ)) →
      HoldsBranches sim front ls ws cs places → HoldsAfter sim front bound ls ws 0 cs places

  -- after a pass through all triggers the clones hold the branches of the bound
  abbrev pub PassEnds : Type 0
  PassEnds = (front bound : ℕ) (ls : List Clone) (ws : List (Trigger N)) (cs : List Clone)
      (places : List (Option ℕ)) →
      HoldsAfter sim front bound ls ws (length ws) cs places → HoldsBranches sim bound ls ws cs places

  -- a pass from a front to a bound that has reached the trigger w at place i. The window had these clones, and the
  -- clones and places hold the branches so far
  pub record IsInPass (window_clones : List Clone) (front bound : ℕ) (ls : List Clone) (ws : List (Trigger N)) (i : ℕ)
      (w : Trigger N) (cs : List Clone) (places : List (Option ℕ)) : Type 0 where
    pub names : List (List ℕ)
    pub valid : AreValidTriggers sim names (map initial_branch ls) ws
    pub window : IsWindow sim window_clones front bound
    pub held : (x : Branch) → In x (branches_at sim front (map initial_branch ls) ws) → In x.clone window_clones
    pub trigger : slice_get ws i ≡ Some w
    pub so_far : HoldsAfter sim front bound ls ws i cs places

  -- the branch that the trigger w at place i watches, after the triggers before it, if it exists
  abbrev pub source_at : ℕ → List Clone → List (Trigger N) → ℕ → Trigger N → Option Branch
  source_at bound ls ws i w = branch_named w.who (branches_at sim bound (map initial_branch ls) (take i ws))

  -- this trigger fires: it has made no branch so far, is due at t, and its change comes before the horizon
  pub record Fires (bound : ℕ) (ls : List Clone) (ws : List (Trigger N)) (i : ℕ) (w : Trigger N)
      (places : List (Option ℕ)) (b : Branch) (t : ℕ) : Type 0 where
    pub is_source : source_at bound ls ws i w ≡ Some b
    pub no_place : option_at places i ≡ None
    pub is_due : due_time sim bound w b ≡ Some t
    pub in_time : t + sim.lookahead < sim.horizon

  -- one step of a pass, for this trigger
  pub record StepHolds (front bound : ℕ) (ls : List Clone) (ws : List (Trigger N)) (i : ℕ) (w : Trigger N)
      (cs : List Clone) (places : List (Option ℕ)) : Type 0 where
    -- the outcome is the same at front and bound, or it is new and its change comes at the bound or later
    pub outcome : SameOrLate (λ t. bound ≤ t) (outcome_at sim front ls ws i) (outcome_at sim bound ls ws i)
    -- a trigger that has made its branch changes nothing
    pub made : (k : ℕ) → option_at places i ≡ Some k → HoldsAfter sim front bound ls ws (i + 1) cs places
    -- nor does a trigger without a source
    pub absent : source_at bound ls ws i w ≡ None → option_at places i ≡ None →
        HoldsAfter sim front bound ls ws (i + 1) cs places
    -- nor one that is not due
    pub not_due : (b : Branch) → source_at bound ls ws i w ≡ Some b → option_at places i ≡ None →
        due_time sim bound w b ≡ None → HoldsAfter sim front bound ls ws (i + 1) cs places
    -- nor one whose change would come at the horizon or later
    pub past_horizon : (b : Branch) → source_at bound ls ws i w ≡ Some b → option_at places i ≡ None → (t : ℕ) →
        due_time sim bound w b ≡ Some t → sim.horizon ≤ t + sim.lookahead →
        HoldsAfter sim front bound ls ws (i + 1) cs places
    -- if the trigger fires, a fork of its source and a set make the branch, which is the last clone
    pub fires : (b : Branch) (t : ℕ) → Fires bound ls ws i w places b t → (k : ℕ) → clone_at cs k ≡ b.clone →
        HoldsAfter sim front bound ls ws (i + 1)
        (clones_with_plan (clones_with_fork cs w.new k) (length cs)
        (record { at = t + sim.lookahead; station = w.target; change = w.change }))
        (slice_set places i (Some (length cs)))
    -- that set is not late
    pub not_late : (b : Branch) (t : ℕ) → Fires bound ls ws i w places b t → bound ≤ t + sim.lookahead
    -- and is for a station
    pub is_station : IsStation sim w.target
    -- the fork has room, since the clones are fewer than the script's clones plus the triggers
    pub room : option_at places i ≡ None → length cs < length ls + length places
    -- and no clone has its name
    pub unused : option_at places i ≡ None → place_of w.new cs ≡ None

  -- each step of a pass holds the branches
  abbrev pub PassGoesOn : Type 0
  PassGoesOn = (window_clones : List Clone) (front bound : ℕ) (ls : List Clone) (ws : List (Trigger N)) (i : ℕ)
      (w : Trigger N) (cs : List Clone) (places : List (Option ℕ)) →
      IsInPass window_clones front bound ls ws i w cs places → StepHolds front bound ls ws i w cs places
