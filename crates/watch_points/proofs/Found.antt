-- The branch that a trigger watches, and how far the trigger has come, from a window's front to its bound.
use Rattle.std.proofs.Common.{◌≡◌, ℕ, ◌<◌, ◌≤◌, List, [], ◌∷◌, Option, Some, inl, inr, sym, ap, ◌∙◌}
use Rattle.std.proofs.Common.{arith}
use Rattle.std.proofs.Common.{map, take}
use Rattle.std.specs.Prelude.{slice_get}
use Rattle.sim_base.specs.Clones.{Clone, clone_at, place_of}
use Rattle.run_laws.specs.Queue.{In}
use Rattle.run_laws.specs.Simulation.{Simulation}
use Rattle.run_laws.specs.Handlers.{AreForStations}
use Rattle.watch_points.specs.Branches.{Branch, Trigger, initial_branch, branch_named, branches_at, due_time}
use Rattle.watch_points.specs.Branches.{HaveNewNames}
use Rattle.watch_points.specs.Keeping.{outcome_at}
use Rattle.watch_points.specs.BranchLaws.{DueAtFront}
use Rattle.watch_points.specs.PassLaws.{SameOrLate, source_at}
use Rattle.watch_points.proofs.BranchSources.{branch_named-script, branch_named-outcome}
use Rattle.watch_points.proofs.BranchSteps.{branch_named-branches_at}
use Rattle.watch_points.proofs.Seen.{time_before-some}

-- a clone of the first branches has one of the clones' names
pub initial_branch-name : (ls : List Clone) (x : Branch) → In x (map initial_branch ls) →
    In x.clone.name (map (λ (c : Clone). c.name) ls)
initial_branch-name [] x i = absurd i
initial_branch-name (c ∷ ls) x (inl e) = inl (ap (λ (b : Branch). b.clone.name) e)
initial_branch-name (c ∷ ls) x (inr i) = inr (initial_branch-name ls x i)

module _ {S M N : Type 0} (sim : Simulation S M N) (ls : List Clone) (ws : List (Trigger N)) where
  -- ---- source_at

  -- a clone of the script is the source at every front
  pub source_at-script : (front i k : ℕ) (w : Trigger N) → place_of w.who ls ≡ Some k →
      source_at sim front ls ws i w ≡ Some (initial_branch (clone_at ls k))
  source_at-script front i k w e = branch_named-branches_at sim front (map initial_branch ls) (take i ws) w.who
      (initial_branch (clone_at ls k)) (branch_named-script w.who ls k e)

  -- the branch of an earlier trigger is the source if it was made
  pub source_at-earlier : (front i j : ℕ) (w v : Trigger N) → HaveNewNames (map (λ (c : Clone). c.name) ls) ws →
      j < i → slice_get ws j ≡ Some v → v.new ≡ w.who →
      source_at sim front ls ws i w ≡ outcome_at sim front ls ws j
  source_at-earlier front i j w v fresh l e is =
      ap (λ n. branch_named n (branches_at sim front (map initial_branch ls) (take i ws))) (sym is)
      ∙ branch_named-outcome sim front (map (λ (c : Clone). c.name) ls) (map initial_branch ls) ws i j v
      (initial_branch-name ls) fresh l e

-- an outcome that was there is still there
pub outcome-stays : (Late : ℕ → Type 0) (o p : Option Branch) (b : Branch) → SameOrLate Late o p → o ≡ Some b →
    p ≡ Some b
outcome-stays Late o p b (inl same) e = sym same ∙ e
outcome-stays Late o p b (inr now) e = let none = now.0 in let never : ⊥ = cc in absurd never

module _ {S M N : Type 0} (sim : Simulation S M N) (known : DueAtFront sim) (w : Trigger N) (b : Branch)
    (there : AreForStations sim b.clone.plans) where
  -- ---- due_time

  -- a due time is before the front at which it is known
  pub due_time-below : (front t : ℕ) → due_time sim front w b ≡ Some t → t < front
  due_time-below front t e =
      (time_before-some front t (due_time sim front w b)
      (sym e ∙ known w.condition b.clone w.station b.start front front there (omega arith))).1

  -- and it stays
  pub due_time-stays : (front bound t : ℕ) → front ≤ bound → due_time sim front w b ≡ Some t →
      due_time sim bound w b ≡ Some t
  due_time-stays front bound t l e =
      (time_before-some front t (due_time sim bound w b)
      (sym e ∙ known w.condition b.clone w.station b.start front bound there l)).0
