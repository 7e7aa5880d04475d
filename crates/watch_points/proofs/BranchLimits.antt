-- The clones of a world on the way to the horizon, and the clones of the whole run.
use Rattle.std.proofs.Common.{ℕ, ◌≤◌, List, map, length, subst, sym, Option}
use Rattle.sim_base.specs.Clones.{Clone}
use Rattle.run_laws.specs.Queue.{In}
use Rattle.run_laws.specs.Simulation.{Simulation}
use Rattle.run_laws.proofs.Counts.{in_map, map_has}
use Rattle.watch_points.specs.Branches.{Branch, Trigger, initial_branch, clones_with_branches, branches_at}
use Rattle.watch_points.specs.Keeping.{HoldsBranches, trigger_order}
use Rattle.run_laws.specs.Orders.{in_order}
use Rattle.watch_points.specs.BranchLaws.{DueAtFront, AreValidTriggers}
use Rattle.watch_points.proofs.Keeping.{clones_in_trigger_order}
use Rattle.run_laws.proofs.Orders.{in_permuted, in_order-permutation}
use Rattle.watch_points.proofs.HeldBranches.{branches_stay}

module _ {S M N : Type 0} (sim : Simulation S M N) where
  -- a clone that a world holds at a front is one of the clones of the whole run
  pub held_clones_stay : DueAtFront sim → (names : List (List ℕ)) (front : ℕ) (ls : List Clone) (ws : List (Trigger N))
      (cs : List Clone) (places : List (Option ℕ)) → AreValidTriggers sim names (map initial_branch ls) ws →
      front ≤ sim.horizon → HoldsBranches sim front ls ws cs places → (c : Clone) → In c cs →
      In c (clones_with_branches sim ls ws)
  held_clones_stay known names front ls ws cs places valid l k c i =
      let there : In c (map (λ (b : Branch). b.clone) (branches_at sim front (map initial_branch ls) ws)) =
      subst (In c) (clones_in_trigger_order sim front ls ws cs places k)
      (in_permuted cs (in_order cs (trigger_order (length ls) places)) c
      (in_order-permutation cs (trigger_order (length ls) places) k.order) i) in
      let b = in_map (λ (b : Branch). b.clone) (branches_at sim front (map initial_branch ls) ws) c there in
      subst (λ x. In x (clones_with_branches sim ls ws)) (sym b.2)
      (map_has (λ (b : Branch). b.clone) (branches_at sim sim.horizon (map initial_branch ls) ws) b.0
      (branches_stay known names (map initial_branch ls) ws front sim.horizon valid l b.0 b.1))
