use Rattle.std.proofs.Common.{◌≡◌, ◌≤◌, length, []}
use Rattle.std.specs.List.{AllByRecursion}
use Rattle.sim_base.proofs.lists.spare_lists.Given as goal

abbrev pub invariant-loop : goal.invariant-loop
invariant-loop l = record {
  spare : AllByRecursion (λ s. (s.items ≡ []) × (l.reserved ≤ s.reserved)) l.spare.items;
  count : length l.spare.items ≡ l.counter;
}
