use Rattle.std.proofs.Common.{◌≡◌, map}
use Rattle.std.specs.List.{AllZip}
use Rattle.phys_proc.specs.Own.{with_message, but_pending, IsLowerBound}
use Rattle.phys_proc.proofs.Delivery.{map_first, rest_after}
use Rattle.phys_proc.proofs.copies.deliver_in_order.Given as goal

abbrev pub invariant-loop-i : goal.invariant-loop-i
invariant-loop-i l = record {
  given : l.copies.items ≡ map_first (with_message l.msg l.set) l.i l.fn.copies.items;
  same : map but_pending l.copies.items ≡ map but_pending l.fn.copies.items;
  each : AllZip IsLowerBound l.bounds.items l.copies.items;
  rest : l.rest ≡ rest_after l.set l.fn.copies.items l.i;
}
