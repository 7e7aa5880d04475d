use Rattle.std.proofs.Common.{◌≡◌, map, take}
use Rattle.phys_proc.specs.Racks.{view_of_copy}
use Rattle.phys_proc.proofs.copies.see_all.Given as goal

abbrev pub invariant-loop-i : goal.invariant-loop-i
invariant-loop-i l = record {
  same : l.copies.items ≡ l.fn.copies.items;
  seen : l.all.items ≡ map view_of_copy (take l.i l.fn.copies.items);
}
