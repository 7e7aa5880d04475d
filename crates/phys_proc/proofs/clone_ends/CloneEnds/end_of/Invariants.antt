use Rattle.std.proofs.Common.{◌≡◌, ◌≤◌, min, drop}
use Rattle.phys_proc.specs.Ends.{ends_in}
use Rattle.phys_proc.proofs.clone_ends.CloneEnds.end_of.Given as goal

abbrev pub invariant-loop-i : goal.invariant-loop-i
invariant-loop-i l = record {
  so_far : min l.end (ends_in l.horizon (drop l.i l.self-inside.ended.items) l.clone)
      ≡ ends_in l.horizon l.self l.clone;
  horizon_max : l.end ≤ l.horizon;
}
