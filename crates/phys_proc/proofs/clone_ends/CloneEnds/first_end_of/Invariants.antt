use Rattle.std.proofs.Common.{◌≡◌, ℕ, ◌≤◌, min, drop, true}
use Rattle.clone_sets.specs.Sets.{has}
use Rattle.phys_proc.specs.Ends.{ends_in}
use Rattle.phys_proc.proofs.clone_ends.CloneEnds.first_end_of.Given as goal

abbrev pub invariant-loop-i : goal.invariant-loop-i
invariant-loop-i l = (horizon c : ℕ) → has l.set c ≡ true
    → min (min horizon l.first) (ends_in horizon (drop l.i l.self-inside.ended.items) c) ≤ ends_in horizon l.self c
