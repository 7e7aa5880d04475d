use Rattle.std.proofs.Common.{◌≡◌, ℕ, ◌||◌, drop}
use Rattle.clone_sets.specs.Sets.{has}
use Rattle.phys_proc.specs.Ends.{has_ended}
use Rattle.phys_proc.proofs.clone_ends.CloneEnds.ended_clones.Given as goal

abbrev pub invariant-loop-i : goal.invariant-loop-i
invariant-loop-i l = (c : ℕ) → (has l.clones c || has_ended l.time (drop l.i l.self-inside.ended.items) c)
    ≡ has_ended l.time l.self c
