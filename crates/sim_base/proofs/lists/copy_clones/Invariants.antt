use Rattle.std.proofs.Common.{◌≡◌, map, take}
use Rattle.sim_base.specs.CloneListViews.{clone_of}
use Rattle.sim_base.proofs.lists.copy_clones.Given as goal

abbrev pub invariant-loop-clone : goal.invariant-loop-clone
invariant-loop-clone l = map clone_of l.copies.items ≡ map clone_of (take l.clone-index l.clones)
