use Rattle.std.proofs.Common.{◌≡◌, length}
use Rattle.world_core.specs.Opening.{AreFirst}
use Rattle.world_core.proofs.world.open_all.Given as goal

abbrev pub invariant-loop-s : goal.invariant-loop-s
invariant-loop-s l = record {
  count : length l.procs.items ≡ l.s;
  first : AreFirst l.model l.procs.items;
}
