use Rattle.std.proofs.Common.{◌≡◌, take}
use Rattle.phys_proc.specs.Own.{handled_alone_by}
use Rattle.world_core.proofs.looking.alone_in.Given as goal

abbrev pub invariant-loop-copy : goal.invariant-loop-copy
invariant-loop-copy l = l.sum ≡ handled_alone_by (take l.copy-index l.copies)
