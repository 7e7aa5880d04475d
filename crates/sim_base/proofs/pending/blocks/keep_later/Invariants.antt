use Rattle.sim_base.proofs.Rotating.{HasRotated}
use Rattle.sim_base.proofs.pending.blocks.keep_later.Given as goal

abbrev pub invariant-loop : goal.invariant-loop
invariant-loop g l = HasRotated g.S.Marks.common l.by l.fn.later.items l.later.items l.counter
