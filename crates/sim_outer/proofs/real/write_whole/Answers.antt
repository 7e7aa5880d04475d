use Rattle.std.proofs.Common.{rules}
use Rattle.sim_outer.proofs.Writing.{Appends-more}
use Rattle.sim_outer.proofs.real.write_whole.Goals as goal

pub loop-done-preserved : goal.loop-done-preserved
loop-done-preserved g c = record {
  prefix = Appends-more _ _ _ _ _ _ c.loop-done.invariant.prefix c.in-Ok.ensures.bytes;
  within = search rules;
}
