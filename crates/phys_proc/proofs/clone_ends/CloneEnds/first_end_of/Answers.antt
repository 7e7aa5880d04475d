use Rattle.std.proofs.Common.{arith}
use Rattle.phys_proc.proofs.Ends.{number_below}
use Rattle.phys_proc.proofs.clone_ends.CloneEnds.first_end_of.Goals as goal

pub has-requires : goal.has-requires
has-requires c = number_below c.self.inside.ended.items c.loop-i.i c.index.result.now c.self.invariant
    (omega (arith, c.loop-i-test.true, c.loop-i.auto.i-end, c.len-i-end.ensures, c.self.inside.ended.ok.0))
    c.index.ensures
