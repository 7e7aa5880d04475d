use Rattle.std.proofs.Common.{◌∙◌, arith}
use Rattle.log_chain.proofs.Walks.{walk_from_segment}
use Rattle.log_chain.proofs.walk.from_segment.Goals as goal

pub returns-then-left-packed : goal.returns-then-left-packed
returns-then-left-packed c = record {
  value = walk_from_segment c.entries.result.1.now c.entries.result.0.now c.args.segments.now
      c.index-segments-i.result _ c.loop-i.i c.loop-i.left c.args.at
      (omega arith) c.index-segments-i.is (c.entries.ensures.value ∙ c.deref.ensures)
      (omega (arith, c.if-left-packed.true)) c.loop-i.invariant;
}
