use Rattle.std.proofs.Common.{◌≡◌, ◌+◌, length, ap, arith, length-append}
use Rattle.sim_base.specs.Blocks.{of_blocks}
use Rattle.log_chain.specs.declared.log.TheConstants.{MAX_SEGMENTS}
use Rattle.log_chain.specs.Segments.{entries_in}
use Rattle.log_chain.proofs.Chains.{halving-few, power_below}
use Rattle.log_chain.proofs.log.Log.segments.Goals as goal

pub returns-clause-many : goal.returns-clause-many
returns-clause-many c =
    let l = c.self.inside in
    let count : c.len.result ≡ length l.segments.items = omega (arith, c.len.ensures, l.segments.ok.0) in
    rw count (omega (
      arith,
      halving-few l.segments.items c.self.invariant.halving,
      ap length c.self.view_is,
      length-append (entries_in l.segments.items) (of_blocks l.blocks.items),
    ))

pub overflow_cast-result : goal.overflow_cast-result
overflow_cast-result c =
    let l = c.self.inside in
    let less = power_below c.len.result 59 _ (returns-clause-many c)
    (omega (
      arith,
      c.self.invariant.count,
      c.self.invariant.tail,
      c.self.invariant.most,
      ap length c.self.view_is,
      length-append (entries_in l.segments.items) (of_blocks l.blocks.items),
    )) in
    omega (arith, less)

pub returns-clause-at_most : goal.returns-clause-at_most
returns-clause-at_most c short =
    let less = power_below c.len.result (MAX_SEGMENTS + 1) _ (returns-clause-many c) (omega (arith, short)) in
    omega (arith, less)
