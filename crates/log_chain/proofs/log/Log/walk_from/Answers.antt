use Rattle.std.proofs.Common.{◌-◌, drop, sym, ap, ◌∙◌, arith}
use Rattle.sim_base.specs.Blocks.{of_blocks}
use Rattle.log_chain.specs.Segments.{entries_in}
use Rattle.log_chain.proofs.Walks.{drop-behind}
use Rattle.log_chain.proofs.log.Log.walk_from.Goals as goal

pub returns-else-at-self : goal.returns-else-at-self
returns-else-at-self c =
    let l = c.self.inside in
    let at = c.args.at in
    let behind = drop-behind (entries_in l.segments.items) (of_blocks l.blocks.items) at (at - l.shared)
    (omega (arith, c.self.invariant.count, c.if-at-self.false)) in
    record {
      value = c.from_block.ensures.value
          ∙ (ap (λ bs. drop (at - l.shared) (of_blocks bs)) c.as_slice-blocks.ensures.value
          ∙ (sym behind ∙ ap (drop at) c.self.view_is));
    }
