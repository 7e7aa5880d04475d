use Rattle.std.proofs.Common.{ap, ◌∙◌, arith}
use Rattle.sim_base.proofs.Halving.{halve_first, halve_later}
use Rattle.sim_base.proofs.pending.blocks.halve.Goals as goal
use Rattle.sim_base.proofs.pending.blocks.halve.Goals.{then-at-eq0+in_ok-half, else-at-eq0+in_ok-half-2}

pub returns-clause-ok : goal.returns-clause-ok
returns-clause-ok g c =
    elim c.if-at-eq0.branch [
      | then-at-eq0+in_ok-half w ↦
          halve_first c.args.at c.args.first.now c.if-at-eq0.first c.if-at-eq0.half c.args.later.now.items
          c.if-at-eq0.later.items _ w.if-at-eq0.true
          (w.first-is ∙ w.in_ok-half.ensures.rest) (w.half-is ∙ w.in_ok-half.ensures.ok)
          (ap (λ q. q.items) w.later-is ∙ c.reserve.ensures.items) c.in-Ok.ensures.items
      | else-at-eq0+in_ok-half-2 w ↦
          halve_later c.args.at c.args.first.now c.if-at-eq0.first w.split_off-else-at-eq0.new.self c.if-at-eq0.half
          w.index_mut.result.now c.args.later.now.items c.if-at-eq0.later.items _ (omega arith)
          c.requires.within (rw (← c.reserve.ensures.items) w.index_mut.ensures.value) w.first-is
          w.in_ok-half-2.ensures.rest (w.half-is ∙ w.in_ok-half-2.ensures.ok)
          (rw (← c.reserve.ensures.items) (ap (λ q. q.items) w.later-is)) c.in-Ok.ensures.items
    ]
