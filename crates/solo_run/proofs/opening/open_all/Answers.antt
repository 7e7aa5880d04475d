use Rattle.std.proofs.Common.{ap, ◌∙◌}
use Rattle.solo_run.proofs.Starting.{opening_states-push, first_more}
use Rattle.solo_run.proofs.opening.open_all.Goals as goal

pub loop-s-preserved : goal.loop-s-preserved
loop-s-preserved c =
    let inv = c.loop-s.invariant in
    let net = c.args.model.now in
    let s = c.in_ok-state.ensures in
    record {
      opened = rw c.in_ok-push.ensures.items
          (opening_states-push net c.loop-s.s c.loop-s.states.items c.in_ok-state.state inv.opened
          (ap (λ o. o.state) s.opened) s.fits s.suits);
      first = c.in_ok-put_first.ensures.ok ∙ first_more net c.loop-s.s _ _ c.in_ok-state.first inv.first
          (ap (λ o. o.first) s.opened);
    }
