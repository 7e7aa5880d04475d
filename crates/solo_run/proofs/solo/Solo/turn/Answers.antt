use Rattle.std.proofs.Common.{subst, sym}
use Rattle.solo_run.specs.EventLists.{all_messages}
use Rattle.solo_run.specs.SoloView.{SoloView, IsSoloAfter, with_due}
use Rattle.solo_run.specs.Turns.{HasTurned}
use Rattle.solo_run.proofs.OneTurn.{is_solo, has_turned, solo_view}
use Rattle.solo_run.proofs.solo.Solo.turn.Goals as goal

pub handle_at-requires-clause-suits : goal.handle_at-requires-clause-suits
handle_at-requires-clause-suits g c i st is =
    let solo = subst (λ (w : SoloView). IsSoloAfter c.args.model.now g.past (with_due c.args.msg.now w))
    (sym c.self.view_is) c.requires.1.0 in
    (solo.states i st is).suits

pub handle_at-requires-clause-numbers : goal.handle_at-requires-clause-numbers
handle_at-requires-clause-numbers g c i st is =
    let solo = subst (λ (w : SoloView). IsSoloAfter c.args.model.now g.past (with_due c.args.msg.now w))
    (sym c.self.view_is) c.requires.1.0 in
    (solo.states i st is).station

pub returns-clause-turned : goal.returns-clause-turned
returns-clause-turned g c =
    let net = c.args.model.now in
    let m = c.args.msg.now in
    let v = solo_view c.self.inside.states.items c.self.inside.trace c.self.inside.pending in
    let solo = subst (λ (w : SoloView). IsSoloAfter net g.past (with_due m w)) (sym c.self.view_is) c.requires.1.0 in
    let new = solo_view c.handle_at.new.states.items c.push.new.self c.put_all.new.pending in
    subst (λ (w : SoloView). HasTurned net w m new) c.self.view_is
    (rw c.in-Ok-push.ensures.ok
    (has_turned net solo.valid g.past v m c.handle_at.new.states.items (all_messages c.put_all.new.pending) _ _
    c.requires.1.1 solo c.in_ok-line.ensures.ok (rw c.as_slice.ensures.value at c.in-Ok.ensures.ok)))

pub returns-clause-solo : goal.returns-clause-solo
returns-clause-solo g c =
    let net = c.args.model.now in
    let m = c.args.msg.now in
    let v = solo_view c.self.inside.states.items c.self.inside.trace c.self.inside.pending in
    let solo = subst (λ (w : SoloView). IsSoloAfter net g.past (with_due m w)) (sym c.self.view_is) c.requires.1.0 in
    rw c.in-Ok-push.ensures.ok
    (is_solo net solo.valid g.past v m c.handle_at.new.states.items (all_messages c.put_all.new.pending) _ _
    c.requires.1.1 solo c.in_ok-line.ensures.ok (rw c.as_slice.ensures.value at c.in-Ok.ensures.ok))
