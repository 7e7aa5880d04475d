use Rattle.std.proofs.Common.{sym, ◌∙◌, subst, IsOk, true≢false}
use Rattle.decision_desk.proofs.Comings.{places_left}
use Rattle.decision_desk.proofs.desk.Desk.decide.Goals as goal

pub unreachable-requires : goal.unreachable-requires
unreachable-requires g c =
    let t = c.decide_in_turn-receipt.ensures.turn in
    let places = places_left _ _ _ _ _ c.args.d c.decide_in_turn-receipt.result t.0 c.pass.invariant t.1
    (sym c.is_some.ensures ∙ c.if-is_some.true) in
    true≢false (sym (subst (λ r. IsOk r) c.in_default.is (c.push.ensures.reserved places)))
