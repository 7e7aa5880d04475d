use Rattle.std.proofs.Common.{ap, arith, ◌<◌, subst, sym}
use Rattle.decision_desk.proofs.Comings.{waits_with_ticket, has_turn}
use Rattle.decision_desk.proofs.pass.come_to_turn.Goals as goal

pub draw_ticket-ticket-requires-clause-rest : goal.draw_ticket-ticket-requires-clause-rest
draw_ticket-ticket-requires-clause-rest g c =
    let r = c.requires.rest in
    (ap (λ m. m.0.waits) r, ap (λ m. m.0.turn) r, subst (λ n. 0 < n) (sym (ap (λ m. m.0.parts) r)) (omega arith))

pub wait_turn-requires-clause-waits : goal.wait_turn-requires-clause-waits
wait_turn-requires-clause-waits g c =
    let w = c.draw_ticket-ticket.ensures.waits in
    let e = waits_with_ticket _ _ _ w.0 c.requires.rest w.2 in
    (ap (λ m. m.0.waits) e, ap (λ m. m.0.turn) e, subst (λ n. 0 < n) (sym (ap (λ m. m.0.parts) e)) (omega arith))

pub returns-clause-turn : goal.returns-clause-turn
returns-clause-turn g c =
    let w = c.draw_ticket-ticket.ensures.waits in
    let t = c.wait_turn.ensures.turn in
    (t.0, has_turn _ _ _ _ w.0 t.0 c.requires.rest w.2 t.1 t.2 t.4 t.5 t.6)
