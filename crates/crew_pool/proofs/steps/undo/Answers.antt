use Rattle.std.proofs.Common.{arith, ◌∙◌}
use Rattle.crew_pool.proofs.Moves.{IsMailbox-undoes}
use Rattle.crew_pool.proofs.SeatsAfterSteps.{has_slot, HasUndone-hit}
use Rattle.crew_pool.proofs.steps.undo.Goals as goal

pub compare_exchange-requires : goal.compare_exchange-requires
compare_exchange-requires g c = (
  c.requires.table.0,
  omega (arith, c.requires.table.1),
  IsMailbox-undoes g.E.Errand.answers c.requires.sent.0 _ _ c.args.seat.now.me c.requires.sent.1,
)

pub exchange-requires : goal.exchange-requires
exchange-requires g c =
    let told = HasUndone-hit c.args.seat.now.me _ _ c.requires.sent.0 c.requires.sent.1 c.compare_exchange.ensures.2
    c.if-compare_exchange-eq-WAITS.true in
    (c.compare_exchange.ensures.0 ∙ c.requires.table.0, has_slot _ _ _ told)
