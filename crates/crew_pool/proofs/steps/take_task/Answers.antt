use Rattle.std.proofs.Common.{arith, ◌∙◌}
use Rattle.crew_pool.proofs.Moves.{IsMailbox-takes}
use Rattle.crew_pool.proofs.SeatsAfterSteps.{has_slot, HasTaken-hit}
use Rattle.crew_pool.proofs.steps.take_task.Goals as goal

pub compare_exchange-requires : goal.compare_exchange-requires
compare_exchange-requires g c = (
  c.requires.table.0,
  omega (arith, c.requires.table.1),
  IsMailbox-takes g.E.Errand.answers _ _ c.args.seat.now.me c.requires.idle,
)

pub exchange-requires : goal.exchange-requires
exchange-requires g c =
    let told = HasTaken-hit c.args.seat.now.me _ _ c.requires.idle c.compare_exchange.ensures.2
    c.if-compare_exchange-eq-WAITS.true in
    (c.compare_exchange.ensures.0 ∙ c.requires.table.0, has_slot _ _ _ told.1)
