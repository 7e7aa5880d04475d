use Rattle.std.proofs.Common.{arith}
use Rattle.crew_pool.proofs.Moves.{IsMailbox-opens}
use Rattle.crew_pool.proofs.steps.take_slot.Goals as goal

pub load-requires : goal.load-requires
load-requires g c = (
  c.requires.table.0,
  omega (arith, c.requires.table.1),
  IsMailbox-opens g.E.Errand.answers _ _ c.args.seat.now.me c.requires.fresh,
)
