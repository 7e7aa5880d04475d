use Rattle.std.proofs.Common.{arith}
use Rattle.decision_desk.proofs.Turnings.{Allows-draw}
use Rattle.decision_desk.proofs.turns.draw_ticket.Goals as goal

pub fetch_add-requires : goal.fetch_add-requires
fetch_add-requires c = (
  c.requires.table.table,
  omega (arith, c.requires.table.sized.words),
  Allows-draw _ _ c.args.seat.now.me c.requires.rest.0 c.requires.rest.1 c.requires.rest.2,
)
