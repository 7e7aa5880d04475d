use Rattle.std.proofs.Common.{arith}
use Rattle.decision_desk.proofs.Turnings.{Allows-raise_front}
use Rattle.decision_desk.proofs.turns.raise_front.Goals as goal

pub store-requires : goal.store-requires
store-requires c = (
  c.requires.table.table,
  omega (arith, c.requires.table.sized.words),
  Allows-raise_front c.args.front _ _ c.args.seat.now.me c.requires.turn.0 c.requires.turn.1 c.requires.above,
)
