use Rattle.std.proofs.Common.{arith}
use Rattle.decision_desk.proofs.Turnings.{Allows-serve}
use Rattle.decision_desk.proofs.turns.is_served.Goals as goal

pub load-requires : goal.load-requires
load-requires c = (
  c.requires.table.table,
  omega (arith, c.requires.table.sized.words),
  Allows-serve _ _ c.args.seat.now.me c.requires.waits.2 c.requires.waits.0 c.requires.waits.1,
)
