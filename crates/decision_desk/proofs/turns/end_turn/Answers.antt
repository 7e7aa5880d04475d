use Rattle.std.proofs.Common.{arith}
use Rattle.decision_desk.proofs.Turnings.{Allows-leave}
use Rattle.decision_desk.proofs.turns.end_turn.Goals as goal

pub fetch_add-requires : goal.fetch_add-requires
fetch_add-requires c = (
  c.requires.table.table,
  omega (arith, c.requires.table.sized.words),
  rw c.requires.may_end.home
      (Allows-leave _ _ c.args.seat.now.me.0 c.requires.may_end.part c.requires.may_end.turn),
)
