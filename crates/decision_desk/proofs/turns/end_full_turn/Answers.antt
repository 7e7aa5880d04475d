use Rattle.std.proofs.Common.{arith}
use Rattle.decision_desk.proofs.Restings.{Allows-leave_full}
use Rattle.decision_desk.proofs.turns.end_full_turn.Goals as goal

pub fetch_add-requires : goal.fetch_add-requires
fetch_add-requires c =
    let a = c.requires.account in (
      c.requires.table.table,
      omega (arith, c.requires.table.sized.words),
      rw c.requires.may_end.home (Allows-leave_full _ _ c.args.seat.now.me.0 c.requires.may_end.part
          c.requires.may_end.turn a.0 a.1 c.requires.full),
    )
