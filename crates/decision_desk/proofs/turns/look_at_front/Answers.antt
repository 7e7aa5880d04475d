use Rattle.std.proofs.Common.{arith}
use Rattle.decision_desk.proofs.Restings.{Allows-look}
use Rattle.decision_desk.proofs.turns.look_at_front.Goals as goal

pub load-requires : goal.load-requires
load-requires c =
    let m = c.args.seat.now.me in
    let a = c.requires.account in (
      c.requires.table.table,
      omega (arith, c.requires.table.sized.words),
      Allows-look _ _ m c.requires.rest.0 c.requires.rest.1 c.requires.rest.2 c.requires.pass a.0 a.1,
    )
