use Rattle.std.proofs.Common.{arith}
use Rattle.decision_desk.proofs.Turnings.{Allows-raise_count}
use Rattle.decision_desk.proofs.turns.raise_count.Goals as goal

pub fetch_add-requires : goal.fetch_add-requires
fetch_add-requires g c =
    let a = c.requires.account in (
      c.requires.table.table,
      omega (arith, c.requires.table.sized.words),
      Allows-raise_count g.E.AddedCall.calls a.0 c.args.call.now _ _ c.args.seat.now.me c.requires.calls a.1 a.2
          c.requires.turn.0 c.requires.turn.1,
    )

pub returns-clause-count : goal.returns-clause-count
returns-clause-count g c = let a = c.requires.account in
    (c.fetch_add.ensures.2 a.0 c.args.call.now c.requires.calls a.1).0

pub returns-clause-call : goal.returns-clause-call
returns-clause-call g c a is = (c.fetch_add.ensures.2 a c.args.call.now c.requires.calls is).1
