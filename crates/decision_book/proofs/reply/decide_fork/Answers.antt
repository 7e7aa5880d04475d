use Rattle.std.proofs.Common.{◌≡◌, arith, rules, false, true}
use Rattle.decision_book.proofs.Planned.{planned_at, planned_forked}
use Rattle.decision_book.proofs.reply.decide_fork.Goals as goal

pub returns-in_err-fork-clause-reserved : goal.returns-in_err-fork-clause-reserved
returns-in_err-fork-clause-reserved c room =
    let one = planned_at c.args.model.now c.args.lists.now.clones c.args.clone c.requires.planned.each in
    let forked : false ≡ true = c.in_err-fork.ensures.reserved
    (omega (arith, c.if-len-ge-MAX_CLONES.false, c.len.ensures.value, room.reserved_clones))
    (omega (arith, one.length_max, room.reserved_plans)) in
    absurd cc

pub returns-clause-reply : goal.returns-clause-reply
returns-clause-reply c = record {
  reply_is = search rules;
  lists_are = search rules;
  planned = rw c.in_ok-fork.ensures.ok
      (planned_forked c.args.model.now c.args.lists.now.clones c.args.new c.args.clone c.requires.planned
      (omega (arith, c.if-len-ge-MAX_CLONES.false, c.len.ensures.value)));
}
