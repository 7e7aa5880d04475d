use Rattle.std.proofs.Common.{◌<◌, arith, sym, ap, length, rules}
use Rattle.decision_book.proofs.Planned.{planned_added, plan_taken}
use Rattle.decision_book.proofs.reply.decide_set.Goals as goal

pub returns-in_ok-add-clause-reply : goal.returns-in_ok-add-clause-reply
returns-in_ok-add-clause-reply c =
    let early : c.args.at < c.args.model.now.horizon = search (rules) in
    record {
      reply_is = search rules;
      lists_are = search rules;
      planned = rw c.in_ok-add.ensures.ok (planned_added c.args.model.now c.args.lists.now.clones c.args.clone _
          c.requires.planned (omega (arith, c.if-list.false, ap length c.list.ensures.value))
          (plan_taken c.args.model.now c.args.at c.in-Some.s c.args.station.now c.args.change.now _
          (sym c.in-Some.ensures.value) c.in-Some.ensures.in_range (sym c.in-Ok.ensures) early));
    }
