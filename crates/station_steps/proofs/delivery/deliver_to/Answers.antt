use Rattle.std.proofs.Common.{◌-◌, arith}
use Rattle.station_steps.proofs.Delivering.{AllDelivered-none, AllDelivered-one}
use Rattle.station_steps.proofs.delivery.deliver_to.Goals.{else-msg-ge1-via-then-msg-ge1+else-msg-len}
use Rattle.station_steps.proofs.delivery.deliver_to.Goals.{else-msg-ge1-via-else-msg-ge1}
use Rattle.station_steps.proofs.delivery.deliver_to.Goals as goal

pub returns-in_ok-deliver_at_once : goal.returns-in_ok-deliver_at_once
returns-in_ok-deliver_at_once c =
    let one = c.if-msg-ge1.true in
    let few = c.if-msg-len.true in
    let many = c.len.ensures in
    let d = c.in_ok-deliver_at_once.ensures in
    record {
      given = AllDelivered-one c.args.msg c.args.set c.args.procs.now.items (c.args.msg.to - 1) c.index_mut.result.now
          c.deliver_at_once.new.self
          (omega (arith, one, few, many)) (omega (arith, one)) c.index_mut.ensures.value d.given d.station d.living
          d.handled d.proc;
    }

pub returns-else-msg-ge1 : goal.returns-else-msg-ge1
returns-else-msg-ge1 c = elim c.else-msg-ge1.branch [
  | else-msg-ge1-via-then-msg-ge1+else-msg-len w ↦
      let few = w.if-msg-len.false in
      let many = w.len.ensures in
      record {
        given = AllDelivered-none c.args.msg c.args.set c.args.procs.now.items
            (λ i l e. omega (arith, l, e, few, many));
      }
  | else-msg-ge1-via-else-msg-ge1 w ↦
      let none = w.if-msg-ge1.false in
      record {
        given = AllDelivered-none c.args.msg c.args.set c.args.procs.now.items
            (λ i l e. omega (arith, e, none));
      }
]
