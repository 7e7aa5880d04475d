use Rattle.std.proofs.Common.{◌-◌, arith}
use Rattle.station_steps.proofs.Delivering.{AllDelivered-none, AllDelivered-one}
use Rattle.station_steps.proofs.delivery.deliver_packed_to.Goals.{else-to-ge1-via-then-to-ge1+else-to-len}
use Rattle.station_steps.proofs.delivery.deliver_packed_to.Goals.{else-to-ge1-via-else-to-ge1}
use Rattle.station_steps.proofs.delivery.deliver_packed_to.Goals as goal

pub returns-in_ok-deliver_packed : goal.returns-in_ok-deliver_packed
returns-in_ok-deliver_packed c =
    let to = c.to-to.ensures.value in
    let one = c.if-to-ge1.true in
    let few = c.if-to-len.true in
    let many = c.len.ensures in
    let d = c.in_ok-deliver_packed.ensures in
    record {
      given = AllDelivered-one c.args.msg c.args.set c.args.procs.now.items (c.to-to.result - 1) c.index_mut.result.now
          c.deliver_packed.new.self
          (omega (arith, one, few, many)) (omega (arith, one, to)) c.index_mut.ensures.value d.given d.station d.living
          d.handled d.proc;
    }

pub returns-else-to-ge1 : goal.returns-else-to-ge1
returns-else-to-ge1 c = elim c.else-to-ge1.branch [
  | else-to-ge1-via-then-to-ge1+else-to-len w ↦
      let few = w.if-to-len.false in
      let many = w.len.ensures in
      record {
        given = AllDelivered-none c.args.msg c.args.set c.args.procs.now.items
            (λ i l e. let to = c.to-to.ensures.value in omega (arith, l, e, few, many, to));
      }
  | else-to-ge1-via-else-to-ge1 w ↦
      let none = w.if-to-ge1.false in
      record {
        given = AllDelivered-none c.args.msg c.args.set c.args.procs.now.items
            (λ i l e. let to = c.to-to.ensures.value in omega (arith, e, none, to));
      }
]
