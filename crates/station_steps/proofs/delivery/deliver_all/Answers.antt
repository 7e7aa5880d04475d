use Rattle.std.proofs.Common.{sym, subst}
use Rattle.station_steps.specs.Windows.{AllDelivered}
use Rattle.station_steps.proofs.Delivering.{AllDelivered-append, AreStationsInOrder-delivered}
use Rattle.station_steps.proofs.delivery.deliver_all.Goals as goal

pub deliver_whole-requires : goal.deliver_whole-requires
deliver_whole-requires c = record {
  in_order = AreStationsInOrder-delivered c.parts.result.0.now c.args.procs.now.items c.deliver_packed.new.procs.items
      c.requires.in_order c.in_ok-deliver_packed.ensures.given;
}

pub returns : goal.returns
returns c = record {
  given = subst (λ l. AllDelivered l c.args.procs.now.items c.deliver_whole.new.procs.items)
      (sym c.parts.ensures.value)
      (AllDelivered-append c.parts.result.0.now c.parts.result.1.now c.args.procs.now.items
      c.deliver_packed.new.procs.items c.deliver_whole.new.procs.items c.in_ok-deliver_packed.ensures.given
      c.in_ok-deliver_whole.ensures.given);
}
