use Rattle.std.proofs.Common.{◌∷◌, [], arith, sym, subst, take}
use Rattle.std.proofs.lemmas.List.{take_all}
use Rattle.sim_base.proofs.Elements.{take_next}
use Rattle.station_steps.specs.Windows.{AllDelivered}
use Rattle.station_steps.proofs.Delivering.{AllDelivered-append, AreStationsInOrder-delivered}
use Rattle.station_steps.proofs.delivery.deliver_packed.Goals as goal

pub deliver_packed_to-requires : goal.deliver_packed_to-requires
deliver_packed_to-requires c = record {
  in_order = AreStationsInOrder-delivered (take c.loop-pair.pair-index c.args.sent.now)
      c.args.procs.now.items c.loop-pair.procs.items c.requires.in_order c.loop-pair.invariant;
}

pub loop-pair-preserved : goal.loop-pair-preserved
loop-pair-preserved c =
    let ms = c.args.sent.now in
    let i = c.loop-pair.pair-index in
    subst (λ l. AllDelivered l c.args.procs.now.items c.deliver_packed_to.new.procs.items)
    (sym (take_next ms i c.pair-item.result c.loop-pair-test.true c.pair-item.is))
    (AllDelivered-append (take i ms) (c.pair-item.result ∷ []) c.args.procs.now.items c.loop-pair.procs.items
    c.deliver_packed_to.new.procs.items c.loop-pair.invariant c.in_ok-deliver_packed_to.ensures.given)

pub returns : goal.returns
returns c = record {
  given = subst (λ l. AllDelivered l c.args.procs.now.items c.loop-pair.procs.items)
      (take_all c.loop-pair.pair-index c.args.sent.now (let l = c.loop-pair-test.false in omega (arith, l)))
      c.loop-pair.invariant;
}
