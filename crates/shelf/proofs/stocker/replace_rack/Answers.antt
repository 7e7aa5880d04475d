use Rattle.std.proofs.Common.{◌-◌, ◌∙◌, ap, arith, map}
use Rattle.std.specs.Arc.{arc_value}
use Rattle.std.proofs.lemmas.List.{length-map}
use Rattle.phys_proc.specs.Racks.{RackView}
use Rattle.shelf.specs.Racks.{with_rack}
use Rattle.shelf.proofs.Replacing.{EachIs-push_image, AreShown-push}
use Rattle.shelf.proofs.stocker.replace_rack.Goals as goal

pub loop-i-preserved : goal.loop-i-preserved
loop-i-preserved c =
    let p = EachIs-push_image arc_value (with_rack (map arc_value c.args.racks.now) c.saturating_sub-place.result
    c.args.rack.now.value)
    c.loop-i.all.items c.push.new.self.items c.in_ok-next.next c.loop-i.i c.in_ok-push.ensures.items
    c.loop-i.invariant.count c.loop-i.invariant.each c.in_ok-next.ensures.value in
    record { within = omega (arith, c.loop-i-test.true, c.loop-i.auto.i-end); count = p.1; each = p.0 }

pub returns : goal.returns
returns c = record {
  shown = λ published old has.
      AreShown-push (map arc_value c.args.racks.now) published
      (map arc_value c.loop-i.all.items) c.saturating_sub-place.result c.args.rack.now.value
      (c.saturating_sub-place.ensures
      ∙ ap (λ n. n - 1) (c.station.ensures.value ∙ ap (λ (r : RackView). r.station) c.deref.ensures))
      (omega (
        arith,
        length-map c.args.racks.now arc_value,
        length-map c.loop-i.all.items arc_value,
        c.loop-i.invariant.count,
        c.loop-i.invariant.within,
        c.loop-i-test.false,
        c.loop-i.auto.i-end,
      ))
      c.loop-i.invariant.each old has;
}
