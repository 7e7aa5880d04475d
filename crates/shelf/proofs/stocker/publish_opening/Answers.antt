use Rattle.std.proofs.Common.{◌∙◌, arith}
use Rattle.std.specs.Arc.{arc_value}
use Rattle.shelf.proofs.Legals.{MayOpen-next}
use Rattle.shelf.proofs.stocker.publish_opening.Goals as goal

pub add-requires-clause-may : goal.add-requires-clause-may
add-requires-clause-may g c =
    (MayOpen-next arc_value c.args.racks.now c.loop-i.i c.index-racks-i.result c.deref.result.now c.loop-i.history
    c.loop-i.invariant.first c.requires.opening
    (omega (arith, c.loop-i-test.true, c.loop-i.auto.i-end)) c.index-racks-i.is c.deref.ensures).0

pub loop-i-preserved : goal.loop-i-preserved
loop-i-preserved g c =
    let n = MayOpen-next arc_value c.args.racks.now c.loop-i.i c.index-racks-i.result c.deref.result.now
    c.loop-i.history c.loop-i.invariant.first c.requires.opening
    (omega (arith, c.loop-i-test.true, c.loop-i.auto.i-end)) c.index-racks-i.is c.deref.ensures in
    record { within = omega (arith, c.loop-i-test.true, c.loop-i.auto.i-end); first = c.add.ensures.value ∙ n.1 }
