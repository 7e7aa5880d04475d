use Rattle.std.proofs.Common.{◌≢◌, sym, ◌∙◌, arith}
use Rattle.stations.specs.Servers.{class_of}
use Rattle.stations.proofs.Lines.{place_of_class-here, place_of_class-later}
use Rattle.stations.proofs.server.first_of_class.Goals as goal

pub returns-then-class_of-class : goal.returns-then-class_of-class
returns-then-class_of-class c =
    let here = place_of_class-here c.args.model.now c.args.jobs.now c.loop-place.place c.get.result c.get.ensures
    c.args.class (sym c.class_of.ensures.value ∙ c.if-class_of-class.true) in
    omega (arith, here, c.loop-place.invariant)

pub loop-place-preserved : goal.loop-place-preserved
loop-place-preserved c =
    let other : class_of c.args.model.now c.get.result ≢ c.args.class =
    λ is. c.if-class_of-class.false (c.class_of.ensures.value ∙ is) in
    let later = place_of_class-later c.args.model.now c.args.jobs.now c.loop-place.place c.get.result c.get.ensures
    c.args.class other in
    omega (arith, later, c.loop-place.invariant)
