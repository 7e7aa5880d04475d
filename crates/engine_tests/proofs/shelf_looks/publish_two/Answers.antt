use Rattle.std.proofs.Common.{◌<◌, ◌≤◌, ◌++◌, ◌∷◌, [], List, arith, sym, subst}
use Rattle.phys_proc.specs.Racks.{RackView}
use Rattle.shelf.specs.Racks.{HasRack, MayBePublished}
use Rattle.shelf.proofs.Legals.{HasRack-push}
use Rattle.engine_tests.proofs.TwoRacks.{first_has, later_follows, second_follows, second_has}
use Rattle.engine_tests.proofs.shelf_looks.publish_two.Goals as goal

-- ---- the first station's rack

pub publish-requires-clause-has_rack : goal.publish-requires-clause-has_rack
publish-requires-clause-has_rack g c =
    let w = c.args.world.now in
    let racks = c.args.stocker.now.stock.published in
    subst (λ s. HasRack s racks) (sym c.in_ok-gate.ensures.gate.station)
    (first_has w.net c.args.opened_at racks c.requires.two)

pub publish-requires-clause-may : goal.publish-requires-clause-may
publish-requires-clause-may g c =
    let w = c.args.world.now in
    let racks = c.args.stocker.now.stock.published in
    let front = c.front.ensures.value in
    let later : c.args.opened_at < w.front = omega (arith, front) in
    let within : w.front ≤ w.net.horizon = let h = c.front.ensures.within in omega (arith, front, h) in
    later_follows w.net c.args.opened_at racks c.requires.two w.front 1 c.in_ok-gate.gate c.in_ok-gate.ensures.gate
    later within

-- ---- the second station's rack

pub publish-requires-2-clause-has_rack : goal.publish-requires-2-clause-has_rack
publish-requires-2-clause-has_rack g c =
    let w = c.args.world.now in
    let racks = c.args.stocker.now.stock.published in
    let gate = c.in_ok-gate.gate in
    let desk = c.in_ok-gate.desk in
    subst (λ (l : List RackView). HasRack desk.station l) (sym c.in_ok-publish.ensures.published)
    (subst (λ s. HasRack s (racks ++ gate ∷ [])) (sym c.in_ok-gate.ensures.desk.station)
    (HasRack-push 2 racks gate (second_has w.net c.args.opened_at racks c.requires.two)))

pub publish-requires-2-clause-may : goal.publish-requires-2-clause-may
publish-requires-2-clause-may g c =
    let w = c.args.world.now in
    let racks = c.args.stocker.now.stock.published in
    let gate = c.in_ok-gate.gate in
    let desk = c.in_ok-gate.desk in
    let is = c.in_ok-gate.ensures in
    let front = c.front.ensures.value in
    let later : c.args.opened_at < w.front = omega (arith, front) in
    let within : w.front ≤ w.net.horizon = let h = c.front.ensures.within in omega (arith, front, h) in
    subst (λ (l : List RackView). MayBePublished l desk) (sym c.in_ok-publish.ensures.published)
    (second_follows w.net c.args.opened_at racks c.requires.two w.front desk gate is.gate is.desk later within)
