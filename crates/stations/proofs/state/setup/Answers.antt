use Rattle.std.proofs.Common.{refl, subst}
use Rattle.net_model.specs.Sites.{as_site}
use Rattle.stations.specs.Fits.{FitsState, SuitsNet}
use Rattle.stations.specs.Handling.{StateView}
use Rattle.stations.proofs.Lawful.{site_valid}
use Rattle.stations.proofs.OpeningLaws.{opening_kind-fits, setup-well, setup-is}
use Rattle.stations.proofs.state.setup.Goals as goal

pub send_first-requires-clause-fits : goal.send_first-requires-clause-fits
send_first-requires-clause-fits c =
    let site = as_site c.station-site.result.now in
    rw c.opening_state-kind.ensures
    (opening_kind-fits c.args.model.now site site.kind
    (site_valid c.args.model.now c.args.station site c.station-site.ensures.valid c.station-site.ensures.value)
    refl)

pub invariant_of-result : goal.invariant_of-result
invariant_of-result c =
    let net = c.args.model.now in
    let site = as_site c.station-site.result.now in
    let is = setup-is net c.args.station site c.opening_state-kind.result c.send_first.new.sender
    c.new-out.result.items c.send_first.new.out.items c.station-site.ensures.value c.opening_state-kind.ensures
    c.new-out.ensures (rw (← c.seed.ensures, ← c.new.ensures) c.send_first.ensures) in
    let well = setup-well net c.args.station site c.station-site.ensures.valid c.station-site.ensures.value in
    subst (λ (st : StateView). FitsState st) is well.0

pub returns-clause-fits : goal.returns-clause-fits
returns-clause-fits c =
    let net = c.args.model.now in
    let site = as_site c.station-site.result.now in
    let is = setup-is net c.args.station site c.opening_state-kind.result c.send_first.new.sender
    c.new-out.result.items c.send_first.new.out.items c.station-site.ensures.value c.opening_state-kind.ensures
    c.new-out.ensures (rw (← c.seed.ensures, ← c.new.ensures) c.send_first.ensures) in
    let well = setup-well net c.args.station site c.station-site.ensures.valid c.station-site.ensures.value in
    subst (λ (st : StateView). FitsState st) is well.0

pub returns-clause-suits : goal.returns-clause-suits
returns-clause-suits c =
    let net = c.args.model.now in
    let site = as_site c.station-site.result.now in
    let is = setup-is net c.args.station site c.opening_state-kind.result c.send_first.new.sender
    c.new-out.result.items c.send_first.new.out.items c.station-site.ensures.value c.opening_state-kind.ensures
    c.new-out.ensures (rw (← c.seed.ensures, ← c.new.ensures) c.send_first.ensures) in
    let well = setup-well net c.args.station site c.station-site.ensures.valid c.station-site.ensures.value in
    subst (λ (st : StateView). SuitsNet net st) is well.1
