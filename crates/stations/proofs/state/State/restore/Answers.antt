use Rattle.std.proofs.Common.{◌≡◌, sym, subst, ◌∙◌, true, rules}
use Rattle.std.proofs.lemmas.Option.{same_Some}
use Rattle.net_model.specs.Sites.{as_site}
use Rattle.stations.specs.Fits.{FitsState, SuitsNet}
use Rattle.stations.specs.Fitting.{fits_saved}
use Rattle.stations.proofs.RestoringLaws.{fits-restored, restored-by}
use Rattle.stations.proofs.state.State.restore.Goals as goal

pub of-requires : goal.of-requires
of-requires c =
    let net = c.args.model.now in
    let fit : fits_saved net c.args.station c.args.saved.now ≡ true = search rules in
    let all = fits-restored net c.station-site.ensures.valid c.args.station c.args.saved.now c.requires.is_station
    fit in
    let is = restored-by net c.args.station (as_site c.station-site.result.now) c.args.saved.now _
    c.station-site.ensures.value c.in_ok-kind.ensures.ok in
    let same = same_Some _ _ (sym is ∙ all.is) in
    record { fits = rw (c.at.ensures, c.seed.ensures) (subst FitsState (sym same) all.fits) }

pub returns-clause-suits : goal.returns-clause-suits
returns-clause-suits c =
    let net = c.args.model.now in
    let fit : fits_saved net c.args.station c.args.saved.now ≡ true = search rules in
    let all = fits-restored net c.station-site.ensures.valid c.args.station c.args.saved.now c.requires.is_station
    fit in
    let is = restored-by net c.args.station (as_site c.station-site.result.now) c.args.saved.now _
    c.station-site.ensures.value c.in_ok-kind.ensures.ok in
    let same = same_Some _ _ (sym is ∙ all.is) in
    rw (c.of.ensures.value, c.at.ensures, c.seed.ensures) (subst (SuitsNet net) (sym same) all.suits)
