use Rattle.std.proofs.Common.{refl, ap, sym, ◌∙◌, arith, length}
use Rattle.std.proofs.lemmas.List.{length-map}
use Rattle.std.proofs.lemmas.Option.{slice_get_read}
use Rattle.net_model.proofs.Placing.{seen_site}
use Rattle.net_model.specs.Sites.{as_site}
use Rattle.net_model.proofs.model.Model.station.Goals as goal

pub returns-clause-value : goal.returns-clause-value
returns-clause-value c =
    let seen = sym (ap (λ n. n.sites) c.self.view_is) in
    let count = ap length seen ∙ length-map c.self.inside.stations.items as_site in
    let low = c.requires.is_station.low in
    let high = c.requires.is_station.high in
    seen_site c.args.self.now c.self.inside.stations.items seen c.args.s c.index.result.now low
    (slice_get_read c.self.inside.stations.items _ _ _ refl (omega (arith, count)) c.index.ensures)
