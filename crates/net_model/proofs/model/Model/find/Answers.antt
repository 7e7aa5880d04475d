use Rattle.std.proofs.Common.{◌≡◌, ◌+◌, sym, ◌∙◌, ap, option_map, Some, None, position}
use Rattle.std.specs.Str.{bytes_eq}
use Rattle.net_model.proofs.Placing.{seen_number}
use Rattle.net_model.proofs.model.Model.find.Goals as goal

pub returns-in-Some-clause-value : goal.returns-in-Some-clause-value
returns-in-Some-clause-value c =
    let found : Some c.in-Some.i ≡ position (λ station. bytes_eq station.name c.args.name.now)
    c.self.inside.stations.items = rw (← c.deref.ensures.value) c.in-Some.ensures.value in
    ap (option_map (λ i. i + 1)) found
    ∙ sym (seen_number c.args.self.now c.self.inside.stations.items c.args.name.now
    (sym (ap (λ n. n.sites) c.self.view_is)))

pub returns-in-None-clause-value : goal.returns-in-None-clause-value
returns-in-None-clause-value c =
    let none : None ≡ position (λ station. bytes_eq station.name c.args.name.now) c.self.inside.stations.items =
    rw (← c.deref.ensures.value) c.in-None.ensures.value in
    ap (option_map (λ i. i + 1)) none
    ∙ sym (seen_number c.args.self.now c.self.inside.stations.items c.args.name.now
    (sym (ap (λ n. n.sites) c.self.view_is)))
