use Rattle.std.proofs.Common.{◌≡◌, ◌-◌, ◌∙◌, arith, subst, sym}
use Rattle.std.proofs.lemmas.Grind.{get_or_default_zero}
use Rattle.net_model.specs.Net.{HasStation}
use Rattle.link_clocks.specs.NetClocks.{clock}
use Rattle.link_clocks.specs.LinkWorlds.{LinkView}
use Rattle.link_clocks.proofs.LinkStanding.{clock-at}
use Rattle.link_clocks.proofs.link_world.LinkWorld.clock.Goals as goal

pub returns : goal.returns
returns c =
    let i = c.self.inside in
    let s = c.args.station in
    let x = c.index.result.now in
    let is = subst (λ (v : LinkView). HasStation v.net s) (sym c.self.view_is) c.requires.is_station in
    let count = c.self.invariant.clocks_are.now_are.count in
    let low = is.low in
    let high = is.high in
    let there : x ≡ clock i.stations.value.model.value i.clocks.rounds s =
    c.index.ensures ∙ get_or_default_zero i.clocks.now.items (s - 1) x (omega (arith, count, low, high))
    ∙ clock-at i.stations.value.model.value i.stations.value.lists.clones i.stations.value.ends i.clocks.rounds i.clocks.now.items
    i.clocks.next.items i.stations.value.procs.items
    c.self.invariant s is in
    record { value = subst (λ (v : LinkView). x ≡ clock v.net v.rounds s) c.self.view_is there }
