use Rattle.std.proofs.Common.{◌∙◌, ap, subst, sym}
use Rattle.net_model.specs.Net.{Net}
use Rattle.world_core.specs.declared.advancing.Stations.{Stations}
use Rattle.world_core.specs.Worlds.{WorldStands}
use Rattle.link_clocks.specs.LinkWorlds.{LinkView}
use Rattle.link_clocks.specs.NetClocks.{AreAllDone}
use Rattle.link_clocks.proofs.LinkStanding.{link_ends}
use Rattle.link_clocks.proofs.link_world.LinkWorld.into_world.Goals as goal

pub of_stations-requires : goal.of_stations-requires
of_stations-requires c =
    let i = c.self.inside.stations.value in
    let k = c.self.inside.clocks in
    let done = subst (λ (v : LinkView). AreAllDone v.net v.rounds) (sym c.self.view_is) c.requires.done in
    let horizon = c.horizon-front.ensures.value ∙ ap (λ (n : Net). n.horizon)
    (c.deref-2.ensures ∙ ap (λ (s : Stations). s.model.value) c.deref.ensures) in
    record {
      stands = subst (λ f. WorldStands i.model.value i.lists.clones i.ends f i.procs.items) (sym horizon)
          (link_ends i.model.value i.lists.clones i.ends k.rounds k.now.items k.next.items i.procs.items
          c.self.invariant done);
    }
