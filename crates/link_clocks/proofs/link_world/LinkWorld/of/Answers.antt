use Rattle.std.proofs.Common.{◌∙◌, ap}
use Rattle.world_core.specs.declared.advancing.Stations.{Stations}
use Rattle.link_clocks.proofs.LinkStanding.{link_opens}
use Rattle.link_clocks.proofs.link_world.LinkWorld.of.Goals as goal

pub invariant_of-result : goal.invariant_of-result
invariant_of-result c =
    let parts = c.into_stations-stations.result.value in
    let e = c.into_stations-stations.ensures in
    let clocks = c.in_ok-clocks.clocks in
    link_opens c.args.world parts.model.value c.deref-2.result.now parts.lists.clones parts.ends parts.procs.items
    clocks.rounds clocks.now.items clocks.next.items e.net e.clones c.requires.first c.in_ok-clocks.ensures.none
    (c.deref-2.ensures ∙ ap (λ (s : Stations). s.model.value) c.deref.ensures) e.stands c.in_ok-clocks.ensures.first
