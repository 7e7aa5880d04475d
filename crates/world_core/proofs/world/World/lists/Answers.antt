use Rattle.std.proofs.Common.{subst}
use Rattle.world_core.specs.Overs.{NoneBeyond}
use Rattle.world_core.specs.Worlds.{AreInNet, WorldView}
use Rattle.world_core.proofs.Merging.{none_is_beyond}
use Rattle.world_core.proofs.Worlds.{clones_in_net}
use Rattle.world_core.proofs.Windowed.{unboxed}
use Rattle.world_core.proofs.world.World.lists.Goals as goal

pub returns-clause-in_net : goal.returns-clause-in_net
returns-clause-in_net c =
    let i = c.deref.result.now in
    let of = unboxed i c.self.inside.stations.value c.self.inside.front c.args.self.now c.deref.ensures
    c.self.invariant c.self.view_is in
    subst (λ (w : WorldView). AreInNet w.net w.clones) of.1
    (clones_in_net i.model.value i.lists.clones i.ends
    c.self.inside.front
    i.procs.items of.0)

pub returns-clause-length_max : goal.returns-clause-length_max
returns-clause-length_max c =
    let i = c.deref.result.now in
    let of = unboxed i c.self.inside.stations.value c.self.inside.front c.args.self.now c.deref.ensures
    c.self.invariant c.self.view_is in
    subst (λ (w : WorldView). NoneBeyond w.net w.clones w.front) of.1
    (none_is_beyond i.model.value i.lists.clones i.ends
    c.self.inside.front
    i.procs.items of.0)
