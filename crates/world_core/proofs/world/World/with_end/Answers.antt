use Rattle.std.proofs.Common.{◌≡◌, ◌<◌, ◌≤◌, None, sym, subst, length}
use Rattle.sim_base.specs.Clones.{clone_at}
use Rattle.world_core.specs.Worlds.{WorldView, WorldStands}
use Rattle.world_core.proofs.Taken.{world_ended}
use Rattle.world_core.proofs.Windowed.{unboxed}
use Rattle.world_core.proofs.world.World.with_end.Goals as goal

pub invariant_of-result : goal.invariant_of-result
invariant_of-result c =
    let i = c.deref_mut-parts.result.now in
    let of = unboxed i c.self.inside.stations.value c.self.inside.front c.args.self c.deref_mut-parts.ensures.value
    c.self.invariant c.self.view_is in
    let net = i.model.value in
    let cs = i.lists.clones in
    let there = subst (λ (w : WorldView). c.args.who < length w.clones) (sym of.1) c.requires.in_range in
    let open_end = subst (λ (w : WorldView). (clone_at w.clones c.args.who).end ≡ None)
    (sym of.1) c.requires.open in
    let late = subst (λ (w : WorldView). w.front ≤ c.args.at) (sym of.1) c.requires.not_late in
    let early = subst (λ (w : WorldView). c.args.at ≤ w.net.horizon) (sym of.1) c.requires.time_max in
    subst (λ cs. WorldStands net cs c.end-2.new.self c.self.inside.front i.procs.items)
    (sym c.end.ensures.clones)
    (world_ended net cs c.args.who c.args.at there open_end i.ends c.end-2.new.self
    c.self.inside.front
    i.procs.items late early (c.in_ok-end.ensures.ends net.horizon) of.0)
