use Rattle.std.proofs.Common.{◌≡◌, ◌<◌, None, sym, ap, ◌∙◌, subst, length}
use Rattle.sim_base.specs.Clones.{ListsView, clone_at}
use Rattle.sim_base.specs.declared.lists.TheConstants.{MAX_CLONES}
use Rattle.world_core.specs.Worlds.{WorldView, WorldStands}
use Rattle.station_steps.specs.Forking.{AllForked, LivesNowhere}
use Rattle.world_core.proofs.Taken.{world_forked, LivesAtAll-stands, LivesNowhere-stands}
use Rattle.world_core.proofs.Windowed.{unboxed}
use Rattle.world_core.proofs.world.World.with_fork.Goals as goal

pub fork_all-requires-clause-old : goal.fork_all-requires-clause-old
fork_all-requires-clause-old c =
    let i = c.deref_mut-parts.result.now in
    let of = unboxed i c.self.inside.stations.value c.self.inside.front c.args.self c.deref_mut-parts.ensures.value
    c.self.invariant c.self.view_is in
    LivesAtAll-stands i.model.value i.lists.clones
    i.ends c.self.inside.front
    i.procs.items of.0 c.args.old
    (subst (λ (w : WorldView). c.args.old < length w.clones) (sym of.1) c.requires.in_range)

pub fork_all-requires-clause-new : goal.fork_all-requires-clause-new
fork_all-requires-clause-new c =
    let i = c.deref_mut-parts.result.now in
    let of = unboxed i c.self.inside.stations.value c.self.inside.front c.args.self c.deref_mut-parts.ensures.value
    c.self.invariant c.self.view_is in
    subst (λ n. LivesNowhere n i.procs.items)
    (sym (c.len-number.ensures.value ∙ ap (λ (l : ListsView). length l.clones) c.lists.ensures.value))
    (LivesNowhere-stands i.model.value i.lists.clones
    i.ends c.self.inside.front
    i.procs.items of.0)

pub invariant_of-result : goal.invariant_of-result
invariant_of-result c =
    let i = c.deref_mut-parts.result.now in
    let of = unboxed i c.self.inside.stations.value c.self.inside.front c.args.self c.deref_mut-parts.ensures.value
    c.self.invariant c.self.view_is in
    let net = i.model.value in
    let cs = i.lists.clones in
    let there = subst (λ (w : WorldView). c.args.old < length w.clones) (sym of.1) c.requires.in_range in
    let open_end = subst (λ (w : WorldView). (clone_at w.clones c.args.old).end ≡ None)
    (sym of.1) c.requires.open in
    let few = subst (λ (w : WorldView). length w.clones < MAX_CLONES) (sym of.1) c.requires.at_most in
    subst (λ cs. WorldStands net cs i.ends c.self.inside.front c.fork_all.new.procs.items)
    (sym c.in_ok-fork.ensures.clones)
    (world_forked net cs c.args.new c.args.old there open_end i.ends c.self.inside.front
    i.procs.items c.fork_all.new.procs.items few of.0
    (subst (λ n. AllForked c.args.old n i.procs.items c.fork_all.new.procs.items)
    (c.len-number.ensures.value ∙ ap (λ (l : ListsView). length l.clones) c.lists.ensures.value)
    c.in_ok-fork_all.ensures.forked))
