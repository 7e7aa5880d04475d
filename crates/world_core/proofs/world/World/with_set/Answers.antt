use Rattle.std.proofs.Common.{◌≡◌, ◌<◌, ◌≤◌, ◌∷◌, [], sym, ap, ◌∙◌, subst, length, List}
use Rattle.sim_base.specs.Clones.{ListsView, clone_at}
use Rattle.sim_base.specs.declared.message.Msg.{Msg}
use Rattle.sim_base.specs.declared.decision.Planned.{Planned}
use Rattle.clone_sets.specs.declared.set.CloneSet.{CloneSet}
use Rattle.clone_sets.specs.Sets.{one}
use Rattle.net_model.specs.Net.{HasStation}
use Rattle.stations.specs.Runs.{set_message}
use Rattle.world_core.specs.Worlds.{WorldView, WorldStands}
use Rattle.station_steps.specs.Windows.{AllDelivered}
use Rattle.world_core.proofs.Taken.{world_added}
use Rattle.world_core.proofs.Windowed.{unboxed}
use Rattle.world_core.proofs.world.World.with_set.Goals as goal

pub invariant_of-result : goal.invariant_of-result
invariant_of-result c =
    let i = c.deref_mut-parts.result.now in
    let of = unboxed i c.self.inside.stations.value c.self.inside.front c.args.self c.deref_mut-parts.ensures.value
    c.self.invariant c.self.view_is in
    let net = i.model.value in
    let cs = i.lists.clones in
    let there = subst (λ (w : WorldView). c.args.who < length w.clones) (sym of.1) c.requires.in_range in
    let is = subst (λ (w : WorldView). HasStation w.net c.args.plan.station)
    (sym of.1) c.requires.is_station in
    let late = subst (λ (w : WorldView). w.front ≤ c.args.plan.at) (sym of.1) c.requires.not_late in
    let tells : c.set_message-msg.result ≡ set_message (length (clone_at cs c.args.who).plans) c.args.plan =
    c.set_message-msg.ensures.value ∙ ap (λ (l : List Planned). set_message (length l) c.args.plan)
    (c.list.ensures.value ∙ ap (λ (l : ListsView). (clone_at l.clones c.args.who).plans) c.lists.ensures.value) in
    subst (λ cs. WorldStands net cs i.ends c.self.inside.front c.deliver_to.new.procs.items)
    (sym c.in_ok-add.ensures.clones)
    (world_added net cs c.args.who c.args.plan there i.ends c.self.inside.front
    i.procs.items
    c.deliver_to.new.procs.items is late of.0
    (subst (λ (m : Msg). AllDelivered ((m, one c.args.who) ∷ []) i.procs.items
    c.deliver_to.new.procs.items) tells
    (subst (λ (k : CloneSet). AllDelivered ((c.set_message-msg.result, k) ∷ []) i.procs.items
    c.deliver_to.new.procs.items) c.one.ensures.value c.in_ok-deliver_to.ensures.given)))
