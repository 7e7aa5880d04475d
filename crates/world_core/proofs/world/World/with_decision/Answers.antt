use Rattle.std.proofs.Common.{◌≡◌, None, sym, ap, ◌∙◌, subst}
use Rattle.sim_base.specs.Clones.{ListsView, place_of}
use Rattle.sim_base.specs.Decisions.{subject}
use Rattle.decision_book.specs.declared.call.Reply.TheVariants.{Accepted}
use Rattle.decision_book.specs.Replies.{first_row, rows}
use Rattle.decision_book.proofs.Rows.{IsOpen-accepted}
use Rattle.world_core.specs.Worlds.{WorldView}
use Rattle.world_core.specs.Taking.{situation}
use Rattle.world_core.specs.declared.advancing.Stations.{Stations}
use Rattle.world_core.proofs.Accepted.{may_set, no_place}
use Rattle.world_core.proofs.world.World.with_decision.Goals as goal

pub unreachable-requires : goal.unreachable-requires
unreachable-requires c =
    let o = IsOpen-accepted (situation c.args.self.net c.args.self.clones c.args.self.front) c.args.decision.now
    c.requires.accepted in
    no_place (subject c.args.decision.now) c.args.self.clones o.clone o.place
    (sym (subst (λ (w : WorldView). place_of (subject c.args.decision.now) w.clones ≡ None) c.self.view_is
    (subst (λ (s : Stations). place_of (subject c.args.decision.now) s.lists.clones ≡ None) c.deref.ensures
    (subst (λ (l : ListsView). place_of (subject c.args.decision.now) l.clones ≡ None) c.lists.ensures.value
    (sym (ap (λ n. place_of n c.lists.result.now.clones) c.subject.ensures.value) ∙ sym c.find.ensures.value
    ∙ c.in_default.is)))))

pub with_set-requires-clause-not_late : goal.with_set-requires-clause-not_late
with_set-requires-clause-not_late c =
    let o = IsOpen-accepted (situation c.args.self.net c.args.self.clones c.args.self.front) c.args.decision.now
    c.requires.accepted in
    (may_set c.args.self.net c.args.self.clones c.args.self.front o.clone c.in-Set.at c.in-Set.who c.in-Set.station
    c.in-Set.change
    (subst (λ d. first_row (rows (situation c.args.self.net c.args.self.clones c.args.self.front) o.clone d)
    ≡ Accepted) c.in-Set.is o.rest)).late
