use Rattle.std.proofs.Common.{◌≡◌, ◌<◌, arith, ap, sym, subst, length}
use Rattle.clone_sets.specs.declared.set.CloneSet.{CloneSet}
use Rattle.copy_pending.specs.Merged.{messages_of}
use Rattle.phys_proc.specs.Own.{StationCopy, IsCopy, IsHandled, pending_after}
use Rattle.phys_proc.specs.Together.{copy_of}
use Rattle.phys_proc.proofs.Handling.{taken_is_handled}
use Rattle.phys_proc.proofs.event.handle_least.Goals as goal

pub take_message-msg-requires : goal.take_message-msg-requires
take_message-msg-requires g c =
    let d = c.requires.due in
    let is = ap (λ (u : StationCopy). length u.pending) c.copy.view_is in
    let n = ap length d.3 in
    record { nonempty = omega (arith, is, n) }

pub returns-clause-handled : goal.returns-clause-handled
returns-clause-handled g c =
    let i = c.copy.inside in
    let a : StationCopy = copy_of i.pending i.state i.log in
    let new : StationCopy = copy_of c.send_all.new.pending c.handle.new.state c.push.new.self in
    let net = c.args.model.now in
    let taken = c.take_message-msg.ensures in
    let fits = subst (IsCopy net c.args.station) (sym c.copy.view_is) c.requires.fits in
    let below = subst (λ (u : StationCopy). length u.log < net.limit) (sym c.copy.view_is) c.requires.length_max in
    subst (λ (u : StationCopy). IsHandled net c.args.station u new c.args.sent.now c.send_all.new.sent)
    c.copy.view_is
    (taken_is_handled net c.args.station a new c.take_message-msg.result taken.value.0
    (messages_of c.take_message-msg.new.self) c.args.sent.now c.send_all.new.sent
    taken.value.1 fits below (record {
      set = rw (taken.same) at c.in_ok-send_all.ensures.same;
      sends = c.handle.new.out.items;
      line = c.in_ok-line.line;
      handles = c.in_ok-line.ensures.ok;
      log = c.in_ok-push.ensures.ok;
      pending = subst (λ (k : CloneSet). messages_of c.send_all.new.pending ≡ pending_after c.args.station k
          c.handle.new.out.items (messages_of c.take_message-msg.new.self)) taken.same
          (rw c.as_slice.ensures.value at c.in_ok-send_all.ensures.pending);
      aside = rw (c.as_slice.ensures.value, taken.same) at c.in_ok-send_all.ensures.aside;
      fits = c.in_ok-line.ensures.fits;
      suits = c.in_ok-line.ensures.suits;
      station = c.in_ok-line.ensures.own;
      handled = c.in_ok-line.ensures.one_more;
    }))
