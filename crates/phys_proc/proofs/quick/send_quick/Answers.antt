use Rattle.std.proofs.Common.{◌∙◌, ap, sym}
use Rattle.copy_pending.specs.Merged.{messages_of, without_first}
use Rattle.phys_proc.specs.Own.{pending_after, sent_after}
use Rattle.stations.specs.Quick.{sends_of}
use Rattle.phys_proc.proofs.Together.{own_later, own_first, own_stays}
use Rattle.phys_proc.proofs.quick.send_quick.Goals as goal

-- ---- the own message takes the place of the first

pub replace_first-requires-clause-later : goal.replace_first-requires-clause-later
replace_first-requires-clause-later c = own_later c.args.first.key.time c.args.sends.link c.args.sends.own
    c.requires.later

pub returns-in_ok-send_packed-clause-pending : goal.returns-in_ok-send_packed-clause-pending
returns-in_ok-send_packed-clause-pending c =
    let set = c.args.pending.now.set in
    let rest = messages_of (without_first c.args.pending.now) in
    let to = c.to-station.ensures.value in
    let is = sym c.is_for.ensures.value ∙ c.if-is_for.true in
    (rw (c.replace_first.ensures.value, c.replace_first.ensures.same) at c.in_ok-send_packed.ensures.pending)
    ∙ own_first c.to-station.result set c.args.sends.link c.args.sends.own rest is
    ∙ ap (λ s. pending_after s set (sends_of c.args.sends) rest) to

pub returns-in_ok-send_packed-clause-aside : goal.returns-in_ok-send_packed-clause-aside
returns-in_ok-send_packed-clause-aside c =
    let set = c.args.pending.now.set in
    let to = c.to-station.ensures.value in
    let is = sym c.is_for.ensures.value ∙ c.if-is_for.true in
    (rw c.replace_first.ensures.same at c.in_ok-send_packed.ensures.aside)
    ∙ own_stays c.to-station.result set c.args.sends.link c.args.sends.own c.args.sent.now is
    ∙ ap (λ s. sent_after s set (sends_of c.args.sends) c.args.sent.now) to
