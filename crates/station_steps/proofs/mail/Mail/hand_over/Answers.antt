use Rattle.std.proofs.Common.{arith, ap, sym, subst, ◌∙◌, take}
use Rattle.std.specs.List.{flat_map}
use Rattle.phys_proc.specs.Own.{MarkedMessages}
use Rattle.station_steps.specs.Mail.{SentView, mail_for}
use Rattle.station_steps.specs.Windows.{IsDeliveredTo}
use Rattle.station_steps.proofs.TakenMail.{IsDeliveredTo-then, flat_map-next, mail_for-append}
use Rattle.station_steps.proofs.mail.Mail.hand_over.Goals as goal

pub loop-i-preserved : goal.loop-i-preserved
loop-i-preserved c =
    let lists = c.self.inside.lists.items in
    let i = c.loop-i.i in
    let x = c.index.result.now in
    let old = c.args.proc.now in
    let s = old.station in
    let before = flat_map (λ (l : SentView). l.items) (take i lists) in
    let next = flat_map-next (λ (l : SentView). l.items) lists i x
    (omega (arith, c.loop-i-test.true, c.loop-i.auto.i-end, c.len-i-end.ensures, c.self.inside.lists.ok.0))
    c.index.ensures in
    subst (λ (ms : MarkedMessages). IsDeliveredTo ms old c.hand_over.new.proc)
    (sym (ap (mail_for s) next ∙ mail_for-append s before x.items))
    (IsDeliveredTo-then (mail_for s before) (mail_for s x.items) old c.loop-i.proc c.hand_over.new.proc
    c.loop-i.invariant
    (subst (λ n. IsDeliveredTo (mail_for n x.items) c.loop-i.proc c.hand_over.new.proc) c.loop-i.invariant.station
    c.in_ok-hand_over.ensures.given))
