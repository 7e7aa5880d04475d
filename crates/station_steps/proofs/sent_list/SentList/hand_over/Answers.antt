use Rattle.std.proofs.Common.{◌≡◌, ◌∷◌, [], ap, sym, subst, ◌∙◌, take, Some, slice_get}
use Rattle.std.proofs.lemmas.Option.{get_or_from_slice_get, slice_get_within}
use Rattle.phys_proc.specs.Own.{MarkedMessages}
use Rattle.sim_base.specs.declared.message.Msg.{Msg}
use Rattle.clone_sets.specs.declared.set.CloneSet.{CloneSet}
use Rattle.phys_proc.specs.Sent.{msg_in}
use Rattle.station_steps.specs.Mail.{SentView}
use Rattle.station_steps.specs.Windows.{IsDeliveredTo, mail_for}
use Rattle.station_steps.proofs.Delivering.{IsDeliveredTo-none}
use Rattle.station_steps.proofs.TakenMail.{IsDeliveredTo-then, mail_for-next, mail_for-other}
use Rattle.station_steps.proofs.TakenMail.{mail_for-own}
use Rattle.station_steps.proofs.sent_list.SentList.hand_over.Goals.{then-to-station+in_ok-deliver, else-to-station}
use Rattle.station_steps.proofs.sent_list.SentList.hand_over.Goals as goal

pub loop-i-preserved : goal.loop-i-preserved
loop-i-preserved c =
    let ms = c.args.self.now.items in
    let i = c.loop-i.i in
    let x : Msg × CloneSet = (msg_in c.at-msg.result.0, c.at-msg.result.1) in
    let old = c.args.proc.now in
    let s = old.station in
    let same : c.self.inside.messages ≡ ms = ap (λ (v : SentView). v.items) c.self.view_is in
    let there = subst (λ (l : MarkedMessages). slice_get l i ≡ Some x) same c.at-msg.ensures.value in
    let next = mail_for-next s ms i x (slice_get_within ms i x there) (sym (get_or_from_slice_get ms i x x there)) in
    subst (λ l. IsDeliveredTo l old c.if-to-station.proc) (sym next)
    (IsDeliveredTo-then (mail_for s (take i ms)) (mail_for s (x ∷ [])) old c.loop-i.proc c.if-to-station.proc
    c.loop-i.invariant
    (elim c.if-to-station.branch [
      | then-to-station+in_ok-deliver w ↦
          let e = w.in_ok-deliver.ensures in
          subst (IsDeliveredTo (mail_for s (x ∷ [])) c.loop-i.proc) (sym w.proc-is)
          (subst (λ l. IsDeliveredTo l c.loop-i.proc w.deliver.new.proc)
          (sym (mail_for-own s x (sym c.to.ensures.value ∙ w.if-to-station.true ∙ c.station-station.ensures.value)))
          (record { copies = e.given; station = e.station; living = e.living; once = e.handled; proc = e.proc }))
      | else-to-station w ↦ subst (IsDeliveredTo (mail_for s (x ∷ [])) c.loop-i.proc) (sym w.proc-is)
          (IsDeliveredTo-none (mail_for s (x ∷ [])) c.loop-i.proc
          (mail_for-other s x (λ e. w.if-to-station.false
          (c.to.ensures.value ∙ e ∙ sym c.station-station.ensures.value))))
    ]))
