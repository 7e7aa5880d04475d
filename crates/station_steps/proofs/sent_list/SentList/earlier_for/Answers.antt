use Rattle.std.proofs.Common.{◌≡◌, ◌≤◌, ◌∷◌, [], ap, arith, refl, sym, subst, ◌∙◌, length, take}
use Rattle.std.proofs.Common.{Some, slice_get}
use Rattle.std.proofs.lemmas.Option.{get_or_from_slice_get, slice_get_within}
use Rattle.std.proofs.lemmas.List.{take_all}
use Rattle.phys_proc.specs.Ends.{ends_in}
use Rattle.phys_proc.specs.Own.{MarkedMessages}
use Rattle.sim_base.specs.declared.message.Msg.{Msg}
use Rattle.clone_sets.specs.declared.set.CloneSet.{CloneSet}
use Rattle.phys_proc.specs.Sent.{msg_in}
use Rattle.station_steps.specs.Mail.{IsEarliest, IsMailTaken, SentView, mail_for}
use Rattle.station_steps.proofs.MailTimes.{earliest-after, earliest-append, earliest-nil}
use Rattle.station_steps.proofs.TakenMail.{mail_for-next, mail_for-other, mail_for-own}
use Rattle.station_steps.proofs.sent_list.SentList.earlier_for.Goals.{then-first-via-then-first}
use Rattle.station_steps.proofs.sent_list.SentList.earlier_for.Goals.{then-first-via-else-first+then-is_at_most}
use Rattle.station_steps.proofs.sent_list.SentList.earlier_for.Goals.{then-to-station, else-to-station}
use Rattle.station_steps.proofs.sent_list.SentList.earlier_for.Goals as goal

pub returns-then-first : goal.returns-then-first
returns-then-first c =
    let ends = ends_in c.args.horizon c.args.ends.now in
    let mail = mail_for c.args.station c.args.self.now.items in
    let first = c.first_for-first.ensures.first in
    elim c.then-first.branch [
      | then-first-via-then-first w ↦ record {
        earliest = subst (λ (ms : MarkedMessages). IsEarliest c.args.before (IsMailTaken ends c.args.clones ms)
            c.args.before) (sym (first.none (let e = w.if-first.true in omega (arith, e))))
            (earliest-nil ends c.args.clones c.args.before);
      }
      | then-first-via-else-first+then-is_at_most w ↦
          let y = w.if-is_at_most.ensures.yes refl in
          record {
            earliest = earliest-after ends c.args.clones mail c.args.before y.0 c.first_for-first.result y.1 y.2
                first.first;
          }
    ]

pub loop-i-preserved : goal.loop-i-preserved
loop-i-preserved c =
    let ms = c.args.self.now.items in
    let i = c.loop-i.i in
    let x : Msg × CloneSet = (msg_in c.at-msg.result.0, c.at-msg.result.1) in
    let s = c.args.station in
    let ends = ends_in c.args.horizon c.args.ends.now in
    let clones = c.args.clones in
    let same : c.self.inside.messages ≡ ms = ap (λ (v : SentView). v.items) c.self.view_is in
    let there = subst (λ (l : MarkedMessages). slice_get l i ≡ Some x) same c.at-msg.ensures.value in
    let next = mail_for-next s ms i x (slice_get_within ms i x there) (sym (get_or_from_slice_get ms i x x there)) in
    subst (λ (l : MarkedMessages). IsEarliest c.args.before (IsMailTaken ends clones l) c.if-to-station.least)
    (sym next)
    (earliest-append ends clones (mail_for s (take i ms)) (mail_for s (x ∷ [])) c.args.before c.loop-i.least
    c.if-to-station.least c.loop-i.invariant
    (elim c.if-to-station.branch [
      | then-to-station w ↦
          subst (IsEarliest c.loop-i.least (IsMailTaken ends clones (mail_for s (x ∷ [])))) (sym w.least-is)
          (subst (λ (l : MarkedMessages). IsEarliest c.loop-i.least (IsMailTaken ends clones l)
          w.earlier_of_message-least.result) (sym (mail_for-own s x (sym c.to.ensures.value ∙ w.if-to-station.true)))
          w.earlier_of_message-least.ensures.earliest)
      | else-to-station w ↦
          subst (IsEarliest c.loop-i.least (IsMailTaken ends clones (mail_for s (x ∷ [])))) (sym w.least-is)
          (subst (λ (l : MarkedMessages). IsEarliest c.loop-i.least (IsMailTaken ends clones l) c.loop-i.least)
          (sym (mail_for-other s x (λ e. w.if-to-station.false (c.to.ensures.value ∙ e))))
          (earliest-nil ends clones c.loop-i.least))
    ]))

pub returns : goal.returns
returns c =
    let ms = c.args.self.now.items in
    let ends = ends_in c.args.horizon c.args.ends.now in
    let same : c.self.inside.messages ≡ ms = ap (λ (v : SentView). v.items) c.self.view_is in
    record {
      earliest = subst (λ (l : MarkedMessages). IsEarliest c.args.before
          (IsMailTaken ends c.args.clones (mail_for c.args.station l)) c.loop-i.least)
          (take_all c.loop-i.i ms
          (subst (λ (l : MarkedMessages). length l ≤ c.loop-i.i) same
          (let l = c.loop-i-test.false in let n = c.len-i-end.ensures.value in omega (arith, l, n))))
          c.loop-i.invariant;
    }
