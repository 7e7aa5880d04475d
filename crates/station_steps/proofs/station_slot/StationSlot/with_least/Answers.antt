use Rattle.std.proofs.Common.{◌≡◌, inr, sym, ap, subst, ◌∙◌}
use Rattle.run_laws.proofs.Queue.{all_in}
use Rattle.run_laws.specs.Fronts.{earlier}
use Rattle.clone_sets.specs.declared.set.CloneSet.{CloneSet}
use Rattle.phys_proc.specs.Ends.{ends_in}
use Rattle.phys_proc.specs.Own.{IsCopy}
use Rattle.phys_proc.specs.Procs.{AreShared, IsLeast, IsProc, ProcView}
use Rattle.station_steps.specs.Mail.{IsEarliest, IsMailTaken, mail_for, mail_in}
use Rattle.station_steps.proofs.MailTimes.{least_with_mail}
use Rattle.station_steps.proofs.station_slot.StationSlot.with_least.Goals.{in-Some+else-is_idle, in_default}
use Rattle.station_steps.proofs.station_slot.StationSlot.with_least.Goals as goal

pub returns : goal.returns
returns c =
    let net = c.args.model.now in
    let ends = ends_in net.horizon c.args.ends.now in
    let p = c.self.inside.proc.value in
    let ms = mail_in c.self.inside.mail in
    let here = c.earlier_in_mail-here.result in
    let same : c.match-before.before ≡ c.args.before = elim c.match-before.branch [
      | in-Some+else-is_idle w ↦ w.before-is ∙ sym w.in-Some.is
      | in_default w ↦ w.before-is
    ] in
    let proc = c.self.invariant.proc net (subst (IsProc net) (sym c.self.view_is) c.requires.proc) in
    let shared = subst (λ (q : ProcView). AreShared q.living q.copies) c.deref-2.ensures c.living.ensures.shared in
    let least = subst (λ (q : ProcView). IsLeast ends q.copies here) c.self.view_is
    (least_with_mail net ends (mail_for p.station ms) p.copies shared.disjoint
    (λ a i. (all_in (IsCopy net p.station) p.copies a proc.copies i).sorted) p.living shared.together
    c.least.result here
    (subst (λ (q : ProcView). IsLeast ends q.copies c.least.result) c.deref-3.ensures c.least.ensures.least)
    (subst (λ (k : CloneSet). IsEarliest c.least.result (IsMailTaken ends k (mail_for p.station ms)) here)
    (c.living.ensures.value ∙ ap (λ (q : ProcView). q.living) c.deref-2.ensures)
    (subst (λ h. IsEarliest c.least.result
    (IsMailTaken (ends_in h c.args.ends.now) c.living.result (mail_for p.station ms)) here) c.horizon.ensures.value
    (subst (λ s. IsEarliest c.least.result
    (IsMailTaken (ends_in c.horizon.result c.args.ends.now) c.living.result (mail_for s ms)) here)
    (c.station.ensures.value ∙ ap (λ (q : ProcView). q.station) c.deref.ensures)
    c.earlier_in_mail-here.ensures.earliest)))) in
    record { least = inr (here, least, c.earlier.ensures.value ∙ ap (λ b. earlier b here) same) }
