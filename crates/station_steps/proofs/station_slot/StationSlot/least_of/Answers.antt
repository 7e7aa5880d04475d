use Rattle.std.proofs.Common.{◌≡◌, ◌==◌, ℕ, ap, sym, subst, ◌∙◌}
use Rattle.clone_sets.specs.Sets.{has, meet, one}
use Rattle.clone_sets.specs.declared.set.CloneSet.{CloneSet}
use Rattle.run_laws.proofs.Queue.{all_in}
use Rattle.phys_proc.specs.Ends.{ends_in}
use Rattle.phys_proc.specs.Own.{IsCopy}
use Rattle.phys_proc.specs.Procs.{AreShared, IsLeastOf, IsProc, ProcView}
use Rattle.station_steps.specs.Mail.{IsEarliest, IsMailTaken, mail_for, mail_in}
use Rattle.station_steps.proofs.MailTimes.{least_of_with_mail}
use Rattle.station_steps.proofs.station_slot.StationSlot.least_of.Goals as goal

pub returns : goal.returns
returns c =
    let net = c.args.model.now in
    let ends = ends_in net.horizon c.args.ends.now in
    let p = c.self.inside.proc.value in
    let ms = mail_in c.self.inside.mail in
    let u = c.earlier_in_mail.result in
    let proc = c.self.invariant.proc net (subst (IsProc net) (sym c.self.view_is) c.requires.proc) in
    let shared = subst (λ (q : ProcView). AreShared q.living q.copies) c.deref-2.ensures c.living.ensures.shared in
    let is : c.meet.result ≡ meet p.living (one c.args.c) =
    c.meet.ensures.value ∙ ap (λ (s : CloneSet). meet s c.one.result)
    (c.living.ensures.value ∙ ap (λ (q : ProcView). q.living) c.deref-2.ensures)
    ∙ ap (meet p.living) c.one.ensures.value in
    record {
      least = subst (λ (q : ProcView). IsLeastOf ends q.copies c.args.c u) c.self.view_is
          (least_of_with_mail net ends (mail_for p.station ms) p.copies shared.disjoint
          (λ a i. (all_in (IsCopy net p.station) p.copies a proc.copies i).sorted) p.living c.meet.result c.args.c
          shared.together is
          (subst (λ (s : CloneSet). (d : ℕ) → has s d ≡ (c.args.c == d)) c.one.ensures.value c.one.ensures.members)
          c.least_of.result u
          (subst (λ (q : ProcView). IsLeastOf ends q.copies c.args.c c.least_of.result) c.deref-3.ensures
          c.least_of.ensures.least)
          (subst (λ h. IsEarliest c.least_of.result
          (IsMailTaken (ends_in h c.args.ends.now) c.meet.result (mail_for p.station ms)) u) c.horizon.ensures.value
          (subst (λ s. IsEarliest c.least_of.result
          (IsMailTaken (ends_in c.horizon.result c.args.ends.now) c.meet.result (mail_for s ms)) u)
          (c.station.ensures.value ∙ ap (λ (q : ProcView). q.station) c.deref.ensures)
          c.earlier_in_mail.ensures.earliest)));
    }
