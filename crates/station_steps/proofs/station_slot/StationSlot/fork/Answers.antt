use Rattle.std.proofs.Common.{◌≡◌, ap, refl, subst, sym, ◌∙◌}
use Rattle.phys_proc.specs.Own.{IsLowerBoundOfAll}
use Rattle.phys_proc.specs.Procs.{ProcView}
use Rattle.phys_proc.proofs.Forks.{IsLowerBoundOfAll-forked}
use Rattle.station_steps.specs.Mail.{KeepsMail, mail_in, with_own_mail}
use Rattle.station_steps.proofs.TakenMail.{KeepsMail-none, taken_is}
use Rattle.station_steps.proofs.station_slot.StationSlot.fork.Goals as goal

pub invariant_of-self-2 : goal.invariant_of-self-2
invariant_of-self-2 c =
    let low = c.self.inside.lower_bound in
    let old = with_own_mail (mail_in c.self.inside.mail) c.self.inside.proc.value in
    let taken : c.take_mail.new.proc ≡ old = taken_is (mail_in c.self.inside.mail) (mail_in c.take.result)
    c.self.inside.proc.value
    c.deref_mut.result.now c.take_mail.new.proc old c.in_ok-take_mail.ensures.given
    (ap mail_in c.take.ensures.value) c.deref_mut.ensures.value refl in
    subst (λ o. KeepsMail low (mail_in o) c.fork.new.self) (sym c.take.ensures.after)
    (KeepsMail-none low c.fork.new.self (subst (λ (p : ProcView). IsLowerBoundOfAll low p.copies)
    (sym c.fork.ensures.forked)
    (IsLowerBoundOfAll-forked c.args.old c.args.new low c.deref_mut-2.result.now.copies
    (subst (λ (p : ProcView). IsLowerBoundOfAll low p.copies) (sym (c.deref_mut-2.ensures.value ∙ taken))
    c.self.invariant.lower))))
