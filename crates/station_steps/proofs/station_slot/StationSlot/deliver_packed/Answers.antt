use Rattle.std.proofs.Common.{◌≡◌, ap, refl, subst, sym, ◌∙◌, min}
use Rattle.phys_proc.specs.Own.{IsLowerBoundOfAll}
use Rattle.phys_proc.specs.Procs.{ProcView}
use Rattle.phys_proc.proofs.LowerBounds.{IsLowerBoundOfAll-zero, IsLowerBoundOfAll-given}
use Rattle.station_steps.specs.Mail.{KeepsMail, mail_in, with_own_mail}
use Rattle.station_steps.proofs.TakenMail.{KeepsMail-none, taken_is}
use Rattle.station_steps.proofs.station_slot.StationSlot.deliver_packed.Goals as goal

pub invariant_of-self-in_err-deliver_packed : goal.invariant_of-self-in_err-deliver_packed
invariant_of-self-in_err-deliver_packed c =
    subst (λ o. KeepsMail 0 (mail_in o) c.deliver_packed.new.self) (sym c.take.ensures.after)
    (KeepsMail-none 0 c.deliver_packed.new.self (IsLowerBoundOfAll-zero c.deliver_packed.new.self.copies))

pub invariant_of-self-2 : goal.invariant_of-self-2
invariant_of-self-2 c =
    let low = c.self.inside.lower_bound in
    let old = with_own_mail (mail_in c.self.inside.mail) c.self.inside.proc.value in
    let taken : c.take_mail.new.proc ≡ old = taken_is (mail_in c.self.inside.mail) (mail_in c.take.result)
    c.self.inside.proc.value
    c.deref_mut.result.now c.take_mail.new.proc old c.in_ok-take_mail.ensures.given
    (ap mail_in c.take.ensures.value) c.deref_mut.ensures.value refl in
    subst (λ o. KeepsMail c.min-lower_bound.result (mail_in o) c.deliver_packed.new.self) (sym c.take.ensures.after)
    (KeepsMail-none c.min-lower_bound.result c.deliver_packed.new.self
    (subst (IsLowerBoundOfAll c.min-lower_bound.result) (sym c.in_ok-deliver_packed.ensures.given)
    (IsLowerBoundOfAll-given low c.min-lower_bound.result c.args.msg c.args.set c.deref_mut-2.result.now.copies
    (c.min-lower_bound.ensures ∙ ap (λ t. min low t) c.time.ensures.value)
    (subst (λ (p : ProcView). IsLowerBoundOfAll low p.copies) (sym (c.deref_mut-2.ensures.value ∙ taken))
    c.self.invariant.lower))))
