use Rattle.std.proofs.Common.{◌≡◌, ap, arith, refl, subst, sym, ◌∙◌}
use Rattle.phys_proc.specs.Own.{IsLowerBoundOfAll, MarkedMessages}
use Rattle.phys_proc.specs.Procs.{IsProc, ProcView}
use Rattle.station_steps.specs.Mail.{IsFirstFor, KeepsMail, mail_for, mail_in, with_own_mail}
use Rattle.station_steps.specs.Windows.{IsDeliveredTo}
use Rattle.station_steps.proofs.TakenMail.{IsDeliveredTo-own, KeepsMail-post, taken_is}
use Rattle.station_steps.proofs.station_slot.StationSlot.post.Goals as goal

pub invariant_of-self-2 : goal.invariant_of-self-2
invariant_of-self-2 c =
    let bound = c.self.inside.lower_bound in
    let first = c.first_for-first.result in
    let low = c.min-lower_bound.ensures in
    let now = c.take_mail.new.proc in
    let old = with_own_mail (mail_in c.self.inside.mail) c.self.inside.proc.value in
    let taken : now ≡ old = taken_is (mail_in c.self.inside.mail) (mail_in c.take.result) c.self.inside.proc.value
    c.deref_mut.result.now c.take_mail.new.proc old c.in_ok-take_mail.ensures.given
    (ap mail_in c.take.ensures.value) c.deref_mut.ensures.value refl in
    let station = c.station.ensures.value ∙ ap (λ (p : ProcView). p.station) c.deref-2.ensures
    ∙ ap (λ (p : ProcView). p.station) (sym taken) in
    subst (λ (ms : MarkedMessages). KeepsMail c.min-lower_bound.result ms now) (sym c.in_ok-clone.ensures.cases)
    (KeepsMail-post c.requires.proc.0 bound first c.min-lower_bound.result c.args.mail.now.value now
    (subst (IsProc c.requires.proc.0) (sym (taken ∙ c.self.view_is)) c.requires.proc.1)
    (omega (arith, low)) (omega (arith, low))
    (subst (λ (ms : MarkedMessages). IsFirstFor now.station ms first) c.deref.ensures
    (subst (λ s. IsFirstFor s c.deref.result.now first) station c.first_for-first.ensures.first))
    (subst (λ (p : ProcView). IsLowerBoundOfAll bound p.copies) (sym taken) c.self.invariant.lower))

pub returns : goal.returns
returns c =
    let old = c.args.self.now in
    let taken : c.take_mail.new.proc ≡ old = taken_is (mail_in c.self.inside.mail) (mail_in c.take.result)
    c.self.inside.proc.value
    c.deref_mut.result.now c.take_mail.new.proc old c.in_ok-take_mail.ensures.given
    (ap mail_in c.take.ensures.value) c.deref_mut.ensures.value c.self.view_is in
    record {
      given = subst (λ (p : ProcView). IsDeliveredTo (mail_for old.station c.args.mail.now.value) old
          (with_own_mail c.in_ok-clone.field-0.value p)) (sym taken)
          (subst (λ (ms : MarkedMessages). IsDeliveredTo (mail_for old.station c.args.mail.now.value) old
          (with_own_mail ms old)) (sym c.in_ok-clone.ensures.cases)
          (IsDeliveredTo-own c.args.mail.now.value old));
    }
