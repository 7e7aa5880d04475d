use Rattle.std.proofs.Common.{◌≡◌, ap, sym, subst, ◌∙◌}
use Rattle.phys_proc.specs.Ends.{ends_in}
use Rattle.phys_proc.specs.Procs.{ProcView}
use Rattle.station_steps.specs.Mail.{mail_in, with_own_mail}
use Rattle.station_steps.specs.Windows.{HasAdvanced}
use Rattle.station_steps.proofs.TakenMail.{taken_is}
use Rattle.station_steps.proofs.station_slot.StationSlot.advance.Goals as goal

pub returns-clause-advanced : goal.returns-clause-advanced
returns-clause-advanced g c =
    let net = c.args.model.now in
    let ends = ends_in net.horizon c.args.ends.now in
    let gain = c.in_ok-gain.gain in
    let sent = c.advance.new.sent in
    let e = c.in_ok-gain.ensures in
    let taken : c.take_mail.new.proc ≡ c.args.self.now = taken_is (mail_in c.self.inside.mail) (mail_in c.take.result)
    c.self.inside.proc.value
    c.deref_mut.result.now c.take_mail.new.proc c.args.self.now c.in_ok-take_mail.ensures.given
    (ap mail_in c.take.ensures.value) c.deref_mut.ensures.value c.self.view_is in
    subst (λ o. HasAdvanced net c.args.self.now.station ends c.args.bound c.args.self.now
    (with_own_mail (mail_in o) c.advance.new.self) sent gain.over gain.handled) (sym c.take.ensures.after)
    (subst (λ (u : ProcView). HasAdvanced net u.station ends c.args.bound u c.advance.new.self sent gain.over
    gain.handled) (c.deref_mut-2.ensures.value ∙ taken)
    (record {
      windows = e.windows;
      over = e.over;
      gain = e.gained;
      proc = e.proc;
      number = e.station;
      living = e.living;
      once = e.handled;
    }))
