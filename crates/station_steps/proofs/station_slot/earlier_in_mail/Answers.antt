use Rattle.std.proofs.Common.{sym, subst}
use Rattle.phys_proc.specs.Ends.{ends_in}
use Rattle.phys_proc.specs.Own.{MarkedMessages}
use Rattle.station_steps.specs.Mail.{IsEarliest, IsMailTaken, mail_for, mail_in}
use Rattle.station_steps.proofs.station_slot.earlier_in_mail.Goals as goal

pub returns-in-Some : goal.returns-in-Some
returns-in-Some c =
    let ends = ends_in c.args.horizon c.args.ends.now in
    record {
      earliest = subst (λ o. IsEarliest c.args.before
          (IsMailTaken ends c.args.clones (mail_for c.args.station (mail_in o))) c.earlier_for.result)
          (sym c.in-Some.is)
          (subst (λ (ms : MarkedMessages). IsEarliest c.args.before
          (IsMailTaken ends c.args.clones (mail_for c.args.station ms)) c.earlier_for.result)
          c.deref.ensures c.earlier_for.ensures.earliest);
    }
