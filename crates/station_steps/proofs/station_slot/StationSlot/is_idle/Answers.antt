use Rattle.std.proofs.Common.{subst}
use Rattle.phys_proc.specs.Procs.{AreShared, ProcView}
use Rattle.station_steps.specs.Mail.{mail_in}
use Rattle.station_steps.proofs.TakenMail.{AreShared-mail}
use Rattle.station_steps.proofs.station_slot.StationSlot.is_idle.Goals as goal

pub returns-clause-shared : goal.returns-clause-shared
returns-clause-shared c = subst (λ (p : ProcView). AreShared p.living p.copies) c.self.view_is
    (AreShared-mail (mail_in c.self.inside.mail) c.self.inside.proc.value
    (subst (λ (p : ProcView). AreShared p.living p.copies) c.deref.ensures c.copies-copies.ensures.shared))
