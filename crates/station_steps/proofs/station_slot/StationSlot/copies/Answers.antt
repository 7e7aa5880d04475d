use Rattle.std.proofs.Common.{ap, sym, ◌∙◌, map}
use Rattle.phys_proc.specs.Own.{but_pending}
use Rattle.phys_proc.specs.Procs.{ProcView}
use Rattle.station_steps.specs.Mail.{mail_for, mail_in}
use Rattle.station_steps.proofs.TakenMail.{but_pending-mail}
use Rattle.station_steps.proofs.station_slot.StationSlot.copies.Goals as goal

pub returns : goal.returns
returns c =
    let p = c.self.inside.proc.value in
    record {
      same = ap (map but_pending) (c.copies.ensures.value ∙ ap (λ (q : ProcView). q.copies) c.deref.ensures)
          ∙ sym (but_pending-mail (mail_for p.station (mail_in c.self.inside.mail)) p.copies)
          ∙ ap (λ (q : ProcView). map but_pending q.copies) c.self.view_is;
    }
