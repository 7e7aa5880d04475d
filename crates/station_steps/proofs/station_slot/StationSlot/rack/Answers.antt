use Rattle.std.proofs.Common.{List, ℕ, ap, sym, subst, ◌∙◌, map}
use Rattle.phys_proc.specs.Procs.{ProcView}
use Rattle.phys_proc.specs.Racks.{RackCopyView, RackView, ShowsClones, view_of_copy}
use Rattle.phys_proc.proofs.RackViews.{shows_clones}
use Rattle.station_steps.specs.Mail.{mail_for, mail_in}
use Rattle.station_steps.proofs.TakenMail.{view_of_copy-mail}
use Rattle.station_steps.proofs.station_slot.StationSlot.rack.Goals as goal

pub rack-requires : goal.rack-requires
rack-requires c =
    let net = c.args.model.value in
    let cs = c.args.lists.value.clones in
    let p = c.self.inside.proc.value in
    let front = c.args.front in
    record {
      right = subst (λ (q : ProcView). ShowsClones net cs q.station front (map view_of_copy q.copies))
          (sym c.deref_mut.ensures.value)
          (subst (ShowsClones net cs p.station front)
          (view_of_copy-mail (mail_for p.station (mail_in c.self.inside.mail)) p.copies)
          (subst (λ (q : ProcView). ShowsClones net cs q.station front (map view_of_copy q.copies))
          (sym c.self.view_is)
          (shows_clones net cs c.args.self.now.station front c.args.self.now.copies c.requires.at_most
          c.requires.time_max
          c.requires.copies)));
    }

pub returns-clause-rack : goal.returns-clause-rack
returns-clause-rack c =
    let p = c.self.inside.proc.value in
    let shown : ℕ → List RackCopyView → RackView = λ s copies. record {
      net = c.args.model.value;
      clones = c.args.lists.value.clones;
      station = s;
      front = c.args.front;
      copies = copies;
    } in
    c.in_ok-rack.ensures.rack
    ∙ ap (λ (q : ProcView). shown q.station (map view_of_copy q.copies)) c.deref_mut.ensures.value
    ∙ ap (shown p.station) (sym (view_of_copy-mail (mail_for p.station (mail_in c.self.inside.mail)) p.copies))
    ∙ ap (λ (q : ProcView). shown q.station (map view_of_copy q.copies)) c.self.view_is
