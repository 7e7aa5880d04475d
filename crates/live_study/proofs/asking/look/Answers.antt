use Rattle.std.proofs.Common.{refl, ap}
use Rattle.sim_base.specs.Reserved.{ReservedView}
use Rattle.journal_text.specs.declared.looked.Looked.{Looked}
use Rattle.live_study.proofs.Doing.{looked_next}
use Rattle.live_study.proofs.asking.look.Goals as goal

pub returns-clause-looked : goal.returns-clause-looked
returns-clause-looked g c acts h =
    let e = c.see-looked.ensures in
    looked_next c.args.model.now acts c.args.who c.args.station c.args.analyst.now _ c.args.seat.now _
    c.see-looked.result h e.begins e.has_rack e.read e.later e.number e.who e.station
    (ap (λ (r : ReservedView Looked). r.items) c.in-Ok.ensures.ok) refl
