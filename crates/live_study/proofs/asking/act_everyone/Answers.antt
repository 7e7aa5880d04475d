use Rattle.std.proofs.Common.{All, sym, subst}
use Rattle.decision_desk.specs.Desks.{desk_id}
use Rattle.live_study.specs.Showing.{MayAct}
use Rattle.live_study.proofs.asking.act_everyone.Goals as goal

pub for_each_mut-requires-clause-accepts : goal.for_each_mut-requires-clause-accepts
for_each_mut-requires-clause-accepts g c κs within i p less e =
    let desk = desk_id c.args.desk.now in
    let net = c.args.model.now in
    let ready = subst (All (MayAct desk net)) (sym c.as_mut_slice.ensures.value) c.requires in
    subst (MayAct desk net) (sym e) (ready i p.now less)
