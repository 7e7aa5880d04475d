use Rattle.std.proofs.Common.{sym, subst, ◌++◌, ◌∷◌, []}
use Rattle.decision_desk.specs.Desks.{desk_id}
use Rattle.live_study.specs.Asking.{HasAsked}
use Rattle.live_study.proofs.Doing.{asked_over}
use Rattle.live_study.proofs.asking.act_once.Goals as goal

pub returns-in-Look-clause-asked : goal.returns-in-Look-clause-asked
returns-in-Look-clause-asked g c acts h =
    let desk = desk_id c.args.desk.now in
    let new = c.look.new.analyst in
    subst (λ act. HasAsked desk (acts ++ act ∷ []) new) (sym c.in-Look.is)
    (asked_over desk acts c.in-Look.who c.in-Look.station c.args.analyst.now new h c.look.ensures.pass)
