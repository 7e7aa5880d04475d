use Rattle.cloner_top.proofs.Preparing.{decided_ready, no_decisions, no_study, plan_ready}
use Rattle.cloner_top.proofs.prepare.prepare_study.Goals as goal

pub returns-in-Err-clause-err : goal.returns-in-Err-clause-err
returns-in-Err-clause-err g c =
    no_study _ _ _ _ _ c.requires.study c.requires.model _ c.in-Err.ensures.err

pub returns-in-Ok-plan_study-clause-ready : goal.returns-in-Ok-plan_study-clause-ready
returns-in-Ok-plan_study-clause-ready g c =
    plan_ready _ _ _ c.in-Ok-plan_study.ensures.valid c.in-Ok-plan_study.ensures.book

pub returns-in-Ok-plan_study-clause-ok : goal.returns-in-Ok-plan_study-clause-ok
returns-in-Ok-plan_study-clause-ok g c =
    decided_ready (Unit {0}) _ _ _ _ c.requires.study c.requires.model _ c.in-Ok.ensures.ok _ _
    c.in-Ok-plan_study.ensures.model c.in-Ok-plan_study.ensures.book

pub returns-clause-err : goal.returns-clause-err
returns-clause-err g c =
    no_decisions _ _ _ _ _ c.requires.study c.requires.model _ c.in-Ok.ensures.ok _ c.in-Err-plan_study.ensures.err
