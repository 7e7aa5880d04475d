use Rattle.cloner_top.proofs.LinkedRuns.{linked_exceeds, linked_may_put, linked_wrote}
use Rattle.cloner_top.proofs.linking.run_world.Goals as goal

pub returns-in-Err-LimitMet-clause-err : goal.returns-in-Err-LimitMet-clause-err
returns-in-Err-LimitMet-clause-err g c =
    linked_exceeds _ _ _ _ _ _ _ _ _ _ c.lists-lists.ensures.value
    (rw c.in-Err-LimitMet.field-0-is at c.in-Err-LimitMet.ensures.ran.fault) c.deref.ensures c.name.ensures.value
    c.limit_at.ensures

pub returns-in-Ok-clause-may_put : goal.returns-in-Ok-clause-may_put
returns-in-Ok-clause-may_put g c =
    linked_may_put _ _ _ _ _ c.in-Ok.ensures.ran _ (rw c.lists-lists.ensures.value at c.lists-lists.ensures.planned)

pub returns-in-Ok-clause-wrote : goal.returns-in-Ok-clause-wrote
returns-in-Ok-clause-wrote g c = linked_wrote _ _ _ _ _ c.in-Ok.ensures.ran
