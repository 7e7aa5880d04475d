use Rattle.cloner_top.proofs.WatchedRuns.{watched_exceeds, watched_may_put, watched_wrote}
use Rattle.cloner_top.proofs.watching.run_world.Goals as goal

pub returns-in-Err-LimitMet-clause-err : goal.returns-in-Err-LimitMet-clause-err
returns-in-Err-LimitMet-clause-err g c =
    watched_exceeds _ _ _ _ _ _ _ _ _ _ _ c.lists-lists.ensures.value
    (rw c.in-Err-LimitMet.field-0-is at c.in-Err-LimitMet.ensures.ran.fault) c.deref.ensures
    c.numbered_name.ensures.value c.limit_at.ensures

pub returns-in-Ok-clause-may_put : goal.returns-in-Ok-clause-may_put
returns-in-Ok-clause-may_put g c =
    watched_may_put _ _ _ _ _ _ c.in-Ok.ensures.ran _ (rw c.lists-lists.ensures.value at c.lists-lists.ensures.planned)
    c.requires.fits

pub returns-in-Ok-clause-order : goal.returns-in-Ok-clause-order
returns-in-Ok-clause-order g c = c.in-Ok.ensures.ran.order

pub returns-in-Ok-clause-wrote : goal.returns-in-Ok-clause-wrote
returns-in-Ok-clause-wrote g c = watched_wrote _ _ _ _ _ _ c.in-Ok.ensures.ran
