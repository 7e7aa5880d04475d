use Rattle.std.proofs.lemmas.Result.{IfErr-weaker}
use Rattle.cloner_top.proofs.LiveRuns.{live_ok, live_stops}
use Rattle.cloner_top.proofs.live.run_to_end.Goals as goal

pub returns-in-Ok-clause-ok : goal.returns-in-Ok-clause-ok
returns-in-Ok-clause-ok g c =
    live_ok _ _ _ _ _ _ c.in-Ok.ensures.ran _ _ _ c.world_or_halt.ensures.ok c.world_or_halt.ensures.within
    c.world_or_halt.ensures.planned

pub returns-in-Ok-clause-err : goal.returns-in-Ok-clause-err
returns-in-Ok-clause-err g c =
    IfErr-weaker _ _ _ (live_stops _ _ _ _ _ _ c.in-Ok.ensures.ran _ c.deref.ensures) c.world_or_halt.ensures.err
