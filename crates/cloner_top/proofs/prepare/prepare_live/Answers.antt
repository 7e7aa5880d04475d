use Rattle.cloner_top.proofs.Preparing.{live_ready, no_live}
use Rattle.cloner_top.proofs.prepare.prepare_live.Goals as goal

pub returns-in-Ok-clause-ok : goal.returns-in-Ok-clause-ok
returns-in-Ok-clause-ok g c =
    live_ready (Unit {0}) _ _ _ c.requires.live c.requires.model _ c.in-Ok.ensures.ok

pub returns-in-Err-clause-err : goal.returns-in-Err-clause-err
returns-in-Err-clause-err g c =
    no_live _ _ _ _ c.requires.live c.requires.model _ c.in-Err.ensures.err
