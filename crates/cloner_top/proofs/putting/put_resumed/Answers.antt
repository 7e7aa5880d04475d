use Rattle.cloner_top.proofs.Puts.{cut_one, put_one}
use Rattle.cloner_top.proofs.putting.put_resumed.Goals as goal

pub returns-in-Ok : goal.returns-in-Ok
returns-in-Ok g c = record { done = put_one _ _ _ c.in-Ok.ensures.ok.bytes c.in-Ok.ensures.ok.counted }

pub returns-in-Err : goal.returns-in-Err
returns-in-Err g c =
    let cut = c.in-Err.ensures.err in
    record { done = cut_one _ _ _ cut.bytes cut.failed cut.counted }
