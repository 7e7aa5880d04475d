use Rattle.std.proofs.Common.{Ok, Err}
use Rattle.cloner_top.proofs.LiveRuns.{live_done, stops_halted}
use Rattle.cloner_top.proofs.live.write_live.Goals as goal

pub returns-in-Err-clause-err : goal.returns-in-Err-clause-err
returns-in-Err-clause-err g c = stops_halted _ _ _ _ _ _ c.in-Err.ensures.err

pub returns-in-Ok-put_live-clause-ok : goal.returns-in-Ok-put_live-clause-ok
returns-in-Ok-put_live-clause-ok g c =
    live_done {T = Unit {0}} _ _ _ _ _ _ _ _ c.in-Ok.ensures.ok c.deref.ensures c.as_slice.ensures.value _ _ (Ok tt)
    c.in-Ok-put_live.ensures.done

pub returns-clause-err : goal.returns-clause-err
returns-clause-err g c =
    live_done {T = Unit {0}} _ _ _ _ _ _ _ _ c.in-Ok.ensures.ok c.deref.ensures c.as_slice.ensures.value _ _ (Err _)
    c.in-Err-put_live.ensures.done
