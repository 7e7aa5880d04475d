use Rattle.cloner_top.proofs.Endings.{no_run_failed, put_done}
use Rattle.cloner_top.proofs.watching.write_watched.Goals as goal

pub returns-in-Ok : goal.returns-in-Ok
returns-in-Ok g c = record {
  done = put_done _ _ _ _ _ _ _ c.in-Ok.ensures.wrote (rw c.deref.ensures at c.put_watched.ensures.done);
}

pub returns-in-Err : goal.returns-in-Err
returns-in-Err g c = record { done = no_run_failed _ _ _ _ _ c.in-Err.ensures.err }
