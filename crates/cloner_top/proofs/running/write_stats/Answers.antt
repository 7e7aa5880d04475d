use Rattle.std.proofs.Common.{◌∷◌, []}
use Rattle.queue_stats.specs.Rows.{statistics}
use Rattle.cloner_top.proofs.Endings.{no_run_failed}
use Rattle.cloner_top.proofs.Runs.{run_done}
use Rattle.cloner_top.proofs.running.write_stats.Goals as goal

pub returns-in-Ok : goal.returns-in-Ok
returns-in-Ok g c = record {
  done = run_done (λ n cs. statistics n cs ∷ []) _ _ _ _ _ _ c.deref.ensures c.in-Ok.ensures.clones
      c.in-Ok.ensures.within c.in-Ok.ensures.steps _ _ _ c.put_stats.ensures.done;
}

pub returns-in-Err : goal.returns-in-Err
returns-in-Err g c = record { done = no_run_failed _ _ _ _ _ (c.in-Err.ensures.err _) }
