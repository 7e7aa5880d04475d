use Rattle.std.proofs.Common.{refl, subst}
use Rattle.checkpoint.specs.Laws.{StopsOnward}
use Rattle.cloner_top.proofs.ResumedRuns.{resumed_done, resumed_exceeds}
use Rattle.cloner_top.proofs.resuming.write_resumed.Goals as goal

pub returns-in-Ok : goal.returns-in-Ok
returns-in-Ok g c = record {
  done = resumed_done _ c.deref.result.now c.args.resuming.now.snapshot _ _ c.deref.ensures _ _ _ _ _
      c.in-Ok.ensures.trace c.in-Ok.ensures.stays c.in-Ok.ensures.steps c.deref-in-Ok.ensures c.who.ensures.value
      c.lines.ensures.value c.trace.ensures _ _ _ c.put_resumed.ensures.done;
}

pub returns-in-Err-Limit : goal.returns-in-Err-Limit
returns-in-Err-Limit g c = record {
  done = (
    resumed_exceeds _ c.deref.result.now c.args.resuming.now.snapshot _ _ c.deref.ensures _ _ c.in-Err-Limit.station
        c.in-Err-Limit.field-0-1 _
        (subst (λ e. StopsOnward c.deref.result.now c.args.resuming.now.snapshot c.args.steps.now c.onward.new.steps e)
        c.in-Err-Limit.field-0-is c.in-Err-Limit.ensures.stops)
        c.deref-in-Err-Limit.ensures c.who-in-Err-Limit.ensures.value c.limit_at.ensures,
    refl,
  );
}
