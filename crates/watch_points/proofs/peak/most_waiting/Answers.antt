use Rattle.std.proofs.Common.{◌≤◌, sym, subst, arith}
use Rattle.watch_points.specs.Peaks.{NoMoreWait}
use Rattle.watch_points.proofs.Peaks.{ord_max-both}
use Rattle.watch_points.proofs.peak.most_waiting.Goals as goal

pub entries-preserved : goal.entries-preserved
entries-preserved c m l h =
    let both = ord_max-both c.entries.most c.waiting_jobs.result m (subst (λ n. n ≤ m) c.max-most.ensures l) in
    let waits = c.waiting_jobs.ensures.value in
    let low = both.1 in
    c.entries.invariant m both.0
    (subst (λ es. NoMoreWait m es) (sym c.in-Some.ensures.some) (omega (arith, low, waits), h))
