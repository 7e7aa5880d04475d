-- The limits on the sums of a walk: no sum gets too large.
use Rattle.std.proofs.Common.{◌≡◌, ℕ, ◌+◌, ◌-◌, ◌*◌, ◌≤◌, List, ◌∷◌, length, arith, ◌&&◌, nat_lt}
use Rattle.std.proofs.Math.Nat.{mul-le-mul_left}
use Rattle.sim_base.specs.declared.limits.TheConstants.{MAX_HANDLED}
use Rattle.sim_base.specs.declared.entry.Entry.{Entry}
use Rattle.sim_base.specs.declared.entry.Line.{Line}
use Rattle.sim_base.specs.declared.message.Msg.{Msg}
use Rattle.queue_stats.specs.declared.tally.Tally.{Tally}
use Rattle.queue_stats.specs.Moments.{lost_in}
use Rattle.queue_stats.specs.Tallies.{is_job, is_done, is_set, with_entry, IsWithinLimits}
use Rattle.queue_stats.proofs.Lists.{one_if-le}

-- some entries may be added one after another
pub record MayAddAll (t : Tally) (es : List (Entry Msg Line)) : Type 0 where
  pub arrived : t.arrived + length es ≤ MAX_HANDLED
  pub lost : t.lost + length es ≤ MAX_HANDLED
  pub done : t.done + length es ≤ MAX_HANDLED
  pub changes : t.changes + length es ≤ MAX_HANDLED
  pub in_system : t.in_system ≤ MAX_HANDLED
  pub area : t.area ≤ MAX_HANDLED * t.last_time
  pub within_limits : IsWithinLimits t.last_time es

-- once the first of them is added, the rest may be added
pub may_add_all-rest : (t : Tally) (e : Entry Msg Line) (es : List (Entry Msg Line)) → MayAddAll t (e ∷ es)
    → MayAddAll (with_entry t e) es
may_add_all-rest t e es may =
    let job = one_if-le (is_job e.msg.payload) in
    let loss = one_if-le (is_job e.msg.payload && nat_lt t.last_lost (lost_in e.line)) in
    let done = one_if-le (is_done e.msg.payload) in
    let change = one_if-le (is_set e.msg.payload) in
    let later = may.within_limits.0 in
    let d : ℕ = e.msg.key.time - t.last_time in
    let whole : t.last_time + d ≡ e.msg.key.time = omega (arith, later) in
    let product : d * t.in_system ≤ d * MAX_HANDLED = mul-le-mul_left d may.in_system in
    record {
      arrived = omega (arith, may.arrived, job);
      lost = omega (arith, may.lost, loss);
      done = omega (arith, may.done, done);
      changes = omega (arith, may.changes, change);
      in_system = may.within_limits.2;
      area = omega (arith, may.area, product, whole);
      within_limits = may.within_limits.3;
    }

-- entries that are within the limits from some time on
pub record IsWithinLimitsFrom (es : List (Entry Msg Line)) : Type 0 where
  pub time : ℕ
  pub within_limits : IsWithinLimits time es
