use Rattle.std.proofs.Common.{ℕ, ◌<◌, ◌≤◌, ◌-◌, length, get_or}
use Rattle.log_chain.specs.Times.{times_of}
use Rattle.log_chain.proofs.log.Log.place_of_time.Given as goal

abbrev pub invariant-loop-low : goal.invariant-loop-low
invariant-loop-low l = record {
  order : l.low ≤ l.high;
  within : l.high ≤ length l.self;
  before : (k : ℕ) → k < l.low → get_or (times_of l.self) k 0 < l.time;
  behind : (k : ℕ) → l.high ≤ k → k < length l.self → l.time ≤ get_or (times_of l.self) k 0;
}

abbrev pub decreases-loop-low : goal.decreases-loop-low
decreases-loop-low l = l.high - l.low
