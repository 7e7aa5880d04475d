use Rattle.std.proofs.Common.{◌<◌, ◌≤◌, ◌-◌, length, take, drop}
use Rattle.std.specs.List.{AllByRecursion}
use Rattle.trace_writer.specs.Words.{entry_word}
use Rattle.trace_writer.proofs.words.place_of_word.Given as goal

abbrev pub invariant-loop-low : goal.invariant-loop-low
invariant-loop-low l = record {
  order : l.low ≤ l.high;
  within : l.high ≤ length l.log;
  before : AllByRecursion (λ f. entry_word f < l.word) (take l.low l.log);
  behind : AllByRecursion (λ f. l.word ≤ entry_word f) (drop l.high l.log);
}

abbrev pub decreases-loop-low : goal.decreases-loop-low
decreases-loop-low l = l.high - l.low
