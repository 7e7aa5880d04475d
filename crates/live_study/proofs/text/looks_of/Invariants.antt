use Rattle.std.proofs.Common.{◌≡◌, ◌++◌, drop}
use Rattle.live_study.specs.Lives.{all_looks}
use Rattle.live_study.proofs.text.looks_of.Given as goal

abbrev pub invariant-loop-own : goal.invariant-loop-own
invariant-loop-own l = l.all.items ++ all_looks (drop l.own-index l.looks) ≡ all_looks l.looks
