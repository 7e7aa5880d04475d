use Rattle.std.proofs.Common.{◌≡◌, take}
use Rattle.live_study.specs.Scripts.{acts_by}
use Rattle.live_study.proofs.begin.acts_of.Given as goal

abbrev pub invariant-loop-i : goal.invariant-loop-i
invariant-loop-i l = l.own.items ≡ acts_by l.a (take l.i l.script.items)
