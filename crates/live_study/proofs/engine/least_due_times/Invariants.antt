use Rattle.std.proofs.Common.{◌≡◌, take}
use Rattle.decision_desk.specs.Leasts.{leasts_of}
use Rattle.live_study.proofs.engine.least_due_times.Given as goal

abbrev pub invariant-loop-c : goal.invariant-loop-c
invariant-loop-c l = l.all.items ≡ take l.c (leasts_of l.world.net l.world.clones l.world.front)
