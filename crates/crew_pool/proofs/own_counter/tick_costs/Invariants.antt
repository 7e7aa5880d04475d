use Rattle.std.proofs.Common.{◌≡◌, ◌+◌}
use Rattle.std.specs.Prelude.{sum_by, take}
use Rattle.crew_pool.proofs.own_counter.tick_costs.Given as goal

abbrev pub invariant-loop-out : goal.invariant-loop-out
invariant-loop-out g l = l.steps ≡ l.initial.steps + sum_by g.W.Work.cost (take l.out-index l.outs)
