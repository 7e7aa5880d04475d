use Rattle.std.proofs.Common.{◌≡◌, ◌+◌, ◌<◌, drop}
use Rattle.std.specs.Prelude.{sum}
use Rattle.sim_draw.specs.Drawing.{index_of}
use Rattle.sim_draw.proofs.draws.index_above.Given as goal

abbrev pub invariant-loop-i : goal.invariant-loop-i
invariant-loop-i l = record {
  rest : l.left < sum (drop l.i l.weights);
  found : index_of l.weights l.x ≡ l.i + index_of (drop l.i l.weights) l.left;
}
