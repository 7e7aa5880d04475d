use Rattle.std.proofs.Common.{refl, arith}
use Rattle.trace_writer.proofs.Fixing.{rises}
use Rattle.trace_writer.proofs.tree.step.Goals as goal

pub returns : goal.returns
returns c = record {
  rises = λ count words m.
      rises c.args.nodes.now count c.args.node c.args.least c.min-now.result _ words m (omega arith) refl
      c.min-now.ensures;
}
