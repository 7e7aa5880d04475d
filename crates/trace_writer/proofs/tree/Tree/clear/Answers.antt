use Rattle.trace_writer.proofs.Fixing.{fresh}
use Rattle.trace_writer.specs.declared.tree.TheConstants.{NO_WORD}
use Rattle.trace_writer.proofs.tree.Tree.clear.Goals as goal

pub invariant_of-self : goal.invariant_of-self
invariant_of-self g c = fresh g.row.COUNT NO_WORD c.self.invariant.fixed
