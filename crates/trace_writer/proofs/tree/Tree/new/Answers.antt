use Rattle.trace_writer.proofs.Fixing.{fresh}
use Rattle.trace_writer.specs.declared.tree.TheConstants.{NO_WORD}
use Rattle.trace_writer.proofs.tree.Tree.new.Goals as goal

pub invariant_of-result : goal.invariant_of-result
invariant_of-result g c = fresh _ NO_WORD c.requires.fixed
