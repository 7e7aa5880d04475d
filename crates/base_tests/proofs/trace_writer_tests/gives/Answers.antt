use Rattle.std.proofs.Common.{sym, ap, ◌∙◌, arith}
use Rattle.trace_writer.specs.Cursors.{CursorView}
use Rattle.trace_writer.specs.declared.tree.TheConstants.{NO_WORD}
use Rattle.trace_writer.proofs.Stepping.{next_some}
use Rattle.base_tests.proofs.trace_writer_tests.gives.Goals as goal

-- an entry is left
pub take-requires : goal.take-requires
take-requires g c = (
  omega arith,
  next_some NO_WORD c.least.result c.loop-pair.cursor.left c.least.ensures.next (omega arith) (omega arith),
)

-- taking it leaves the places unchanged
pub loop-pair-preserved : goal.loop-pair-preserved
loop-pair-preserved g c = sym (ap (λ (v : CursorView). v.most) c.take.ensures.value) ∙ c.loop-pair.invariant
