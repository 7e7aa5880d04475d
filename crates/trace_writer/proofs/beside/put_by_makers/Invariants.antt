use Rattle.std.proofs.Common.{◌≡◌, ◌-◌}
use Rattle.trace_writer.specs.Batches.{MakeFor}
use Rattle.trace_writer.specs.Parts.{AreParts, IsPutUpTo}
use Rattle.trace_writer.proofs.beside.put_by_makers.Given as goal

abbrev pub invariant-batch : goal.invariant-batch
invariant-batch g l = record {
  left : l.left ≡ record l.rest { from = l.left.from; kept_until = l.left.kept_until };
  put : IsPutUpTo l.traces l.rest l.left.from l.left.kept_until l.texts (g.O.Sink.view l.fn.out) (g.O.Sink.view l.out);
  ready : AreParts l.traces l.rest.c l.left.from l.ready.parts.items l.ready.until;
  makers : MakeFor l.traces l.help.makers;
}

abbrev pub decreases-batch : goal.decreases-batch
decreases-batch g l = l.end - l.ready.until
