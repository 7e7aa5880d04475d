use Rattle.std.proofs.Common.{drop}
use Rattle.trace_writer.specs.Parts.{HasPutParts}
use Rattle.trace_writer.proofs.beside.put_ready.Given as goal

abbrev pub invariant-loop-made : goal.invariant-loop-made
invariant-loop-made g l =
    HasPutParts l.traces l.fn.rest (drop l.made-index l.ready.parts.items) l.ready.until l.kept_until l.texts
    (g.O.Sink.view l.fn.out) (g.O.Sink.view l.out)
