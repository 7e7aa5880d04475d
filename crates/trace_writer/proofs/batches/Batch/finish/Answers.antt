use Rattle.std.proofs.Common.{subst}
use Rattle.trace_writer.specs.Batches.{AreMade, BatchView}
use Rattle.trace_writer.specs.Parts.{AreParts}
use Rattle.trace_writer.proofs.PartPuts.{AreMade-joined}
use Rattle.trace_writer.proofs.batches.Batch.finish.Goals as goal

pub returns-clause-made : goal.returns-clause-made
returns-clause-made g c =
    let b = c.self.inside in
    let made = c.in_ok-crew.made.items in
    subst (λ (v : BatchView). AreParts v.traces v.c v.from made v.until) c.self.view_is
    (AreMade-joined b.traces.now b.c b.from b.started.items b.until made c.self.invariant.joined
    (subst (λ t. AreMade t b.started.items made) c.self.invariant.work_is c.in_ok-crew.ensures.made))
