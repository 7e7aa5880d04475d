use Rattle.std.proofs.Common.{◌≡◌, ◌<◌, ◌∙◌, arith, length, subst, sym}
use Rattle.trace_writer.specs.WorldTraces.{WorldTracesView}
use Rattle.trace_writer.proofs.PartPuts.{AreJoined-ready}
use Rattle.trace_writer.proofs.batches.Makers.start.Goals as goal

pub start-requires-clause-may_run : goal.start-requires-clause-may_run
start-requires-clause-may_run c κs =
    let traces : WorldTracesView = c.in_ok-work.work.value in
    let same : c.args.self ≡ traces = sym ((c.in_ok-work.ensures.ok ∙ c.of.ensures.value) ∙ c.self.view_is) in
    let rest = c.args.rest in
    let there = subst (λ (v : WorldTracesView). rest.c < length v.clones) same c.requires.in_range in
    let few = c.in_ok-items.ensures.at_most in
    record {
      at_most = omega (arith, few, c.self.invariant.1);
      ready = AreJoined-ready traces rest.c rest.from c.in_ok-items.items.items c.in_ok-items.until there
          c.in_ok-items.ensures.joined;
    }
