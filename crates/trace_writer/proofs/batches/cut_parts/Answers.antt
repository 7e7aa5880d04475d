use Rattle.std.proofs.Common.{◌≤◌, arith, refl, subst, sym}
use Rattle.trace_writer.specs.Parts.{AreJoined}
use Rattle.trace_writer.proofs.PartPuts.{AreJoined-push}
use Rattle.trace_writer.proofs.batches.cut_parts.Goals as goal

pub cut-preserved : goal.cut-preserved
cut-preserved c =
    let h = c.cut.invariant in
    let stop = c.stop_after-stop.ensures in
    let next = c.next_end-until.ensures in
    let order : c.cut.from ≤ c.next_end-until.result = let l = next.later in omega (arith, l) in
    record {
      joined = subst (λ l. AreJoined c.args.rest.c c.args.rest.from l c.next_end-until.result)
          (sym c.in_ok-push.ensures.items)
          (AreJoined-push c.args.rest.c c.args.rest.from c.cut.parts.items c.cut.from _ h.joined refl refl order
          next.whole);
      within = omega (arith, next.within, stop.at_most);
      at_most = omega (arith, c.if-len-most.true, c.len.ensures, c.in_ok-push.ensures.len);
      later = omega (arith, h.later, next.later);
      further = λ some. omega (arith, h.later, next.later);
    }
