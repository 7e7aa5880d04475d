use Rattle.std.proofs.Common.{arith, subst, sym}
use Rattle.trace_writer.specs.Parts.{AreParts}
use Rattle.trace_writer.specs.WorldTraces.{WorldTracesView}
use Rattle.trace_writer.proofs.beside.finish_batch.Goals as goal

pub returns-in-Ok-clause-ready : goal.returns-in-Ok-clause-ready
returns-in-Ok-clause-ready g c =
    let is = c.requires.batch in
    let parts = c.in-Ok.parts.items in
    let until = c.until-until.result in
    let end = c.until-until.ensures.value in
    record {
      parts_are = subst (λ (v : WorldTracesView). AreParts v c.args.rest.c c.args.rest.from parts until) is.traces_are
          (subst (λ n. AreParts c.args.batch.traces n c.args.rest.from parts until) is.clone
          (subst (λ n. AreParts c.args.batch.traces c.args.batch.c n parts until) is.begin
          (subst (λ n. AreParts c.args.batch.traces c.args.batch.c c.args.batch.from parts n) (sym end)
          c.in-Ok.ensures.made)));
      further = let a = is.further in omega (arith, a, end);
    }
