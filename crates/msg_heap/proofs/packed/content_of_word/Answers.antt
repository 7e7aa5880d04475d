use Rattle.std.proofs.Common.{ap, sym, ◌∙◌, arith}
use Rattle.sim_base.specs.declared.message.Payload.TheVariants as payload
use Rattle.msg_heap.proofs.Contents.{job_of, done_of}
use Rattle.msg_heap.proofs.packed.content_of_word.Goals as goal

pub returns-then-kind-eq1 : goal.returns-then-kind-eq1
returns-then-kind-eq1 c = record {
  value = ap payload.Job c.of_word-job.ensures.value ∙ sym (job_of c.args.low c.if-kind-eq1.true);
  none = tt;
}

pub returns-else-kind-eq1 : goal.returns-else-kind-eq1
returns-else-kind-eq1 c = record {
  value = ap payload.Done c.of_word-job.ensures.value
      ∙ sym (done_of c.args.low
      (omega (arith, c.if-kind-eq0.false, c.if-kind-eq1.false, c.if-kind-eq3.false)));
  none = tt;
}
