use Rattle.std.proofs.Common.{◌+◌, ap, ◌∙◌}
use Rattle.std.proofs.lemmas.Result.{IfOk-weaker}
use Rattle.engine_tests.proofs.Counting.{sum_of_ones}
use Rattle.engine_tests.proofs.crew_pool_tests.call.Goals as goal

pub returns : goal.returns
returns g c = record {
  steps = IfOk-weaker c.all.result _ _
      (λ outs h. h.cost
      ∙ ap (λ n. c.args.steps.now + n) (sum_of_ones outs.items ∙ h.count ∙ c.in_ok-items.ensures.count))
      c.all.ensures.have_run;
}
