use Rattle.std.proofs.Common.{◌∙◌}
use Rattle.std.proofs.lemmas.Result.{IfOk-weaker}
use Rattle.solo_run.proofs.Resuming.{IsSoloAfter-resumed}
use Rattle.base_tests.proofs.solo_run_tests.resumed.resume.Goals as goal

pub returns : goal.returns
returns c = record {
  after = IfOk-weaker c.resumed.result _ _ (λ again is. IsSoloAfter-resumed c.args.model.now c.args.solo.now
      c.requires.solo c.in_ok-states.states.items c.as_slice.result.now again c.in_ok-states.ensures.value
      (c.as_slice.ensures.value ∙ c.in_ok-due.ensures.value) is) c.resumed.ensures.value;
}
