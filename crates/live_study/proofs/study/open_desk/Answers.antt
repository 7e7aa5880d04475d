use Rattle.std.proofs.Common.{◌≡◌, ◌∙◌, ap₂, length}
use Rattle.std.proofs.lemmas.Result.{IfOk-weaker}
use Rattle.decision_desk.specs.Desks.{desk_id}
use Rattle.decision_desk.specs.Passes.{new_helm, new_passes}
use Rattle.live_study.proofs.study.open_desk.Goals as goal

pub returns : goal.returns
returns c =
    let net = c.args.model.now.value in
    let many = length c.args.script.now.analysts in
    let own = c.in_ok-try_clone.ensures in
    let all = c.analysts.ensures.value in
    record {
      passes = IfOk-weaker c.begin.result
          (λ r. r.1.items ≡ new_passes (desk_id r.0) _ c.analysts.result)
          (λ r. r.1.items ≡ new_passes (desk_id r.0) net many)
          (λ r e. e ∙ ap₂ (new_passes (desk_id r.0)) own all) c.begin.ensures.passes;
      helm = IfOk-weaker c.begin.result (λ r. r.2 ≡ new_helm (desk_id r.0) _ c.analysts.result)
          (λ r. r.2 ≡ new_helm (desk_id r.0) net many)
          (λ r e. e ∙ ap₂ (new_helm (desk_id r.0)) own all) c.begin.ensures.helm;
    }
