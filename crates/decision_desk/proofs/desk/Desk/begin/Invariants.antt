use Rattle.std.proofs.Common.{◌≡◌, ◌≤◌}
use Rattle.decision_desk.specs.Desks.{desk_id}
use Rattle.decision_desk.specs.Passes.{new_passes, new_helm}
use Rattle.decision_desk.proofs.desk.Desk.begin.Given as goal

abbrev pub invariant-loop-i : goal.invariant-loop-i
invariant-loop-i l = record {
  within : l._i ≤ l.analysts;
  passes : l.passes.items ≡ new_passes (desk_id l.desk) l.fn.model.value l._i;
  helm : l.helm ≡ new_helm (desk_id l.desk) l.fn.model.value l._i;
}
