use Rattle.std.proofs.Common.{ap, ap₂, ◌∙◌}
use Rattle.clone_sets.specs.Sets.{has, minus}
use Rattle.clone_sets.proofs.SetLaws.{has-minus}
use Rattle.clone_sets.proofs.WordLaws.{set_of-minus}
use Rattle.clone_sets.proofs.set.CloneSet.minus.Goals as goal

pub returns : goal.returns
returns c =
    let value = set_of-minus _ _ _ _ _ _ _ _ c.self.invariant c.o.invariant ∙ ap₂ minus c.self.view_is c.o.view_is in
    record { value = value; members = λ d. ap (λ s. has s d) value ∙ has-minus c.args.self c.args.o d }
