use Rattle.std.proofs.Common.{ap, ap₂, ◌∙◌}
use Rattle.clone_sets.specs.Sets.{has, meet}
use Rattle.clone_sets.proofs.SetLaws.{has-meet}
use Rattle.clone_sets.proofs.WordLaws.{set_of-meet}
use Rattle.clone_sets.proofs.set.CloneSet.meet.Goals as goal

pub returns : goal.returns
returns c =
    let value = set_of-meet _ _ _ _ _ _ _ _ c.self.invariant c.o.invariant ∙ ap₂ meet c.self.view_is c.o.view_is in
    record { value = value; members = λ d. ap (λ s. has s d) value ∙ has-meet c.args.self c.args.o d }
