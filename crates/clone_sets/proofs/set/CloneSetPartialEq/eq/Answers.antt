use Rattle.std.proofs.Common.{◌∙◌, ap₂, ◌==◌}
use Rattle.clone_sets.proofs.WordLaws.{words_xor}
use Rattle.clone_sets.proofs.set.CloneSetPartialEq.eq.Goals as goal

pub returns : goal.returns
returns c = words_xor _ _ _ _ _ _ _ _ c.self.invariant c.other.invariant
    ∙ ap₂ (λ a b. a == b) c.self.view_is c.other.view_is
