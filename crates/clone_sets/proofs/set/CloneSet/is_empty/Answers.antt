use Rattle.std.proofs.Common.{◌∙◌, ◌==◌, ap, eq-eqb, eqb-true, sym}
use Rattle.clone_sets.specs.Sets.{has}
use Rattle.clone_sets.proofs.SetLaws.{has-empty, empty_from_none}
use Rattle.clone_sets.proofs.WordLaws.{words_or}
use Rattle.clone_sets.proofs.set.CloneSet.is_empty.Goals as goal

pub returns : goal.returns
returns c =
    let value = words_or _ _ _ _ c.self.invariant ∙ ap (λ s. s == 0) c.self.view_is in record {
      value = value;
      members = (
        λ t d. ap (λ s. has s d) (eqb-true c.args.self 0 (sym value ∙ t)) ∙ has-empty d,
        λ none. value ∙ eq-eqb c.args.self 0 (empty_from_none c.args.self none),
      );
    }
