use Rattle.std.proofs.Common.{ap, ap₂, ◌∙◌}
use Rattle.std.proofs.lemmas.Nat.{or_lt}
use Rattle.clone_sets.specs.Sets.{has, union}
use Rattle.clone_sets.proofs.SetLaws.{has-union}
use Rattle.clone_sets.proofs.WordLaws.{set_of-union}
use Rattle.clone_sets.proofs.set.CloneSet.union.Goals as goal

pub invariant_of-result : goal.invariant_of-result
invariant_of-result c = record {
  word0 = or_lt 64 _ _ c.self.invariant.word0 c.o.invariant.word0;
  word1 = or_lt 64 _ _ c.self.invariant.word1 c.o.invariant.word1;
  word2 = or_lt 64 _ _ c.self.invariant.word2 c.o.invariant.word2;
  word3 = or_lt 64 _ _ c.self.invariant.word3 c.o.invariant.word3;
}

pub returns : goal.returns
returns c =
    let value = set_of-union _ _ _ _ _ _ _ _ c.self.invariant c.o.invariant ∙ ap₂ union c.self.view_is c.o.view_is in
    record { value = value; members = λ d. ap (λ s. has s d) value ∙ has-union c.args.self c.args.o d }
