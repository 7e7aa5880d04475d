use Rattle.std.proofs.Common.{◌∙◌, ap}
use Rattle.clone_sets.specs.Sets.{has}
use Rattle.clone_sets.specs.Words.{set_of}
use Rattle.clone_sets.proofs.SetLaws.{has-one}
use Rattle.clone_sets.proofs.WordLaws.{set_of-one}
use Rattle.clone_sets.proofs.set.CloneSet.one.Goals as goal

pub returns : goal.returns
returns c =
    let value = (λ i. set_of (c.bit_of.ensures i) (c.bit_of-2.ensures i) (c.bit_of-3.ensures i)
    (c.bit_of-4.ensures i)) ∙ set_of-one c.args.c c.requires in
    record { value = value; members = λ d. ap (λ s. has s d) value ∙ has-one c.args.c d }
