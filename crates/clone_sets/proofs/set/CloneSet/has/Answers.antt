use Rattle.std.proofs.Common.{◌≡◌, ◌+◌, ◌*◌, ◌/◌, ◌%◌, ◌==◌, ap, ◌∙◌, arith}
use Rattle.std.proofs.lemmas.Nat.Bits.{shr_and_one}
use Rattle.clone_sets.specs.Sets.{has}
use Rattle.clone_sets.proofs.set.CloneSet.has.Goals as goal

pub returns : goal.returns
unfolding has
returns c =
    let whole : 64 * (c.args.c / 64) + c.args.c % 64 ≡ c.args.c = omega arith in
    ap (λ x. x == 1) (shr_and_one c.word.result (c.args.c % 64)) ∙ c.word.ensures (c.args.c % 64) (omega arith)
    ∙ ap (has c.args.self) whole
