use Rattle.std.proofs.Common.{◌*◌, ◌+◌, ap, ◌∙◌, arith}
use Rattle.clone_sets.specs.Sets.{has}
use Rattle.clone_sets.proofs.WordLaws.{in_word0, in_word1, in_word2, in_word3}
use Rattle.clone_sets.proofs.set.CloneSet.word.Goals as goal

pub returns-in-0 : goal.returns-in-0
returns-in-0 c = λ j l. in_word0 _ _ _ _ c.self.invariant c.args.i j c.in-0.is l
    ∙ ap (λ s. has s (64 * c.args.i + j)) c.self.view_is

pub returns-in-1 : goal.returns-in-1
returns-in-1 c = λ j l. in_word1 _ _ _ _ c.self.invariant c.args.i j c.in-1.is l
    ∙ ap (λ s. has s (64 * c.args.i + j)) c.self.view_is

pub returns-in-2 : goal.returns-in-2
returns-in-2 c = λ j l. in_word2 _ _ _ _ c.self.invariant c.args.i j c.in-2.is l
    ∙ ap (λ s. has s (64 * c.args.i + j)) c.self.view_is

pub returns-in_default : goal.returns-in_default
returns-in_default c = λ j l. in_word3 _ _ _ _ c.self.invariant c.args.i j (omega arith) l
    ∙ ap (λ s. has s (64 * c.args.i + j)) c.self.view_is
