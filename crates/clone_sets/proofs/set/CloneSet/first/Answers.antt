use Rattle.std.proofs.Common.{sym, ◌∙◌}
use Rattle.clone_sets.proofs.WordLaws.{first_in_word0, first_in_word1, first_in_word2, first_in_word3, set_of-empty}
use Rattle.clone_sets.proofs.set.CloneSet.first.Goals as goal

pub returns-then-self-ne0-clause-some : goal.returns-then-self-ne0-clause-some
returns-then-self-ne0-clause-some c = rw (← c.self.view_is) (first_in_word0 _ _ _ _ c.self.invariant c.if-self-ne0.true)

pub returns-then-self-ne0-2-clause-some : goal.returns-then-self-ne0-2-clause-some
returns-then-self-ne0-2-clause-some c =
    rw (← c.self.view_is) (first_in_word1 _ _ _ _ c.self.invariant c.if-self-ne0.false c.if-self-ne0-2.true)

pub returns-then-self-ne0-3-clause-some : goal.returns-then-self-ne0-3-clause-some
returns-then-self-ne0-3-clause-some c =
    rw (← c.self.view_is) (first_in_word2 _ _ _ _ c.self.invariant c.if-self-ne0.false c.if-self-ne0-2.false
    c.if-self-ne0-3.true)

pub returns-then-self-ne0-4-clause-some : goal.returns-then-self-ne0-4-clause-some
returns-then-self-ne0-4-clause-some c =
    rw (← c.self.view_is) (first_in_word3 _ _ _ _ c.self.invariant c.if-self-ne0.false c.if-self-ne0-2.false
    c.if-self-ne0-3.false c.if-self-ne0-4.true)

pub returns-else-self-ne0-4-clause-none : goal.returns-else-self-ne0-4-clause-none
returns-else-self-ne0-4-clause-none c =
    sym c.self.view_is ∙ set_of-empty _ _ _ _ c.self.invariant c.if-self-ne0.false c.if-self-ne0-2.false
    c.if-self-ne0-3.false c.if-self-ne0-4.false
