use Rattle.std.proofs.Common.{ap, ◌∙◌}
use Rattle.sim_draw.specs.Drawing.{word}
use Rattle.sim_draw.proofs.Words.{generator-next}
use Rattle.sim_draw.proofs.draws.Draws.word.Goals as goal

pub invariant_of-self : goal.invariant_of-self
invariant_of-self c = ap (λ r. r.1) c.next_word-word.ensures ∙ rw c.self.invariant (generator-next _)

pub returns-clause-value : goal.returns-clause-value
unfolding word
returns-clause-value c = let e = ap (λ r. r.0) c.next_word-word.ensures in rw (e, c.self.invariant, ← c.self.view_is)
