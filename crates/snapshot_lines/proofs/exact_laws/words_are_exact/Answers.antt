use Rattle.snapshot_lines.proofs.ExactForms.{nothing-exact, silent-exact, such-exact, number-exact}
use Rattle.snapshot_lines.proofs.exact_laws.words_are_exact.Goals as goal

pub returns-clause-nothing : goal.returns-clause-nothing
returns-clause-nothing c = nothing-exact

pub returns-clause-such : goal.returns-clause-such
returns-clause-such c = λ p. such-exact p

pub returns-clause-number : goal.returns-clause-number
returns-clause-number c = λ most small. number-exact most small

pub returns-clause-silent : goal.returns-clause-silent
returns-clause-silent c = λ n. silent-exact n
