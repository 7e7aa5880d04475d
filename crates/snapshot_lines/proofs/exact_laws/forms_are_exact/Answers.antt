use Rattle.snapshot_lines.proofs.ExactForms.{and_then-exact, led-exact, many-exact}
use Rattle.snapshot_lines.proofs.JoinedWords.{joined-exact, joined_words-exact, led_or-exact}
use Rattle.snapshot_lines.proofs.exact_laws.forms_are_exact.Goals as goal

pub returns-clause-both : goal.returns-clause-both
returns-clause-both g c = and_then-exact g.T.TwoForms.first g.T.TwoForms.second g.T.TwoForms.first_is
    g.T.TwoForms.second_is

pub returns-clause-many : goal.returns-clause-many
returns-clause-many g c = λ n. many-exact g.T.TwoForms.first g.T.TwoForms.first_is n

pub returns-clause-either : goal.returns-clause-either
returns-clause-either g c = λ w others. led_or-exact w g.T.TwoForms.first g.T.TwoForms.second g.T.TwoForms.first_is
    g.T.TwoForms.second_is others

pub returns-clause-line : goal.returns-clause-line
returns-clause-line g c = λ p between other only some. joined_words-exact g.T.TwoForms.first g.T.TwoForms.first_is p
    between other only some

pub returns-clause-word : goal.returns-clause-word
returns-clause-word g c = λ between is. joined-exact between g.T.TwoForms.first is

pub returns-clause-led : goal.returns-clause-led
returns-clause-led g c = λ w. led-exact w g.T.TwoForms.first g.T.TwoForms.first_is
