use Rattle.std.proofs.Common.{refl}
use Rattle.std.specs.Fmt.{digits}
use Rattle.decision_script.specs.Reading.{after_line, after_lines}
use Rattle.decision_script.specs.Sentences.{section, look, fork, end, set, one_value, two_values}
use Rattle.decision_script.proofs.examples.refused_lines.Goals as goal

pub returns-clause-accent : goal.returns-clause-accent
unfolding after_line after_lines section look fork end set one_value two_values
returns-clause-accent c = refl

pub returns-clause-cut : goal.returns-clause-cut
unfolding after_line after_lines section look fork end set one_value two_values
returns-clause-cut c = refl

pub returns-clause-capital : goal.returns-clause-capital
unfolding after_line after_lines section look fork end set one_value two_values
returns-clause-capital c = refl

pub returns-clause-form_first : goal.returns-clause-form_first
unfolding after_line after_lines section look fork end set one_value two_values
returns-clause-form_first c = refl

pub returns-clause-zero : goal.returns-clause-zero
unfolding after_line after_lines section look fork end set one_value two_values
returns-clause-zero c = refl

pub returns-clause-wide : goal.returns-clause-wide
unfolding after_line after_lines section look fork end set one_value two_values
returns-clause-wide c = refl

pub returns-clause-crowd : goal.returns-clause-crowd
unfolding after_line after_lines section look fork end set one_value two_values digits
returns-clause-crowd c = refl
