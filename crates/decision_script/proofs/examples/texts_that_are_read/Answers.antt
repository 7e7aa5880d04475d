use Rattle.std.proofs.Common.{refl}
use Rattle.decision_script.specs.Reading.{after_line, after_lines}
use Rattle.decision_script.specs.Sentences.{section, look, fork, end, set, one_value, two_values}
use Rattle.decision_script.proofs.examples.texts_that_are_read.Goals as goal

pub returns-clause-clones : goal.returns-clause-clones
unfolding after_line after_lines section look fork end set one_value two_values
returns-clause-clones c = refl

pub returns-clause-again : goal.returns-clause-again
unfolding after_line after_lines section look fork end set one_value two_values
returns-clause-again c = refl

pub returns-clause-planners : goal.returns-clause-planners
unfolding after_line after_lines section look fork end set one_value two_values
returns-clause-planners c = refl

pub returns-clause-loose : goal.returns-clause-loose
unfolding after_line after_lines section look fork end set one_value two_values
returns-clause-loose c = refl

pub returns-clause-late : goal.returns-clause-late
unfolding after_line after_lines section look fork end set one_value two_values
returns-clause-late c = refl
