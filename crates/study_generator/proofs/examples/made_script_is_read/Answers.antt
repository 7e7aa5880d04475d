use Rattle.std.proofs.Common.{refl}
use Rattle.std.specs.Fmt.{digits}
use Rattle.decision_script.specs.Printing.{canonical_text}
use Rattle.decision_script.specs.Reading.{after_line, after_lines}
use Rattle.decision_script.specs.Sentences.{section, look, fork, end, set, one_value, two_values}
use Rattle.study_generator.proofs.examples.made_script_is_read.Goals as goal

pub returns : goal.returns
unfolding canonical_text digits after_line after_lines section look fork end set one_value two_values
returns c = refl
