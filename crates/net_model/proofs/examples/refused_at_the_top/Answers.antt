use Rattle.std.proofs.Common.{refl, ◌∙◌, [], ◌++◌, codes}
use Rattle.std.specs.Fmt.{digits}
use Rattle.toml.proofs.OnLiterals.{toml_on_literals}
use Rattle.net_model.specs.Examples.{cut_text, sinks, small_text, top_text, top_with, with_top}
use Rattle.net_model.specs.Text.{model_of}
use Rattle.net_model.proofs.AsciiTexts.{ascii_model}
use Rattle.net_model.proofs.examples.refused_at_the_top.Goals as goal

pub returns-clause-empty : goal.returns-clause-empty
unfolding toml_on_literals model_of
returns-clause-empty c = ascii_model [] refl ∙ refl

pub returns-clause-unknown : goal.returns-clause-unknown
unfolding toml_on_literals model_of
returns-clause-unknown c = ascii_model (codes "speed = 3\n" ++ small_text) refl ∙ refl

pub returns-clause-no_number : goal.returns-clause-no_number
unfolding toml_on_literals model_of
returns-clause-no_number c = ascii_model (with_top (top_with (codes "\"2\"") (codes "20"))) refl ∙ refl

pub returns-clause-no_time : goal.returns-clause-no_time
unfolding toml_on_literals model_of
returns-clause-no_time c = ascii_model (with_top (top_with (codes "2") (codes "0"))) refl ∙ refl

pub returns-clause-cut : goal.returns-clause-cut
unfolding toml_on_literals model_of
returns-clause-cut c = ascii_model cut_text refl ∙ refl

pub returns-clause-crowd : goal.returns-clause-crowd
unfolding toml_on_literals model_of digits
returns-clause-crowd c = ascii_model (top_text ++ sinks 65) refl ∙ refl
