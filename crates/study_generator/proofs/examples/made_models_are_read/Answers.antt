use Rattle.std.proofs.Common.{refl, ◌∙◌}
use Rattle.std.specs.Fmt.{digits}
use Rattle.toml.proofs.OnLiterals.{toml_on_literals}
use Rattle.net_model.specs.Text.{model_of}
use Rattle.net_model.proofs.AsciiTexts.{ascii_model}
use Rattle.study_generator.specs.Texts.{model_text}
use Rattle.study_generator.proofs.examples.made_models_are_read.Goals as goal

pub returns-clause-first : goal.returns-clause-first
unfolding toml_on_literals model_of digits
returns-clause-first c = ascii_model (model_text 1) refl ∙ refl

pub returns-clause-seventh : goal.returns-clause-seventh
unfolding toml_on_literals model_of digits
returns-clause-seventh c = ascii_model (model_text 7) refl ∙ refl

pub returns-clause-last : goal.returns-clause-last
unfolding toml_on_literals model_of digits
returns-clause-last c = ascii_model (model_text 999999) refl ∙ refl
