use Rattle.std.proofs.Common.{refl, ◌∙◌}
use Rattle.toml.proofs.OnLiterals.{toml_on_literals}
use Rattle.net_model.specs.Examples.{small_text}
use Rattle.net_model.specs.Text.{model_of}
use Rattle.net_model.proofs.AsciiTexts.{ascii_model}
use Rattle.net_model.proofs.examples.small_model.Goals as goal

pub returns : goal.returns
unfolding toml_on_literals model_of
returns c = ascii_model small_text refl ∙ refl
