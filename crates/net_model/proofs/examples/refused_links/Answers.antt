use Rattle.std.proofs.Common.{refl, ◌∙◌, codes}
use Rattle.toml.proofs.OnLiterals.{toml_on_literals}
use Rattle.net_model.specs.Examples.{linked_desk, without_link}
use Rattle.net_model.specs.Text.{model_of}
use Rattle.net_model.proofs.AsciiTexts.{ascii_model}
use Rattle.net_model.proofs.examples.refused_links.Goals as goal

pub returns-clause-nowhere : goal.returns-clause-nowhere
unfolding toml_on_literals model_of
returns-clause-nowhere c = ascii_model (linked_desk (codes "exit")) refl ∙ refl

pub returns-clause-back : goal.returns-clause-back
unfolding toml_on_literals model_of
returns-clause-back c = ascii_model (linked_desk (codes "gate")) refl ∙ refl

pub returns-clause-none : goal.returns-clause-none
unfolding toml_on_literals model_of
returns-clause-none c = ascii_model without_link refl ∙ refl
