use Rattle.std.proofs.Common.{refl, ◌∙◌, codes}
use Rattle.toml.proofs.OnLiterals.{toml_on_literals}
use Rattle.net_model.specs.Examples.{linked_out, named_desk, timed_desk}
use Rattle.net_model.specs.Text.{model_of}
use Rattle.net_model.proofs.AsciiTexts.{ascii_model}
use Rattle.net_model.proofs.examples.refused_stations.Goals as goal

pub returns-clause-twice : goal.returns-clause-twice
unfolding toml_on_literals model_of
returns-clause-twice c = ascii_model (named_desk (codes "gate")) refl ∙ refl

pub returns-clause-capital : goal.returns-clause-capital
unfolding toml_on_literals model_of
returns-clause-capital c = ascii_model (named_desk (codes "Desk")) refl ∙ refl

pub returns-clause-analyst : goal.returns-clause-analyst
unfolding toml_on_literals model_of
returns-clause-analyst c = ascii_model (named_desk (codes "analyst")) refl ∙ refl

pub returns-clause-three : goal.returns-clause-three
unfolding toml_on_literals model_of
returns-clause-three c = ascii_model (timed_desk (codes "[4, 4, 4]")) refl ∙ refl

pub returns-clause-falling : goal.returns-clause-falling
unfolding toml_on_literals model_of
returns-clause-falling c = ascii_model (timed_desk (codes "[5, 4]")) refl ∙ refl

pub returns-clause-open : goal.returns-clause-open
unfolding toml_on_literals model_of
returns-clause-open c = ascii_model linked_out refl ∙ refl
