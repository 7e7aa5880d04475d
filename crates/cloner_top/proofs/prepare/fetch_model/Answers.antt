use Rattle.cloner_top.specs.Reading.{IsBadModel}
use Rattle.cloner_top.proofs.Preparing.{bad_model, no_model_text, stopped_by}
use Rattle.cloner_top.proofs.prepare.fetch_model.Goals as goal

pub returns-in-Err-clause-err : goal.returns-in-Err-clause-err
returns-in-Err-clause-err g c = no_model_text _ _ _ _ c.in-Err.ensures.err

pub returns-clause-err : goal.returns-clause-err
returns-clause-err g c =
    stopped_by _ _ _ (IsBadModel c.in-Ok.text.items) _ (λ stop bad. bad_model _ _ _ c.in-Ok.ensures.ok stop bad)
    (rw c.as_slice.ensures.value at c.in-Err-read_model_text.ensures.err)
