use Rattle.std.proofs.Common.{◌∙◌, refl}
use Rattle.cloner_top.proofs.RunPuts.{run_texts_done, traces_cut}
use Rattle.cloner_top.proofs.putting.put_prepared.Goals as goal

pub returns-in-Ok-clause-done : goal.returns-in-Ok-clause-done
returns-in-Ok-clause-done g c =
    run_texts_done _ _ _ _ refl refl _ (c.as_slice.ensures.value ∙ c.requires.ready.report_is) _ _ _
    c.in-Ok.ensures.ok c.in-Ok.ensures.each _ c.put_text.ensures.done c.put_text.ensures.cause c.in-Ok.ensures.later

pub returns-clause-done : goal.returns-clause-done
returns-clause-done g c =
    traces_cut _ _ _ _ refl refl _ _ c.in-Err.ensures.cut
