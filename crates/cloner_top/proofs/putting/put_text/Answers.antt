use Rattle.std.proofs.Common.{inl, inr}
use Rattle.cloner_top.proofs.Puts.{cut_one, put_one}
use Rattle.cloner_top.proofs.putting.put_text.Goals as goal

pub returns-in-Ok-clause-done : goal.returns-in-Ok-clause-done
returns-in-Ok-clause-done g c = put_one _ _ _ c.in-Ok.ensures.ok c.in-Ok.ensures.counted

pub returns-in-Ok-clause-told : goal.returns-in-Ok-clause-told
returns-in-Ok-clause-told g c = inl (put_one _ _ _ c.in-Ok.ensures.ok c.in-Ok.ensures.counted)

pub returns-in-Err-clause-done : goal.returns-in-Err-clause-done
returns-in-Err-clause-done g c = cut_one _ _ _ c.in-Err.ensures.part c.in-Err.ensures.cause c.in-Err.ensures.counted

pub returns-in-Err-clause-told : goal.returns-in-Err-clause-told
returns-in-Err-clause-told g c =
    inr (cut_one _ _ _ c.in-Err.ensures.part c.in-Err.ensures.cause c.in-Err.ensures.counted)
