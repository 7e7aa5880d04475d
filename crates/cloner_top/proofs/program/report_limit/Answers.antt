use Rattle.std.proofs.Common.{inr, ◌∙◌}
use Rattle.cloner_top.proofs.Puts.{first_cut, told_then}
use Rattle.cloner_top.proofs.program.report_limit.Goals as goal

pub returns-in_default-clause-told : goal.returns-in_default-clause-told
returns-in_default-clause-told g c = inr (first_cut _ _ _ _ _ c.in_default.ensures.done c.in_default.ensures.cause)

pub returns-clause-told : goal.returns-clause-told
returns-clause-told g c =
    let line = c.as_bytes.ensures.value ∙ (c.text.ensures ∙ c.line-line.ensures) in
    told_then _ _ _ _ _ c.in-Ok.ensures.done c.put_text.ensures.later (rw line at c.put_text-2.ensures.told)
