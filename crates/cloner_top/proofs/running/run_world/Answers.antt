use Rattle.std.proofs.Common.{◌∙◌, ap, refl, subst, sym}
use Rattle.sim_base.specs.Clones.{clone_at}
use Rattle.trace_writer.specs.WorldTraces.{AreShort}
use Rattle.cloner_top.proofs.Runs.{run_exceeds, short_planned}
use Rattle.cloner_top.proofs.running.run_world.Goals as goal

pub returns-in-Err-LimitMet-clause-err : goal.returns-in-Err-LimitMet-clause-err
returns-in-Err-LimitMet-clause-err g c = λ texts.
    let name = c.name.ensures.value ∙ ap (λ l. (clone_at l c.in-Err-LimitMet.who).name) c.lists-lists.ensures.value in
    run_exceeds _ _ _ _ texts _ _ _ _ _ _ refl (rw c.in-Err-LimitMet.field-0-is at c.in-Err-LimitMet.ensures.ran.fault)
    c.deref.ensures name c.limit_at.ensures

pub returns-in-Ok-clause-may_report : goal.returns-in-Ok-clause-may_report
returns-in-Ok-clause-may_report g c =
    record { net = c.in-Ok.ensures.ran.net_is; ended = c.in-Ok.ensures.ran.front }

pub returns-in-Ok-clause-within : goal.returns-in-Ok-clause-within
returns-in-Ok-clause-within g c = c.in-Ok.ensures.ran.within

pub returns-in-Ok-clause-length_max : goal.returns-in-Ok-clause-length_max
returns-in-Ok-clause-length_max g c =
    let short = short_planned _ _ c.lists-lists.ensures.planned in
    subst AreShort (c.lists-lists.ensures.value ∙ sym c.in-Ok.ensures.ran.clones_are) short
