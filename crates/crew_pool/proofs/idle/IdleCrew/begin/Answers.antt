use Rattle.std.proofs.Common.{◌≡◌, None, length, ap, ◌∙◌, subst, sym, arith}
use Rattle.std.proofs.lemmas.List.{length_push}
use Rattle.std.proofs.lemmas.List.Elements.{All-push}
use Rattle.crew_pool.specs.Calls.{AreIdle}
use Rattle.crew_pool.proofs.idle.IdleCrew.begin.Goals as goal

pub loop-number-preserved : goal.loop-number-preserved
loop-number-preserved g c =
    let more = c.in_ok-add-2.ensures.value in
    let longer = ap length more ∙ length_push c.loop-number.callers.items c.in_ok-caller.caller in (
      omega (arith, longer, c.loop-number.invariant.0),
      subst (λ l. AreIdle l) (sym more)
          (All-push (λ caller. caller ≡ None) c.loop-number.callers.items c.in_ok-caller.caller
          c.loop-number.invariant.1 c.in_ok-caller.ensures.idle.0),
    )
