use Rattle.decision_script.proofs.OwnScript.{alone_is_script}
use Rattle.decision_script.proofs.one_clone.alone.Goals as goal

pub invariant_of-result : goal.invariant_of-result
invariant_of-result c =
    rw (
      c.in_ok-analysts.ensures.items,
      c.in_ok-items.ensures.value,
      c.as_slice.ensures.value,
      c.as_slice-2.ensures.value,
    )
    (alone_is_script (record { analysts = c.script.inside.analysts.items; items = c.script.inside.items.items })
    c.args.who.now c.script.invariant)
