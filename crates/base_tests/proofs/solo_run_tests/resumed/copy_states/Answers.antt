use Rattle.std.proofs.Common.{◌≡◌, ◌+◌, ◌-◌, ◌∙◌, ap, ap₂, arith, List, ◌++◌, ◌∷◌, [], slice_get, sym}
use Rattle.stations.specs.Handling.{StateView}
use Rattle.stations.proofs.Places.{take-next}
use Rattle.base_tests.proofs.solo_run_tests.resumed.copy_states.Goals as goal

pub loop-i-preserved : goal.loop-i-preserved
loop-i-preserved c =
    let states = c.args.solo.now.states in
    let place : c.loop-i.i + 1 - 1 ≡ c.loop-i.i = omega arith in
    let next = take-next states c.loop-i.i c.state.result.now
    (ap (slice_get states) (sym place) ∙ c.state.ensures.value) in
    rw c.in_ok-push.ensures.items (ap₂ (λ (l : List StateView) (st : StateView). l ++ st ∷ []) c.loop-i.invariant
    c.in_ok-copy.ensures ∙ sym next)
