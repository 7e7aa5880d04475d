use Rattle.std.proofs.Common.{◌≡◌, ℕ, ◌+◌, ◌-◌, ◌∙◌, ap, subst, arith, map, take, slice_get, Some, List, [], ◌∷◌, ◌++◌}
use Rattle.stations.specs.Saving.{saved_of}
use Rattle.stations.specs.declared.saved.Saved.{Saved}
use Rattle.checkpoint.proofs.SoloSnapshots.{saved-next}
use Rattle.checkpoint.proofs.saving.save_all.Goals as goal

pub loop-s-preserved : goal.loop-s-preserved
loop-s-preserved c =
    let here : c.loop-s.s + 1 - 1 ≡ c.loop-s.s = omega arith in
    let there = subst (λ (i : ℕ). slice_get c.args.solo.now.states i ≡ Some c.state.result.now) here
    c.state.ensures.value in
    c.in_ok-push.ensures.items
    ∙ (ap (λ (l : List Saved). l ++ c.in_ok-saved.field-0 ∷ []) c.loop-s.invariant
    ∙ (ap (λ (x : Saved). map saved_of (take c.loop-s.s c.args.solo.now.states) ++ x ∷ []) c.in_ok-saved.ensures
    ∙ saved-next c.loop-s.s c.args.solo.now.states c.state.result.now there))
