use Rattle.std.proofs.Common.{◌≡◌, ℕ, ◌+◌, ◌-◌, ◌∙◌, ap, subst, true, arith, Some, slice_get, List, ◌∷◌, [], ◌++◌}
use Rattle.stations.specs.Fitting.{fits_saved}
use Rattle.stations.specs.Handling.{StateView}
use Rattle.checkpoint.proofs.AcceptedStarts.{first_unfit-at}
use Rattle.checkpoint.proofs.RestoredStates.{restored_from-next}
use Rattle.checkpoint.proofs.resuming.restore_all.Goals as goal

pub unreachable-requires : goal.unreachable-requires
unreachable-requires c =
    let net = c.args.model.now in
    let bad = c.in-Err-Unfit.ensures.unfit c.in-Err-Unfit.field-0-is in
    let here : c.loop-s.s + 1 - 1 ≡ c.loop-s.s = omega arith in
    let there = subst (λ (i : ℕ). slice_get c.args.snapshot.now.saved i ≡ Some c.saved.result.now) here
    c.saved.ensures.value in
    let place : 1 + c.loop-s.s ≡ c.loop-s.s + 1 = omega arith in
    let good = subst (λ (r : ℕ). fits_saved net r c.saved.result.now ≡ true) place
    (first_unfit-at net 1 c.loop-s.s c.args.snapshot.now.saved c.saved.result.now c.requires.accepted.fit there) in
    cc

pub loop-s-preserved : goal.loop-s-preserved
loop-s-preserved c =
    let here : c.loop-s.s + 1 - 1 ≡ c.loop-s.s = omega arith in
    let there = subst (λ (i : ℕ). slice_get c.args.snapshot.now.saved i ≡ Some c.saved.result.now) here
    c.saved.ensures.value in
    c.in_ok-push-in-Ok.ensures.items
    ∙ (ap (λ (l : List StateView). l ++ c.in-Ok.state ∷ []) c.loop-s.invariant
    ∙ restored_from-next c.args.model.now c.loop-s.s c.args.snapshot.now.saved c.saved.result.now c.in-Ok.state there
    c.in-Ok.ensures.ok)
