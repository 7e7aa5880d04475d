use Rattle.std.proofs.Common.{◌≡◌, ◌++◌, ◌∷◌, [], arith, ap, sym, ◌∙◌}
use Rattle.std.specs.List.{range_with_len}
use Rattle.watch_points.proofs.PlaceOrder.{range-next}
use Rattle.watch_points.proofs.watcher.first_places.Goals as goal

pub below-preserved : goal.below-preserved
below-preserved c = c.in_ok-push.ensures.items ∙ ap (λ l. l ++ c.below.i ∷ []) c.below.invariant
    ∙ sym (range-next c.below.i)

pub returns : goal.returns
returns c =
    let end = c.below.auto.i-end in
    let past = c.below-test.false in
    let all : c.below.i ≡ c.args.n = omega (arith, end, past) in
    record { value = c.below.invariant ∙ ap (range_with_len 0) all }
