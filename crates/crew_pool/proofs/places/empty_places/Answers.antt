use Rattle.std.proofs.Common.{refl, ◌≡◌, ◌+◌, None, ap, length, arith, ◌∙◌}
use Rattle.std.proofs.lemmas.List.{length_push}
use Rattle.std.proofs.lemmas.List.Elements.{All-push}
use Rattle.crew_pool.proofs.places.empty_places.Goals as goal

pub loop-i-preserved : goal.loop-i-preserved
loop-i-preserved g c =
    let more = c.in_ok-add.ensures.value in
    let longer : length c.add.new.list.items ≡ length c.loop-i.places.items + 1 =
    ap length more ∙ length_push c.loop-i.places.items None in (
      omega (arith, longer, c.loop-i.invariant.0),
      rw more (All-push (λ p. p ≡ None) c.loop-i.places.items None c.loop-i.invariant.1 refl),
    )
