use Rattle.std.proofs.Common.{◌≡◌, ◌∷◌, ◌++◌, List, [], Some, None, ℕ, refl, sym, ap, ◌∙◌, append_assoc}
use Rattle.std.proofs.Common.{append-nil}
use Rattle.std.specs.Prelude.{slice_get, take}
use Rattle.std.proofs.lemmas.Option.{slice_get_read}
use Rattle.watch_points.specs.Branches.{present}
use Rattle.watch_points.specs.Progress.{made_place, places_of}
use Rattle.watch_points.specs.Watchers.{progress_of}
use Rattle.watch_points.proofs.PlaceOrder.{place-made, place-none, places-more}
use Rattle.watch_points.proofs.watcher.push_places.Goals as goal
use Rattle.watch_points.proofs.watcher.push_places.Goals.{in-Some+in_ok-push, in_default}

pub watches-preserved : goal.watches-preserved
watches-preserved c =
    let old : List ℕ = c.args.order.now.items in
    let so_far : List ℕ = present (places_of (progress_of (take c.watches.a-index c.args.active.now))) in
    let here : slice_get c.args.active.now c.watches.a-index ≡ Some c.a-item.result =
    slice_get_read c.args.active.now _ c.watches.a-index c.a-item.result refl c.watches-test.true c.a-item.is in
    let more = places-more c.args.active.now c.watches.a-index c.a-item.result here in
    elim c.match-made_branch.branch [
      | in-Some+in_ok-push w ↦
          (let made : made_place c.a-item.result.progress ≡ Some w.in-Some.place =
          place-made c.a-item.result.progress w.in-Some.place w.in-Some.field-0-1
          (sym c.made_branch.ensures.value ∙ w.in-Some.is) in
          ap (λ v. v.items) w.order-is ∙ w.in_ok-push.ensures.items
          ∙ ap (λ l. l ++ w.in-Some.place ∷ []) c.watches.invariant ∙ append_assoc old so_far (w.in-Some.place ∷ [])
          ∙ ap (λ l. old ++ l) (sym (more ∙ ap (λ o. so_far ++ present (o ∷ [])) made)))
      | in_default w ↦
          (let none : made_place c.a-item.result.progress ≡ None =
          place-none c.a-item.result.progress (sym c.made_branch.ensures.value ∙ w.in_default.is) in
          ap (λ v. v.items) w.order-is ∙ c.watches.invariant
          ∙ ap (λ l. old ++ l) (sym (more ∙ ap (λ o. so_far ++ present (o ∷ [])) none ∙ append-nil so_far)))
    ]
