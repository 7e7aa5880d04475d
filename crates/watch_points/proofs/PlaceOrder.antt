-- The places of the branches that were made, watch by watch.
use Rattle.std.proofs.Common.{◌≡◌, ℕ, suc, ◌+◌, List, [], ◌∷◌, ◌++◌, Option, Some, None, refl, ap, ◌∙◌}
use Rattle.std.proofs.Common.{arith, take}
use Rattle.std.specs.List.{range_with_len}
use Rattle.std.specs.Prelude.{slice_get}
use Rattle.std.proofs.lemmas.List.{map-append}
use Rattle.sim_base.proofs.ListLaws.{range_with_len-suc}
use Rattle.stations.proofs.Places.{take-next}
use Rattle.watch_points.specs.Branches.{present}
use Rattle.watch_points.specs.Progress.{made_branch, made_place, places_of}
use Rattle.watch_points.specs.Watchers.{progress_of}
use Rattle.watch_points.specs.declared.watcher.ActiveWatch.{ActiveWatch}
use Rattle.watch_points.specs.declared.watcher.Progress.{Progress}
use Rattle.watch_points.specs.declared.watcher.Progress.TheVariants.{Made, PastHorizon, Waiting}
use Rattle.watch_points.proofs.Passing.{pair_is}

-- ---- range_with_len

pub range-next : (n : ℕ) → range_with_len 0 (n + 1) ≡ range_with_len 0 n ++ n ∷ []
range-next n =
    let one : n + 1 ≡ suc n = omega arith in
    let none : 0 + n ≡ n = omega arith in
    ap (range_with_len 0) one ∙ range_with_len-suc 0 n ∙ ap (λ k. range_with_len 0 n ++ k ∷ []) none

-- ---- present

-- the values of two lists, one after the other
present-append : {X : Type 0} (os ps : List (Option X)) → present (os ++ ps) ≡ present os ++ present ps
present-append [] ps = refl
present-append (None ∷ os) ps = present-append os ps
present-append (Some x ∷ os) ps = ap (λ l. x ∷ l) (present-append os ps)

-- one more watch
pub places-more : (active : List ActiveWatch) (i : ℕ) (a : ActiveWatch) → slice_get active i ≡ Some a →
    present (places_of (progress_of (take (i + 1) active)))
    ≡ present (places_of (progress_of (take i active))) ++ present (made_place a.progress ∷ [])
places-more active i a e =
    ap (λ l. present (places_of (progress_of l))) (take-next active i a e)
    ∙ ap (λ l. present (places_of l)) (map-append (λ (b : ActiveWatch). b.progress) (take i active) (a ∷ []))
    ∙ ap present (map-append made_place (progress_of (take i active)) (a.progress ∷ []))
    ∙ present-append (places_of (progress_of (take i active))) (made_place a.progress ∷ [])

-- the place of a branch that was made
pub place-made : (p : Progress) (place start : ℕ) → made_branch p ≡ Some (place, start) → made_place p ≡ Some place
place-made (Waiting seen) place start e = absurd (cc)
place-made PastHorizon place start e = absurd (cc)
place-made (Made at from) place start e = ap Some (pair_is at from place start e).0

-- and of one that was not
pub place-none : (p : Progress) → made_branch p ≡ None → made_place p ≡ None
place-none (Waiting seen) e = refl
place-none PastHorizon e = refl
place-none (Made at from) e = absurd (cc)
