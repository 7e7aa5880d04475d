-- Answers at their places.
use Rattle.std.proofs.Common.{◌≡◌, ◌≢◌, ℕ, ◌+◌, ◌<◌, List, [], ◌∷◌, ◌++◌, length, set, map, Option, Some, None, IfSome}
use Rattle.std.proofs.Common.{sym, ap, ◌∙◌, subst, ⊎_elim, arith, get_or}
use Rattle.std.proofs.lemmas.Bool.{cases_eq}
use Rattle.std.proofs.lemmas.Grind.{get_or-set_at}
use Rattle.std.proofs.lemmas.Option.{none-some}
use Rattle.std.proofs.lemmas.List.{get_or-set_other, get_or-map, length-map, length-set}
use Rattle.crew_pool.specs.Tasks.{EachAt}
use Rattle.crew_pool.specs.Deque.{occurrences, one_if_same, one_if_below, numbers, EachPair}
use Rattle.crew_pool.specs.Calls.{AreIdle, ArePlaced}
use Rattle.crew_pool.proofs.Pairs.{numbers-push}
use Rattle.crew_pool.proofs.DequeRule.{occurrences-append}

-- ---- occurrences

-- a number is once more in a list that it joins
occurrences-push : {Y : Type 0} (j : ℕ) (ps : List (ℕ × Y)) (p : ℕ × Y)
    → occurrences j (numbers (ps ++ p ∷ [])) ≡ occurrences j (numbers ps) + one_if_same j p.0
occurrences-push j ps p =
    omega (arith, ap (occurrences j) (numbers-push ps p), occurrences-append j (numbers ps) (p.0 ∷ []))

-- another number occurs as often as before
occurrences-other : {Y : Type 0} (j : ℕ) (ps : List (ℕ × Y)) (p : ℕ × Y) → j ≢ p.0
    → 0 < occurrences j (numbers (ps ++ p ∷ [])) → 0 < occurrences j (numbers ps)
occurrences-other j ps p other some = omega (arith, some, occurrences-push j ps p, not_here j p.0 other)
  where
    not_here : (x y : ℕ) → x ≢ y → one_if_same x y ≡ 0
    not_here x y e = grind (arith, e)

-- ---- EachPair

-- of pairs with one more at the end, the others and that one are as their numbers ask
pub EachPair-split : {Y : Type 0} (asks : ℕ → Y → Type 0) (ps : List (ℕ × Y)) (p : ℕ × Y)
    → EachPair asks (ps ++ p ∷ []) → EachPair asks ps × asks p.0 p.1
EachPair-split asks [] p all = (tt, all.0)
EachPair-split asks (q ∷ qs) p all = let r = EachPair-split asks qs p all.1 in ((all.0, r.0), r.1)

-- ---- ArePlaced

-- nothing lies at empty places
pub ArePlaced-empty : {Y : Type 0} (asks : ℕ → Y → Type 0) (places : List (Option Y)) → AreIdle places
    → ArePlaced asks places []
ArePlaced-empty asks places empty j d less =
    (subst (λ o. IfSome o (λ y. asks j y)) (sym (empty j d less)) tt, λ some. absurd (omega (arith, some)))

-- one more answer is put at its place
pub ArePlaced-put : {Y : Type 0} (asks : ℕ → Y → Type 0) (places : List (Option Y)) (ps : List (ℕ × Y)) (p : ℕ × Y)
    → p.0 < length places → asks p.0 p.1 → ArePlaced asks places ps
    → ArePlaced asks (set places p.0 (Some p.1)) (ps ++ p ∷ [])
ArePlaced-put asks places ps p below one all j d less =
    let there : j < length places = omega (arith, less, length-set places p.0 (Some p.1)) in
    ⊎_elim
    (λ (same : j ≡ p.0).
    let here : get_or (set places p.0 (Some p.1)) j d ≡ Some p.1 = get_or-set_at places p.0 j (Some p.1) d same below in (
      subst (λ o. IfSome o (λ y. asks j y)) (sym here) (subst (λ (n : ℕ). asks n p.1) (sym same) one),
      λ _ none. none-some p.1 (sym none ∙ here),
    ))
    (λ (other : j ≢ p.0).
    let kept : get_or (set places p.0 (Some p.1)) j d ≡ get_or places j d =
    get_or-set_other places p.0 j (Some p.1) d other in (
      subst (λ o. IfSome o (λ y. asks j y)) (sym kept) (all j d there).0,
      λ some none. (all j d there).1 (occurrences-other j ps p other some) (sym kept ∙ none),
    ))
    (cases_eq j p.0)

-- a number after the last place changes nothing
pub ArePlaced-skip : {Y : Type 0} (asks : ℕ → Y → Type 0) (places : List (Option Y)) (ps : List (ℕ × Y)) (p : ℕ × Y)
    → ¬ (p.0 < length places) → ArePlaced asks places ps → ArePlaced asks places (ps ++ p ∷ [])
ArePlaced-skip asks places ps p behind all j d less =
    let other : j ≢ p.0 = λ same. behind (omega (arith, less, same)) in
    ((all j d less).0, λ some. (all j d less).1 (occurrences-other j ps p other some))

-- if each number is in the list, no place is empty
pub ArePlaced-full : {Y : Type 0} (asks : ℕ → Y → Type 0) (places : List (Option Y)) (ps : List (ℕ × Y)) (n : ℕ)
    → length places ≡ n → ((x : ℕ) → occurrences x (numbers ps) ≡ one_if_below x n) → ArePlaced asks places ps
    → (j : ℕ) (d : Option Y) → j < length places → get_or places j d ≢ None
ArePlaced-full asks places ps n long once all j d less =
    (all j d less).1 (omega (arith, once j, below j n (omega (arith, less, long))))
  where
    below : (x n : ℕ) → x < n → one_if_below x n ≡ 1
    below x n e = grind (arith, e)

-- `asks` holds of the taken values and their places
pub ArePlaced-taken : {Y : Type 0} (asks : ℕ → Y → Type 0) (places : List (Option Y)) (ps : List (ℕ × Y))
    (outs : List Y)
    → ArePlaced asks places ps → places ≡ map Some outs → EachAt asks outs
ArePlaced-taken {Y} asks places ps outs all taken i d less =
    let long : length places ≡ length outs = ap length taken ∙ length-map outs (λ (y : Y). Some y) in
    let here : get_or places i (Some d) ≡ Some (get_or outs i d) =
    ap (λ (l : List (Option Y)). get_or l i (Some d)) taken ∙ get_or-map Some outs i d (Some d) less in
    subst (λ o. IfSome o (λ y. asks i y)) here (all i (Some d) (omega (arith, less, long))).0
