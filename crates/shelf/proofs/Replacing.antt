-- One rack in the place of another.
use Rattle.std.proofs.Common.{◌≡◌, ◌==◌, ℕ, zero, suc, ◌+◌, ◌-◌, ◌<◌}
use Rattle.std.proofs.Common.{◌≤◌, Bool, true, false, List, [], ◌∷◌, ◌++◌, Option, Some}
use Rattle.std.proofs.Common.{length, map, refl, ap, sym, ◌∙◌, subst, arith, slice_get, length-append}
use Rattle.std.proofs.lemmas.List.{length-map, map-append}
use Rattle.std.proofs.lemmas.Bool.Decides.{nat_tests}
use Rattle.phys_proc.specs.Racks.{RackView}
use Rattle.shelf.specs.Racks.{HasRack, AreShown, EachIs, if_this, latest, with_rack}
use Rattle.shelf.proofs.Legals.{latest-with}

-- ---- EachIs

-- if each index has the wanted element, so has each after the wanted one is appended
EachIs-push : (want : ℕ → Option RackView) (xs : List RackView) (y : RackView) → EachIs want xs
    → Some y ≡ want (length xs) → EachIs want (xs ++ y ∷ [])
EachIs-push want [] y each e = at_end
  where
    at_end : (i : ℕ) → i < length (y ∷ []) → slice_get (y ∷ []) i ≡ want i
    at_end zero l = e
    at_end (suc i) l = absurd (omega (arith, l))
EachIs-push want (x ∷ xs) y each e =
    by_place (EachIs-push (λ i. want (suc i)) xs y (λ i l. each (suc i) (omega (arith, l))) e)
  where
    by_place : EachIs (λ i. want (suc i)) (xs ++ y ∷ []) → (i : ℕ) → i < length (x ∷ (xs ++ y ∷ []))
        → slice_get (x ∷ (xs ++ y ∷ [])) i ≡ want i
    by_place rest zero l = each 0 (omega arith)
    by_place rest (suc i) l = rest i (omega (arith, l))

-- the same of the lists of which these are the images
pub EachIs-push_image : {A : Type 0} (f : A → RackView) (want : ℕ → Option RackView) (xs ys : List A) (x : A) (n : ℕ)
    → ys ≡ xs ++ x ∷ []
    → length xs ≡ n → EachIs want (map f xs) → Some (f x) ≡ want n → EachIs want (map f ys) × (length ys ≡ n + 1)
EachIs-push_image f want xs ys x n e many each last = (
  subst (EachIs want) (sym (ap (map f) e ∙ map-append f xs (x ∷ [])))
      (EachIs-push want (map f xs) (f x) each (last ∙ ap want (sym (length-map xs f ∙ many)))),
  ap length e ∙ omega (arith, length-append xs (x ∷ []), many),
)

-- ---- AreShown

-- with the rack at its station's place readers are shown the last racks again
pub AreShown-push : (shown published all : List RackView) (place : ℕ) (rack : RackView) → place ≡ rack.station - 1
    → length all ≡ length shown
    → EachIs (with_rack shown place rack) all → AreShown shown published → HasRack rack.station published
    → AreShown all (published ++ rack ∷ [])
AreShown-push shown published all place rack is many each old has = record {
  each = λ i l. each i l ∙ (ap (λ o. if_this (i == place) rack o) (old.each i (omega (arith, l, many)))
      ∙ (ap (λ b. if_this b rack (latest (i + 1) published)) (same_test i) ∙ sym (latest-with (i + 1) published rack)));
  all = λ s h. let k = by_test s (rack.station == s) refl (h.0, sym (latest-with s published rack) ∙ h.1) in
      (k.0, omega (arith, k.1, many));
}
  where
    low : 1 ≤ rack.station
    low = (old.all rack.station has).0

    same_test : (i : ℕ) → (i == place) ≡ (rack.station == i + 1)
    same_test i = by_cases (i == place) refl (rack.station == i + 1) refl
      where
        by_cases : (b : Bool) → (i == place) ≡ b → (d : Bool) → (rack.station == i + 1) ≡ d → b ≡ d
        by_cases true e true f = refl
        by_cases false e false f = refl
        by_cases true e false f = let h : i ≡ place = grind (arith, nat_tests) in let g : rack.station ≡ i + 1 =
            omega (arith, h, is, low) in absurd (grind (arith, nat_tests))
        by_cases false e true f = let h : rack.station ≡ i + 1 = grind (arith, nat_tests) in let g : i ≡ place =
            omega (arith, h, is) in absurd (grind (arith, nat_tests))

    by_test : (s : ℕ) (b : Bool) → (rack.station == s) ≡ b
        → (r : RackView) × (if_this (rack.station == s) rack (latest s published) ≡ Some r)
        → (1 ≤ s) × (s ≤ length shown)
    by_test s true e h = let g : rack.station ≡ s = grind (arith, nat_tests) in let k = old.all rack.station has in
        (omega (arith, k.0, g), omega (arith, k.1, g))
    by_test s false e h = old.all s (h.0, subst (λ b. if_this b rack (latest s published) ≡ Some h.0) e h.1)
