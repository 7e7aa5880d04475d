-- Elements of lists at their places.
use Rattle.std.proofs.Common.{◌≡◌, ℕ, zero, suc, ◌<◌, List, [], ◌∷◌, ◌++◌, Some, refl, sym, ap, ◌∙◌}
use Rattle.std.proofs.Common.{arith, map, length, take, slice_set, option_map, get_or}
use Rattle.std.specs.Prelude.{slice_get, reverse}
use Rattle.std.proofs.lemmas.List.{reverse-append}
use Rattle.std.proofs.lemmas.Option.{slice_get-map, slice_get_read}

-- ---- slice_get

-- an element of the first n
pub slice_get-take : {X : Type 0} (xs : List X) (n i : ℕ) (x : X) → slice_get (take n xs) i ≡ Some x →
    (i < n) × (slice_get xs i ≡ Some x)
slice_get-take [] zero i x e = absurd (cc)
slice_get-take [] (suc n) i x e = absurd (cc)
slice_get-take (y ∷ xs) zero i x e = absurd (cc)
slice_get-take (y ∷ xs) (suc n) zero x e = (omega arith, e)
slice_get-take (y ∷ xs) (suc n) (suc i) x e = let h = slice_get-take xs n i x e in let l = h.0 in
    (omega (arith, l), h.1)

-- the element after some others
pub slice_get-after : {X : Type 0} (xs ys : List X) (x : X) → slice_get (xs ++ x ∷ ys) (length xs) ≡ Some x
slice_get-after [] ys x = refl
slice_get-after (y ∷ xs) ys x = slice_get-after xs ys x

-- the element that was read at a place, where this list has another name
pub slice_get-here : {X : Type 0} (items xs : List X) (i : ℕ) (x : X) → items ≡ xs → i < length xs →
    x ≡ get_or items i x → slice_get xs i ≡ Some x
slice_get-here items xs i x same l e = slice_get_read xs (length xs) i x refl l (e ∙ ap (λ ys. get_or ys i x) same)

-- the elements at one place are the same
pub slice_get-same : {X : Type 0} (xs : List X) (i : ℕ) (x y : X) → slice_get xs i ≡ Some x →
    slice_get xs i ≡ Some y → x ≡ y
slice_get-same xs i x y e f = cc

-- ---- slice_set

-- an element with the same image
pub map-slice_set_same : {X Y : Type 0} (f : X → Y) (xs : List X) (i : ℕ) (x y : X) → slice_get xs i ≡ Some x →
    f y ≡ f x → map f (slice_set xs i y) ≡ map f xs
map-slice_set_same f [] i x y e same = refl
map-slice_set_same f (z ∷ xs) zero x y e same = let is : z ≡ x = cc in
    ap (λ w. w ∷ map f xs) (same ∙ ap f (sym is))
map-slice_set_same f (z ∷ xs) (suc i) x y e same = ap (λ ws. f z ∷ ws) (map-slice_set_same f xs i x y e same)

pub length-slice_set : {X : Type 0} (xs : List X) (i : ℕ) (x : X) → length (slice_set xs i x) ≡ length xs
length-slice_set [] i x = refl
length-slice_set (y ∷ xs) zero x = refl
length-slice_set (y ∷ xs) (suc i) x = ap suc (length-slice_set xs i x)

-- ---- reverse

-- the first element is the last in reverse
pub reverse-cons : {X : Type 0} (x : X) (xs : List X) → reverse (x ∷ xs) ≡ reverse xs ++ x ∷ []
reverse-cons x xs = reverse-append (x ∷ []) xs
