-- The element at a place of a list.
use Rattle.std.proofs.Common.{◌≡◌, ℕ, zero, suc, ◌<◌, List, inl, inr, arith}
use Rattle.std.proofs.Common.{Some, ap, ◌∙◌, sym, length, get_or, slice_get}
use Rattle.std.proofs.lemmas.Option.{same_Some, slice_get_cases, slice_get-get_or}

-- ---- slice_get and get_or

-- an element that is read at a place within a list is there
pub got_at : {X : Type 0} (xs : List X) (i : ℕ) (x : X) → i < length xs → x ≡ get_or xs i x → slice_get xs i ≡ Some x
got_at xs i x l e = slice_get-get_or xs i x l ∙ ap Some (sym e)

-- there is one element at a place
pub one_got : {X : Type 0} (xs : List X) (i j : ℕ) (x y : X) → i ≡ j → slice_get xs i ≡ Some x
    → slice_get xs j ≡ Some y → x ≡ y
one_got xs i j x y e f g = same_Some x y (sym f ∙ ap (slice_get xs) e ∙ g)

-- there is an element at each place within a list
pub got_within : {X : Type 0} (xs : List X) (i : ℕ) → i < length xs → (x : X) × (slice_get xs i ≡ Some x)
got_within xs i l = elim (slice_get_cases xs i).1 [
  | inl found ↦ (found.0, found.2)
  | inr past ↦ absurd (let p = past.0 in omega (arith, p, l))
]

-- ---- by the number of the station

-- a function of places, by the number of the station; there is no station 0
abbrev pub by_number : {X : Type 0} → X → (ℕ → X) → ℕ → X
by_number d f zero = d
by_number d f (suc i) = f i
