-- The elements of a list, and lookups; the lesser of two numbers.
use Rattle.std.proofs.Common.{◌≡◌, ℕ, zero, suc, ◌+◌, ◌<◌, ◌⊎◌, inl, inr, min, List, [], ◌∷◌, ◌++◌}
use Rattle.std.proofs.Common.{Bool, true, false, cond, length, take, get_or, refl, sym, ap, ◌∙◌, arith}
use Rattle.std.specs.List.{Contains}
use Rattle.std.proofs.lemmas.Bool.{false≢true, cases_lt}
use Rattle.std.proofs.lemmas.List.{get_or_default, take_more}
use Rattle.sim_base.specs.Counts.{In}

-- ---- min

-- the lesser of two numbers is one of them
pub min_cases : (a b : ℕ) → (min a b ≡ a) ⊎ (min a b ≡ b)
min_cases a b = elim (cases_lt a b) [ inl below ↦ inl (omega arith) | inr above ↦ inr (omega arith) ]

-- ---- In of cond

-- the elements of a list with one more on a condition
pub in_cons_if : {X : Type 0} (b : Bool) (x : X) (xs : List X) (z : X) → In z (cond b (x ∷ xs) xs)
    → ((b ≡ true) × (z ≡ x)) ⊎ In z xs
in_cons_if true x xs z (inl e) = inl (refl, e)
in_cons_if true x xs z (inr j) = inr j
in_cons_if false x xs z j = inr j

-- the old elements stay, on any condition
pub cons_if_old : {X : Type 0} (b : Bool) (x : X) (xs : List X) (z : X) → In z xs → In z (cond b (x ∷ xs) xs)
cons_if_old true x xs z i = inr i
cons_if_old false x xs z i = i

-- and the new element is there if the condition holds
pub cons_if_new : {X : Type 0} (b : Bool) (x : X) (xs : List X) (z : X) → b ≡ true → z ≡ x
    → In z (cond b (x ∷ xs) xs)
cons_if_new true x xs z b e = inl e
cons_if_new false x xs z b e = absurd (false≢true b)

-- ---- In

-- an element that is read at a place within a list is in it
pub in_at : {X : Type 0} (xs : List X) (i : ℕ) (x : X) → i < length xs → x ≡ get_or xs i x → In x xs
in_at [] i x l e = absurd (omega (arith, l))
in_at (y ∷ ys) zero x l e = inl e
in_at (y ∷ ys) (suc i) x l e = inr (in_at ys i x (omega (arith, l)) e)

-- ---- get_or

-- reading one place twice has the same result
pub get_or-same : {X : Type 0} (xs : List X) (i k : ℕ) (x y : X) → i ≡ k → i < length xs → x ≡ get_or xs i x
    → y ≡ get_or xs k y → x ≡ y
get_or-same xs i k x y same there here also =
    here ∙ (get_or_default xs i x y there ∙ (ap (λ n. get_or xs n y) same ∙ sym also))

-- ---- Contains

-- a longer list has the elements of a shorter one
pub contains_tail : {X : Type 0} (x c : X) (xs : List X) → Contains xs c → Contains (x ∷ xs) c
contains_tail x c xs h = (suc h.0, omega (arith, h.1), h.2)

-- ---- take

-- the elements so far, with one more
pub take_next : {X : Type 0} (xs : List X) (i : ℕ) (x : X) → i < length xs → x ≡ get_or xs i x
    → take (i + 1) xs ≡ take i xs ++ x ∷ []
take_next xs i x l is = take_more xs i x l ∙ ap (λ y. take i xs ++ y ∷ []) (sym is)
