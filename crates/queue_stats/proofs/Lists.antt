-- Lists: the number of elements that pass a test, and places, sums and greatest numbers, with one more element.
use Rattle.std.proofs.Common.{◌≡◌, ℕ, zero, suc, ◌+◌, ◌≤◌, List, [], ◌∷◌, ◌++◌, Bool, true, false, Some, cond, length}
use Rattle.std.proofs.Common.{max, get_or, slice_get, refl, ap, ◌∙◌, arith, length-append}
use Rattle.std.specs.Prelude.{remove}
use Rattle.std.specs.List.{AllByRecursion, filter}
use Rattle.std.proofs.lemmas.List.Elements.{filter-append}
use Rattle.queue_stats.specs.Figures.{one_if, total, greatest}

-- ---- one_if

-- one_if is at most 1
pub one_if-le : (b : Bool) → one_if b ≤ 1
one_if-le true = omega arith
one_if-le false = omega arith

-- if one_if is 0, the test fails
pub one_if-zero : (b : Bool) → one_if b ≡ 0 → b ≡ false
one_if-zero true e = absurd (omega (arith, e))
one_if-zero false e = refl

-- ---- filter

-- the length of a list of at most one element
length-if : {X : Type 0} (b : Bool) (x : X) → length (cond b (x ∷ []) []) ≡ one_if b
length-if true x = refl
length-if false x = refl

-- one element more at the end counts if it passes the test
pub filter-push : {X : Type 0} (t : X → Bool) (xs : List X) (x : X)
    → length (filter t (xs ++ x ∷ [])) ≡ length (filter t xs) + one_if (t x)
filter-push t xs x =
    ap length (filter-append t xs (x ∷ []))
    ∙ length-append (filter t xs) (cond (t x) (x ∷ []) [])
    ∙ ap (λ k. length (filter t xs) + k) (length-if (t x) x)

-- one element more in front counts if it passes the test
pub filter-cons : {X : Type 0} (t : X → Bool) (x : X) (xs : List X)
    → length (filter t (x ∷ xs)) ≡ one_if (t x) + length (filter t xs)
filter-cons t x xs = by (t x)
  where
    by : (b : Bool) → length (cond b (x ∷ filter t xs) (filter t xs)) ≡ one_if b + length (filter t xs)
    by true = omega arith
    by false = omega arith

-- an element that is removed no longer counts
pub filter-remove : {X : Type 0} (t : X → Bool) (xs : List X) (i : ℕ) (x : X) → slice_get xs i ≡ Some x
    → length (filter t (remove xs i)) + one_if (t x) ≡ length (filter t xs)
filter-remove t [] i x there = absurd (cc)
filter-remove t (y ∷ ys) zero x there =
    let is : y ≡ x = cc in
    let cons = filter-cons t y ys in
    let same = ap (λ z. one_if (t z)) is in
    omega (arith, cons, same)
filter-remove t (y ∷ ys) (suc i) x there =
    let rest = filter-remove t ys i x there in
    let cons = filter-cons t y ys in
    let less = filter-cons t y (remove ys i) in
    omega (arith, rest, cons, less)

-- all elements pass the test that always passes
pub filter-true : {X : Type 0} (xs : List X) → length (filter (λ x. true) xs) ≡ length xs
filter-true [] = refl
filter-true (x ∷ xs) = ap suc (filter-true xs)

-- ---- get_or

-- one number more at the end changes no other place
pub get_or-push : (ts : List ℕ) (t i h : ℕ) → (i ≡ length ts → ⊥) → get_or (ts ++ t ∷ []) i h ≡ get_or ts i h
get_or-push [] t zero h apart = absurd (apart refl)
get_or-push [] t (suc i) h apart = refl
get_or-push (x ∷ xs) t zero h apart = refl
get_or-push (x ∷ xs) t (suc i) h apart = get_or-push xs t i h (λ e. apart (ap suc e))

-- if no number is above t, the number at each place is at most t
pub get_or-le : (ts : List ℕ) (n t : ℕ) → AllByRecursion (λ x. x ≤ t) ts → get_or ts n 0 ≤ t
get_or-le [] n t all = omega arith
get_or-le (x ∷ xs) zero t all = all.0
get_or-le (x ∷ xs) (suc n) t all = get_or-le xs n t all.1

-- ---- total, greatest

-- the sum with one number more at the end
pub total-push : (ns : List ℕ) (n : ℕ) → total (ns ++ n ∷ []) ≡ total ns + n
total-push [] n = omega arith
total-push (x ∷ xs) n = let rest = total-push xs n in omega (arith, rest)

-- the greatest number with one number more at the end
pub greatest-push : (ns : List ℕ) (n : ℕ) → greatest (ns ++ n ∷ []) ≡ max (greatest ns) n
greatest-push [] n = omega arith
greatest-push (x ∷ xs) n = let rest = greatest-push xs n in omega (arith, rest)
