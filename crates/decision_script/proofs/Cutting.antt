-- Bytes cut at the first byte of a kind.
use Rattle.std.proofs.Common.{◌≡◌, ℕ, ◌+◌, ◌≤◌, ◌==◌, Bool, true, false, List, [], ◌∷◌, length, take, drop}
use Rattle.std.proofs.Common.{nat_lt, refl, ap, ◌∙◌, arith, Option, Some, None, ltb-true}
use Rattle.std.specs.Prelude.{position, not, if◌then◌else◌}
use Rattle.std.specs.List.{slice_split, onto_first, position_or_len, prefix_len}
use Rattle.std.proofs.lemmas.Bool.{ltb-false}
use Rattle.std.proofs.lemmas.Option.{same_Some}
use Rattle.std.proofs.lemmas.List.Splits.{slice_split-cons_no, slice_split_first}
use Rattle.std.proofs.lemmas.List.Splits.{length-slice_split}

-- if no element passes, the list is one part
one_part : {X : Type 0} (p : X → Bool) (xs : List X) → length xs ≤ position_or_len p xs → slice_split p xs ≡ xs ∷ []
one_part p [] none = refl
one_part {X} p (x ∷ xs) none = by (p x) refl none (λ h. one_part p xs h)
  where
    by : (b : Bool) → p x ≡ b → length (x ∷ xs) ≤ (if not b then 1 + prefix_len (λ y. not (p y)) xs else 0)
        → (length xs ≤ position_or_len p xs → slice_split p xs ≡ xs ∷ []) → slice_split p (x ∷ xs) ≡ (x ∷ xs) ∷ []
    by true is h rest = absurd (omega (arith, h))
    by false is h rest = slice_split-cons_no p x xs is ∙ ap (onto_first x) (rest (omega (arith, h)))

-- the parts, if no element passes
uncut : {X : Type 0} (p : X → Bool) (xs : List X) → position p xs ≡ None → slice_split p xs ≡ xs ∷ []
uncut {X} p xs e = by (nat_lt (position_or_len p xs) (length xs)) refl e
  where
    by : (b : Bool) → nat_lt (position_or_len p xs) (length xs) ≡ b
        → ◌≡◌ {A = Option ℕ} (if b then Some (position_or_len p xs) else None) None → slice_split p xs ≡ xs ∷ []
    by true is h = absurd (cc)
    by false is h = one_part p xs (ltb-false (position_or_len p xs) (length xs) is)

-- the first part and the others, if an element passes
cut : {X : Type 0} (p : X → Bool) (xs : List X) (at : ℕ) (d : X) → position p xs ≡ Some at
    → slice_split p xs ≡ take at xs ∷ slice_split p (drop (at + 1) xs)
cut {X} p xs at d e = by (nat_lt (position_or_len p xs) (length xs)) refl e
  where
    by : (b : Bool) → nat_lt (position_or_len p xs) (length xs) ≡ b
        → ◌≡◌ {A = Option ℕ} (if b then Some (position_or_len p xs) else None) (Some at)
        → slice_split p xs ≡ take at xs ∷ slice_split p (drop (at + 1) xs)
    by true is h =
        let same : position_or_len p xs ≡ at = same_Some (position_or_len p xs) at h in
        slice_split_first p xs d (ltb-true (position_or_len p xs) (length xs) is)
        ∙ ap (λ (i : ℕ). take i xs ∷ slice_split p (drop (i + 1) xs)) same
    by false is h = absurd (cc)

-- there is at least one part
some_part : {X : Type 0} (p : X → Bool) (xs : List X) → 1 ≤ length (slice_split p xs)
some_part p xs = let n = length-slice_split p xs in omega (arith, n)

-- ---- at a byte

pub uncut_bytes : (between : ℕ) (bs : List ℕ) → position (λ b. b == between) bs ≡ None
    → slice_split (λ b. b == between) bs ≡ bs ∷ []
uncut_bytes between bs e = uncut (λ b. b == between) bs e

pub cut_bytes : (between : ℕ) (bs : List ℕ) (at : ℕ) → position (λ b. b == between) bs ≡ Some at
    → slice_split (λ b. b == between) bs ≡ take at bs ∷ slice_split (λ b. b == between) (drop (at + 1) bs)
cut_bytes between bs at e = cut (λ b. b == between) bs at 0 e

pub some_word : (between : ℕ) (bs : List ℕ) → 1 ≤ length (slice_split (λ b. b == between) bs)
some_word between bs = some_part (λ b. b == between) bs
