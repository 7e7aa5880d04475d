-- The elements of a set after each operation, and equality of sets.
use Rattle.std.proofs.Common.{◌≡◌, ◌≢◌, inl, inr, ℕ, zero, suc, ◌+◌, ◌%◌, ◌^◌, ◌<◌, ◌≤◌, min, max, ◌==◌}
use Rattle.std.proofs.Common.{◌||◌, ◌&&◌, not, true, false, Some, None, refl, sym, ap, ◌∙◌, subst, arith, eq-eqb}
use Rattle.std.specs.Prelude.{bit_and, if◌then◌else◌}
use Rattle.std.specs.Int.{bit_at}
use Rattle.std.proofs.lemmas.Bool.{cases_eq, ne_eqb, cases_lt, false≢true}
use Rattle.std.proofs.Math.Bool.{or_comm, and_comm}
use Rattle.std.proofs.lemmas.Option.{none-some}
use Rattle.std.proofs.lemmas.Nat.Bits.{bit_at_and, bit_at_or, bit_at_xor, bit_at-lt, bit_at-zero}
use Rattle.std.proofs.lemmas.Nat.Bits.{bit_at-pow_same, bit_at-pow_other, bit_at_above, same_from_bits}
use Rattle.clone_sets.specs.Sets.{has, empty, one, union, meet, minus, with, without, common}

-- ---- one bit

-- a bit of a union
digit_or : (x y : ℕ) → x < 2 → y < 2 → (max x y == 1) ≡ ((x == 1) || (y == 1))
digit_or zero zero p q = refl
digit_or zero (suc zero) p q = refl
digit_or (suc zero) zero p q = refl
digit_or (suc zero) (suc zero) p q = refl
digit_or (suc (suc x)) y p q = absurd (omega arith)
digit_or x (suc (suc y)) p q = absurd (omega arith)

-- a bit of a meet
digit_and : (x y : ℕ) → x < 2 → y < 2 → (min x y == 1) ≡ ((x == 1) && (y == 1))
digit_and zero zero p q = refl
digit_and zero (suc zero) p q = refl
digit_and (suc zero) zero p q = refl
digit_and (suc zero) (suc zero) p q = refl
digit_and (suc (suc x)) y p q = absurd (omega arith)
digit_and x (suc (suc y)) p q = absurd (omega arith)

-- a bit of the difference
digit_minus : (x y : ℕ) → x < 2 → y < 2 → ((x + min x y) % 2 == 1) ≡ ((x == 1) && not (y == 1))
digit_minus zero zero p q = refl
digit_minus zero (suc zero) p q = refl
digit_minus (suc zero) zero p q = refl
digit_minus (suc zero) (suc zero) p q = refl
digit_minus (suc (suc x)) y p q = absurd (omega arith)
digit_minus x (suc (suc y)) p q = absurd (omega arith)

-- a bit is known by whether it is 1
digit_same : (x y : ℕ) → x < 2 → y < 2 → (x == 1) ≡ (y == 1) → x ≡ y
digit_same zero zero p q e = refl
digit_same zero (suc zero) p q e = absurd (false≢true e)
digit_same (suc zero) zero p q e = absurd (false≢true (sym e))
digit_same (suc zero) (suc zero) p q e = refl
digit_same (suc (suc x)) y p q e = absurd (omega arith)
digit_same x (suc (suc y)) p q e = absurd (omega arith)

-- ---- has

-- no clone is in the empty set
pub has-empty : (c : ℕ) → has empty c ≡ false
unfolding has
has-empty c = ap (λ x. x == 1) (bit_at-zero c)

-- a clone is in a union if it is in either
pub has-union : (a b c : ℕ) → has (union a b) c ≡ (has a c || has b c)
unfolding has union
has-union a b c = ap (λ x. x == 1) (bit_at_or a b c) ∙ digit_or (bit_at a c) (bit_at b c) (bit_at-lt a c)
    (bit_at-lt b c)

-- a clone is in an intersection if it is in both
pub has-meet : (a b c : ℕ) → has (meet a b) c ≡ (has a c && has b c)
unfolding has meet
has-meet a b c = ap (λ x. x == 1) (bit_at_and a b c) ∙ digit_and (bit_at a c) (bit_at b c) (bit_at-lt a c)
    (bit_at-lt b c)

-- a clone is in a difference if it is in the first and not in the second
pub has-minus : (a b c : ℕ) → has (minus a b) c ≡ (has a c && not (has b c))
unfolding has minus
has-minus a b c =
    ap (λ x. x == 1) (bit_at_xor a (bit_and a b) c ∙ ap (λ y. (bit_at a c + y) % 2) (bit_at_and a b c))
    ∙ digit_minus (bit_at a c) (bit_at b c) (bit_at-lt a c) (bit_at-lt b c)

-- one clone alone has that clone
one_same : (c d : ℕ) → c ≡ d → has (one c) d ≡ true
unfolding has one
one_same c d e = subst (λ x. (bit_at (2 ^ c) x == 1) ≡ true) e (ap (λ x. x == 1) (bit_at-pow_same c))

-- and no other
one_other : (c d : ℕ) → c ≢ d → has (one c) d ≡ false
unfolding has one
one_other c d ne = ap (λ x. x == 1) (bit_at-pow_other c d (λ e. ne (sym e)))

-- a clone is in the set of one if it is that one
pub has-one : (c d : ℕ) → has (one c) d ≡ (c == d)
has-one c d = elim (cases_eq c d) [
  | inl e ↦ one_same c d e ∙ sym (eq-eqb c d e)
  | inr ne ↦ one_other c d ne
      ∙ sym (ne_eqb c d ne)
]

-- a clone is in the set with one more if it is that one or was there
pub has-with : (s c d : ℕ) → has (with s c) d ≡ ((c == d) || has s d)
has-with s c d = has-union s (one c) d ∙ ap (λ x. has s d || x) (has-one c d) ∙ or_comm (has s d) (c == d)

-- a clone is in the set with one less if it is another and was there
pub has-without : (s c d : ℕ) → has (without s c) d ≡ (not (c == d) && has s d)
has-without s c d = has-minus s (one c) d ∙ ap (λ x. has s d && not x) (has-one c d)
    ∙ and_comm (has s d) (not (c == d))

-- ---- equal sets

-- two sets with the same clones are equal
pub same_members : (a b : ℕ) → ((c : ℕ) → has a c ≡ has b c) → a ≡ b
unfolding has
same_members a b h = same_from_bits a b (λ c. digit_same (bit_at a c) (bit_at b c) (bit_at-lt a c) (bit_at-lt b c)
    (h c))

-- a set below the number 2 ^ k has no clone from k on
none_from : (s k c : ℕ) → s < 2 ^ k → k ≤ c → has s c ≡ false
unfolding has
none_from s k c p q = ap (λ x. x == 1) (bit_at_above s k c p q)

-- a set with no clone is empty
pub empty_from_none : (s : ℕ) → ((c : ℕ) → has s c ≡ false) → s ≡ empty
empty_from_none s h = same_members s empty (λ c. h c ∙ sym (has-empty c))

-- a set below the number 2 ^ k has clones below k alone
pub below_limit : (s k c : ℕ) → s < 2 ^ k → has s c ≡ true → c < k
below_limit s k c p h = elim (cases_lt c k) [ inl l ↦ l | inr m ↦ absurd (false≢true (sym (none_from s k c p m) ∙ h)) ]

-- ---- common

-- an empty meet is None
common_off : (a b : ℕ) → meet a b ≡ 0 → common a b ≡ None
common_off a b z = ap (λ t. if t then None else Some (meet a b)) (eq-eqb (meet a b) 0 z)

-- another is given
common_on : (a b : ℕ) → meet a b ≢ 0 → common a b ≡ Some (meet a b)
common_on a b ne = ap (λ t. if t then None else Some (meet a b)) (ne_eqb (meet a b) 0 ne)

-- if the result is None, no clone is in both
pub common_none : (a b : ℕ) → common a b ≡ None → (c : ℕ) → (has a c && has b c) ≡ false
common_none a b e c = elim (cases_eq (meet a b) 0) [
  | inl z ↦ sym (has-meet a b c) ∙ ap (λ s. has s c) z ∙ has-empty c
  | inr ne ↦ absurd (none-some _ (sym e ∙ common_on a b ne))
]

-- the result is the intersection, and not empty
pub common_is : (a b k : ℕ) → common a b ≡ Some k → (k ≡ meet a b) × (k ≢ empty)
common_is a b k e =
    elim (cases_eq (meet a b) 0) [
      | inl z ↦ absurd (none-some _ (sym (common_off a b z) ∙ e))
      | inr ne ↦
          let given : Some (meet a b) ≡ Some k = sym (common_on a b ne) ∙ e in
          let is : k ≡ meet a b = cc in
          (is, λ z. ne (sym is ∙ z))
    ]

-- the result has the clones that are in both
pub common_some : (a b k : ℕ) → common a b ≡ Some k → (c : ℕ) → has k c ≡ (has a c && has b c)
common_some a b k e c = ap (λ s. has s c) (common_is a b k e).0 ∙ has-meet a b c
