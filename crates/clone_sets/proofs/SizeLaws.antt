-- The number of clones in a set, and in its parts.
use Rattle.std.proofs.Common.{◌≡◌, ◌≢◌, inl, inr, ℕ, zero, suc, ◌+◌, ◌/◌}
use Rattle.std.proofs.Common.{◌%◌, ◌^◌, ◌<◌, sym, ap, ap₂, ◌∙◌, arith, pow-suc}
use Rattle.std.specs.Prelude.{bit_and, bit_xor, count_ones}
use Rattle.std.specs.Int.Count.{ones_step}
use Rattle.std.proofs.lemmas.Bool.{cases_eq}
use Rattle.std.proofs.lemmas.Nat.{and_le_l, and_shr, xor_shr, ones_le_self, zero_from_ones}
use Rattle.std.proofs.lemmas.Nat.Bits.{bit_at_lowest, bit_at_and, bit_at_xor}
use Rattle.clone_sets.specs.Sets.{empty, meet, minus, size}

-- ---- 2 ^ n

-- a number is below its power of two
pub below_pow : (n : ℕ) → n < 2 ^ n
below_pow zero = omega arith
below_pow (suc n) = omega (arith, below_pow n, pow-suc 2 n)

-- ---- size

-- the empty set has no clone
pub size-empty : size empty ≡ 0
unfolding size
size-empty = omega (arith, ones_le_self 0)

-- a set that is not empty has a clone
pub size_some : (s : ℕ) → s ≢ empty → 0 < size s
unfolding size
size_some s ne = elim (cases_eq (count_ones s) 0) [ inl e ↦ absurd (ne (zero_from_ones s e)) | inr some ↦ omega arith ]

-- ---- meet and minus: the lowest bit

-- a meet without its lowest bit
meet_half : (a b : ℕ) → meet a b / 2 ≡ meet (a / 2) (b / 2)
unfolding meet
meet_half a b = and_shr a b 1

-- the difference, without its lowest bit
minus_half : (a b : ℕ) → minus a b / 2 ≡ minus (a / 2) (b / 2)
unfolding minus
minus_half a b = xor_shr a (bit_and a b) 1 ∙ ap (bit_xor (a / 2)) (and_shr a b 1)

-- the lowest bit of a is in the meet or in the rest
low_parts : (a b : ℕ) → meet a b % 2 + minus a b % 2 ≡ a % 2
unfolding meet minus
low_parts a b =
    omega (
      arith,
      sym (bit_at_lowest (bit_and a b)) ∙ bit_at_and a b 0,
      sym (bit_at_lowest (bit_xor a (bit_and a b))) ∙ bit_at_xor a (bit_and a b) 0,
      bit_at_and a b 0,
      bit_at_lowest a,
      bit_at_lowest b,
    )

-- ---- size of meet and minus

-- the lowest bit is counted, and then the others
size_step : (s : ℕ) → size s ≡ s % 2 + size (s / 2)
unfolding size
size_step s = ones_step s

-- the parts of an empty set are empty
size_parts_none : (a b : ℕ) → a ≡ 0 → size (meet a b) + size (minus a b) ≡ size a
unfolding size meet minus
size_parts_none a b e =
    let m : bit_and a b ≡ 0 = omega (arith, and_le_l a b) in
    omega (arith, ap count_ones m, ap₂ (λ x y. count_ones (bit_xor x y)) e m, ap count_ones e, ones_le_self 0)

-- by induction on the number of bits
size_parts_by : (k a b : ℕ) → a < 2 ^ k → size (meet a b) + size (minus a b) ≡ size a
size_parts_by zero a b l = size_parts_none a b (omega arith)
size_parts_by (suc k) a b l =
    omega (
      arith,
      size_step (meet a b),
      size_step (minus a b),
      size_step a,
      low_parts a b,
      ap size (meet_half a b),
      ap size (minus_half a b),
      size_parts_by k (a / 2) (b / 2) (omega (arith, pow-suc 2 k)),
    )

-- the sizes of the two parts of a set, cut by another, together are its size
pub size_parts : (a b : ℕ) → size (meet a b) + size (minus a b) ≡ size a
size_parts a b = size_parts_by a a b (below_pow a)

-- if neither part is empty, each is smaller than the whole
pub meet_smaller : (a b : ℕ) → minus a b ≢ empty → size (meet a b) < size a
meet_smaller a b ne = omega (arith, size_parts a b, size_some (minus a b) ne)

-- the same of the other part
pub minus_smaller : (a b : ℕ) → meet a b ≢ empty → size (minus a b) < size a
minus_smaller a b ne = omega (arith, size_parts a b, size_some (meet a b) ne)
