-- The set operations, word by word.
use Rattle.std.proofs.Common.{◌≡◌, ◌≢◌, inl, inr, eq-eqb, ℕ, zero, suc, ◌+◌, ◌-◌, ◌*◌, ◌/◌}
use Rattle.std.proofs.Common.{◌%◌, ◌^◌, ◌<◌, ◌≤◌, ◌==◌, true, false, sym, ap, ◌∙◌, arith}
use Rattle.std.specs.Prelude.{bit_and, bit_or, bit_xor, count_ones, if◌then◌else◌}
use Rattle.std.specs.Int.{bit_at, bit_not, trailing_zeros, w64}
use Rattle.std.proofs.lemmas.Nat.{and_le_l, or_block, and_block, xor_block, xor_lt, ones_cat, pow-add, le_or_l, le_or_r}
use Rattle.std.proofs.lemmas.Nat.Bits.{bit_at_and, bit_at_xor, bit_at_not, bit_at-lt, bit_at-zero, same_from_bits}
use Rattle.std.proofs.lemmas.Nat.Bits.{same_from_bits_below, bit_at_cat_low, bit_at_cat_high, bit_at-trailing_zeros}
use Rattle.std.specs.Int.Bits.{xor_self}
use Rattle.std.proofs.lemmas.Bool.{cases_eq, cases_lt, ne_eqb}
use Rattle.sim_base.specs.declared.lists.TheConstants.{MAX_CLONES}
use Rattle.clone_sets.specs.Sets.{has, one, union, meet, minus, size, IsFirst}
use Rattle.clone_sets.specs.Words.{above_word, low_word, high_words, set_of, AreWords, words_back, bit_in_word}
use Rattle.clone_sets.proofs.SetLaws.{has-empty}

-- ---- a word below further ones

-- a union, word by word
union_above : (a b r s : ℕ) → r < 2 ^ 64 → s < 2 ^ 64
    → union (above_word a r) (above_word b s) ≡ above_word (union a b) (union r s)
unfolding above_word union
union_above a b r s = or_block 64 a b r s

-- a meet, word by word
meet_above : (a b r s : ℕ) → r < 2 ^ 64 → s < 2 ^ 64
    → meet (above_word a r) (above_word b s) ≡ above_word (meet a b) (meet r s)
unfolding above_word meet
meet_above a b r s = and_block 64 a b r s

-- the difference, word by word
minus_above : (a b r s : ℕ) → r < 2 ^ 64 → s < 2 ^ 64
    → minus (above_word a r) (above_word b s) ≡ above_word (minus a b) (minus r s)
unfolding above_word minus
minus_above a b r s p q =
    ap (bit_xor (a * 2 ^ 64 + r)) (and_block 64 a b r s p q) ∙ xor_block 64 a (bit_and a b) r (bit_and r s) p
    (omega (arith, and_le_l r s))

-- the sizes add up
size_above : (h l : ℕ) → l < 2 ^ 64 → size (above_word h l) ≡ size h + size l
unfolding above_word size
size_above h l = ones_cat 64 h l

-- the lowest word has the clones below 64
has_above_low : (h l d : ℕ) → d < 64 → has (above_word h l) d ≡ has l d
unfolding above_word has
has_above_low h l d p = ap (λ x. x == 1) (bit_at_cat_low h 64 l d p)

-- those above it have the others
has_above_high : (h l d : ℕ) → l < 2 ^ 64 → 64 ≤ d → has (above_word h l) d ≡ has h (d - 64)
unfolding above_word has
has_above_high h l d p q = ap (λ x. x == 1) (bit_at_cat_high h 64 l d p q)

-- ---- one word

-- a word without the bits of another
and_not_word : (a b : ℕ) → a < 2 ^ 64 → b < 2 ^ 64 → bit_and a (bit_not w64 b) ≡ minus a b
unfolding minus
and_not_word a b p q =
    same_from_bits_below 64 (bit_and a (bit_not w64 b)) (bit_xor a (bit_and a b))
    (omega (arith, and_le_l a (bit_not w64 b))) (xor_lt 64 a (bit_and a b) p (omega (arith, and_le_l a b)))
    (λ i l. omega (
      arith,
      bit_at_and a (bit_not w64 b) i,
      bit_at_not w64 b i q l,
      bit_at_xor a (bit_and a b) i,
      bit_at_and a b i,
      bit_at-lt a i,
      bit_at-lt b i,
    ))

-- a bit that is 0 is not set
zero_digit : (n : ℕ) → n ≡ 0 → (n == 1) ≡ false
zero_digit n e = ap (λ x. x == 1) e

-- a bit that is 1 is set
one_digit : (n : ℕ) → n ≡ 1 → (n == 1) ≡ true
one_digit n e = ap (λ x. x == 1) e

-- the lowest bit of a word that is not 0
first_in_word : (w : ℕ) → w ≢ 0 → w < 2 ^ 64 → IsFirst w (trailing_zeros w64 w) × (trailing_zeros w64 w < 64)
unfolding has
first_in_word w some p =
    let h = bit_at-trailing_zeros w64 w (omega arith) p in
    (record { in_set = one_digit _ h.1; least = λ d l. zero_digit _ (h.2 d l) }, h.0)

-- the least clone of the lowest word is the least of the set
first_low : (h l : ℕ) → l ≢ 0 → l < 2 ^ 64 → IsFirst (above_word h l) (trailing_zeros w64 l)
first_low h l some p =
    let f = first_in_word l some p in record {
      in_set = has_above_low h l _ f.1 ∙ f.0.in_set;
      least = λ d b. has_above_low h l d (omega (arith, f.1)) ∙ f.0.least d b;
    }

-- if the lowest word is 0, the least clone is above it
first_high : (h l t : ℕ) → l ≡ 0 → IsFirst h t → IsFirst (above_word h l) (64 + t)
first_high h l t z f =
    let e : 64 + t - 64 ≡ t = omega arith in record {
      in_set = has_above_high h l (64 + t) (omega arith) (omega arith) ∙ ap (has h) e ∙ f.in_set;
      least = λ d b. elim (cases_lt d 64) [
        | inl low ↦ has_above_low h l d low ∙ ap (λ x. has x d) z ∙ has-empty d
        | inr from ↦ has_above_high h l d (omega arith) from ∙ f.least (d - 64) (omega arith)
      ];
    }

-- words that differ in no bit are equal
xor_none : (a b : ℕ) → bit_xor a b ≡ 0 → a ≡ b
xor_none a b e =
    same_from_bits a b (λ i. omega (
      arith,
      bit_at_xor a b i,
      ap (λ x. bit_at x i) e,
      bit_at-zero i,
      bit_at-lt a i,
      bit_at-lt b i,
    ))

-- equal words differ in no bit
xor_same : (a b : ℕ) → a ≡ b → bit_xor a b ≡ 0
xor_same a b e = ap (bit_xor a) (sym e) ∙ xor_self a

-- two tests agree if each passes when the other does
same_test : (x y z : ℕ) → (x ≡ 0 → y ≡ z) → (y ≡ z → x ≡ 0) → (x == 0) ≡ (y == z)
same_test x y z p q = elim (cases_eq x 0) [
  | inl e ↦ eq-eqb x 0 e ∙ sym (eq-eqb y z (p e))
  | inr ne ↦ ne_eqb x 0 ne ∙ sym (ne_eqb y z (λ e. ne (q e)))
]

-- two tests for 0 agree if each number is 0 when the other is
same_zero : (x y : ℕ) → (x ≡ 0 → y ≡ 0) → (y ≡ 0 → x ≡ 0) → (x == 0) ≡ (y == 0)
same_zero x y = same_test x y 0

-- ---- four words

module _ (a0 a1 a2 a3 b0 b1 b2 b3 : ℕ) (p : AreWords a0 a1 a2 a3) (q : AreWords b0 b1 b2 b3) where
  -- a union of words is a union of sets
  pub set_of-union : set_of (bit_or a0 b0) (bit_or a1 b1) (bit_or a2 b2) (bit_or a3 b3) ≡ union (set_of a0 a1 a2 a3)
      (set_of b0 b1 b2 b3)
  unfolding union
  set_of-union = sym (
      union_above _ _ a0 b0 p.word0 q.word0
      ∙ ap (λ h. above_word h (bit_or a0 b0)) (union_above _ _ a1 b1 p.word1 q.word1
      ∙ ap (λ h. above_word h (bit_or a1 b1)) (union_above a3 b3 a2 b2 p.word2 q.word2)))

  -- a meet of words is a meet of sets
  pub set_of-meet : set_of (bit_and a0 b0) (bit_and a1 b1) (bit_and a2 b2) (bit_and a3 b3) ≡ meet (set_of a0 a1 a2 a3)
      (set_of b0 b1 b2 b3)
  unfolding meet
  set_of-meet = sym (
      meet_above _ _ a0 b0 p.word0 q.word0
      ∙ ap (λ h. above_word h (bit_and a0 b0)) (meet_above _ _ a1 b1 p.word1 q.word1
      ∙ ap (λ h. above_word h (bit_and a1 b1)) (meet_above a3 b3 a2 b2 p.word2 q.word2)))

  -- words without the bits of others are a set without the other's clones
  pub set_of-minus : set_of (bit_and a0 (bit_not w64 b0)) (bit_and a1 (bit_not w64 b1)) (bit_and a2 (bit_not w64 b2))
      (bit_and a3 (bit_not w64 b3)) ≡ minus (set_of a0 a1 a2 a3) (set_of b0 b1 b2 b3)
  set_of-minus =
      (λ i. set_of (and_not_word a0 b0 p.word0 q.word0 i) (and_not_word a1 b1 p.word1 q.word1 i)
      (and_not_word a2 b2 p.word2 q.word2 i) (and_not_word a3 b3 p.word3 q.word3 i))
      ∙ sym (
      minus_above _ _ a0 b0 p.word0 q.word0
      ∙ ap (λ h. above_word h (minus a0 b0)) (minus_above _ _ a1 b1 p.word1 q.word1
      ∙ ap (λ h. above_word h (minus a1 b1)) (minus_above a3 b3 a2 b2 p.word2 q.word2)))

  -- two sets are equal if none of their words differ in a bit
  pub words_xor : (bit_or (bit_or (bit_or (bit_xor a0 b0) (bit_xor a1 b1)) (bit_xor a2 b2)) (bit_xor a3 b3) == 0)
      ≡ (set_of a0 a1 a2 a3 == set_of b0 b1 b2 b3)
  words_xor =
      let x0 = bit_xor a0 b0 in
      let x1 = bit_xor a1 b1 in
      let x2 = bit_xor a2 b2 in
      let x3 = bit_xor a3 b3 in
      same_test _ _ _
      (λ e.
      let e3 : x3 ≡ 0 = omega (arith, le_or_r (bit_or (bit_or x0 x1) x2) x3) in
      let e2 : x2 ≡ 0 = omega (arith, le_or_l (bit_or (bit_or x0 x1) x2) x3, le_or_r (bit_or x0 x1) x2) in
      let e1 : x1 ≡ 0 = omega (
        arith,
        le_or_l (bit_or (bit_or x0 x1) x2) x3,
        le_or_l (bit_or x0 x1) x2,
        le_or_r x0 x1,
      ) in
      let e0 : x0 ≡ 0 = omega (
        arith,
        le_or_l (bit_or (bit_or x0 x1) x2) x3,
        le_or_l (bit_or x0 x1) x2,
        le_or_l x0 x1,
      ) in
      λ i. set_of (xor_none a0 b0 e0 i) (xor_none a1 b1 e1 i) (xor_none a2 b2 e2 i) (xor_none a3 b3 e3 i))
      (λ e.
      let a = words_back a0 a1 a2 a3 p in
      let b = words_back b0 b1 b2 b3 q in
      let z0 = xor_same a0 b0 (sym a.word0 ∙ ap low_word e ∙ b.word0) in
      let z1 = xor_same a1 b1 (sym a.word1 ∙ ap (λ s. low_word (high_words s)) e ∙ b.word1) in
      let z2 = xor_same a2 b2 (sym a.word2 ∙ ap (λ s. low_word (high_words (high_words s))) e ∙ b.word2) in
      let z3 = xor_same a3 b3 (sym a.word3 ∙ ap (λ s. high_words (high_words (high_words s))) e ∙ b.word3) in
      λ i. bit_or (bit_or (bit_or (z0 i) (z1 i)) (z2 i)) (z3 i))

module _ (w0 w1 w2 w3 : ℕ) (h : AreWords w0 w1 w2 w3) where
  -- the sizes of the words together are the size of the set
  pub set_of-size : count_ones w0 + count_ones w1 + count_ones w2 + count_ones w3 ≡ size (set_of w0 w1 w2 w3)
  unfolding size
  set_of-size = omega (
    arith,
    size_above (above_word (above_word w3 w2) w1) w0 h.word0,
    size_above (above_word w3 w2) w1 h.word1,
    size_above w3 w2 h.word2,
  )

  -- word 0 of the set has its clones 0 to 63
  pub in_word0 : (i j : ℕ) → i ≡ 0 → j < 64 → has w0 j ≡ has (set_of w0 w1 w2 w3) (64 * i + j)
  in_word0 i j z l =
      let e : 64 * i + j ≡ j = omega arith in
      sym (ap (has (set_of w0 w1 w2 w3)) e ∙ has_above_low _ w0 j l)

  -- and word 1 those from 64 to 127
  pub in_word1 : (i j : ℕ) → i ≡ 1 → j < 64 → has w1 j ≡ has (set_of w0 w1 w2 w3) (64 * i + j)
  in_word1 i j o l =
      let e : 64 * i + j - 64 ≡ j = omega arith in
      sym (has_above_high _ w0 (64 * i + j) h.word0 (omega arith) ∙ ap (has (above_word (above_word w3 w2) w1)) e
      ∙ has_above_low _ w1 j l)

  -- word 2 those from 128 to 191
  pub in_word2 : (i j : ℕ) → i ≡ 2 → j < 64 → has w2 j ≡ has (set_of w0 w1 w2 w3) (64 * i + j)
  in_word2 i j o l =
      let e : 64 * i + j - 64 ≡ 64 + j = omega arith in
      let f : 64 + j - 64 ≡ j = omega arith in
      sym (has_above_high _ w0 (64 * i + j) h.word0 (omega arith) ∙ ap (has (above_word (above_word w3 w2) w1)) e
      ∙ has_above_high _ w1 (64 + j) h.word1 (omega arith) ∙ ap (has (above_word w3 w2)) f ∙ has_above_low w3 w2 j l)

  -- and word 3 those from 192 to 255
  pub in_word3 : (i j : ℕ) → i ≡ 3 → j < 64 → has w3 j ≡ has (set_of w0 w1 w2 w3) (64 * i + j)
  in_word3 i j o l =
      let e : 64 * i + j - 64 ≡ 128 + j = omega arith in
      let f : 128 + j - 64 ≡ 64 + j = omega arith in
      let g : 64 + j - 64 ≡ j = omega arith in
      sym (has_above_high _ w0 (64 * i + j) h.word0 (omega arith) ∙ ap (has (above_word (above_word w3 w2) w1)) e
      ∙ has_above_high _ w1 (128 + j) h.word1 (omega arith) ∙ ap (has (above_word w3 w2)) f
      ∙ has_above_high w3 w2 (64 + j) h.word2 (omega arith) ∙ ap (has w3) g)

  -- if word 0 is not 0, the least clone of the set is the place of its lowest bit
  pub first_in_word0 : w0 ≢ 0 → IsFirst (set_of w0 w1 w2 w3) (trailing_zeros w64 w0)
  first_in_word0 some = first_low _ w0 some h.word0

  -- if word 0 is 0 and word 1 is not, it is 64 above the place of the lowest bit of word 1
  pub first_in_word1 : w0 ≡ 0 → w1 ≢ 0 → IsFirst (set_of w0 w1 w2 w3) (64 + trailing_zeros w64 w1)
  first_in_word1 z some = first_high _ w0 _ z (first_low _ w1 some h.word1)

  -- if the first two words are 0 and word 2 is not, it is 128 above that of word 2
  pub first_in_word2 : w0 ≡ 0 → w1 ≡ 0 → w2 ≢ 0 → IsFirst (set_of w0 w1 w2 w3) (128 + trailing_zeros w64 w2)
  first_in_word2 z z1 some =
      let e : 64 + (64 + trailing_zeros w64 w2) ≡ 128 + trailing_zeros w64 w2 = omega arith in
      rw (← e) (first_high _ w0 _ z (first_high _ w1 _ z1 (first_low w3 w2 some h.word2)))

  -- and if only word 3 is not 0, it is 192 above that of word 3
  pub first_in_word3 : w0 ≡ 0 → w1 ≡ 0 → w2 ≡ 0 → w3 ≢ 0 → IsFirst (set_of w0 w1 w2 w3) (192 + trailing_zeros w64 w3)
  first_in_word3 z z1 z2 some =
      let e : 64 + (64 + (64 + trailing_zeros w64 w3)) ≡ 192 + trailing_zeros w64 w3 = omega arith in
      rw (← e) (first_high _ w0 _ z (first_high _ w1 _ z1 (first_high w3 w2 _ z2 (first_in_word w3 some h.word3).0)))

  -- a set is empty if its words are 0
  pub set_of-empty : w0 ≡ 0 → w1 ≡ 0 → w2 ≡ 0 → w3 ≡ 0 → set_of w0 w1 w2 w3 ≡ 0
  unfolding above_word
  set_of-empty z0 z1 z2 z3 = omega arith

  -- the words of an empty set are 0, and so are all their bits together
  words_empty : set_of w0 w1 w2 w3 ≡ 0 → bit_or (bit_or (bit_or w0 w1) w2) w3 ≡ 0
  unfolding above_word
  words_empty e =
      let z0 : w0 ≡ 0 = omega arith in
      let z1 : w1 ≡ 0 = omega arith in
      let z2 : w2 ≡ 0 = omega arith in
      let z3 : w3 ≡ 0 = omega arith in
      λ i. bit_or (bit_or (bit_or (z0 i) (z1 i)) (z2 i)) (z3 i)

  -- a set is empty if the union of its words has no bit
  pub words_or : (bit_or (bit_or (bit_or w0 w1) w2) w3 == 0) ≡ (set_of w0 w1 w2 w3 == 0)
  words_or =
      same_zero _ _ (λ e. set_of-empty
      (omega (arith, le_or_l (bit_or (bit_or w0 w1) w2) w3, le_or_l (bit_or w0 w1) w2, le_or_l w0 w1))
      (omega (arith, le_or_l (bit_or (bit_or w0 w1) w2) w3, le_or_l (bit_or w0 w1) w2, le_or_r w0 w1))
      (omega (arith, le_or_l (bit_or (bit_or w0 w1) w2) w3, le_or_r (bit_or w0 w1) w2))
      (omega (arith, le_or_r (bit_or (bit_or w0 w1) w2) w3))) words_empty

  -- a set is below the number that has a bit for each clone
  pub set_of-lt : set_of w0 w1 w2 w3 < 2 ^ MAX_CLONES
  unfolding above_word
  set_of-lt = omega (arith, h.word0, h.word1, h.word2, h.word3)

-- the words of one clone alone, if word q has it at bit r
one_by : (q c r : ℕ) → q < 4 → c ≡ q * 64 + r
    → set_of (if q == 0 then 2 ^ r else 0) (if q == 1 then 2 ^ r else 0) (if q == 2 then 2 ^ r else 0)
    (if q == 3 then 2 ^ r else 0) ≡ one c
unfolding above_word one
one_by zero c r l e = let f : c ≡ r = omega arith in omega (arith, ap (λ x. 2 ^ x) f)
one_by (suc zero) c r l e = let f : c ≡ 64 + r = omega arith in omega (arith, ap (λ x. 2 ^ x) f, pow-add 2 64 r)
one_by (suc (suc zero)) c r l e = let f : c ≡ 128 + r = omega arith in omega (arith, ap (λ x. 2 ^ x) f, pow-add 2 128 r)
one_by (suc (suc (suc zero))) c r l e = let f : c ≡ 192 + r = omega arith in
    omega (arith, ap (λ x. 2 ^ x) f, pow-add 2 192 r)
one_by (suc (suc (suc (suc q)))) c r l e = absurd (omega arith)

-- the words of one clone alone make the set of it
pub set_of-one : (c : ℕ) → c < MAX_CLONES
    → set_of (bit_in_word c 0) (bit_in_word c 1) (bit_in_word c 2) (bit_in_word c 3) ≡ one c
set_of-one c l = one_by (c / 64) c (c % 64) (omega arith) (omega arith)
