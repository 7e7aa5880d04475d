-- Words are in the order of their keys.
use Rattle.std.proofs.Common.{◌≡◌, ◌⊎◌, inl, inr, ℕ, ◌<◌, refl, subst, arith}
use Rattle.std.proofs.Common.{Ordering, Less, Equal, Greater, nat_cmp}
use Rattle.std.specs.Cmp.{ranks}
use Rattle.std.specs.Ordering.{MatchOrdering, ordering_then}
use Rattle.sim_base.specs.KeyWords.{FitsWord, key_word}
use Rattle.sim_base.specs.Order.{key_cmp}
use Rattle.sim_base.specs.declared.message.Key.{Key}
use Rattle.sim_base.specs.declared.message.TheConstants.{WORD_PLACES}
use Rattle.sim_base.proofs.OrderEqual.{three_same}

-- ---- ordering_then

-- by number, then by the next order
by_number : {A : Type 0} (x y : ℕ) (r s : Ordering) → MatchOrdering r (x < y) (x ≡ y) (y < x) → (y < x → ⊥)
    → (x ≡ y → (s ≡ Less) ⊎ ((s ≡ Equal) × A)) → (ordering_then r s ≡ Less) ⊎ ((ordering_then r s ≡ Equal) × A)
by_number x y Less s m f g = inl refl
by_number x y Equal s m f g = g m
by_number x y Greater s m f g = absurd (f m)

-- the last number, and the case of a tie
last_number : {A : Type 0} (x y : ℕ) (r : Ordering) → MatchOrdering r (x < y) (x ≡ y) (y < x) → (y < x → ⊥)
    → (x ≡ y → A) → (r ≡ Less) ⊎ ((r ≡ Equal) × A)
last_number x y Less m f g = inl refl
last_number x y Equal m f g = inr (refl, g m)
last_number x y Greater m f g = absurd (f m)

-- less by two orders in turn means less by the first, or a tie there and less by the second
by_two : (x y : ℕ) (s : Ordering) → ordering_then (nat_cmp x y) s ≡ Less → (x < y) ⊎ ((x ≡ y) × (s ≡ Less))
by_two x y s e = by (nat_cmp x y) (ranks x y) e
  where
    -- by how the two numbers lie
    by : (r : Ordering) → MatchOrdering r (x < y) (x ≡ y) (y < x) → ordering_then r s ≡ Less
        → (x < y) ⊎ ((x ≡ y) × (s ≡ Less))
    by Less m e = inl m
    by Equal m e = inr (m, e)
    by Greater m e = absurd (cc)

-- less by number means less
by_last : (x y : ℕ) → nat_cmp x y ≡ Less → x < y
by_last x y e = subst (λ r. MatchOrdering r (x < y) (x ≡ y) (y < x)) e (ranks x y)

-- ---- key_word

-- a word is less only if its key is, or if the keys are equal and its place is less
pub words-ordered : (p q : ℕ) (j k : Key) → FitsWord j → FitsWord k → p < WORD_PLACES → q < WORD_PLACES
    → key_word p j < key_word q k → (key_cmp j k ≡ Less) ⊎ ((key_cmp j k ≡ Equal) × (p < q))
words-ordered p q j k a b l m h =
    let sj = a.sender in
    let sk = b.sender in
    let nj = a.number in
    let nk = b.number in
    by_number j.time k.time (nat_cmp j.time k.time) _ (ranks j.time k.time)
    (λ g. omega (arith, g, h, sj, sk, nj, nk, l, m)) (λ t.
    by_number j.sender k.sender (nat_cmp j.sender k.sender) _ (ranks j.sender k.sender)
    (λ g. omega (arith, g, t, h, nj, nk, l, m)) (λ s.
    last_number j.number k.number (nat_cmp j.number k.number) (ranks j.number k.number)
    (λ g. omega (arith, g, t, s, h, l, m)) (λ n. omega (arith, t, s, n, h))))

-- and it is less there
pub key_word-lt : (p q : ℕ) (j k : Key) → FitsWord j → FitsWord k → p < WORD_PLACES → q < WORD_PLACES
    → (key_cmp j k ≡ Less) ⊎ ((key_cmp j k ≡ Equal) × (p < q)) → key_word p j < key_word q k
key_word-lt p q j k a b l m (inl e) =
    let sj = a.sender in
    let sk = b.sender in
    let nj = a.number in
    let nk = b.number in
    elim (by_two j.time k.time _ e) [
      | inl t ↦ omega (arith, t, sj, sk, nj, nk, l, m)
      | inr ts ↦
          let t = ts.0 in
          elim (by_two j.sender k.sender _ ts.1) [
            | inl s ↦ omega (arith, t, s, nj, nk, l, m)
            | inr sn ↦
                let s = sn.0 in
                let n = by_last j.number k.number sn.1 in
                omega (arith, t, s, n, l, m)
          ]
    ]
key_word-lt p q j k a b l m (inr e) =
    let same = three_same j.time j.sender j.number k.time k.sender k.number e.0 in
    let t = same.0 in
    let s = same.1 in
    let n = same.2 in
    let below = e.1 in
    omega (arith, t, s, n, below)
