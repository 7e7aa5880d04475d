-- The first of several optional values that is not None.
use Rattle.std.proofs.Common.{◌≡◌, inl, inr, ℕ, zero, suc, ◌<◌, refl, ap, ap₂, ◌∙◌, arith, Option, Some, None}
use Rattle.std.proofs.lemmas.Bool.{cases_lt}
use Rattle.std.specs.Option.{option_or}
use Rattle.study_run.specs.Overs.{first_below}

-- ---- option_or
-- both are None
pub both_none : {X : Type 0} (a b : Option X) → option_or a b ≡ None → (a ≡ None) × (b ≡ None)
both_none None b h = (refl, h)
both_none (Some x) b h = absurd (cc)

-- ---- first_below
-- x is the value at some index below n, and there is none before it
pub record IsFirstAt {X : Type 0} (f : ℕ → Option X) (n : ℕ) (x : X) : Type 0 where
  pub place : ℕ
  pub below : place < n
  pub is_there : f place ≡ Some x
  pub none_before : (j : ℕ) → j < place → f j ≡ None

module _ {X : Type 0} (f : ℕ → Option X) where
  -- if all are None, nothing is found
  pub below_none : (n : ℕ) → ((k : ℕ) → k < n → f k ≡ None) → first_below f n ≡ None
  unfolding first_below
  below_none zero h = refl
  below_none (suc n) h = ap₂ option_or (below_none n (λ k l. h k (omega (arith, l)))) (h n (omega arith))

  -- if one is not None, it is found, unless one before it is
  pub below_some : (n k : ℕ) (x : X) → k < n → f k ≡ Some x → ((j : ℕ) → j < k → f j ≡ None) → first_below f n ≡ Some x
  unfolding first_below
  below_some zero k x l e h = absurd (omega (arith, l))
  below_some (suc n) k x l e h = elim (cases_lt k n) [
    | inl less ↦ ap (λ o. option_or o (f n)) (below_some n k x less e h)
    | inr most ↦
        let is : n ≡ k = omega (arith, l, most) in
        ap₂ option_or (below_none n (λ j s. h j (omega (arith, s, is)))) (ap f is ∙ e)
  ]

  -- if nothing is found, all are None
  pub none_below : (n k : ℕ) → first_below f n ≡ None → k < n → f k ≡ None
  unfolding first_below
  none_below zero k h l = absurd (omega (arith, l))
  none_below (suc n) k h l =
      let p = both_none (first_below f n) (f n) h in
      elim (cases_lt k n) [
        | inl less ↦ none_below n k p.0 less
        | inr most ↦ let is : k ≡ n = omega (arith, l, most) in ap f is ∙ p.1
      ]

  -- what is found is the first
  pub found_below : (n : ℕ) (x : X) → first_below f n ≡ Some x → IsFirstAt f n x
  unfolding first_below
  found_below zero x h = absurd (cc)
  found_below (suc n) x h = by (first_below f n) refl h (λ e. found_below n x e)
    where
      by : (o : Option X) → first_below f n ≡ o → option_or o (f n) ≡ Some x
          → (first_below f n ≡ Some x → IsFirstAt f n x) → IsFirstAt f (suc n) x
      by (Some y) e h before =
          let r = before (e ∙ h) in
          let below = r.below in
          record { place = r.place; below = omega (arith, below); is_there = r.is_there; none_before = r.none_before }
      by None e h before = record {
        place = n;
        below = omega arith;
        is_there = h;
        none_before = λ j l.
            none_below n j e l;
      }
