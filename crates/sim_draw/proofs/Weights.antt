-- Sums of weights, and the index that a pick finds.
use Rattle.std.proofs.Common.{◌≡◌, ℕ, suc, ◌+◌, ◌-◌, ◌<◌, ◌≤◌, Bool, true, false}
use Rattle.std.proofs.Common.{if◌then◌else◌, nat_lt, ltb-true, List, [], ◌∷◌, length, refl, arith}
use Rattle.std.specs.Prelude.{sum, take}
use Rattle.std.proofs.lemmas.Bool.{ltb-false}
use Rattle.std.proofs.lemmas.List.Sums.{sum_by-cons}
use Rattle.std.specs.List.{AllByRecursion}
use Rattle.sim_base.specs.Weights.{IsWeight}
use Rattle.sim_draw.specs.Drawing.{index_of, IsFirstAbove}

-- ---- sum

-- the sum of one weight or more is above 0
pub sum-heavy : (ws : List ℕ) → 1 ≤ length ws → AllByRecursion IsWeight ws → 0 < sum ws
sum-heavy [] some all = absurd (omega arith)
sum-heavy (w ∷ ws) some all = let one : 1 ≤ w = all.0.heavy in omega (arith, sum_by-cons (λ (x : ℕ). x) w ws)

-- ---- IsFirstAbove

module _ (w : ℕ) (ws : List ℕ) (x : ℕ) where
  -- if x is below the first weight, that one is the first
  IsFirstAbove-here : x < w → IsFirstAbove (w ∷ ws) x 0
  IsFirstAbove-here below = record { above = omega (arith, sum_by-cons (λ (y : ℕ). y) w []); first = omega arith }

  -- otherwise it is the first after it, for the rest of x
  IsFirstAbove-later : (k : ℕ) → w ≤ x → IsFirstAbove ws (x - w) k → IsFirstAbove (w ∷ ws) x (1 + k)
  IsFirstAbove-later k reached rest =
      let more : (1 + k) + 1 ≡ suc (k + 1) = omega arith in
      let same : 1 + k ≡ suc k = omega arith in
      record {
        above = rw more (omega (arith, rest.above, sum_by-cons (λ (y : ℕ). y) w (take (k + 1) ws)));
        first = rw same (omega (arith, rest.first, sum_by-cons (λ (y : ℕ). y) w (take k ws)));
      }

-- ---- index_of

-- the index that is found is the first whose running sum exceeds x
pub index_of-first : (ws : List ℕ) (x : ℕ) → x < sum ws → IsFirstAbove ws x (index_of ws x)
index_of-first [] x below = absurd (omega arith)
index_of-first (w ∷ ws) x below = by (nat_lt x w) refl (index_of-first ws (x - w))
  where
    -- by whether x is below the first weight
    by : (b : Bool) → nat_lt x w ≡ b → (x - w < sum ws → IsFirstAbove ws (x - w) (index_of ws (x - w)))
        → IsFirstAbove (w ∷ ws) x (if b then 0 else 1 + index_of ws (x - w))
    by true here rest = IsFirstAbove-here w ws x (ltb-true x w here)
    by false later rest =
        let reached = ltb-false x w later in
        IsFirstAbove-later w ws x (index_of ws (x - w)) reached (rest (omega (arith, sum_by-cons (λ (y : ℕ). y) w ws)))
