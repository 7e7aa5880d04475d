-- One step for each result.
use Rattle.std.proofs.Common.{◌≡◌, ℕ, List, [], ◌∷◌, refl, arith, length, sum_by}
use Rattle.std.proofs.lemmas.List.Sums.{sum_by-cons}

-- ---- sum_by
-- a sum of ones is a length
pub sum_of_ones : (xs : List ℕ) → sum_by (λ _. 1) xs ≡ length xs
sum_of_ones [] = refl
sum_of_ones (x ∷ xs) =
    let more = sum_by-cons (λ _. 1) x xs in
    let rest = sum_of_ones xs in
    omega (arith, more, rest)
