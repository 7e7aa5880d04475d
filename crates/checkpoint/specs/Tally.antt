-- The sum of a measure over a list.
use Rattle.std.specs.Prelude.{ℕ, ◌+◌, List, [], ◌∷◌}

-- the sum of f over the elements; unlike the fold `sum_by`, it computes at a list with a known head and an unknown rest
abbrev pub tally : {X : Type 0} → (X → ℕ) → List X → ℕ
tally f [] = 0
tally f (x ∷ xs) = f x + tally f xs
