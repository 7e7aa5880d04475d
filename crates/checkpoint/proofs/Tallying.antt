-- Tallies of lists: appended, compared, and inserted in order.
use Rattle.std.proofs.Common.{◌≡◌, ℕ, ◌+◌, ◌≤◌, List, [], ◌∷◌, ◌++◌, arith, refl}
use Rattle.std.specs.declared.cmp.Ordering.{Ordering}
use Rattle.std.specs.declared.cmp.Ordering.TheVariants.{Less, Equal, Greater}
use Rattle.std.specs.List.{AllByRecursion}
use Rattle.run_laws.specs.Queue.{insert_by, insert, insert_all}
use Rattle.checkpoint.specs.Tally.{tally}

module _ {X : Type 0} (f : X → ℕ) where
  -- two lists in a row
  pub tally-append : (xs ys : List X) → tally f (xs ++ ys) ≡ tally f xs + tally f ys
  tally-append [] ys = omega arith
  tally-append (x ∷ xs) ys = let h = tally-append xs ys in omega (arith, h)

  -- elements of measure 0
  pub tally-zero : (xs : List X) → AllByRecursion (λ x. f x ≡ 0) xs → tally f xs ≡ 0
  tally-zero [] none = refl
  tally-zero (x ∷ xs) none = let h = tally-zero xs none.1 in let g = none.0 in omega (arith, h, g)

  -- a measure that is at most another at each element
  pub tally-le : (g : X → ℕ) (xs : List X) → AllByRecursion (λ x. f x ≤ g x) xs → tally f xs ≤ tally g xs
  tally-le g [] less = omega arith
  tally-le g (x ∷ xs) less = let h = tally-le g xs less.1 in let k = less.0 in omega (arith, h, k)

  -- An insertion adds at most the measure of the element: an element that is there already is not put in again.
  module _ (cmp : X → X → Ordering) where
    tally-insert_by : (r : Ordering) (x y : X) (ys rest : List X) → tally f rest ≤ f x + tally f ys →
        tally f (insert_by r x y ys rest) ≤ f x + (f y + tally f ys)
    tally-insert_by Less x y ys rest h = omega arith
    tally-insert_by Equal x y ys rest h = omega arith
    tally-insert_by Greater x y ys rest h = omega (arith, h)

    tally-insert : (x : X) (q : List X) → tally f (insert cmp x q) ≤ f x + tally f q
    tally-insert x [] = omega arith
    tally-insert x (y ∷ ys) = tally-insert_by (cmp x y) x y ys (insert cmp x ys) (tally-insert x ys)

    pub tally-insert_all : (xs q : List X) → tally f (insert_all cmp xs q) ≤ tally f xs + tally f q
    tally-insert_all [] q = omega arith
    tally-insert_all (x ∷ xs) q =
        let h = tally-insert_all xs (insert cmp x q) in
        let g = tally-insert x q in
        omega (arith, h, g)
