-- Pending messages of one clone: a list in the order of cmp, each element once.
use Rattle.std.specs.Prelude.{◌≡◌, List, [], ◌∷◌, ⊤}
use Rattle.std.specs.List.{AllByRecursion}
use Rattle.std.specs.declared.cmp.Ordering.{Ordering}
use Rattle.std.specs.declared.cmp.Ordering.TheVariants.{Less, Equal, Greater}
pub use Rattle.sim_base.specs.Counts.{In}

-- x is put before y ∷ ys, replaced by y if equal, or put into the rest after y
abbrev pub insert_by : {X : Type 0} → Ordering → X → X → List X → List X → List X
insert_by Less x y ys rest = x ∷ y ∷ ys
insert_by Equal x y ys rest = y ∷ ys
insert_by Greater x y ys rest = y ∷ rest

module _ {X : Type 0} (cmp : X → X → Ordering) where
  -- adds x in its place; if it is already there, nothing changes
  abbrev pub insert : X → List X → List X
  insert x [] = x ∷ []
  insert x (y ∷ ys) = insert_by (cmp x y) x y ys (insert x ys)

  -- adds each element in its place
  abbrev pub insert_all : List X → List X → List X
  insert_all [] q = q
  insert_all (x ∷ xs) q = insert_all xs (insert x q)

  -- each element comes before all that follow it
  abbrev pub Sorted : List X → Type 0
  Sorted [] = ⊤
  Sorted (x ∷ xs) = AllByRecursion (λ y. cmp x y ≡ Less) xs × Sorted xs
