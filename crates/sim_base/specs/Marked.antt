-- Marked messages: their order, and the clones in unions and intersections of marks.
use Rattle.std.specs.Prelude.{◌≡◌, ℕ, List, [], ◌∷◌, Bool, false, ◌&&◌, ◌||◌, Option, Some, None, ⊤}
use Rattle.std.specs.List.{AllByRecursion}
use Rattle.std.specs.declared.cmp.Ordering.{Ordering}
use Rattle.std.specs.declared.cmp.Ordering.TheVariants.{Less}

module _ {M K : Type 0} (cmp : M → M → Ordering) where
  -- m comes before all of the messages
  abbrev pub Above : M → List (M × K) → Type 0
  Above m xs = AllByRecursion (λ y. cmp m y.0 ≡ Less) xs

  -- each message comes before all that follow it
  abbrev pub SortedMarked : List (M × K) → Type 0
  SortedMarked [] = ⊤
  SortedMarked (x ∷ xs) = Above x.0 xs × SortedMarked xs

-- joined marks have the clones of both
pub record JoinsMarks {K : Type 0} (has : K → ℕ → Bool) (join : K → K → K) : Type 0 where
  pub joined : (a b : K) (c : ℕ) → has (join a b) c ≡ (has a c || has b c)

-- marks that meet have the clones of both; without a common clone there are none
pub record MeetsMarks {K : Type 0} (has : K → ℕ → Bool) (meet : K → K → Option K) : Type 0 where
  pub none : (a b : K) → meet a b ≡ None → (c : ℕ) → (has a c && has b c) ≡ false
  pub some : (a b k : K) → meet a b ≡ Some k → (c : ℕ) → has k c ≡ (has a c && has b c)
