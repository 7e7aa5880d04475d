-- Clones in an order other than the one in which they were made.
use Rattle.std.specs.Prelude.{◌≡◌, ℕ, List, Bool, map, length, IsPermutation}
use Rattle.std.specs.List.{range_with_len}
use Rattle.sim_base.specs.Clones.{Clone, clone_at}
use Rattle.sim_base.specs.declared.entry.Entry.{Entry}
use Rattle.run_laws.specs.Simulation.{Simulation}
use Rattle.run_laws.specs.Sharing.{copies, handled_once, handled_alone}
use Rattle.run_laws.specs.CountLaws.{TellsEntries}

-- each place below n once, in any order
abbrev pub IsPlaceOrder : ℕ → List ℕ → Type 0
IsPlaceOrder n order = IsPermutation (range_with_len 0 n) order

-- the clones at these places
abbrev pub in_order : List Clone → List ℕ → List Clone
in_order cs order = map (clone_at cs) order

-- clones in another order are a permutation of the clones
abbrev pub OrderIsPermutation : Type 0
OrderIsPermutation = (cs : List Clone) (order : List ℕ) → IsPlaceOrder (length cs) order →
    IsPermutation cs (in_order cs order)

module _ {S M N : Type 0} (sim : Simulation S M N) where
  -- the figures of a report are the same for both lists of clones
  pub record HaveSameFigures (same : Entry M N → Entry M N → Bool) (cs ds : List Clone) (s front : ℕ) : Type 0 where
    pub copies_same : copies sim same ds s front ≡ copies sim same cs s front
    pub once_same : handled_once sim same ds s front ≡ handled_once sim same cs s front
    pub alone_same : handled_alone sim ds s front ≡ handled_alone sim cs s front

  -- the figures of a report do not depend on the order of the clones
  abbrev pub FiguresIgnoreOrder : Type 0
  FiguresIgnoreOrder = (same : Entry M N → Entry M N → Bool) (cs : List Clone) (order : List ℕ) (s front : ℕ) →
      TellsEntries same → IsPlaceOrder (length cs) order → HaveSameFigures same cs (in_order cs order) s front
