-- Two lists in order as one.
use Rattle.std.specs.Prelude.{ℕ, zero, suc, List, [], ◌∷◌}
use Rattle.std.specs.declared.cmp.Ordering.{Ordering}
use Rattle.std.specs.declared.cmp.Ordering.TheVariants.{Less, Equal, Greater}
use Rattle.sim_base.specs.Clones.{Clone}
pub use Rattle.sim_base.specs.Entries.{entry_order}
use Rattle.sim_base.specs.declared.entry.Entry.{Entry}
use Rattle.run_laws.specs.Simulation.{Simulation}
use Rattle.run_laws.specs.Runs.{log_at}

-- x goes first, unless y comes before it
abbrev pub merge_by : {X : Type 0} → Ordering → X → X → List X → List X → List X
merge_by Less x y with_x with_y = x ∷ with_x
merge_by Equal x y with_x with_y = x ∷ with_x
merge_by Greater x y with_x with_y = y ∷ with_y

module _ {X : Type 0} (cmp : X → X → Ordering) where
  -- x is put before the first of ys that does not come before it; `rest` merges the elements after x
  abbrev pub merge_at : X → (List X → List X) → List X → List X
  merge_at x rest [] = x ∷ rest []
  merge_at x rest (y ∷ ys) = merge_by (cmp x y) x y (rest (y ∷ ys)) (merge_at x rest ys)

  -- two lists as one; of elements that tie, that of the first list comes first
  abbrev pub merge : List X → List X → List X
  merge [] ys = ys
  merge (x ∷ xs) ys = merge_at x (merge xs) ys

module _ {S M N : Type 0} (sim : Simulation S M N) (sender number : M → ℕ) where
  -- a list for each of the stations 1 to n, merged
  abbrev pub merge_of_lists : (ℕ → List (Entry M N)) → ℕ → List (Entry M N)
  merge_of_lists list zero = []
  merge_of_lists list (suc n) = merge (entry_order sim.time sender number) (merge_of_lists list n) (list (suc n))

  -- the logs of the stations 1 to n, merged
  abbrev pub merge_of_logs : Clone → ℕ → ℕ → List (Entry M N)
  merge_of_logs c front n = merge_of_lists (λ s. log_at sim c s front) n
