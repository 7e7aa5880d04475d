-- Due times: when the counts in a log first meet a condition.
use Rattle.std.specs.Prelude.{ℕ, ◌≤◌, ◌&&◌, nat_le, List, [], ◌∷◌, Bool, if◌then◌else◌, Option, Some, None, ⊤}
use Rattle.std.specs.List.{AllByRecursion}
use Rattle.sim_base.specs.declared.entry.Entry.{Entry}

module _ {M N : Type 0} (time : M → ℕ) where
  -- no entry is later than an entry after it
  abbrev pub RisesByTime : List (Entry M N) → Type 0
  RisesByTime [] = ⊤
  RisesByTime (e ∷ es) = AllByRecursion (λ f. time e.msg ≤ time f.msg) es × RisesByTime es

  module _ (condition : N → Bool) where
    -- the due time: the time of the first entry, at the start or later, whose counts meet the condition
    abbrev pub due_in : ℕ → List (Entry M N) → Option ℕ
    due_in start [] = None
    due_in start (e ∷ es) =
        if nat_le start (time e.msg) && condition e.line then Some (time e.msg) else due_in start es
