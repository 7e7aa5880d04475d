-- The ends of clones.
use Rattle.std.specs.Prelude.{◌≡◌, ℕ, ◌<◌, ◌==◌, ◌&&◌, ◌||◌, Bool, false, List, [], ◌∷◌, if◌then◌else◌, min, nat_le}
use Rattle.std.specs.List.{AllByRecursion}
use Rattle.sim_base.specs.declared.lists.TheConstants.{MAX_CLONES}

-- the least end in the list for a clone, or the horizon if there is none
abbrev pub ends_in : ℕ → List (ℕ × ℕ) → ℕ → ℕ
ends_in horizon [] c = horizon
ends_in horizon (e ∷ es) c = if e.0 == c then min e.1 (ends_in horizon es c) else ends_in horizon es c

-- the clone ends at that time too: the lesser of it and its present end counts, and the other ends do not change
abbrev pub EndsWith : ℕ → ℕ → List (ℕ × ℕ) → List (ℕ × ℕ) → Type 0
EndsWith clone at old new = (horizon c : ℕ) → ends_in horizon new c ≡
    (if clone == c then min at (ends_in horizon old c) else ends_in horizon old c)

-- whether a clone has ended at a time
abbrev pub has_ended : ℕ → List (ℕ × ℕ) → ℕ → Bool
has_ended t [] c = false
has_ended t (e ∷ es) c = (nat_le e.1 t && e.0 == c) || has_ended t es c

-- the ends are those of valid clone numbers
abbrev pub AreEndsOfClones : List (ℕ × ℕ) → Type 0
AreEndsOfClones es = AllByRecursion (λ e. e.0 < MAX_CLONES) es
