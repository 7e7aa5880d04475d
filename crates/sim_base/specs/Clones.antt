-- The decision lists of the clones. A clone is one branch of the simulation.
use Rattle.std.specs.Prelude.{ℕ, List, [], ◌∷◌, ◌++◌, Option, Some}
use Rattle.std.specs.Prelude.{None, slice_get, slice_set, unwrap_or, position, codes}
use Rattle.std.specs.Str.{bytes_eq}
use Rattle.sim_base.specs.declared.decision.Planned.{Planned}

-- a clone: its name, its decisions in order of arrival, and the time from which it handles nothing, if any
pub record Clone : Type 0 where
  pub name : List ℕ
  pub plans : List Planned
  pub end : Option ℕ

-- the clones in the order in which they were made, and the numbers of clones and of decisions each that memory is
-- reserved for
pub record ListsView : Type 0 where
  pub clones : List Clone
  pub reserved_clones : ℕ
  pub reserved_plans : ℕ

-- the clone that exists from the start
abbrev pub base : Clone
base = record { name = codes "base"; plans = []; end = None }

-- the place of the first clone with this name
abbrev pub place_of : List ℕ → List Clone → Option ℕ
place_of name clones = position (λ c. bytes_eq c.name name) clones

-- the default clone, if there is none at a place
abbrev pub nobody : Clone
nobody = record { name = []; plans = []; end = None }

-- the clone at this place
abbrev pub clone_at : List Clone → ℕ → Clone
clone_at clones c = unwrap_or (slice_get clones c) nobody

-- a new clone with the current decisions of this one, and no end
abbrev pub fork_of : Clone → List ℕ → Clone
fork_of c name = record { name = name; plans = c.plans; end = None }

-- one decision more, the last of the clone
abbrev pub with_plan : Clone → Planned → Clone
with_plan c p = record c { plans = c.plans ++ p ∷ [] }

-- the clone with this end
abbrev pub with_end : Clone → ℕ → Clone
with_end c at = record c { end = Some at }

-- a fork of the old clone at the end
abbrev pub clones_with_fork : List Clone → List ℕ → ℕ → List Clone
clones_with_fork clones new old = clones ++ fork_of (clone_at clones old) new ∷ []

-- the clone at this place gets one decision more
abbrev pub clones_with_plan : List Clone → ℕ → Planned → List Clone
clones_with_plan clones c plan = slice_set clones c (with_plan (clone_at clones c) plan)

-- the clone at this place gets this end
abbrev pub clones_with_end : List Clone → ℕ → ℕ → List Clone
clones_with_end clones c at = slice_set clones c (with_end (clone_at clones c) at)
