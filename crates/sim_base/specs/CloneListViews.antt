-- The decision lists of the clones in memory.
use Rattle.std.specs.Prelude.{◌≡◌, ℕ, ◌+◌, ◌^◌, ◌<◌, ◌≤◌, List, [], ◌∷◌, ◌++◌, length}
use Rattle.std.specs.Prelude.{map, Option, Some, None, slice_get, slice_set, unwrap_or, codes}
use Rattle.std.specs.List.{AllByRecursion}
use Rattle.sim_base.specs.declared.decision.Planned.{Planned}
use Rattle.sim_base.specs.Reserved.{ReservedView}
use Rattle.sim_base.specs.Clones.{Clone}
use Rattle.sim_base.specs.Names.{AreDistinct}

-- a clone with its list
pub record CloneListView : Type 0 where
  pub name : List ℕ
  pub plans : ReservedView Planned
  pub end : Option ℕ

-- the clone that contracts see
abbrev pub clone_of : CloneListView → Clone
clone_of k = record { name = k.name; plans = k.plans.items; end = k.end }

-- memory is reserved for `reserved_plans` decisions in each list, and for a spare list for each fork up to
-- `reserved_clones`
pub record AreReserved (lists : List CloneListView) (reserved_clones : ℕ)
    (spare : ReservedView (ReservedView Planned)) (reserved_plans : ℕ) : Type 0 where
  pub plans : AllByRecursion (λ k. reserved_plans ≤ k.plans.reserved) lists
  pub spare_plans : AllByRecursion (λ s. (s.items ≡ []) × (reserved_plans ≤ s.reserved)) spare.items
  pub clones : reserved_clones ≤ length lists + length spare.items

-- the names of the clones
abbrev pub names : List Clone → List (List ℕ)
names clones = map (λ c. c.name) clones

-- there is a clone, their number fits a u32, and no two have the same name
pub record AreClones (clones : List Clone) : Type 0 where
  pub nonempty : 1 ≤ length clones
  pub at_most : length clones < 2 ^ 32
  pub distinct : AreDistinct (names clones)

-- the default list, if there is none at a place
abbrev pub no_list : CloneListView
no_list = record { name = []; plans = record { items = []; reserved = 0 }; end = None }

-- the list at this place
abbrev pub list_at : List CloneListView → ℕ → CloneListView
list_at lists c = unwrap_or (slice_get lists c) no_list

-- the base clone with memory for `reserved` decisions
abbrev pub base_list : ℕ → CloneListView
base_list reserved = record { name = codes "base"; plans = record { items = []; reserved = reserved }; end = None }

-- a fork of the old clone with memory for `reserved` decisions
abbrev pub list_fork : List CloneListView → List ℕ → ℕ → ℕ → CloneListView
list_fork lists new old reserved =
    record { name = new; plans = record { items = (list_at lists old).plans.items; reserved = reserved }; end = None }

-- a list with one decision more
abbrev pub list_with_plan : CloneListView → Planned → CloneListView
list_with_plan k plan = record k { plans = record { items = k.plans.items ++ plan ∷ []; reserved = k.plans.reserved } }

-- the list at this place gets one decision more
abbrev pub lists_with_plan : List CloneListView → ℕ → Planned → List CloneListView
lists_with_plan lists c plan = slice_set lists c (list_with_plan (list_at lists c) plan)

-- the clone at this place gets this end
abbrev pub lists_with_end : List CloneListView → ℕ → ℕ → List CloneListView
lists_with_end lists c at = slice_set lists c (record (list_at lists c) { end = Some at })
