-- What is true of all sets of clones.
use Rattle.std.specs.Prelude.{◌≡◌, ◌≢◌, ℕ, ◌+◌, true}
use Rattle.sim_base.specs.Counts.{IsCount}
use Rattle.sim_base.specs.Marked.{JoinsMarks, MeetsMarks}
use Rattle.clone_sets.specs.Sets.{has, empty, union, meet, minus, common, size}
use Rattle.clone_sets.specs.declared.set.CloneSet.{CloneSet}

-- a union has the clones of both sets
abbrev pub UnionJoinsMarks : Type 0
UnionJoinsMarks = JoinsMarks has union

-- the common clones of two sets, or nothing if there are none
abbrev pub CommonMeetsMarks : Type 0
CommonMeetsMarks = MeetsMarks has common

-- a set's size is the number of its clones
abbrev pub SizeIsCount : Type 0
SizeIsCount = (k : CloneSet) → IsCount (λ c. has k c ≡ true) (size k)

-- if another set cuts a set in two, the sizes of the halves add up to its size
abbrev pub HalvesAddUp : Type 0
HalvesAddUp = (k by : CloneSet) → size (meet k by) + size (minus k by) ≡ size k

-- a set that is not empty has a clone
abbrev pub SetHasClone : Type 0
SetHasClone = (k : CloneSet) → k ≢ empty → (c : ℕ) × (has k c ≡ true)
