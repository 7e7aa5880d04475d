-- A finite set of clone numbers, seen as the number whose bit c says whether c is in it.
use Rattle.std.specs.Prelude.{◌≡◌, ℕ, ◌^◌, ◌<◌, ◌==◌, Bool, true, false, List}
use Rattle.std.specs.Prelude.{Option, Some, None, if◌then◌else◌, filter, bit_and, bit_or, bit_xor, count_ones}
use Rattle.std.specs.Int.{bit_at}
use Rattle.std.specs.List.{range_with_len}
use Rattle.sim_base.specs.declared.lists.TheConstants.{MAX_CLONES}
use Rattle.clone_sets.specs.declared.set.CloneSet.{CloneSet}

-- whether a clone is in the set
unfoldable pub has : CloneSet → ℕ → Bool
has s c = bit_at s c == 1

-- the empty set
abbrev pub empty : CloneSet
empty = 0

-- one clone alone
unfoldable pub one : ℕ → CloneSet
one c = 2 ^ c

-- the union of the two
unfoldable pub union : CloneSet → CloneSet → CloneSet
union a b = bit_or a b

-- the intersection of the two
unfoldable pub meet : CloneSet → CloneSet → CloneSet
meet a b = bit_and a b

-- the clones of a that are not in b
unfoldable pub minus : CloneSet → CloneSet → CloneSet
minus a b = bit_xor a (bit_and a b)

-- the set with one more clone
abbrev pub with : CloneSet → ℕ → CloneSet
with s c = union s (one c)

-- the set without one clone
abbrev pub without : CloneSet → ℕ → CloneSet
without s c = minus s (one c)

-- the number of clones in the set
unfoldable pub size : CloneSet → ℕ
size s = count_ones s

-- the clones of the set, in rising order
unfoldable pub members : CloneSet → List ℕ
members s = filter (has s) (range_with_len 0 MAX_CLONES)

-- the clone is the least of the set
pub record IsFirst (s : CloneSet) (c : ℕ) : Type 0 where
  pub in_set : has s c ≡ true
  pub least : (d : ℕ) → d < c → has s d ≡ false

-- the clones that two sets have in common, or None if there are none
abbrev pub common : CloneSet → CloneSet → Option CloneSet
common a b = if meet a b == empty then None else Some (meet a b)
