-- Files by their names, and the result of a fetch if the contract knows the contents.
use Rattle.std.specs.Prelude.{◌≡◌, ℕ, List, take, Option, Some, None}
use Rattle.std.specs.FinMap as finite
use Rattle.std.specs.Ordering.{nat_cmp}
use Rattle.std.specs.Cmp.Lexicographic.{slice_cmp}
use Rattle.sim_outer.specs.declared.inputs.TheConstants.{MAX_FETCHED}

-- the bytes of each file, by the bytes of its name
abbrev pub Files : Type 0
Files = finite.FinMap (slice_cmp nat_cmp) (List ℕ)

-- the bytes of a file that a fetch returns: as many as possible, or the whole file if it is shorter
unfoldable pub prefix_of : List ℕ → List ℕ
prefix_of file = take MAX_FETCHED file

-- a fetch of this name returns these bytes, and the file exists
abbrev pub IsFetched : Option Files → List ℕ → List ℕ → Type 0
IsFetched None name bytes = Unit {0}
IsFetched (Some files) name bytes = (file : List ℕ) × (finite.get files name ≡ Some file) × (bytes ≡ prefix_of file)

-- the contract knows the files' contents, and none of them has this name
abbrev pub Lacks : Option Files → List ℕ → Type 0
Lacks None name = ⊥
Lacks (Some files) name = finite.get files name ≡ None
