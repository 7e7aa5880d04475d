-- The rest of the log in a walk.
use Rattle.std.specs.Prelude.{◌≡◌, List, [], length}

-- the current part of the walk has an entry, or no part is left
abbrev pub HasEntryOrEnds : {P S B : Type 0} → List P → List S → List B → Type 0
HasEntryOrEnds packed segments blocks = length packed ≡ 0 → (segments ≡ []) × (blocks ≡ [])
