-- The bytes that a sink took, if the contract knows them.
use Rattle.std.specs.Prelude.{◌≡◌, ◌++◌, ℕ, List, take, Option, Some, None}

-- the piece was appended
abbrev pub IsAppended : Option (List ℕ) → List ℕ → Option (List ℕ) → Type 0
IsAppended None piece new = new ≡ None
IsAppended (Some old) piece new = new ≡ Some (old ++ piece)

-- a prefix of the piece was appended
abbrev pub IsPrefixAppended : Option (List ℕ) → List ℕ → Option (List ℕ) → Type 0
IsPrefixAppended None piece new = new ≡ None
IsPrefixAppended (Some old) piece new = (n : ℕ) × (new ≡ Some (old ++ take n piece))
