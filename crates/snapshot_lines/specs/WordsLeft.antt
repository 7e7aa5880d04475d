-- The words that are left of a line.
use Rattle.std.specs.Prelude.{ℕ, ◌==◌, List, [], Option, Some, None}
use Rattle.std.specs.List.{slice_split}

-- none after the last one; else those of the rest of the line, with this byte between them
abbrev pub words_in : ℕ → Option (List ℕ) → List (List ℕ)
words_in between None = []
words_in between (Some rest) = slice_split (λ b. b == between) rest
