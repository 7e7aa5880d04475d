-- The values of the options and the positionals on a command line.
use Rattle.std.specs.Prelude.{ℕ, List, [], ◌∷◌, Option, Some, None}

-- the value of each option, None without the option, and the positionals in order
pub record GivenView : Type 0 where
  pub workers : Option (List ℕ)
  pub clone : Option (List ℕ)
  pub until : Option (List ℕ)
  pub positionals : List (List ℕ)

-- the positionals up to the first one that is missing
abbrev pub positionals_of : Option (List ℕ) → Option (List ℕ) → Option (List ℕ) → Option (List ℕ) → List (List ℕ)
positionals_of None second third fourth = []
positionals_of (Some a) None third fourth = a ∷ []
positionals_of (Some a) (Some b) None fourth = a ∷ b ∷ []
positionals_of (Some a) (Some b) (Some c) None = a ∷ b ∷ c ∷ []
positionals_of (Some a) (Some b) (Some c) (Some d) = a ∷ b ∷ c ∷ d ∷ []
