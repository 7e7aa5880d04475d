-- Elements of lists, and the number of elements with a property.
use Rattle.std.specs.Prelude.{◌≡◌, ◌⊎◌, ℕ, List, [], ◌∷◌, length, ⊤}

-- x is an element of the list
abbrev pub In : {X : Type 0} → X → List X → Type 0
In x [] = ⊥
In x (y ∷ ys) = (x ≡ y) ⊎ In x ys

-- no element occurs twice
abbrev pub Apart : {X : Type 0} → List X → Type 0
Apart [] = ⊤
Apart (x ∷ xs) = (¬ (In x xs)) × Apart xs

-- n is the number of elements with P
pub record IsCount {X : Type 0} (P : X → Type 0) (n : ℕ) : Type 0 where
  pub members : List X
  pub apart : Apart members
  pub exact : (x : X) → In x members → P x
  pub all : (x : X) → P x → In x members
  pub number : length members ≡ n
