-- Tournaments in an array of fixed size, of which they take the first nodes.
use Rattle.std.specs.Prelude.{◌≡◌, ℕ, ◌*◌, ◌≤◌, ◌⊎◌, List, drop, take}
use Rattle.trace_writer.specs.Tournament.{IsTree, IsMending}
use Rattle.trace_writer.specs.declared.tree.TheConstants.{NODES}

-- the numbers of words for which there is a tournament of fixed size
abbrev pub IsFixedCount : ℕ → Type 0
IsFixedCount count = (count ≡ 8) ⊎ ((count ≡ 16) ⊎ (count ≡ 64))

-- the words of a tournament of count words in the first nodes
abbrev pub words_in : List ℕ → ℕ → List ℕ
words_in nodes count = drop count (take (2 * count) nodes)

-- the first nodes are a tournament of count words
pub record IsFixedTree (nodes : List ℕ) (count : ℕ) : Type 0 where
  pub fixed : IsFixedCount count
  pub tree : IsTree (take (2 * count) nodes) count

-- the first nodes are a tournament with these words in which the parent of this node may be wrong
pub record IsFixedMending (nodes : List ℕ) (count node least : ℕ) (words : List ℕ) : Type 0 where
  pub within : 2 * count ≤ NODES
  pub tree : IsMending (take (2 * count) nodes) count node least words
