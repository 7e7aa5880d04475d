-- A tournament of words: node 1 is the top, and the children of node i are 2 * i and 2 * i + 1.
use Rattle.std.specs.Prelude.{◌≡◌, ◌≢◌, ℕ, ◌+◌, ◌-◌, ◌*◌, ◌/◌, ◌%◌, ◌<◌}
use Rattle.std.specs.Prelude.{◌≤◌, ◌==◌, if◌then◌else◌, List, length, get_or, drop, min}
use Rattle.trace_writer.specs.declared.tree.TheConstants.{NODES}

-- the other node under the same parent
abbrev pub sibling : ℕ → ℕ
sibling node = if node % 2 == 0 then node + 1 else node - 1

-- a node has the lesser word of its two children
abbrev pub IsNode : List ℕ → ℕ → Type 0
IsNode nodes i = get_or nodes i 0 ≡ min (get_or nodes (2 * i) 0) (get_or nodes (2 * i + 1) 0)

-- each inner node, except perhaps one, has the lesser word of its children
abbrev pub AreNodesBut : List ℕ → ℕ → ℕ → Type 0
AreNodesBut nodes count p = (i : ℕ) → 1 ≤ i → i < count → i ≢ p → IsNode nodes i

-- count nodes, the first unused, followed by count words
pub record IsTree (nodes : List ℕ) (count : ℕ) : Type 0 where
  pub at_least : 1 ≤ count
  pub at_most : count ≤ NODES
  pub size : length nodes ≡ 2 * count
  pub right : AreNodesBut nodes count 0

-- the least of a list's words, and its place
pub record IsLeastWord (word : ℕ) (words : List ℕ) : Type 0 where
  pub place : ℕ
  pub in_range : place < length words
  pub is : get_or words place 0 ≡ word
  pub least : (i : ℕ) → i < length words → word ≤ get_or words i 0

-- a tree with these words in which the parent of this node may be wrong; `least` is the word of this node
pub record IsMending (nodes : List ℕ) (count node least : ℕ) (words : List ℕ) : Type 0 where
  pub at_most : count ≤ NODES
  pub size : length nodes ≡ 2 * count
  pub at_least : 1 ≤ node
  pub low : node < 2 * count
  pub here : get_or nodes node 0 ≡ least
  pub right : AreNodesBut nodes count (node / 2)
  pub below : drop count nodes ≡ words
