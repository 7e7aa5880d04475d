-- A tournament in the first nodes of an array, while a word rises.
use Rattle.std.proofs.Common.{◌≡◌, ℕ, ◌+◌, ◌*◌, ◌/◌, ◌%◌, ◌<◌, ◌≤◌, ◌-◌, List, length, get_or, slice_set, take, min}
use Rattle.std.proofs.Common.{inl, inr, ap, ◌∙◌, sym, subst, arith, replicate, length-drop}
use Rattle.std.proofs.lemmas.Grind.{common_steps}
use Rattle.std.proofs.lemmas.Nat.{xor_block}
use Rattle.std.proofs.lemmas.Bool.{cases_eq}
use Rattle.std.proofs.lemmas.Bool.Decides.{nat_tests}
use Rattle.std.proofs.lemmas.List.{get_or-take, drop-set-add, take-replicate}
use Rattle.std.proofs.Math.Seq.{take-set-lt}
use Rattle.std.specs.Int.Bits.{bit_xor, xor_zero_r}
use Rattle.trace_writer.specs.FixedTrees.{IsFixedCount, IsFixedTree, IsFixedMending, words_in}
use Rattle.trace_writer.specs.declared.tree.TheConstants.{NODES}
use Rattle.trace_writer.specs.Tournament.{sibling, IsMending}

-- ---- bit_xor

xor_even : (half : ℕ) → bit_xor (half * 2 + 0) 1 ≡ half * 2 + 1
xor_even half = xor_block 1 half 0 0 1 (omega arith) (omega arith) ∙ ap (λ h. h * 2 + 1) (xor_zero_r half)

xor_odd : (half : ℕ) → bit_xor (half * 2 + 1) 1 ≡ half * 2 + 0
xor_odd half = xor_block 1 half 0 1 1 (omega arith) (omega arith) ∙ ap (λ h. h * 2 + 0) (xor_zero_r half)

-- with its lowest bit turned, a node is its sibling
pub xor_one : (node : ℕ) → bit_xor node 1 ≡ sibling node
xor_one node = elim (cases_eq (node % 2) 0) [
  | inl even ↦
      let whole : node ≡ node / 2 * 2 + 0 = omega (arith, even) in
      let next : node / 2 * 2 + 1 ≡ sibling node = grind (arith, nat_tests, even) in
      ap (λ n. bit_xor n 1) whole ∙ xor_even (node / 2) ∙ next
  | inr odd ↦
      let whole : node ≡ node / 2 * 2 + 1 = omega (arith, odd) in
      let next : node / 2 * 2 + 0 ≡ sibling node = grind (arith, nat_tests, odd) in
      ap (λ n. bit_xor n 1) whole ∙ xor_odd (node / 2) ∙ next
]

-- a node's sibling is within the same tournament
sibling_within : (node count : ℕ) → node < 2 * count → sibling node < 2 * count
sibling_within node count l = elim (cases_eq (node % 2) 0) [
  | inl even ↦ let is : sibling node ≡ node + 1 = grind (arith, nat_tests, even) in omega (arith, is, even)
  | inr odd ↦ let is : sibling node ≡ node - 1 = grind (arith, nat_tests, odd) in omega (arith, is)
]

-- ---- IsMending

-- the parent takes the lesser word: then only its own parent may be wrong
pub mends : (nodes : List ℕ) (count node least : ℕ) (words : List ℕ) → IsMending nodes count node least words → 1 < node
    → IsMending (slice_set nodes (node / 2) (min least (get_or nodes (sibling node) 0))) count (node / 2)
    (min least (get_or nodes (sibling node) 0)) words
mends nodes count node least words m l = record {
  at_most = m.at_most;
  size = grind (arith, common_steps, m.size);
  at_least = omega arith;
  low = omega (arith, m.low);
  here = grind (arith, common_steps, m.size, m.low);
  right = λ i a b other. grind (arith, common_steps, m.right i, m.here, m.size, m.low);
  below = grind (arith, common_steps, m.below, m.low);
}

-- ---- IsFixedTree

-- there is room for such a tournament
pub small_count : (c : ℕ) → IsFixedCount c → 2 * c ≤ NODES
small_count c (inl e) = omega (arith, e)
small_count c (inr (inl e)) = omega (arith, e)
small_count c (inr (inr e)) = omega (arith, e)

-- the count is the last if it is none of the others
pub count_left : (c : ℕ) → IsFixedCount c → (c ≡ 8 → ⊥) → (c ≡ 16 → ⊥) → c ≡ 64
count_left c (inl e) a b = absurd (a e)
count_left c (inr (inl e)) a b = absurd (b e)
count_left c (inr (inr e)) a b = e

-- it has a word
some_count : (c : ℕ) → IsFixedCount c → 1 ≤ c
some_count c (inl e) = omega (arith, e)
some_count c (inr (inl e)) = omega (arith, e)
some_count c (inr (inr e)) = omega (arith, e)

-- it has so many words
pub words_count : (nodes : List ℕ) (count : ℕ) → IsFixedTree nodes count → length (words_in nodes count) ≡ count
words_count nodes count t =
    let all = length-drop count (take (2 * count) nodes) in
    let size = t.tree.size in
    omega (arith, all, size)

-- equal nodes are a tournament
pub fresh : (count word : ℕ) → IsFixedCount count → IsFixedTree (replicate NODES word) count
fresh count word fixed =
    let small = small_count count fixed in
    let some = some_count count fixed in
    let same : take (2 * count) (replicate NODES word) ≡ replicate (2 * count) word
    = take-replicate (2 * count) NODES word small in
    record {
      fixed = fixed;
      tree = rw same (record {
        at_least = some;
        at_most = omega (arith, small);
        size = grind (arith, common_steps);
        right = λ i a b other. grind (arith, common_steps);
      });
    }

-- ---- IsFixedMending

-- the same in the first nodes of an array
pub rises : (nodes : List ℕ) (count node least now place : ℕ) (words : List ℕ)
    → IsFixedMending nodes count node least words → 1 < node → place ≡ node / 2
    → now ≡ min least (get_or nodes (bit_xor node 1) 0)
    → IsFixedMending (slice_set nodes place now) count (node / 2) now words
rises nodes count node least now place words m above place_is now_is =
    let within = sibling_within node count m.tree.low in
    let same : now ≡ min least (get_or (take (2 * count) nodes) (sibling node) 0)
    = now_is ∙ ap (λ w. min least w)
    (ap (λ j. get_or nodes j 0) (xor_one node) ∙ sym (get_or-take (2 * count) nodes (sibling node) 0 within)) in
    let moved : take (2 * count) (slice_set nodes place now) ≡ slice_set (take (2 * count) nodes) (node / 2) now
    = rw place_is (take-set-lt (2 * count) nodes (node / 2) now (omega (arith, m.tree.low))) in
    record {
      within = m.within;
      tree = rw moved (subst (λ w. IsMending (slice_set (take (2 * count) nodes) (node / 2) w) count (node / 2) w words)
          (sym same) (mends (take (2 * count) nodes) count node least words m.tree above));
    }

-- a new word, whose parent may be wrong
pub begins : (nodes : List ℕ) (count i word place : ℕ) → IsFixedTree nodes count → length nodes ≡ NODES → i < count
    → place ≡ count + i
    → IsFixedMending (slice_set nodes place word) count (count + i) word (slice_set (words_in nodes count) i word)
begins nodes count i word place t size l place_is =
    let small : 2 * count ≤ NODES = small_count count t.fixed in
    let moved : take (2 * count) (slice_set nodes place word) ≡ slice_set (take (2 * count) nodes) (count + i) word
    = rw place_is (take-set-lt (2 * count) nodes (count + i) word (omega arith)) in
    record {
      within = small;
      tree = rw moved (record {
        at_most = t.tree.at_most;
        size = grind (arith, common_steps, t.tree.size);
        at_least = omega (arith, t.tree.at_least);
        low = omega arith;
        here = grind (arith, common_steps, t.tree.size);
        right = λ j a b other. grind (arith, common_steps, t.tree.right j, t.tree.size);
        below = drop-set-add count (take (2 * count) nodes) i word;
      });
    }

-- at the top nothing may be wrong
pub ends : (nodes : List ℕ) (count least : ℕ) (words : List ℕ) → IsFixedCount count
    → IsFixedMending nodes count 1 least words → IsFixedTree nodes count
ends nodes count least words fixed m = record {
  fixed = fixed;
  tree = record {
    at_least = omega (arith, m.tree.low);
    at_most = m.tree.at_most;
    size = m.tree.size;
    right = m.tree.right;
  };
}
