-- The top of a tournament is the least of its words.
use Rattle.std.proofs.Common.{◌≡◌, ℕ, zero, suc, ◌+◌, ◌*◌, ◌-◌, ◌/◌, ◌%◌, ◌<◌, ◌≤◌, List, inl, inr, sym}
use Rattle.std.proofs.Common.{ap, ◌∙◌, arith, length, get_or, drop, length-drop}
use Rattle.std.proofs.lemmas.Bool.{cases_lt, cases_eq}
use Rattle.std.proofs.lemmas.List.{get_or-drop}
use Rattle.sim_base.proofs.Elements.{min_cases}
use Rattle.trace_writer.specs.Tournament.{IsNode, IsTree, IsLeastWord}

-- ---- IsTree

module _ (nodes : List ℕ) (count : ℕ) (t : IsTree nodes count) where
  -- each node that has others below it has the lesser word of the two
  node_right : (i : ℕ) → 1 ≤ i → i < count → IsNode nodes i
  node_right i a b = t.right i a b (λ e. omega (arith, e, a))

  -- no word below node 1 is less than its word
  top_least : (fuel j : ℕ) → 1 ≤ j → j < 2 * count → j ≤ fuel → get_or nodes 1 0 ≤ get_or nodes j 0
  top_least zero j a b c = absurd (omega arith)
  top_least (suc fuel) j a b c = elim (cases_lt 1 j) [
    | inl l ↦
        let h : ℕ = j / 2 in
        let up = top_least fuel h (omega arith) (omega arith) (omega arith) in
        let here = node_right h (omega arith) (omega arith) in
        let one : get_or nodes h 0 ≤ get_or nodes j 0 = elim (cases_eq (j % 2) 0) [
          | inl e ↦ let p : j ≡ 2 * h = omega (arith, e) in let q = ap (λ m. get_or nodes m 0) p in
              omega (arith, here, q)
          | inr n ↦ let p : j ≡ 2 * h + 1 = omega (arith, n) in let q = ap (λ m. get_or nodes m 0) p in
              omega (arith, here, q)
        ] in
        omega (arith, up, one)
    | inr l ↦ let p : j ≡ 1 = omega arith in let q = ap (λ m. get_or nodes m 0) p in omega (arith, q)
  ]

  -- the word of a node is one of the words
  word_of_node : (fuel i : ℕ) → 1 ≤ i → i < 2 * count → 2 * count ≤ i + fuel →
      (k : ℕ) × (k < count) × (get_or nodes (count + k) 0 ≡ get_or nodes i 0)
  word_of_node zero i a b c = absurd (omega arith)
  word_of_node (suc fuel) i a b c = elim (cases_lt i count) [
    | inl l ↦ elim (min_cases (get_or nodes (2 * i) 0) (get_or nodes (2 * i + 1) 0)) [
      | inl e ↦
          let h = word_of_node fuel (2 * i) (omega arith) (omega arith) (omega arith) in
          (h.0, h.1, h.2 ∙ sym (node_right i a l ∙ e))
      | inr e ↦
          let h = word_of_node fuel (2 * i + 1) (omega arith) (omega arith) (omega arith) in
          (h.0, h.1, h.2 ∙ sym (node_right i a l ∙ e))
    ]
    | inr l ↦ (i - count, omega arith, (let p : count + (i - count) ≡ i = omega arith in ap (λ j. get_or nodes j 0) p))
  ]

  -- the word at the top is the least of the words
  pub least_word : (word : ℕ) → get_or nodes 1 0 ≡ word → IsLeastWord word (drop count nodes)
  least_word word e =
      let some : 1 ≤ count = t.at_least in
      let h = word_of_node (2 * count) 1 (omega arith) (omega arith) (omega arith) in
      let long : length (drop count nodes) ≡ count = let a = length-drop count nodes in let b = t.size in
      omega (arith, a, b) in
      record {
        place = h.0;
        in_range = let l : h.0 < count = h.1 in omega (arith, l, long);
        is = get_or-drop count nodes h.0 0 ∙ h.2 ∙ e;
        least = λ i l.
            let a = top_least (2 * count) (count + i) (omega arith) (omega (arith, l, long)) (omega (arith, l, long)) in
            let b = get_or-drop count nodes i 0 in
            omega (arith, a, b, e);
      }
