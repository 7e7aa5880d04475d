-- One rotation through a ring: each element is removed at the front, and its replacement is appended.
use Rattle.std.proofs.Common.{◌≡◌, ℕ, zero, suc, ◌+◌, ◌<◌, ◌≤◌, refl, sym, ap, ◌∙◌, subst, List, [], ◌∷◌, ◌++◌}
use Rattle.std.proofs.Common.{Option, Some, None, set}
use Rattle.std.proofs.Common.{true, false, ◌==◌, if◌then◌else◌, length, take, drop, get_or, arith, append_assoc}
use Rattle.std.specs.Prelude.{is_some}
use Rattle.std.proofs.lemmas.Bool.{eqb-true, eqb-false}
use Rattle.std.proofs.lemmas.Grind.{flat_map-append}
use Rattle.std.proofs.lemmas.List.{append-nil, drop_more, nil_from_length}
use Rattle.sim_base.specs.Pending.{cut_by}
use Rattle.sim_base.specs.Blocks.{of_blocks, AreFilled, StartsAt}
use Rattle.sim_base.specs.declared.message.Msg.{Msg}
use Rattle.sim_base.specs.declared.pending.blocks.TheConstants.{MAX_IN_BLOCK}
use Rattle.sim_base.proofs.Elements.{take_next}
use Rattle.sim_base.proofs.ListLaws.{all_append, all_at}
use Rattle.sim_base.proofs.Cutting.{cut-Some, cut-None, cut-append, length-cut}

-- ---- drop

module _ {X : Type 0} where
  -- the first one taken out is the next of the old list
  drop_next : (old items rest done : List X) (i : ℕ) (x : X) → i < length old → items ≡ drop i old ++ done
      → items ≡ x ∷ rest → (x ≡ get_or old i x) × (rest ≡ drop (i + 1) old ++ done)
  drop_next old items rest done i x l is leaves =
      let more : drop i old ≡ get_or old i x ∷ drop (i + 1) old = drop_more old i x l in
      let e : x ∷ rest ≡ get_or old i x ∷ (drop (i + 1) old ++ done) = sym leaves ∙ is ∙ ap (λ t. t ++ done) more in
      (cc, cc)

-- ---- cut_by: the messages of one block

module _ {M K : Type 0} (meet : K → K → Option K) (by : K) (old items rest : List (M × K)) (i : ℕ) (x : M × K)
    (l : i < length old) (is : items ≡ drop i old ++ cut_by meet by (take i old)) (leaves : items ≡ x ∷ rest) where
  -- the next message is taken out, and the others stay
  get_or-next : (x ≡ get_or old i x) × (rest ≡ drop (i + 1) old ++ cut_by meet by (take i old))
  get_or-next = drop_next old items rest (cut_by meet by (take i old)) i x l is leaves

  -- the messages that meet so far, with one more message
  cut_by-next : cut_by meet by (take (i + 1) old) ≡ cut_by meet by (take i old) ++ cut_by meet by (x ∷ [])
  cut_by-next = ap (cut_by meet by) (take_next old i x l get_or-next.0) ∙ cut-append meet by (take i old) (x ∷ [])

  -- a message that stays
  pub rotated-Some : (v : K) → meet x.1 by ≡ Some v
      → rest ++ (x.0, v) ∷ [] ≡ drop (i + 1) old ++ cut_by meet by (take (i + 1) old)
  rotated-Some v e =
      let all : cut_by meet by (take (i + 1) old) ≡ cut_by meet by (take i old) ++ (x.0, v) ∷ [] =
      cut_by-next ∙ ap (λ t. cut_by meet by (take i old) ++ t) (cut-Some meet by x v [] e) in
      ap (λ t. t ++ (x.0, v) ∷ []) get_or-next.1 ∙ append_assoc (drop (i + 1) old) (cut_by meet by (take i old))
      ((x.0, v) ∷ []) ∙ ap (λ t. drop (i + 1) old ++ t) (sym all)

  -- and one that goes
  pub rotated-None : meet x.1 by ≡ None → rest ≡ drop (i + 1) old ++ cut_by meet by (take (i + 1) old)
  rotated-None e =
      let all : cut_by meet by (take (i + 1) old) ≡ cut_by meet by (take i old) =
      cut_by-next ∙ ap (λ t. cut_by meet by (take i old) ++ t) (cut-None meet by x [] e)
      ∙ append-nil (cut_by meet by (take i old)) in
      get_or-next.1 ∙ ap (λ t. drop (i + 1) old ++ t) (sym all)

-- ---- HasRotated

module _ {M K : Type 0} (meet : K → K → Option K) (by : K) (old : List (List (M × K))) where
  -- the new form of the blocks so far
  pub record HasRotated (now : List (List (M × K))) (n : ℕ) : Type 0 where
    pub done : List (List (M × K))
    pub items : now ≡ drop n old ++ done
    pub cut : of_blocks done ≡ cut_by meet by (of_blocks (take n old))
    pub filled : AreFilled done

  module _ (items rest : List (List (M × K))) (i : ℕ) (b : List (M × K)) (l : i < length old)
      (rotated : HasRotated items i) (leaves : items ≡ b ∷ rest) where
    -- the next block is taken out, and the others stay
    next_block : (b ≡ get_or old i b) × (rest ≡ drop (i + 1) old ++ rotated.done)
    next_block = drop_next old items rest rotated.done i b l rotated.items leaves

    -- the messages that meet so far, with one more block
    more_blocks : cut_by meet by (of_blocks (take (i + 1) old)) ≡ of_blocks rotated.done ++ cut_by meet by b
    more_blocks =
        ap (λ bs. cut_by meet by (of_blocks bs)) (take_next old i b l next_block.0)
        ∙ ap (cut_by meet by) (flat_map-append (λ b. b) (take i old) (b ∷ []) ∙ ap (λ t. of_blocks (take i old) ++ t)
        (append-nil b))
        ∙ cut-append meet by (of_blocks (take i old)) b ∙ ap (λ t. t ++ cut_by meet by b) (sym rotated.cut)

    -- a block of which some messages stay
    pub HasRotated-filled : AreFilled old → 0 < length (cut_by meet by b)
        → HasRotated (rest ++ cut_by meet by b ∷ []) (i + 1)
    HasRotated-filled filled some =
        let size = all_at (λ b. (0 < length b) × (length b ≤ MAX_IN_BLOCK)) old i b filled l in
        let few : length b ≤ MAX_IN_BLOCK = subst (λ c. length c ≤ MAX_IN_BLOCK) (sym next_block.0) size.1 in
        let short = length-cut meet by b in
        record {
          done = rotated.done ++ cut_by meet by b ∷ [];
          items = ap (λ t. t ++ cut_by meet by b ∷ []) next_block.1 ∙ append_assoc (drop (i + 1) old) rotated.done
              (cut_by meet by b ∷ []);
          cut = flat_map-append (λ b. b) rotated.done (cut_by meet by b ∷ []) ∙ ap (λ t. of_blocks rotated.done ++ t)
              (append-nil (cut_by meet by b)) ∙ sym more_blocks;
          filled = all_append _ rotated.done (cut_by meet by b ∷ []) rotated.filled ((some, omega arith), tt);
        }

    -- and one of which none does
    pub HasRotated-empty : length (cut_by meet by b) ≡ 0 → HasRotated rest (i + 1)
    HasRotated-empty none = record {
      done = rotated.done;
      items = next_block.1;
      cut = sym (more_blocks ∙ ap (λ t. of_blocks rotated.done ++ t) (nil_from_length (cut_by meet by b) none)
          ∙ append-nil (of_blocks rotated.done));
      filled = rotated.filled;
    }

-- ---- cut_by, block by block

module _ {M K : Type 0} (meet : K → K → Option K) (by : K) where
  -- the cut so far, with one more block
  pub cut_more : (so_far now : List (M × K)) (b cut : List (M × K)) (rest rest' : List (List (M × K)))
      (all : List (M × K)) → now ≡ so_far ++ cut → cut ≡ cut_by meet by b → rest ≡ b ∷ rest' →
      so_far ++ cut_by meet by (of_blocks rest) ≡ all → now ++ cut_by meet by (of_blocks rest') ≡ all
  cut_more so_far now b cut rest rest' all is of_b next e =
      ap (λ t. t ++ cut_by meet by (of_blocks rest')) (is ∙ ap (λ t. so_far ++ t) of_b)
      ∙ append_assoc so_far (cut_by meet by b) (cut_by meet by (of_blocks rest'))
      ∙ ap (λ t. so_far ++ t) (sym (cut-append meet by b (of_blocks rest')))
      ∙ ap (λ bs. so_far ++ cut_by meet by (of_blocks bs)) (sym next) ∙ e

  -- at the end all is cut
  pub cut_end : (so_far : List (M × K)) (rest : List (List (M × K))) (all : List (M × K)) → length rest ≡ 0
      → so_far ++ cut_by meet by (of_blocks rest) ≡ all → so_far ≡ all
  cut_end so_far rest all none e = sym (append-nil so_far) ∙ ap (λ bs. so_far ++ cut_by meet by (of_blocks bs))
      (sym (nil_from_length rest none)) ∙ e

-- ---- []

-- a list whose length is 0 is empty
pub empty_if : {X : Type 0} (xs : List X) → true ≡ (length xs == 0) → xs ≡ []
empty_if xs e = nil_from_length xs (eqb-true (length xs) 0 (sym e))

-- and if its length is not 0 it has an element
pub filled_if : {X : Type 0} (xs : List X) → false ≡ (length xs == 0) → 0 < length xs
filled_if xs e = let some = eqb-false (length xs) 0 (sym e) in omega arith

-- ---- spread_marks

module _ {M K : Type 0} (join : K → K → K) (meet : K → K → Option K) (by more : K) where
  -- marks that meet the given ones are joined with the further ones
  pub spread-Some : (x : M × K) (k : K) (r : Option K) → r ≡ meet x.1 by → is_some r ≡ true → k ≡ join x.1 more
      → ◌≡◌ {A = M × K} (x.0, k) (x.0, if is_some (meet x.1 by) then join x.1 more else x.1)
  spread-Some x k r e s is = let yes : is_some (meet x.1 by) ≡ true = ap is_some (sym e) ∙ s in rw (yes, is) refl

  -- and marks that do not meet them stay
  pub spread-None : (x : M × K) (r : Option K) → r ≡ meet x.1 by → is_some r ≡ false
      → ◌≡◌ {A = M × K} x (x.0, if is_some (meet x.1 by) then join x.1 more else x.1)
  spread-None x r e s = let no : is_some (meet x.1 by) ≡ false = ap is_some (sym e) ∙ s in rw no refl

-- ---- StartsAt

-- other marks at a message leave the time of the first
pub StartsAt-set : {K : Type 0} (time : ℕ) (xs : List (Msg × K)) (i : ℕ) (x : Msg × K) (k : K) → x ≡ get_or xs i x
    → StartsAt time xs → StartsAt time (set xs i (x.0, k))
StartsAt-set time [] i x k is s = tt
StartsAt-set time (y ∷ ys) zero x k is s = s ∙ ap (λ z. z.0.key.time) (sym is)
StartsAt-set time (y ∷ ys) (suc i) x k is s = s
