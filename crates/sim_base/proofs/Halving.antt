-- Splitting a full block: the blocks afterwards, and the block that a message then belongs to.
use Rattle.std.proofs.Common.{◌≡◌, ℕ, zero, suc, ◌+◌, ◌-◌, ◌<◌, ◌≤◌, refl, sym, ap, ◌∙◌, subst, List}
use Rattle.std.proofs.Common.{[], ◌∷◌, Bool, true, false, Ordering, length, take, drop, get_or, set, arith}
use Rattle.std.specs.List.{insert}
use Rattle.std.proofs.lemmas.List.{length-take, length-drop, get_or_read}
use Rattle.sim_base.specs.Blocks.{of_blocks, block_at, halves_of, AreFilled, AreSized, AreBlocks, StartsAfter}
use Rattle.sim_base.specs.Blocks.{IsBlockOf}
use Rattle.sim_base.specs.Marked.{SortedMarked}
use Rattle.sim_base.specs.declared.pending.blocks.TheConstants.{MAX_IN_BLOCK, HALF}
use Rattle.sim_base.proofs.Blocks.{of_blocks-halves, length-halves, first_half, second_half, behind_halves}
use Rattle.sim_base.proofs.Blocks.{AreSized-halves}

-- ---- halves_of

module _ {X : Type 0} where
  -- the first block is cut
  pub halve_first : (at : ℕ) (first first' half : List X) (later later' new : List (List X)) → at ≡ 0
      → first' ≡ take HALF first → half ≡ drop HALF first → later' ≡ later → new ≡ insert later' at half
      → (first' ∷ new) ≡ halves_of at (first ∷ later)
  halve_first at first first' half later later' new e f h l n = rw (n, l, e, f, h) refl

  -- the first half replaces a later block, and the second half follows it
  set_and_insert : (n : ℕ) (later : List (List X)) → n < length later
      → insert (set later n (take HALF (get_or later n []))) (suc n) (drop HALF (get_or later n [])) ≡ halves_of n later
  set_and_insert n [] l = absurd (omega arith)
  set_and_insert zero (b ∷ bs) l = refl
  set_and_insert (suc n) (b ∷ bs) l = ap (λ t. b ∷ t) (set_and_insert n bs (omega arith))

  -- a later block is cut
  pub halve_later : (at : ℕ) (first first' kept half old : List X) (later later' new : List (List X))
      → 0 < at → at ≤ length later → old ≡ get_or later (at - 1) old →
      first' ≡ first → kept ≡ take HALF old → half ≡ drop HALF old → later' ≡ set later (at - 1) kept
      → new ≡ insert later' at half → (first' ∷ new) ≡ halves_of at (first ∷ later)
  halve_later zero first first' kept half old later later' new some within is f k h l e = absurd (omega arith)
  halve_later (suc n) first first' kept half old later later' new some within is f k h l e =
      let back : suc n - 1 ≡ n = omega arith in
      let read : old ≡ get_or later (suc n - 1) [] = get_or_read later (suc n - 1) old (omega arith) is [] in
      let here : old ≡ get_or later n [] = rw back at read in
      rw (e, l, f, k, h, back, here) (ap (λ t. first ∷ t) (set_and_insert n later (omega arith)))

  module _ (at : ℕ) (first first' : List X) (later later' : List (List X))
      (cut : (first' ∷ later') ≡ halves_of at (first ∷ later)) (within : at ≤ length later) where
    -- there is one later block more
    pub length_later : length later' ≡ suc (length later)
    length_later = let all = length-halves at (first ∷ later) (omega arith) in let same = ap length cut in omega arith

    -- at the place of the block is its first half
    first_half_at : get_or (first' ∷ later') at [] ≡ take HALF (block_at first later at)
    first_half_at = ap (λ (bs : List (List X)). get_or bs at []) cut ∙ first_half at (first ∷ later) (omega arith)

    -- after it comes its second half
    second_half_at : get_or later' at [] ≡ drop HALF (block_at first later at)
    second_half_at = ap (λ (bs : List (List X)). get_or bs (suc at) []) cut
        ∙ second_half at (first ∷ later) (omega arith)

    -- and then comes the block that was after it
    behind_at : get_or later' (suc at) [] ≡ get_or later at []
    behind_at = ap (λ (bs : List (List X)). get_or bs (suc (suc at)) []) cut
        ∙ behind_halves at (first ∷ later) (omega arith)

    -- if the block was full, there is a free place in the first half
    pub first_free : length (block_at first later at) ≡ MAX_IN_BLOCK
        → length (block_at first' later' at) < MAX_IN_BLOCK
    first_free full = rw first_half_at (omega (arith, length-take HALF (block_at first later at)))

    -- and in the second half
    pub second_free : (to : ℕ) → to ≡ suc at → length (block_at first later at) ≡ MAX_IN_BLOCK
        → length (block_at first' later' to) < MAX_IN_BLOCK
    second_free to e full = rw (e, second_half_at) (omega (arith, length-drop HALF (block_at first later at)))

-- ---- length of a block

module _ {X : Type 0} where
  -- no later block has too many messages
  filled_small : (n : ℕ) (bs : List (List X)) → AreFilled bs → length (get_or bs n []) ≤ MAX_IN_BLOCK
  filled_small n [] h = omega arith
  filled_small zero (b ∷ bs) h = h.0.1
  filled_small (suc n) (b ∷ bs) h = filled_small n bs h.1

  -- nor has any block
  small_at : (at : ℕ) (first : List X) (later : List (List X)) → AreSized first later
      → length (block_at first later at) ≤ MAX_IN_BLOCK
  small_at zero first later h = h.first_small
  small_at (suc n) first later h = filled_small n later h.later_filled

  -- so one with the most or more is full
  pub full_at : (at : ℕ) (first : List X) (later : List (List X)) (n : ℕ) → AreSized first later
      → n ≡ length (block_at first later at) → MAX_IN_BLOCK ≤ n → length (block_at first later at) ≡ MAX_IN_BLOCK
  full_at at first later n h is full = let small = small_at at first later h in omega arith

-- ---- AreBlocks

-- after a full block is split, they are valid blocks again
pub AreBlocks-halves : {M K : Type 0} (cmp : M → M → Ordering) (at : ℕ) (first first' : List (M × K))
    (later later' : List (List (M × K))) → (first' ∷ later') ≡ halves_of at (first ∷ later)
    → length (block_at first later at) ≡ MAX_IN_BLOCK → AreBlocks cmp first later → AreBlocks cmp first' later'
AreBlocks-halves cmp at first first' later later' cut full h = record {
  sorted = subst (SortedMarked cmp) (sym (ap of_blocks cut ∙ of_blocks-halves at (first ∷ later))) h.sorted;
  sized = AreSized-halves at first later first' later' h.sized full cut;
}

-- ---- StartsAfter and IsBlockOf

module _ {M K : Type 0} (cmp : M → M → Ordering) (m : M) where
  -- the value read at a place
  pub starts_there : (bs : List (List (M × K))) (n : ℕ) (b : List (M × K)) (r : Bool) → n < length bs
      → b ≡ get_or bs n b → StartsAfter cmp m b r → StartsAfter cmp m (get_or bs n []) r
  starts_there bs n b r l is starts = subst (λ t. StartsAfter cmp m t r) (get_or_read bs n b l is []) starts

  -- the first half starts as the block does
  starts_half : (b : List (M × K)) (r : Bool) → StartsAfter cmp m b r → StartsAfter cmp m (take HALF b) r
  starts_half [] r h = h
  starts_half (y ∷ ys) r h = h

  module _ (at : ℕ) (first first' : List (M × K)) (later later' : List (List (M × K)))
      (cut : (first' ∷ later') ≡ halves_of at (first ∷ later)) (place : IsBlockOf cmp m later at) where
    -- the message goes to the first half
    pub place_first : StartsAfter cmp m (get_or later' at []) true → IsBlockOf cmp m later' at
    place_first after =
        let long = length_later at first first' later later' cut place.within in
        record { within = let w = place.within in omega arith; before = before; behind = λ l. after }
      where
        before : (j : ℕ) → j + 1 ≡ at → StartsAfter cmp m (get_or later' j []) false
        before j e =
            let is : suc j ≡ at = omega arith in
            let here : get_or (first' ∷ later') at [] ≡ take HALF (block_at first later at) =
            first_half_at at first first' later later' cut place.within in
            let there : get_or later' j [] ≡ take HALF (get_or later j []) =
            subst (λ n. get_or (first' ∷ later') n [] ≡ take HALF (get_or (first ∷ later) n [])) (sym is) here in
            subst (λ b. StartsAfter cmp m b false) (sym there)
            (starts_half (get_or later j []) false (place.before j e))

    -- or to the second
    pub place_second : (to : ℕ) → to ≡ suc at → StartsAfter cmp m (get_or later' at []) false
        → IsBlockOf cmp m later' to
    place_second to e starts =
        let long = length_later at first first' later later' cut place.within in
        record {
          within = let w = place.within in omega arith;
          before = λ j f. subst (λ n. StartsAfter cmp m (get_or later' n []) false) (let h : at ≡ j = omega arith in
              h) starts;
          behind = λ l.
              let here = behind_at at first first' later later' cut place.within in
              let there : get_or later' to [] ≡ get_or later at [] =
              subst (λ n. get_or later' n [] ≡ get_or later at []) (sym e) here in
              subst (λ b. StartsAfter cmp m b true) (sym there) (place.behind (omega arith));
        }
