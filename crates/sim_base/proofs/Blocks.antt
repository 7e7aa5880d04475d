-- Pending messages in blocks: the effect of an insertion into one block, and of splitting a block.
use Rattle.std.proofs.Common.{◌≡◌, ℕ, zero, suc, ◌<◌, refl, sym, ap, ◌∙◌, subst}
use Rattle.std.proofs.Common.{List, [], ◌∷◌, ◌++◌, false, Ordering, Greater, length, take}
use Rattle.std.proofs.Common.{drop, get_or, set, map, arith, append_assoc, Option}
use Rattle.std.specs.Cmp.{IsTotalOrder}
use Rattle.std.specs.List.{AllByRecursion}
use Rattle.std.proofs.lemmas.List.{append-nil, take-append-drop, length-take, length-drop, map-append, length-map}
use Rattle.sim_base.specs.Pending.{insert_marked, spread_marks}
use Rattle.sim_base.specs.Marked.{SortedMarked}
use Rattle.sim_base.specs.Blocks.{of_blocks, block_at, halves_of, AreFilled, AreSized, StartsAfter, IsBlockOf}
use Rattle.sim_base.specs.declared.pending.blocks.TheConstants.{MAX_IN_BLOCK, HALF}
use Rattle.std.specs.Prelude.{slice_get}
use Rattle.sim_base.proofs.ListLaws.{all_left}
use Rattle.sim_base.proofs.Placing.{is_lt-Less, insert_behind, insert_before, all_before, sorted_right}

-- ---- halves_of

module _ {X : Type 0} where
  -- a block that is cut in two keeps its messages
  pub of_blocks-halves : (at : ℕ) (bs : List (List X)) → of_blocks (halves_of at bs) ≡ of_blocks bs
  of_blocks-halves at [] = refl
  of_blocks-halves zero (b ∷ bs) = sym (append_assoc (take HALF b) (drop HALF b) (of_blocks bs))
      ∙ ap (λ t. t ++ of_blocks bs) (take-append-drop HALF b)
  of_blocks-halves (suc at) (b ∷ bs) = ap (λ t. b ++ t) (of_blocks-halves at bs)

  -- and there is one block more then
  pub length-halves : (at : ℕ) (bs : List (List X)) → at < length bs → length (halves_of at bs) ≡ suc (length bs)
  length-halves at [] l = absurd (omega arith)
  length-halves zero (b ∷ bs) l = refl
  length-halves (suc at) (b ∷ bs) l = ap suc (length-halves at bs (omega arith))

  -- at its place is its first half then
  pub first_half : (at : ℕ) (bs : List (List X)) → at < length bs
      → get_or (halves_of at bs) at [] ≡ take HALF (get_or bs at [])
  first_half at [] l = absurd (omega arith)
  first_half zero (b ∷ bs) l = refl
  first_half (suc at) (b ∷ bs) l = first_half at bs (omega arith)

  -- at the next place is its second half
  pub second_half : (at : ℕ) (bs : List (List X)) → at < length bs
      → get_or (halves_of at bs) (suc at) [] ≡ drop HALF (get_or bs at [])
  second_half at [] l = absurd (omega arith)
  second_half zero (b ∷ bs) l = refl
  second_half (suc at) (b ∷ bs) l = second_half at bs (omega arith)

  -- and then comes the block that was after it
  pub behind_halves : (at : ℕ) (bs : List (List X)) → at < length bs
      → get_or (halves_of at bs) (suc (suc at)) [] ≡ get_or bs (suc at) []
  behind_halves at [] l = absurd (omega arith)
  behind_halves zero (b ∷ bs) l = refl
  behind_halves (suc at) (b ∷ bs) l = behind_halves at bs (omega arith)

  -- a full block has two halves of one length
  half_lengths : (b : List X) → length b ≡ MAX_IN_BLOCK → (length (take HALF b) ≡ HALF) × (length (drop HALF b) ≡ HALF)
  half_lengths b full = (omega (arith, length-take HALF b), omega (arith, length-drop HALF b))

  -- after a full block is split, no block is empty or too large
  AreFilled-halves : (at : ℕ) (bs : List (List X)) → AreFilled bs → length (get_or bs at []) ≡ MAX_IN_BLOCK
      → AreFilled (halves_of at bs)
  AreFilled-halves at [] h full = h
  AreFilled-halves zero (b ∷ bs) h full = let l = half_lengths b full in
      ((omega arith, omega arith), ((omega arith, omega arith), h.1))
  AreFilled-halves (suc at) (b ∷ bs) h full = (h.0, AreFilled-halves at bs h.1 full)

  -- halves are of a right size
  pub AreSized-halves : (at : ℕ) (first : List X) (later : List (List X)) (first' : List X) (later' : List (List X))
      → AreSized first later → length (block_at first later at) ≡ MAX_IN_BLOCK
      → (first' ∷ later') ≡ halves_of at (first ∷ later) → AreSized first' later'
  AreSized-halves zero first later first' later' h full e =
      let l = half_lengths first full in
      let here : first' ≡ take HALF first = cc in
      let there : later' ≡ drop HALF first ∷ later = cc in
      rw (here, there) record {
        first_filled = λ _. omega arith;
        first_small = omega arith;
        later_filled = ((omega arith, omega arith), h.later_filled);
      }
  AreSized-halves (suc at) first later first' later' h full e =
      let here : first' ≡ first = cc in
      let there : later' ≡ halves_of at later = cc in
      rw (here, there) record {
        first_filled = λ l. h.first_filled (some at later l);
        first_small = h.first_small;
        later_filled = AreFilled-halves at later h.later_filled full;
      }
    where
      some : (at : ℕ) (bs : List (List X)) → 0 < length (halves_of at bs) → 0 < length bs
      some at [] l = l
      some at (b ∷ bs) l = omega arith

-- ---- insert_marked

module _ {M K : Type 0} {cmp : M → M → Ordering} (o : IsTotalOrder cmp) (join : K → K → K) (m : M) (k : K) where
  -- all messages before a block that starts with m or before it come before m
  blocks_before : (xs : List (M × K)) (bs : List (List (M × K))) (n : ℕ) → SortedMarked cmp (xs ++ of_blocks bs)
      → AreFilled bs → n < length bs → StartsAfter cmp m (get_or bs n []) false
      → AllByRecursion (λ x. cmp m x.0 ≡ Greater) xs
  blocks_before xs [] n s h l starts = absurd (omega arith)
  blocks_before xs ([] ∷ bs) zero s h l starts = absurd (let some = h.0.0 in omega arith)
  blocks_before xs ((y ∷ ys) ∷ bs) zero s h l starts = all_before o m xs y (ys ++ of_blocks bs) s (sym starts)
  blocks_before xs (b ∷ bs) (suc n) s h l starts =
      all_left _ xs b (blocks_before (xs ++ b) bs n
      (subst (SortedMarked cmp) (sym (append_assoc xs b (of_blocks bs))) s) h.1 (omega arith) starts)

  -- inserting into the block to which a message goes is inserting into all
  pub insert-of_blocks : (at : ℕ) (first : List (M × K)) (later : List (List (M × K)))
      → SortedMarked cmp (first ++ of_blocks later) → AreFilled later → IsBlockOf cmp m later at →
      insert_marked join cmp m k (first ++ of_blocks later) ≡ of_blocks
      (set (first ∷ later) at (insert_marked join cmp m k (block_at first later at)))
  insert-of_blocks zero first [] s h place = rw (append-nil first, append-nil (insert_marked join cmp m k first)) refl
  insert-of_blocks zero first ([] ∷ bs) s h place = absurd (let some = h.0.0 in omega arith)
  insert-of_blocks zero first ((y ∷ ys) ∷ bs) s h place = insert_before cmp join m k first y (ys ++ of_blocks bs)
      (is_lt-Less (cmp m y.0) (sym (place.behind (omega arith))))
  insert-of_blocks (suc n) first [] s h place = absurd (let l = place.within in omega arith)
  insert-of_blocks (suc n) first (b ∷ bs) s h place =
      let l = place.within in
      let all = blocks_before first (b ∷ bs) n s h (omega arith) (place.before n (omega arith)) in
      insert_behind cmp join m k first (of_blocks (b ∷ bs)) all
      ∙ ap (λ t. first ++ t) (insert-of_blocks n b bs (sorted_right cmp first (of_blocks (b ∷ bs)) s) h.1 (record {
        within = omega arith;
        before = λ j e. place.before (suc j) (omega arith);
        behind = λ l'. place.behind (omega arith);
      }))

-- ---- slice_get

module _ {X : Type 0} where
  -- the first message of all is that of the first block
  pub slice_get-of_blocks : (first : List X) (later : List (List X)) → AreSized first later
      → slice_get (first ++ of_blocks later) 0 ≡ slice_get first 0
  slice_get-of_blocks (x ∷ xs) later h = refl
  slice_get-of_blocks [] [] h = refl
  slice_get-of_blocks [] (b ∷ bs) h = absurd (let l : 0 < 0 = h.first_filled (omega arith) in omega arith)

-- ---- spread_marks

module _ {M K : Type 0} (join : K → K → K) (meet : K → K → Option K) (by more : K) where
  -- marks that are spread in each block are spread in all messages
  pub of_blocks-spread : (bs : List (List (M × K)))
      → of_blocks (map (spread_marks join meet by more) bs) ≡ spread_marks join meet by more (of_blocks bs)
  of_blocks-spread [] = refl
  of_blocks-spread (b ∷ bs) = ap (λ t. spread_marks join meet by more b ++ t) (of_blocks-spread bs)
      ∙ sym (map-append _ b (of_blocks bs))

  -- blocks that are filled are filled still
  pub AreFilled-spread : (bs : List (List (M × K))) → AreFilled bs → AreFilled (map (spread_marks join meet by more) bs)
  AreFilled-spread [] h = tt
  AreFilled-spread (b ∷ bs) h = let l : length (spread_marks join meet by more b) ≡ length b = length-map b _ in
      ((omega (arith, h.0.0), omega (arith, h.0.1)), AreFilled-spread bs h.1)
