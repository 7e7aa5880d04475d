-- Pending messages in blocks: a first block, and later ones after it.
use Rattle.std.specs.Prelude.{◌≡◌, ℕ, zero, suc, ◌+◌, ◌<◌, ◌≤◌, List, [], ◌∷◌, ◌++◌}
use Rattle.std.specs.Prelude.{length, take, drop, flat_map, Bool, true, false, slice_index_or, ⊤, Option, Some, None}
use Rattle.std.specs.List.{AllByRecursion}
use Rattle.std.specs.Ordering.{is_lt, is_eq, is_gt}
use Rattle.std.specs.declared.cmp.Ordering.{Ordering}
use Rattle.sim_base.specs.Marked.{SortedMarked}
use Rattle.sim_base.specs.declared.message.Msg.{Msg}
use Rattle.sim_base.specs.declared.pending.blocks.TheConstants.{MAX_IN_BLOCK, HALF}

-- the messages of blocks, one block after another
abbrev pub of_blocks : {X : Type 0} → List (List X) → List X
of_blocks blocks = flat_map (λ b. b) blocks

module _ {X : Type 0} where
  -- block number `at`; the first is 0
  abbrev pub block_at : List X → List (List X) → ℕ → List X
  block_at first later at = slice_index_or (first ∷ later) at []

  -- block number `at` is split into two halves
  abbrev pub halves_of : ℕ → List (List X) → List (List X)
  halves_of at [] = []
  halves_of zero (b ∷ bs) = take HALF b ∷ drop HALF b ∷ bs
  halves_of (suc at) (b ∷ bs) = b ∷ halves_of at bs

  -- no block is empty or too large
  abbrev pub AreFilled : List (List X) → Type 0
  AreFilled blocks = AllByRecursion (λ b. (0 < length b) × (length b ≤ MAX_IN_BLOCK)) blocks

  -- the first block may be empty, but only if it is the only one
  pub record AreSized (first : List X) (later : List (List X)) : Type 0 where
    pub first_filled : 0 < length later → 0 < length first
    pub first_small : length first ≤ MAX_IN_BLOCK
    pub later_filled : AreFilled later

-- the time of the first message, if there is one
abbrev pub StartsAt : {K : Type 0} → ℕ → List (Msg × K) → Type 0
StartsAt time [] = ⊤
StartsAt time (x ∷ xs) = time ≡ x.0.key.time

module _ {M K : Type 0} (cmp : M → M → Ordering) where
  -- all messages together are in order
  pub record AreBlocks (first : List (M × K)) (later : List (List (M × K))) : Type 0 where
    pub sorted : SortedMarked cmp (first ++ of_blocks later)
    pub sized : AreSized first later

  -- i messages are before m: the last of them is, and the one at i, if it exists, is not
  pub record IsPlaceOf (m : M) (xs : List (M × K)) (i : ℕ) : Type 0 where
    pub within : i ≤ length xs
    pub before : (d : M × K) (j : ℕ) → j + 1 ≡ i → is_gt (cmp m (slice_index_or xs j d).0) ≡ true
    pub behind : (d : M × K) → i < length xs → is_gt (cmp m (slice_index_or xs i d).0) ≡ false

  -- whether this is m
  abbrev pub is_there : M → Option (M × K) → Bool
  is_there m None = false
  is_there m (Some x) = is_eq (cmp m x.0)

  -- whether the first of the messages comes after m
  abbrev pub StartsAfter : M → List (M × K) → Bool → Type 0
  StartsAfter m [] b = ⊤
  StartsAfter m (y ∷ ys) b = b ≡ is_lt (cmp m y.0)

  -- the place of m among later blocks: the last block before `at` starts with m or before it, the one at `at` after it
  pub record IsBlockOf (m : M) (later : List (List (M × K))) (at : ℕ) : Type 0 where
    pub within : at ≤ length later
    pub before : (j : ℕ) → j + 1 ≡ at → StartsAfter m (slice_index_or later j []) false
    pub behind : at < length later → StartsAfter m (slice_index_or later at []) true
