-- Inserting a message into its block: all blocks afterwards.
use Rattle.std.proofs.Common.{◌≡◌, ℕ, zero, suc, ◌-◌, ◌<◌, ◌≤◌, refl, sym, ap, ◌∙◌, subst, List}
use Rattle.std.proofs.Common.{[], ◌∷◌, Ordering, length, get_or, set, arith, Result, Ok, Err, OnOk, OnErr}
use Rattle.std.specs.Cmp.{IsTotalOrder}
use Rattle.std.proofs.lemmas.List.{length-set, set-get_or}
use Rattle.sim_base.specs.Pending.{insert_marked}
use Rattle.sim_base.specs.Marked.{SortedMarked}
use Rattle.sim_base.specs.Blocks.{of_blocks, block_at, AreFilled, AreSized, AreBlocks, IsBlockOf}
use Rattle.sim_base.specs.declared.pending.blocks.TheConstants.{MAX_IN_BLOCK}
use Rattle.sim_base.proofs.Placing.{sorted_left, sorted_right, sorted_insert_marked, length_insert}
use Rattle.sim_base.proofs.Blocks.{insert-of_blocks}

-- ---- set

module _ {X : Type 0} where
  -- another later block in place of one
  AreFilled-set : (n : ℕ) (bs : List (List X)) (b : List X) → AreFilled bs → 0 < length b → length b ≤ MAX_IN_BLOCK
      → AreFilled (set bs n b)
  AreFilled-set n [] b h some few = h
  AreFilled-set zero (c ∷ bs) b h some few = ((some, few), h.1)
  AreFilled-set (suc n) (c ∷ bs) b h some few = (h.0, AreFilled-set n bs b h.1 some few)

  -- another block in place of one
  AreSized-set : (at : ℕ) (first : List X) (later : List (List X)) (b first' : List X) (later' : List (List X))
      → AreSized first later → 0 < length b → length b ≤ MAX_IN_BLOCK → (first' ∷ later') ≡ set (first ∷ later) at b
      → AreSized first' later'
  AreSized-set zero first later b first' later' h some few e =
      let here : first' ≡ b = cc in
      let there : later' ≡ later = cc in
      rw (here, there) record { first_filled = λ _. some; first_small = few; later_filled = h.later_filled }
  AreSized-set (suc n) first later b first' later' h some few e =
      let here : first' ≡ first = cc in
      let there : later' ≡ set later n b = cc in
      rw (here, there) record {
        first_filled = λ l. h.first_filled (omega (arith, length-set later n b));
        first_small = h.first_small;
        later_filled = AreFilled-set n later b h.later_filled some few;
      }

  -- setting a block after the first sets it among the later ones, one place before
  pub set_later : (at : ℕ) (first : List X) (later : List (List X)) (b : List X)
      → 0 < at → (first ∷ set later (at - 1) b) ≡ set (first ∷ later) at b
  set_later zero first later b l = absurd (omega arith)
  set_later (suc n) first later b l = let e : suc n - 1 ≡ n = omega arith in rw e refl

  -- and the block of that number is read there
  pub later_at : (at : ℕ) (first : List X) (later : List (List X))
      → 0 < at → get_or later (at - 1) [] ≡ block_at first later at
  later_at zero first later l = absurd (omega arith)
  later_at (suc n) first later l = let e : suc n - 1 ≡ n = omega arith in rw e refl

-- ---- SortedMarked

module _ {M K : Type 0} (cmp : M → M → Ordering) where
  -- each of blocks that are in order together is in order
  sorted_of : (n : ℕ) (bs : List (List (M × K))) → SortedMarked cmp (of_blocks bs) → SortedMarked cmp (get_or bs n [])
  sorted_of n [] s = tt
  sorted_of zero (b ∷ bs) s = sorted_left cmp b (of_blocks bs) s
  sorted_of (suc n) (b ∷ bs) s = sorted_of n bs (sorted_right cmp b (of_blocks bs) s)

  -- and so is the block of each number
  pub sorted_at : (at : ℕ) (first : List (M × K)) (later : List (List (M × K))) → AreBlocks cmp first later
      → SortedMarked cmp (block_at first later at)
  sorted_at at first later h = sorted_of at (first ∷ later) h.sorted

-- ---- IsPut

module _ {M K : Type 0} {cmp : M → M → Ordering} (o : IsTotalOrder cmp) (join : K → K → K) (m : M) (k : K) where
  -- a message that is put into its block is put into all
  put_all : (at : ℕ) (first : List (M × K)) (later : List (List (M × K))) → AreBlocks cmp first later
      → IsBlockOf cmp m later at → (first' : List (M × K)) (later' : List (List (M × K))) →
      (first' ∷ later') ≡ set (first ∷ later) at (insert_marked join cmp m k (block_at first later at))
      → of_blocks (first' ∷ later') ≡ insert_marked join cmp m k (of_blocks (first ∷ later))
  put_all at first later blocks place first' later' e =
      ap of_blocks e ∙ sym (insert-of_blocks o join m k at first later blocks.sorted blocks.sized.later_filled place)

module _ {M K A E : Type 0} (cmp : M → M → Ordering) (join : K → K → K) (m : M) (k : K) where
  -- the effect on all blocks of a message put into one
  pub record IsPut (r : Result A E) (first : List (M × K)) (later : List (List (M × K))) (first' : List (M × K))
      (later' : List (List (M × K))) : Type 0 where
    pub blocks : AreBlocks cmp first' later'
    pub ok : OnOk r (of_blocks (first' ∷ later') ≡ insert_marked join cmp m k (of_blocks (first ∷ later)))
    pub err : OnErr r (of_blocks (first' ∷ later') ≡ of_blocks (first ∷ later))

module _ {M K A E : Type 0} {cmp : M → M → Ordering} (o : IsTotalOrder cmp) (join : K → K → K) (m : M) (k : K) where
  -- a message that is put into its block is put into all; if that fails, none changes
  pub is_put : (at : ℕ) (first : List (M × K)) (later : List (List (M × K))) → AreBlocks cmp first later
      → IsBlockOf cmp m later at → length (block_at first later at) < MAX_IN_BLOCK →
      (r : Result A E) (b first' : List (M × K)) (later' : List (List (M × K)))
      → (first' ∷ later') ≡ set (first ∷ later) at b
      → OnOk r (b ≡ insert_marked join cmp m k (block_at first later at)) → OnErr r (b ≡ block_at first later at)
      → IsPut cmp join m k r first later first' later'
  is_put at first later blocks place free (Ok a) b first' later' e ok err =
      let f : (first' ∷ later') ≡ set (first ∷ later) at (insert_marked join cmp m k (block_at first later at)) =
      e ∙ ap (set (first ∷ later) at) ok in
      let all = put_all o join m k at first later blocks place first' later' f in
      let long = length_insert cmp join m k (block_at first later at) in
      record {
        blocks = record {
          sorted = subst (SortedMarked cmp) (sym all)
              (sorted_insert_marked o join m k (of_blocks (first ∷ later)) blocks.sorted);
          sized =
              AreSized-set at first later (insert_marked join cmp m k (block_at first later at)) first' later'
              blocks.sized long.0 (omega arith) f;
        };
        ok = all;
        err = tt;
      }
  is_put at first later blocks place free (Err a) b first' later' e ok err =
      let f : (first' ∷ later') ≡ first ∷ later = e ∙ ap (set (first ∷ later) at) err
      ∙ set-get_or (first ∷ later) at [] in
      let here : first' ≡ first = cc in
      let there : later' ≡ later = cc in
      record { blocks = rw (here, there) blocks; ok = tt; err = ap of_blocks f }
