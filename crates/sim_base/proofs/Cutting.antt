-- Messages whose marks meet given marks: order, appended lists, and marks that are spread.
use Rattle.std.proofs.Common.{◌≡◌, ℕ, suc, ◌≤◌, refl, List, [], ◌∷◌, ◌++◌, Option, Some, None}
use Rattle.std.proofs.Common.{Ordering, Less, length, option_map, arith}
use Rattle.std.specs.Prelude.{slice_get}
use Rattle.std.specs.List.{cons_option}
use Rattle.std.proofs.lemmas.List.Elements.{filter_map-append}
use Rattle.sim_base.specs.Pending.{shared_by, cut_by, spread_marks}
use Rattle.sim_base.specs.Marked.{Above, SortedMarked}

-- ---- cut_by

module _ {M K : Type 0} (meet : K → K → Option K) (by : K) where
  -- a message whose marks share v with `by` stays with v
  pub cut-Some : (x : M × K) (v : K) (rest : List (M × K)) → meet x.1 by ≡ Some v
      → cut_by meet by (x ∷ rest) ≡ (x.0, v) ∷ cut_by meet by rest
  cut-Some x v rest e = rw e refl

  -- a message whose marks share nothing is left out
  pub cut-None : (x : M × K) (rest : List (M × K)) → meet x.1 by ≡ None
      → cut_by meet by (x ∷ rest) ≡ cut_by meet by rest
  cut-None x rest e = rw e refl

  -- the messages that meet, of two lists
  pub cut-append : (xs ys : List (M × K)) → cut_by meet by (xs ++ ys) ≡ cut_by meet by xs ++ cut_by meet by ys
  cut-append xs ys = filter_map-append (shared_by meet by) xs ys

  -- one message makes a list at most one longer if it meets
  length_one : (r : Option K) (x : M × K) (rest : List (M × K)) (n : ℕ) → length rest ≤ n
      → length (cons_option (option_map (λ k. (x.0, k)) r) rest) ≤ suc n
  length_one None x rest n l = omega arith
  length_one (Some k) x rest n l = omega arith

  -- no more messages meet than there are
  pub length-cut : (xs : List (M × K)) → length (cut_by meet by xs) ≤ length xs
  length-cut [] = omega arith
  length-cut (x ∷ xs) = length_one (meet x.1 by) x (cut_by meet by xs) (length xs) (length-cut xs)

  module _ (cmp : M → M → Ordering) where
    -- elements that come before a message and others come before them, whether it meets or not
    above_one : (r : Option K) (m : M) (x : M × K) (rest : List (M × K)) → cmp m x.0 ≡ Less → Above cmp m rest
        → Above cmp m (cons_option (option_map (λ k. (x.0, k)) r) rest)
    above_one None m x rest l h = h
    above_one (Some k) m x rest l h = (l, h)

    -- elements that come before messages come before those that meet
    Above-cut : (m : M) (xs : List (M × K)) → Above cmp m xs → Above cmp m (cut_by meet by xs)
    Above-cut m [] h = tt
    Above-cut m (x ∷ xs) h = above_one (meet x.1 by) m x (cut_by meet by xs) h.0 (Above-cut m xs h.1)

    -- one message that meets goes in order before others
    sorted_one : (r : Option K) (x : M × K) (rest : List (M × K)) → Above cmp x.0 rest → SortedMarked cmp rest
        → SortedMarked cmp (cons_option (option_map (λ k. (x.0, k)) r) rest)
    sorted_one None x rest a s = s
    sorted_one (Some k) x rest a s = (a, s)

    -- the messages that meet are in order
    pub SortedMarked-cut : (xs : List (M × K)) → SortedMarked cmp xs → SortedMarked cmp (cut_by meet by xs)
    SortedMarked-cut [] s = tt
    SortedMarked-cut (x ∷ xs) s =
        sorted_one (meet x.1 by) x (cut_by meet by xs) (Above-cut x.0 xs s.0) (SortedMarked-cut xs s.1)

-- ---- spread_marks

module _ {M K : Type 0} (join : K → K → K) (meet : K → K → Option K) (by more : K) (cmp : M → M → Ordering) where
  -- other marks keep the elements before the messages before them
  Above-spread : (m : M) (xs : List (M × K)) → Above cmp m xs → Above cmp m (spread_marks join meet by more xs)
  Above-spread m [] h = tt
  Above-spread m (x ∷ xs) h = (h.0, Above-spread m xs h.1)

  -- other marks keep the order
  pub SortedMarked-spread : (xs : List (M × K)) → SortedMarked cmp xs
      → SortedMarked cmp (spread_marks join meet by more xs)
  SortedMarked-spread [] s = tt
  SortedMarked-spread (x ∷ xs) s = (Above-spread x.0 xs s.0, SortedMarked-spread xs s.1)

-- ---- the first of two lists together

module _ {X : Type 0} where
  -- the first of two lists is the first of the one
  pub first_of_some : (xs ys : List X) (x : X) → slice_get xs 0 ≡ Some x → slice_get (xs ++ ys) 0 ≡ Some x
  first_of_some [] ys x e = absurd (cc)
  first_of_some (y ∷ xs) ys x e = e

  -- or of the other, if the first is empty
  pub first_of_none : (xs ys : List X) → slice_get xs 0 ≡ None → xs ++ ys ≡ ys
  first_of_none [] ys e = refl
  first_of_none (y ∷ xs) ys e = absurd (cc)
