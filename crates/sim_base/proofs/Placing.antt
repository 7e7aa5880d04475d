-- The place of a marked message in an ordered list; inserting it there keeps the order.
use Rattle.std.proofs.Common.{◌≡◌, ℕ, zero, suc, ◌+◌, ◌<◌, ◌≤◌, refl, sym, ap}
use Rattle.std.proofs.Common.{◌∙◌, subst, List, [], ◌∷◌, ◌++◌, Bool, true, false, Ordering, Less}
use Rattle.std.proofs.Common.{Equal, Greater, length, get_or, set, arith}
use Rattle.std.specs.Prelude.{slice_get}
use Rattle.std.proofs.lemmas.List.{get_or_read}
use Rattle.std.proofs.lemmas.Option.{slice_get-get_or}
use Rattle.std.specs.Ordering.{is_lt, is_eq, is_gt, ordering_reverse}
use Rattle.std.specs.Cmp.{IsTotalOrder, Equal-is}
use Rattle.std.specs.List.{AllByRecursion, insert}
use Rattle.sim_base.proofs.ListLaws.{all_weaker, all_left, all_right, all_at}
use Rattle.sim_base.specs.Pending.{place_marked, insert_marked}
use Rattle.sim_base.specs.Marked.{Above, SortedMarked}
use Rattle.sim_base.specs.Blocks.{IsPlaceOf, is_there}

-- ---- is_lt

-- `is_lt` means Less
pub is_lt-Less : (o : Ordering) → is_lt o ≡ true → o ≡ Less
is_lt-Less Less e = refl
is_lt-Less Equal e = absurd (cc)
is_lt-Less Greater e = absurd (cc)

-- ---- is_gt

-- `is_gt` means Greater
is_gt-Greater : (o : Ordering) → is_gt o ≡ true → o ≡ Greater
is_gt-Greater Less e = absurd (cc)
is_gt-Greater Equal e = absurd (cc)
is_gt-Greater Greater e = refl

-- neither `is_gt` nor `is_eq` means Less
is_gt-Less : (o : Ordering) → is_gt o ≡ false → is_eq o ≡ false → o ≡ Less
is_gt-Less Less g e = refl
is_gt-Less Equal g e = absurd (cc)
is_gt-Less Greater g e = absurd (cc)

-- ---- SortedMarked

module _ {M K : Type 0} (cmp : M → M → Ordering) where
  -- a list in order has its first part in order
  pub sorted_left : (xs ys : List (M × K)) → SortedMarked cmp (xs ++ ys) → SortedMarked cmp xs
  sorted_left [] ys s = tt
  sorted_left (x ∷ xs) ys s = (all_left _ xs ys s.0, sorted_left xs ys s.1)

  -- and its last part
  pub sorted_right : (xs ys : List (M × K)) → SortedMarked cmp (xs ++ ys) → SortedMarked cmp ys
  sorted_right [] ys s = s
  sorted_right (x ∷ xs) ys s = sorted_right xs ys s.1

module _ {M : Type 0} {cmp : M → M → Ordering} (o : IsTotalOrder cmp) where
  -- a message that is not before y is after all messages before y
  after_later : (m : M) (x y : M) → cmp x y ≡ Less → is_lt (cmp m y) ≡ false → cmp m x ≡ Greater
  after_later m x y below late = by_order (cmp m y) refl late
    where
      by_order : (r : Ordering) → cmp m y ≡ r → is_lt r ≡ false → cmp m x ≡ Greater
      by_order Less e l = absurd (cc)
      by_order Equal e l =
          let back : cmp y m ≡ Equal = o.antisymm y m ∙ ap ordering_reverse e in
          let above : cmp y x ≡ Greater = o.antisymm y x ∙ ap ordering_reverse below in
          sym (o.congr y m x back) ∙ above
      by_order Greater e l =
          let back : cmp y m ≡ Less = o.antisymm y m ∙ ap ordering_reverse e in
          o.antisymm m x ∙ ap ordering_reverse (o.trans x y m below back)

module _ {M K : Type 0} {cmp : M → M → Ordering} (o : IsTotalOrder cmp) where
  -- all of the messages come before m, since the one after them does
  pub all_before : (m : M) (xs : List (M × K)) (y : M × K) (ys : List (M × K)) → SortedMarked cmp (xs ++ y ∷ ys)
      → is_lt (cmp m y.0) ≡ false → AllByRecursion (λ x. cmp m x.0 ≡ Greater) xs
  all_before m [] y ys s late = tt
  all_before m (x ∷ xs) y ys s late =
      (after_later o m x.0 y.0 (all_right _ xs (y ∷ ys) s.0).0 late, all_before m xs y ys s.1 late)

-- ---- insert_marked

module _ {M K : Type 0} (cmp : M → M → Ordering) (join : K → K → K) (m : M) (k : K) where
  -- a message goes after all that come before it
  pub insert_behind : (xs ys : List (M × K)) → AllByRecursion (λ x. cmp m x.0 ≡ Greater) xs
      → insert_marked join cmp m k (xs ++ ys) ≡ xs ++ insert_marked join cmp m k ys
  insert_behind [] ys h = refl
  insert_behind (x ∷ xs) ys h = rw h.0 (ap (λ t. x ∷ t) (insert_behind xs ys h.1))

  -- an element after all of them stays after a message that is put in its place
  before_place : (r : Ordering) (x : M × K) (xs zs : List (M × K))
      → insert_marked join cmp m k (xs ++ zs) ≡ insert_marked join cmp m k xs ++ zs
      → place_marked join r m k x (xs ++ zs) (insert_marked join cmp m k (xs ++ zs)) ≡ place_marked join r m k x xs
      (insert_marked join cmp m k xs) ++ zs
  before_place Less x xs zs e = refl
  before_place Equal x xs zs e = refl
  before_place Greater x xs zs e = ap (λ t. x ∷ t) e

  -- and before all that start after it
  pub insert_before : (xs : List (M × K)) (y : M × K) (ys : List (M × K)) → cmp m y.0 ≡ Less
      → insert_marked join cmp m k (xs ++ y ∷ ys) ≡ insert_marked join cmp m k xs ++ y ∷ ys
  insert_before [] y ys l = rw l refl
  insert_before (x ∷ xs) y ys l = before_place (cmp m x.0) x xs (y ∷ ys) (insert_before xs y ys l)

-- ---- SortedMarked of insert_marked

module _ {M K : Type 0} {cmp : M → M → Ordering} (o : IsTotalOrder cmp) (join : K → K → K) (m : M) (k : K) where
  -- an element before a message and others comes before them with it in its place
  above_place : (r : Ordering) (z : M) (y : M × K) (ys rest : List (M × K)) → cmp z m ≡ Less → Above cmp z (y ∷ ys)
      → Above cmp z rest → Above cmp z (place_marked join r m k y ys rest)
  above_place Less z y ys rest e f g = (e, f)
  above_place Equal z y ys rest e f g = f
  above_place Greater z y ys rest e f g = (f.0, g)

  -- and so after an insertion
  above_insert : (z : M) (xs : List (M × K)) → cmp z m ≡ Less → Above cmp z xs
      → Above cmp z (insert_marked join cmp m k xs)
  above_insert z [] e f = (e, tt)
  above_insert z (y ∷ ys) e f = above_place (cmp m y.0) z y ys (insert_marked join cmp m k ys) e f
      (above_insert z ys e f.1)

  -- a message in its place keeps the order
  sorted_place : (r : Ordering) (y : M × K) (ys : List (M × K)) → cmp m y.0 ≡ r → SortedMarked cmp (y ∷ ys)
      → SortedMarked cmp (insert_marked join cmp m k ys)
      → SortedMarked cmp (place_marked join r m k y ys (insert_marked join cmp m k ys))
  sorted_place Less y ys e s t = ((e, all_weaker _ _ ys (λ z l. o.trans m y.0 z.0 e l) s.0), s)
  sorted_place Equal y ys e s t = s
  sorted_place Greater y ys e s t = (above_insert y.0 ys (o.antisymm y.0 m ∙ ap ordering_reverse e) s.0, t)

  -- an insertion keeps the order
  pub sorted_insert_marked : (xs : List (M × K)) → SortedMarked cmp xs
      → SortedMarked cmp (insert_marked join cmp m k xs)
  sorted_insert_marked [] s = (tt, tt)
  sorted_insert_marked (y ∷ ys) s = sorted_place (cmp m y.0) y ys refl s (sorted_insert_marked ys s.1)

-- ---- length of insert_marked

module _ {M K : Type 0} (cmp : M → M → Ordering) (join : K → K → K) (m : M) (k : K) where
  -- a message in its place makes a list at most one longer
  length_place : (r : Ordering) (y : M × K) (ys rest : List (M × K)) → length rest ≤ suc (length ys) → 0 < length rest
      → (0 < length (place_marked join r m k y ys rest))
      × (length (place_marked join r m k y ys rest) ≤ suc (suc (length ys)))
  length_place Less y ys rest l n = (omega arith, omega arith)
  length_place Equal y ys rest l n = (omega arith, omega arith)
  length_place Greater y ys rest l n = (omega arith, omega arith)

  -- an insertion adds at most one message
  pub length_insert : (xs : List (M × K)) → (0 < length (insert_marked join cmp m k xs))
      × (length (insert_marked join cmp m k xs) ≤ suc (length xs))
  length_insert [] = (omega arith, omega arith)
  length_insert (y ∷ ys) = let h = length_insert ys in
      length_place (cmp m y.0) y ys (insert_marked join cmp m k ys) h.1 h.0

-- ---- insert_marked at a place

module _ {M K : Type 0} {cmp : M → M → Ordering} (o : IsTotalOrder cmp) (join : K → K → K) (m : M) (k : K) where
  -- the first comes before m, as the one at i does
  first_before : (x : M × K) (xs : List (M × K)) (i : ℕ) (d : M × K) → SortedMarked cmp (x ∷ xs) → i < suc (length xs)
      → is_gt (cmp m (get_or (x ∷ xs) i d).0) ≡ true → cmp m x.0 ≡ Greater
  first_before x xs zero d s l g = is_gt-Greater _ g
  first_before x xs (suc i) d s l g =
      let greater : cmp m (get_or xs i d).0 ≡ Greater = is_gt-Greater _ g in
      let late : is_lt (cmp m (get_or xs i d).0) ≡ false = ap is_lt greater in
      after_later o m x.0 (get_or xs i d).0 (all_at _ xs i d s.0 (omega arith)) late

  -- a message that is not there yet goes to its place
  insert_new : (xs : List (M × K)) (i : ℕ) (d : M × K) → SortedMarked cmp xs → i ≤ length xs
      → ((j : ℕ) → j + 1 ≡ i → is_gt (cmp m (get_or xs j d).0) ≡ true)
      → (i < length xs → cmp m (get_or xs i d).0 ≡ Less) → insert_marked join cmp m k xs ≡ insert xs i (m, k)
  insert_new [] zero d s l before behind = refl
  insert_new [] (suc i) d s l before behind = absurd (omega arith)
  insert_new (x ∷ xs) zero d s l before behind = let less : cmp m x.0 ≡ Less = behind (omega arith) in rw less refl
  insert_new (x ∷ xs) (suc i) d s l before behind =
      let greater : cmp m x.0 ≡ Greater = first_before x xs i d s (omega arith) (before i (omega arith)) in
      rw greater (ap (λ t. x ∷ t) (insert_new xs i d s.1 (omega arith) (λ j e. before (suc j) (omega arith))
      (λ l'. behind (omega arith))))

  -- a message that is there already gets the marks of both
  insert_there : (xs : List (M × K)) (i : ℕ) (d : M × K) → SortedMarked cmp xs → i < length xs
      → ((j : ℕ) → j + 1 ≡ i → is_gt (cmp m (get_or xs j d).0) ≡ true) → cmp m (get_or xs i d).0 ≡ Equal
      → insert_marked join cmp m k xs ≡ set xs i ((get_or xs i d).0, join (get_or xs i d).1 k)
  insert_there [] i d s l before same = absurd (omega arith)
  insert_there (x ∷ xs) zero d s l before same = rw same refl
  insert_there (x ∷ xs) (suc i) d s l before same =
      let greater : cmp m x.0 ≡ Greater = first_before x xs i d s (omega arith) (before i (omega arith)) in
      rw greater (ap (λ t. x ∷ t) (insert_there xs i d s.1 (omega arith) (λ j e. before (suc j) (omega arith)) same))

-- ---- the value read at a place

module _ {M K : Type 0} (cmp : M → M → Ordering) (m : M) where
  -- whether m comes after the value read at a place
  pub gt_at : (xs : List (M × K)) (i j : ℕ) (x d : M × K) (r : Bool) → j ≡ i → i < length xs → x ≡ get_or xs i x
      → is_gt (cmp m x.0) ≡ r → is_gt (cmp m (get_or xs j d).0) ≡ r
  gt_at xs i j x d r same l read e = subst (λ n. is_gt (cmp m (get_or xs n d).0) ≡ r) (sym same)
      (subst (λ y. is_gt (cmp m y.0) ≡ r) (get_or_read xs i x l read d) e)

  -- a message that is there is within the list
  there_within : (xs : List (M × K)) (i : ℕ) → is_there cmp m (slice_get xs i) ≡ true → i < length xs
  there_within [] i e = absurd (cc)
  there_within (x ∷ xs) zero e = omega arith
  there_within (x ∷ xs) (suc i) e = let l = there_within xs i e in omega arith

module _ {M K : Type 0} {cmp : M → M → Ordering} (o : IsTotalOrder cmp) (join : K → K → K) (m : M) (k : K) where
  -- the effect of an insertion at the place of a message that is not there
  pub new_at : (xs : List (M × K)) (i : ℕ) → SortedMarked cmp xs → IsPlaceOf cmp m xs i
      → is_there cmp m (slice_get xs i) ≡ false → insert_marked join cmp m k xs ≡ insert xs i (m, k)
  new_at xs i s place there =
      insert_new o join m k xs i (m, k) s place.within (place.before (m, k))
      (λ l. let no : is_eq (cmp m (get_or xs i (m, k)).0) ≡ false = rw (slice_get-get_or xs i (m, k) l) at there in
      is_gt-Less _ (place.behind (m, k) l) no)

  -- and of one that is
  pub joined_at : (xs : List (M × K)) (i : ℕ) (x : M × K) → SortedMarked cmp xs → IsPlaceOf cmp m xs i
      → is_there cmp m (slice_get xs i) ≡ true → x ≡ get_or xs i x
      → insert_marked join cmp m k xs ≡ set xs i (x.0, join x.1 k)
  joined_at xs i x s place there is =
      let l = there_within cmp m xs i there in
      let yes : is_eq (cmp m (get_or xs i x).0) ≡ true = rw (slice_get-get_or xs i x l) at there in
      insert_there o join m k xs i x s l (place.before x) ((Equal-is _).0 yes) ∙ ap (λ y. set xs i (y.0, join y.1 k))
      (sym is)
