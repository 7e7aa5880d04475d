-- The first of messages that all clones of a set take and of others.
use Rattle.std.proofs.Common.{◌≡◌, ℕ, List, [], ◌∷◌, ◌++◌, length, ◌==◌, refl, sym, ap, ◌∙◌, subst, arith}
use Rattle.std.proofs.Common.{true, false, Some, None, slice_get, Ordering, Less, Equal, Greater}
use Rattle.std.specs.List.{AllByRecursion}
use Rattle.std.proofs.lemmas.Bool.Decides.{nat_tests}
use Rattle.sim_base.specs.Order.{msg_cmp}
use Rattle.sim_base.specs.Pending.{place_marked, insert_marked, cut_by, spread_marks, first_time, first_marks}
use Rattle.sim_base.specs.Marked.{SortedMarked}
use Rattle.sim_base.specs.declared.message.Msg.{Msg}
use Rattle.clone_sets.specs.Sets.{union, common, one, has, with}
use Rattle.clone_sets.specs.declared.set.CloneSet.{CloneSet}
use Rattle.run_laws.specs.Queue.{insert, Sorted}
use Rattle.run_laws.proofs.MessageOrder.{messages_ordered}
use Rattle.msg_heap.specs.Heaps.{first_time as time_of_first}
use Rattle.copy_pending.specs.Merged.{merged, firsts_cmp, put_each, IsPart}
use Rattle.sim_base.proofs.Cutting.{SortedMarked-cut}
use Rattle.std.specs.Ordering.{is_lt}
use Rattle.std.specs.Cmp.{tied_itself, nat_cmp_is}
use Rattle.std.specs.Ordering.{ordering_then}
use Rattle.std.proofs.Common.{nat_cmp, ◌<◌, Option, option_map}
use Rattle.sim_base.specs.Order.{payload_cmp}
use Rattle.std.proofs.lemmas.List.{append_assoc, append-nil}
use Rattle.sim_base.proofs.Placing.{all_before, insert_behind}
use Rattle.copy_pending.proofs.Merging.{put_all-put, put_all-insert, first_of_common, first_of_others, first_of_both}
use Rattle.copy_pending.proofs.Merging.{cut_all-None, cut_all-Some, spread_all, sorted_all, put-Less}
use Rattle.copy_pending.proofs.SetMarks.{union_free, union_meets, common_one, common_part}

-- ---- lists

-- a list of length 0 is empty
pub is_nil : {X : Type 0} (xs : List X) → (length xs == 0) ≡ true → xs ≡ []
is_nil [] e = refl
is_nil (x ∷ xs) e = let n : (length (x ∷ xs) == 0) ≡ false = grind (arith, nat_tests) in absurd (cc)

-- one of another length has a first element
pub is_cons : {X : Type 0} (xs : List X) → (length xs == 0) ≡ false → (x : X) × (rest : List X) × (xs ≡ x ∷ rest)
is_cons [] e = absurd (cc)
is_cons (x ∷ xs) e = (x, xs, refl)

-- ---- insertions

module _ (set : CloneSet) where
  -- a message for some clones goes into the others
  pub merged-put : (m : Msg) (k : CloneSet) (xs : List Msg) (q : List (Msg × CloneSet))
      → merged set xs (insert_marked union msg_cmp m k q) ≡ insert_marked union msg_cmp m k (merged set xs q)
  merged-put m k xs q = put_all-put messages_ordered union_free xs set m k q

  -- and one for all into those that all take
  pub merged-insert : (m : Msg) (xs : List Msg) (q : List (Msg × CloneSet))
      → merged set (insert msg_cmp m xs) q ≡ insert_marked union msg_cmp m set (merged set xs q)
  merged-insert m xs q = put_all-insert messages_ordered union_free m xs set q

  -- the order is kept
  pub merged-sorted : (xs : List Msg) (q : List (Msg × CloneSet)) → SortedMarked msg_cmp q
      → SortedMarked msg_cmp (merged set xs q)
  merged-sorted xs q s = sorted_all messages_ordered union_free xs set q s

  -- ---- the first message

  -- without one that all take there are only the others
  pub merged-none : (xs : List Msg) (q : List (Msg × CloneSet)) → slice_get xs 0 ≡ None → merged set xs q ≡ q
  merged-none [] q e = refl
  merged-none (x ∷ xs) q e = absurd (cc)

  module _ (x : Msg) (xs : List Msg) (s : Sorted msg_cmp (x ∷ xs)) where
    -- without others it is the first that all take
    pub taken_alone : (q : List (Msg × CloneSet)) → slice_get q 0 ≡ None
        → merged set (x ∷ xs) q ≡ (x, set) ∷ merged set xs q
    taken_alone [] e = first_of_common messages_ordered union_free x xs set [] s refl
    taken_alone (y ∷ q) e = absurd (cc)

    -- and so it is if it comes before the others
    pub taken_less : (y : Msg × CloneSet) (q : List (Msg × CloneSet)) → msg_cmp x y.0 ≡ Less
        → merged set (x ∷ xs) (y ∷ q) ≡ (x, set) ∷ merged set xs (y ∷ q)
    taken_less y q e = first_of_common messages_ordered union_free x xs set (y ∷ q) s
        (put-Less messages_ordered union_free x set y q e)

    -- both firsts may be the same message
    pub taken_equal : (y : Msg × CloneSet) (q : List (Msg × CloneSet)) → msg_cmp x y.0 ≡ Equal
        → merged set (x ∷ xs) (y ∷ q) ≡ (y.0, union y.1 set) ∷ merged set xs q
    taken_equal y q e = first_of_both messages_ordered union_free x xs set y q s e

    -- or the first of the others comes first
    pub taken_greater : (y : Msg × CloneSet) (q : List (Msg × CloneSet)) → msg_cmp x y.0 ≡ Greater
        → merged set (x ∷ xs) (y ∷ q) ≡ y ∷ merged set (x ∷ xs) q
    taken_greater y q e = first_of_others messages_ordered union_free x xs set y q s e

  -- the first message in each case
  pub head_alone : (xs : List Msg) (q : List (Msg × CloneSet)) (x : Msg) → Sorted msg_cmp xs → slice_get xs 0 ≡ Some x
      → slice_get q 0 ≡ None → slice_get (merged set xs q) 0 ≡ Some (x, set)
  head_alone [] q x s e f = absurd (cc)
  head_alone (z ∷ xs) q x s e f =
      let same : z ≡ x = cc in
      ap (λ l. slice_get l 0) (taken_alone z xs s q f) ∙ ap (λ m. Some (m, set)) same

  pub head_less : (xs : List Msg) (q : List (Msg × CloneSet)) (x : Msg) (y : Msg × CloneSet) → Sorted msg_cmp xs
      → slice_get xs 0 ≡ Some x → slice_get q 0 ≡ Some y → msg_cmp x y.0 ≡ Less
      → slice_get (merged set xs q) 0 ≡ Some (x, set)
  head_less [] q x y s e f l = absurd (cc)
  head_less (z ∷ xs) [] x y s e f l = absurd (cc)
  head_less (z ∷ xs) (t ∷ q) x y s e f l =
      let same : z ≡ x = cc in
      let also : t ≡ y = cc in
      ap (λ l. slice_get l 0) (taken_less z xs s t q ((λ i. msg_cmp (same i) (also i).0) ∙ l))
      ∙ ap (λ m. Some (m, set)) same

  pub head_equal : (xs : List Msg) (q : List (Msg × CloneSet)) (x : Msg) (y : Msg × CloneSet) → Sorted msg_cmp xs
      → slice_get xs 0 ≡ Some x → slice_get q 0 ≡ Some y → msg_cmp x y.0 ≡ Equal
      → slice_get (merged set xs q) 0 ≡ Some (y.0, union y.1 set)
  head_equal [] q x y s e f l = absurd (cc)
  head_equal (z ∷ xs) [] x y s e f l = absurd (cc)
  head_equal (z ∷ xs) (t ∷ q) x y s e f l =
      let same : z ≡ x = cc in
      let also : t ≡ y = cc in
      ap (λ l. slice_get l 0) (taken_equal z xs s t q ((λ i. msg_cmp (same i) (also i).0) ∙ l))
      ∙ ap (λ (m : Msg × CloneSet). Some (m.0, union m.1 set)) also

  pub head_greater : (xs : List Msg) (q : List (Msg × CloneSet)) (x : Msg) (y : Msg × CloneSet) → Sorted msg_cmp xs
      → slice_get xs 0 ≡ Some x → slice_get q 0 ≡ Some y → msg_cmp x y.0 ≡ Greater
      → slice_get (merged set xs q) 0 ≡ Some y
  head_greater [] q x y s e f l = absurd (cc)
  head_greater (z ∷ xs) [] x y s e f l = absurd (cc)
  head_greater (z ∷ xs) (t ∷ q) x y s e f l =
      let same : z ≡ x = cc in
      let also : t ≡ y = cc in
      ap (λ l. slice_get l 0) (taken_greater z xs s t q ((λ i. msg_cmp (same i) (also i).0) ∙ l)) ∙ ap Some also

  -- ---- cuts and spread marks

  -- the messages for clones that share none with the set
  pub merged-cut_none : (by : CloneSet) (xs : List Msg) (q : List (Msg × CloneSet)) → common set by ≡ None
      → cut_by common by (merged set xs q) ≡ cut_by common by q
  merged-cut_none by xs q e = cut_all-None messages_ordered union_free union_meets by xs set q e

  -- and for those that share some
  pub merged-cut_some : (by u : CloneSet) (xs : List Msg) (q : List (Msg × CloneSet)) → common set by ≡ Some u
      → SortedMarked msg_cmp q → cut_by common by (merged set xs q) ≡ merged u xs (cut_by common by q)
  merged-cut_some by u xs q e s = cut_all-Some messages_ordered union_free union_meets by xs set u q e s

  -- a new clone next to an old one
  pub merged-fork : (old new : ℕ) (xs : List Msg) (q : List (Msg × CloneSet)) → has set old ≡ true
      → spread_marks union common (one old) (one new) (merged set xs q)
      ≡ merged (with set new) xs (spread_marks union common (one old) (one new) q)
  merged-fork old new xs q h = spread_all messages_ordered union_free union_meets (one old) (one new) xs set (one old) q
      (common_one set old h)

-- ---- without others

module _ (set : CloneSet) where
  -- the time of the first message
  pub time_alone : (xs : List Msg) → Sorted msg_cmp xs → first_time (merged set xs []) ≡ time_of_first xs
  time_alone [] s = refl
  time_alone (x ∷ xs) s = ap first_time (taken_alone set x xs s [] refl)

  -- all clones take it
  pub marks_alone : (xs : List Msg) → Sorted msg_cmp xs → (length xs == 0) ≡ false
      → first_marks (merged set xs []) ≡ Some set
  marks_alone [] s e = absurd (cc)
  marks_alone (x ∷ xs) s e = ap first_marks (taken_alone set x xs s [] refl)

  -- and each other
  all_placed : (r : Ordering) (m : Msg) (y : Msg × CloneSet) (ys rest : List (Msg × CloneSet)) → y.1 ≡ set
      → AllByRecursion (λ x. x.1 ≡ set) ys → AllByRecursion (λ x. x.1 ≡ set) rest
      → AllByRecursion (λ x. x.1 ≡ set) (place_marked union r m set y ys rest)
  all_placed Less m y ys rest e f g = (refl, (e, f))
  all_placed Equal m y ys rest e f g = (ap (λ k. union k set) e ∙ union_free.idem set, f)
  all_placed Greater m y ys rest e f g = (e, g)

  all_put : (m : Msg) (q : List (Msg × CloneSet)) → AllByRecursion (λ x. x.1 ≡ set) q
      → AllByRecursion (λ x. x.1 ≡ set) (insert_marked union msg_cmp m set q)
  all_put m [] f = (refl, tt)
  all_put m (y ∷ ys) f = all_placed (msg_cmp m y.0) m y ys (insert_marked union msg_cmp m set ys) f.0 f.1
      (all_put m ys f.1)

  pub all_alone : (xs : List Msg) (q : List (Msg × CloneSet)) → AllByRecursion (λ x. x.1 ≡ set) q
      → AllByRecursion (λ x. x.1 ≡ set) (merged set xs q)
  all_alone [] q f = f
  all_alone (x ∷ xs) q f = all_alone xs (insert_marked union msg_cmp x set q) (all_put x q f)

-- ---- taking the first

module _ (set : CloneSet) where
  -- the first of those that all take
  pub take_less : (xs rest : List Msg) (q : List (Msg × CloneSet)) (x : Msg) → Sorted msg_cmp xs → xs ≡ x ∷ rest
      → firsts_cmp (slice_get xs 0) (slice_get q 0) ≡ Less → merged set xs q ≡ (x, set) ∷ merged set rest q
  take_less [] rest q x s e l = absurd (cc)
  take_less (z ∷ zs) rest [] x s e l =
      let same : z ≡ x = cc in
      let also : zs ≡ rest = cc in
      taken_alone set z zs s [] refl ∙ (λ i. (same i, set) ∷ merged set (also i) [])
  take_less (z ∷ zs) rest (y ∷ q) x s e l =
      let same : z ≡ x = cc in
      let also : zs ≡ rest = cc in
      taken_less set z zs s y q l ∙ (λ i. (same i, set) ∷ merged set (also i) (y ∷ q))

  -- or of both
  pub take_equal : (xs rest : List Msg) (q others : List (Msg × CloneSet)) (x : Msg) (y : Msg × CloneSet)
      → Sorted msg_cmp xs → xs ≡ x ∷ rest → q ≡ y ∷ others
      → firsts_cmp (slice_get xs 0) (slice_get q 0) ≡ Equal
      → merged set xs q ≡ (x, union y.1 set) ∷ merged set rest others
  take_equal [] rest q others x y s e f l = absurd (cc)
  take_equal (z ∷ zs) rest [] others x y s e f l = absurd (cc)
  take_equal (z ∷ zs) rest (t ∷ q) others x y s e f l =
      let same : z ≡ x = cc in
      let also : zs ≡ rest = cc in
      let other : t ≡ y = cc in
      let others_same : q ≡ others = cc in
      let tied : t.0 ≡ z = sym (messages_ordered.same z t.0 l) in
      taken_equal set z zs s t q l
      ∙ (λ i. ((tied ∙ same) i, union (other i).1 set) ∷ merged set (also i) (others_same i))

  -- or of the others
  pub take_greater : (xs : List Msg) (q others : List (Msg × CloneSet)) (y : Msg × CloneSet)
      → Sorted msg_cmp xs → q ≡ y ∷ others → firsts_cmp (slice_get xs 0) (slice_get q 0) ≡ Greater
      → merged set xs q ≡ y ∷ merged set xs others
  take_greater [] q others y s f l = f
  take_greater (z ∷ zs) [] others y s f l = absurd (cc)
  take_greater (z ∷ zs) (t ∷ q) others y s f l =
      let other : t ≡ y = cc in
      let others_same : q ≡ others = cc in
      taken_greater set z zs s t q l ∙ (λ i. other i ∷ merged set (z ∷ zs) (others_same i))

  -- ---- one after another

  -- messages go in before or after those that all take
  merged-put_each : (xs : List Msg) (ps q : List (Msg × CloneSet))
      → put_each ps (merged set xs q) ≡ merged set xs (put_each ps q)
  merged-put_each xs [] q = refl
  merged-put_each xs (p ∷ ps) q = ap (put_each ps) (sym (merged-put set p.0 p.1 xs q))
      ∙ merged-put_each xs ps (insert_marked union msg_cmp p.0 p.1 q)

  -- what comes before a message is before it
  all_before_one : (qs : List (Msg × CloneSet)) (m : Msg × CloneSet) (rest : List (Msg × CloneSet))
      → SortedMarked msg_cmp (qs ++ m ∷ rest) → AllByRecursion (λ x. msg_cmp m.0 x.0 ≡ Greater) qs
  all_before_one qs m rest s = all_before messages_ordered.total m.0 qs m rest s
      (ap is_lt (tied_itself messages_ordered.total m.0))

  -- messages in order go in one after another
  put_each-append : (ps qs : List (Msg × CloneSet)) → SortedMarked msg_cmp (qs ++ ps) → put_each ps qs ≡ qs ++ ps
  put_each-append [] qs s = sym (append-nil qs)
  put_each-append (p ∷ ps) qs s =
      let last : insert_marked union msg_cmp p.0 p.1 qs ≡ qs ++ p ∷ [] =
      ap (insert_marked union msg_cmp p.0 p.1) (sym (append-nil qs))
      ∙ insert_behind msg_cmp union p.0 p.1 qs [] (all_before_one qs p ps s) in
      let grouped : (qs ++ p ∷ []) ++ ps ≡ qs ++ p ∷ ps = append_assoc qs (p ∷ []) ps in
      ap (put_each ps) last ∙ put_each-append ps (qs ++ p ∷ []) (subst (SortedMarked msg_cmp) (sym grouped) s) ∙ grouped

  -- so messages in order go in among those that all take
  pub put_each-merged : (xs : List Msg) (ps : List (Msg × CloneSet)) → SortedMarked msg_cmp ps
      → put_each ps (merged set xs []) ≡ merged set xs ps
  put_each-merged xs ps s = merged-put_each xs ps [] ∙ ap (merged set xs) (put_each-append ps [] s)

-- ---- a part of the clones

-- the messages that some clones take, put one after another among those that all take
pub part_messages : (set by : CloneSet) (xs : List Msg) (q : List (Msg × CloneSet)) → IsPart by set
    → SortedMarked msg_cmp q → put_each (cut_by common by q) (merged by xs []) ≡ cut_by common by (merged set xs q)
part_messages set by xs q h s = put_each-merged by xs (cut_by common by q) (SortedMarked-cut common by msg_cmp q s)
    ∙ sym (merged-cut_some set by by xs q (common_part set by h.some h.within) s)

-- ---- by time

-- a message with an earlier time comes before
pub firsts_by_time : {K : Type 0} (x : Option Msg) (y : Option (Msg × K)) (a b : ℕ)
    → Some a ≡ option_map (λ m. m.key.time) x → Some b ≡ option_map (λ m. m.0.key.time) y → a < b
    → firsts_cmp x y ≡ Less
firsts_by_time None y a b e f l = absurd (cc)
firsts_by_time (Some x) None a b e f l = absurd (cc)
firsts_by_time (Some x) (Some y) a b e f l =
    let s : a ≡ x.key.time = cc in
    let t : b ≡ y.0.key.time = cc in
    let below : x.key.time < y.0.key.time = omega arith in
    ap (λ r. ordering_then (ordering_then r (ordering_then (nat_cmp x.key.sender y.0.key.sender)
    (nat_cmp x.key.number y.0.key.number))) (ordering_then (nat_cmp x.to y.0.to) (payload_cmp x.payload y.0.payload)))
    (sym (nat_cmp_is x.key.time y.0.key.time Less below))

-- and one with a later time after it
pub firsts_by_time_late : {K : Type 0} (x : Option Msg) (y : Option (Msg × K)) (a b : ℕ)
    → Some a ≡ option_map (λ m. m.key.time) x → Some b ≡ option_map (λ m. m.0.key.time) y → b < a
    → firsts_cmp x y ≡ Greater
firsts_by_time_late None y a b e f l = absurd (cc)
firsts_by_time_late (Some x) None a b e f l = absurd (cc)
firsts_by_time_late (Some x) (Some y) a b e f l =
    let s : a ≡ x.key.time = cc in
    let t : b ≡ y.0.key.time = cc in
    let above : y.0.key.time < x.key.time = omega arith in
    ap (λ r. ordering_then (ordering_then r (ordering_then (nat_cmp x.key.sender y.0.key.sender)
    (nat_cmp x.key.number y.0.key.number))) (ordering_then (nat_cmp x.to y.0.to) (payload_cmp x.payload y.0.payload)))
    (sym (nat_cmp_is x.key.time y.0.key.time Greater above))

-- ---- the first message, by the order of both firsts

module _ (set : CloneSet) where
  -- a first that all take
  pub is_less : (xs : List Msg) (q : List (Msg × CloneSet)) → Sorted msg_cmp xs
      → firsts_cmp (slice_get xs 0) (slice_get q 0) ≡ Less
      → (first_time (merged set xs q) ≡ time_of_first xs) × (first_marks (merged set xs q) ≡ Some set)
  is_less [] q s e = absurd (cc)
  is_less (x ∷ xs) q s e = let h = take_less set (x ∷ xs) xs q x s refl e in (ap first_time h, ap first_marks h)

  -- the same message in both
  pub is_equal : (xs : List Msg) (q : List (Msg × CloneSet)) → Sorted msg_cmp xs
      → firsts_cmp (slice_get xs 0) (slice_get q 0) ≡ Equal
      → (first_time (merged set xs q) ≡ first_time q)
      × (first_marks (merged set xs q) ≡ option_map (λ k. union k set) (first_marks q))
  is_equal [] q s e = absurd (cc)
  is_equal (x ∷ xs) [] s e = absurd (cc)
  is_equal (x ∷ xs) (y ∷ q) s e =
      let h = take_equal set (x ∷ xs) xs (y ∷ q) q x y s refl refl e in
      (ap first_time h ∙ ap (λ (m : Msg). Some m.key.time) (messages_ordered.same x y.0 e), ap first_marks h)

  -- a first of the others
  pub is_greater : (xs : List Msg) (q : List (Msg × CloneSet)) → Sorted msg_cmp xs
      → firsts_cmp (slice_get xs 0) (slice_get q 0) ≡ Greater
      → (first_time (merged set xs q) ≡ first_time q) × (first_marks (merged set xs q) ≡ first_marks q)
  is_greater [] q s e = (refl, refl)
  is_greater (x ∷ xs) [] s e = absurd (cc)
  is_greater (x ∷ xs) (y ∷ q) s e = let h = take_greater set (x ∷ xs) (y ∷ q) q y s refl e in
      (ap first_time h, ap first_marks h)

  -- the others have a message if their first comes first, and there is one
  pub some_other : (xs : List Msg) (q : List (Msg × CloneSet)) → 0 < length (merged set xs q)
      → firsts_cmp (slice_get xs 0) (slice_get q 0) ≡ Greater → 0 < length q
  some_other [] q l e = l
  some_other (x ∷ xs) [] l e = absurd (cc)
  some_other (x ∷ xs) (y ∷ q) l e = omega arith

  -- and if both are the same
  pub also_other : (xs : List Msg) (q : List (Msg × CloneSet))
      → firsts_cmp (slice_get xs 0) (slice_get q 0) ≡ Equal → 0 < length q
  also_other [] q e = absurd (cc)
  also_other (x ∷ xs) [] e = absurd (cc)
  also_other (x ∷ xs) (y ∷ q) e = omega arith
