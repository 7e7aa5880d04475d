-- The marked messages that clone c takes, after an insertion and of lists together.
use Rattle.std.proofs.Common.{◌≡◌, ℕ, List, [], ◌∷◌, ◌++◌, Bool, true, false, cond}
use Rattle.std.proofs.Common.{refl, sym, ap, ◌∙◌, subst, ◌&&◌, ◌||◌, map, inl, inr}
use Rattle.std.specs.declared.cmp.Ordering.{Ordering}
use Rattle.std.specs.declared.cmp.Ordering.TheVariants.{Less, Equal, Greater}
use Rattle.std.specs.List.{AllByRecursion, filter}
use Rattle.std.proofs.lemmas.Bool.{cases_Bool}
use Rattle.sim_base.specs.Pending.{place_marked, insert_marked}
use Rattle.run_laws.specs.Queue.{insert_by, insert, insert_all, Sorted}
use Rattle.run_laws.specs.Handlers.{IsOrder}
use Rattle.sim_base.specs.Marked.{Above, SortedMarked}
use Rattle.run_laws.specs.Copies.{part, insert_marked_all}
use Rattle.sim_base.proofs.Placing.{sorted_insert_marked}
use Rattle.sim_base.proofs.ListLaws.{all_weaker}

-- ---- part

module _ {M K : Type 0} (takes : M → K → ℕ → Bool) where
  -- a clone takes the first message, or not
  pub part_yes : (c : ℕ) (x : M × K) (xs : List (M × K)) → takes x.0 x.1 c ≡ true →
      part takes c (x ∷ xs) ≡ x.0 ∷ part takes c xs
  part_yes c x xs e = ap (λ b. cond b (x.0 ∷ part takes c xs) (part takes c xs)) e

  -- if it does not, it takes the rest
  pub part_no : (c : ℕ) (x : M × K) (xs : List (M × K)) → takes x.0 x.1 c ≡ false →
      part takes c (x ∷ xs) ≡ part takes c xs
  part_no c x xs e = ap (λ b. cond b (x.0 ∷ part takes c xs) (part takes c xs)) e

  -- an element before all others comes before all that a clone takes
  pub above_part : (cmp : M → M → Ordering) (c : ℕ) (m : M) (q : List (M × K)) → Above cmp m q →
      AllByRecursion (λ y. cmp m y ≡ Less) (part takes c q)
  above_part cmp c m [] f = tt
  above_part cmp c m (x ∷ q) f = elim (cases_Bool (takes x.0 x.1 c)) [
    | inl e ↦ subst (AllByRecursion (λ y. cmp m y ≡ Less)) (sym (part_yes c x q e)) (f.0, above_part cmp c m q f.1)
    | inr e ↦ subst (AllByRecursion (λ y. cmp m y ≡ Less)) (sym (part_no c x q e)) (above_part cmp c m q f.1)
  ]

  -- the messages that a clone takes are in order
  pub sorted_part : (cmp : M → M → Ordering) (c : ℕ) (q : List (M × K)) → SortedMarked cmp q
      → Sorted cmp (part takes c q)
  sorted_part cmp c [] s = tt
  sorted_part cmp c (x ∷ q) s = elim (cases_Bool (takes x.0 x.1 c)) [
    | inl e ↦ subst (Sorted cmp) (sym (part_yes c x q e)) (above_part cmp c x.0 q s.0, sorted_part cmp c q s.1)
    | inr e ↦ subst (Sorted cmp) (sym (part_no c x q e)) (sorted_part cmp c q s.1)
  ]

  -- a property of each message that a clone takes holds of all that it takes
  pub all_part : (c : ℕ) (P : M → Type 0) (q : List (M × K)) → ((x : M) (k : K) → takes x k c ≡ true → P x) →
      AllByRecursion P (part takes c q)
  all_part c P [] f = tt
  all_part c P (x ∷ q) f = elim (cases_Bool (takes x.0 x.1 c)) [
    | inl e ↦ subst (AllByRecursion P) (sym (part_yes c x q e)) (f x.0 x.1 e, all_part c P q f)
    | inr e ↦ subst (AllByRecursion P) (sym (part_no c x q e)) (all_part c P q f)
  ]

  -- a property of all messages holds of all that a clone takes
  pub all_part_of : (c : ℕ) (P : M → Type 0) (q : List (M × K)) → AllByRecursion (λ x. P x.0) q →
      AllByRecursion P (part takes c q)
  all_part_of c P [] f = tt
  all_part_of c P (x ∷ q) f = elim (cases_Bool (takes x.0 x.1 c)) [
    | inl e ↦ subst (AllByRecursion P) (sym (part_yes c x q e)) (f.0, all_part_of c P q f.1)
    | inr e ↦ subst (AllByRecursion P) (sym (part_no c x q e)) (all_part_of c P q f.1)
  ]

  -- the messages that a clone takes of two lists together
  pub part-append : (c : ℕ) (xs ys : List (M × K)) → part takes c (xs ++ ys) ≡ part takes c xs ++ part takes c ys
  part-append c [] ys = refl
  part-append c (x ∷ xs) ys = elim (cases_Bool (takes x.0 x.1 c)) [
    | inl e ↦ part_yes c x (xs ++ ys) e
        ∙ (ap (λ l. x.0 ∷ l) (part-append c xs ys) ∙ ap (λ l. l ++ part takes c ys) (sym (part_yes c x xs e)))
    | inr e ↦ part_no c x (xs ++ ys) e ∙ (part-append c xs ys ∙ ap (λ l. l ++ part takes c ys) (sym (part_no c x xs e)))
  ]

  -- the messages that a clone takes of messages with the same marks
  pub part-map : (c : ℕ) (k : K) (xs : List M) → part takes c (map (λ x. (x, k)) xs) ≡ filter (λ x. takes x k c) xs
  part-map c k [] = refl
  part-map c k (x ∷ xs) = ap (λ l. cond (takes x k c) (x ∷ l) l) (part-map c k xs)

-- by tests that agree on a clone it takes the same
pub part-congr : {M K : Type 0} (t u : M → K → ℕ → Bool) (c d : ℕ) (xs : List (M × K)) →
    ((m : M) (k : K) → t m k c ≡ u m k d) → part t c xs ≡ part u d xs
part-congr t u c d [] f = refl
part-congr t u c d (x ∷ xs) f = ap (λ l. cond (t x.0 x.1 c) (x.0 ∷ l) l) (part-congr t u c d xs f)
    ∙ ap (λ b. cond b (x.0 ∷ part u d xs) (part u d xs)) (f x.0 x.1)

-- a message passes a test if it is taken
filter_both : {M : Type 0} (p : M → Bool) (b : Bool) (x : M) (l : List M) →
    cond (b && p x) (x ∷ filter p l) (filter p l) ≡ filter p (cond b (x ∷ l) l)
filter_both p true x l = refl
filter_both p false x l = refl

-- with a further test it takes the messages that pass it
pub part-filter : {M K : Type 0} (t u : M → K → ℕ → Bool) (p : M → Bool) (c : ℕ) (xs : List (M × K)) →
    ((m : M) (k : K) → u m k c ≡ (t m k c && p m)) → part u c xs ≡ filter p (part t c xs)
part-filter t u p c [] f = refl
part-filter t u p c (x ∷ xs) f =
    ap (λ b. cond b (x.0 ∷ part u c xs) (part u c xs)) (f x.0 x.1)
    ∙ ap (λ l. cond (t x.0 x.1 c && p x.0) (x.0 ∷ l) l) (part-filter t u p c xs f)
    ∙ filter_both p (t x.0 x.1 c) x.0 (part t c xs)

-- ---- insert_marked

-- x comes before all that is there
insert_first : {M : Type 0} (cmp : M → M → Ordering) (x : M) (q : List M) → AllByRecursion (λ y. cmp x y ≡ Less) q →
    insert cmp x q ≡ x ∷ q
insert_first cmp x [] f = refl
insert_first cmp x (y ∷ ys) f = ap (λ r. insert_by r x y ys (insert cmp x ys)) f.0

module _ {M K : Type 0} (takes : M → K → ℕ → Bool) (join : K → K → K)
    (joins : (m : M) (a b : K) (c : ℕ) → takes m (join a b) c ≡ (takes m a c || takes m b c)) {cmp : M → M → Ordering}
    (o : IsOrder cmp) where
  -- a list gets a message, or stays
  abbrev gets : Bool → M → List M → List M
  gets b x q = cond b (insert cmp x q) q

  -- the message is there already
  case_equal : (k y_has : Bool) (x y : M) (q : List M) → x ≡ y → cmp x y ≡ Equal →
      AllByRecursion (λ z. cmp y z ≡ Less) q → cond (y_has || k) (y ∷ q) q ≡ gets k x (cond y_has (y ∷ q) q)
  case_equal true true x y q d e f = sym (ap (λ r. insert_by r x y q (insert cmp x q)) e)
  case_equal true false x y q d e f =
      sym (insert_first cmp x q (subst (λ u. AllByRecursion (λ z. cmp u z ≡ Less) q) (sym d) f) ∙ ap (λ u. u ∷ q) d)
  case_equal false true x y q d e f = refl
  case_equal false false x y q d e f = refl

  -- the message goes further back
  case_greater : (k y_has : Bool) (x y : M) (q r : List M) → cmp x y ≡ Greater → r ≡ gets k x q →
      cond y_has (y ∷ r) r ≡ gets k x (cond y_has (y ∷ q) q)
  case_greater true true x y q r e h = ap (λ l. y ∷ l) h ∙ sym (ap (λ s. insert_by s x y q (insert cmp x q)) e)
  case_greater true false x y q r e h = h
  case_greater false true x y q r e h = ap (λ l. y ∷ l) h
  case_greater false false x y q r e h = h

  -- by the place of the message
  part_place : (r : Ordering) (c : ℕ) (x : M) (k : K) (y : M × K) (ys rest : List (M × K)) → cmp x y.0 ≡ r →
      SortedMarked cmp (y ∷ ys) → part takes c rest ≡ gets (takes x k c) x (part takes c ys) →
      part takes c (place_marked join r x k y ys rest) ≡ gets (takes x k c) x (part takes c (y ∷ ys))
  part_place Less c x k y ys rest e s h = ap (λ l. cond (takes x k c) l (part takes c (y ∷ ys)))
      (sym (insert_first cmp x (part takes c (y ∷ ys))
      (above_part takes cmp c x (y ∷ ys) (
        e,
        all_weaker (λ z. cmp y.0 z.0 ≡ Less) (λ z. cmp x z.0 ≡ Less) ys (λ z l. o.total.trans x y.0 z.0 e l)
            s.0,
      ))))
  part_place Equal c x k y ys rest e s h =
      ap (λ b. cond b (y.0 ∷ part takes c ys) (part takes c ys)) (joins y.0 y.1 k c)
      ∙ case_equal (takes y.0 k c) (takes y.0 y.1 c) x y.0 (part takes c ys) (o.same x y.0 e) e
      (above_part takes cmp c y.0 ys s.0)
      ∙ ap (λ u. gets (takes u k c) x (part takes c (y ∷ ys))) (sym (o.same x y.0 e))
  part_place Greater c x k y ys rest e s h = case_greater (takes x k c) (takes y.0 y.1 c) x y.0 (part takes c ys)
      (part takes c rest) e h

  -- a clone that takes the message has it in its place, and for the others nothing changes
  pub part-insert : (c : ℕ) (x : M) (k : K) (q : List (M × K)) → SortedMarked cmp q →
      part takes c (insert_marked join cmp x k q) ≡ cond (takes x k c) (insert cmp x (part takes c q)) (part takes c q)
  part-insert c x k [] s = refl
  part-insert c x k (y ∷ ys) s = part_place (cmp x y.0) c x k y ys (insert_marked join cmp x k ys) refl s
      (part-insert c x k ys s.1)

  -- several insertions keep the order
  pub sorted_insert_marked_all : (xs : List M) (k : K) (q : List (M × K)) → SortedMarked cmp q →
      SortedMarked cmp (insert_marked_all join cmp xs k q)
  sorted_insert_marked_all [] k q s = s
  sorted_insert_marked_all (x ∷ xs) k q s = sorted_insert_marked_all xs k (insert_marked join cmp x k q)
      (sorted_insert_marked o.total join x k q s)

  -- an insertion that depends on a clone goes first or not at all
  insert_all-gets : (b : Bool) (x : M) (xs q : List M) →
      insert_all cmp xs (gets b x q) ≡ insert_all cmp (cond b (x ∷ xs) xs) q
  insert_all-gets true x xs q = refl
  insert_all-gets false x xs q = refl

  -- of several messages each clone has those that it takes
  pub part-insert_all : (c : ℕ) (xs : List M) (k : K) (q : List (M × K)) → SortedMarked cmp q →
      part takes c (insert_marked_all join cmp xs k q) ≡ insert_all cmp (filter (λ x. takes x k c) xs) (part takes c q)
  part-insert_all c [] k q s = refl
  part-insert_all c (x ∷ xs) k q s =
      part-insert_all c xs k (insert_marked join cmp x k q) (sorted_insert_marked o.total join x k q s)
      ∙ ap (insert_all cmp (filter (λ x. takes x k c) xs)) (part-insert c x k q s)
      ∙ insert_all-gets (takes x k c) x (filter (λ x. takes x k c) xs) (part takes c q)
