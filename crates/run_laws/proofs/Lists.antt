-- The elements of a part of a list, of two lists together, and at a place.
use Rattle.std.proofs.Common.{◌≡◌, ℕ, List, [], ◌∷◌, ◌++◌, ◌⊎◌, inl, inr, Bool, true}
use Rattle.std.proofs.Common.{false, cond, not, refl, sym, ap, ◌∙◌, subst, ◌==◌, eq-eqb, eqb-true}
use Rattle.std.proofs.Common.{zero, suc, ◌<◌, Some, length, arith, slice_get, slice_set}
use Rattle.std.specs.declared.cmp.Ordering.{Ordering}
use Rattle.std.specs.declared.cmp.Ordering.TheVariants.{Less}
use Rattle.std.specs.List.{AllByRecursion, filter}
use Rattle.std.proofs.lemmas.Bool.{ne_eqb, false≢true}
use Rattle.sim_base.proofs.Elements.{in_cons_if, cons_if_old, cons_if_new}
use Rattle.std.proofs.lemmas.Option.{same_Some}
use Rattle.sim_base.proofs.ListLaws.{all_push}
use Rattle.run_laws.specs.Queue.{insert, insert_all, In, Sorted}
use Rattle.run_laws.specs.Handlers.{IsOrder}
use Rattle.run_laws.specs.World.{to_it}
use Rattle.run_laws.specs.Window.{to_others}
use Rattle.run_laws.proofs.Queue.{all_in, all_from, in_insert, insert_old, insert_new, sorted_insert, same_elements}

-- ---- filter

-- the elements of a filtered list are in the list and pass
pub in_filter : {X : Type 0} (p : X → Bool) (xs : List X) (z : X) → In z (filter p xs) → In z xs × (p z ≡ true)
in_filter p [] z i = absurd i
in_filter p (x ∷ xs) z i = elim (in_cons_if (p x) x (filter p xs) z i) [
  | inl e ↦ (inl e.1, ap p e.1 ∙ e.0)
  | inr j ↦ let h = in_filter p xs z j in (inr h.0, h.1)
]

-- and an element of the list that passes is kept
pub filter_keeps : {X : Type 0} (p : X → Bool) (xs : List X) (z : X) → In z xs → p z ≡ true → In z (filter p xs)
filter_keeps p [] z i t = absurd i
filter_keeps p (x ∷ xs) z (inl e) t = cons_if_new (p x) x (filter p xs) z (ap p (sym e) ∙ t) e
filter_keeps p (x ∷ xs) z (inr j) t = cons_if_old (p x) x (filter p xs) z (filter_keeps p xs z j t)

-- a first element that comes before all keeps the order, on any condition
sorted_cons_if : {X : Type 0} (cmp : X → X → Ordering) (b : Bool) (x : X) (xs : List X) →
    AllByRecursion (λ y. cmp x y ≡ Less) xs → Sorted cmp xs → Sorted cmp (cond b (x ∷ xs) xs)
sorted_cons_if cmp true x xs f s = (f, s)
sorted_cons_if cmp false x xs f s = s

-- a test keeps the order
pub sorted_filter : {X : Type 0} (cmp : X → X → Ordering) (p : X → Bool) (xs : List X) → Sorted cmp xs →
    Sorted cmp (filter p xs)
sorted_filter cmp p [] s = tt
sorted_filter cmp p (x ∷ xs) s = sorted_cons_if cmp (p x) x (filter p xs)
    (all_from (λ y. cmp x y ≡ Less) (filter p xs) (λ z i. all_in (λ y. cmp x y ≡ Less) xs z s.0 (in_filter p xs z i).0))
    (sorted_filter cmp p xs s.1)

-- if all pass, nothing is left out
pub filter_all : {X : Type 0} (p : X → Bool) (xs : List X) → AllByRecursion (λ x. p x ≡ true) xs → filter p xs ≡ xs
filter_all p [] f = refl
filter_all p (x ∷ xs) f = ap (λ b. cond b (x ∷ filter p xs) (filter p xs)) f.0 ∙ ap (λ l. x ∷ l) (filter_all p xs f.1)

-- if none passes, all are left out
pub filter_none : {X : Type 0} (p : X → Bool) (xs : List X) → AllByRecursion (λ x. p x ≡ false) xs → filter p xs ≡ []
filter_none p [] f = refl
filter_none p (x ∷ xs) f = ap (λ b. cond b (x ∷ filter p xs) (filter p xs)) f.0 ∙ filter_none p xs f.1

-- a test of a list with one element more, on a condition
filter_if : {X : Type 0} (p : X → Bool) (b : Bool) (x : X) (xs : List X) →
    filter p (cond b (x ∷ xs) xs) ≡ cond b (cond (p x) (x ∷ filter p xs) (filter p xs)) (filter p xs)
filter_if p true x xs = refl
filter_if p false x xs = refl

-- two conditions may change places
if_if : {X : Type 0} (a b : Bool) (x : X) (ys : List X)
    → cond b (cond a (x ∷ ys) ys) ys ≡ cond a (cond b (x ∷ ys) ys) ys
if_if true true x ys = refl
if_if true false x ys = refl
if_if false true x ys = refl
if_if false false x ys = refl

-- two tests may change places
pub filter_swap : {X : Type 0} (p r : X → Bool) (xs : List X) → filter p (filter r xs) ≡ filter r (filter p xs)
filter_swap p r [] = refl
filter_swap p r (x ∷ xs) =
    filter_if p (r x) x (filter r xs)
    ∙ ap (λ l. cond (r x) (cond (p x) (x ∷ l) l) l) (filter_swap p r xs)
    ∙ if_if (p x) (r x) x (filter r (filter p xs))
    ∙ sym (filter_if r (p x) x (filter p xs))

module _ {X : Type 0} {cmp : X → X → Ordering} (o : IsOrder cmp) (p : X → Bool) (x : X) (q : List X)
    (s : Sorted cmp q) where
  -- by whether the new element passes
  filter_insert_by : (b : Bool) → p x ≡ b → filter p (insert cmp x q) ≡ cond b (insert cmp x (filter p q)) (filter p q)
  filter_insert_by true e = same_elements o.total (filter p (insert cmp x q)) (insert cmp x (filter p q))
      (sorted_filter cmp p (insert cmp x q) (sorted_insert o x q s))
      (sorted_insert o x (filter p q) (sorted_filter cmp p q s))
      (λ z i. let h = in_filter p (insert cmp x q) z i in elim (in_insert o x q z h.0) [
        | inl a ↦ subst (λ w. In w (insert cmp x (filter p q))) (sym a) (insert_new o x (filter p q))
        | inr a ↦ insert_old o x (filter p q) z (filter_keeps p q z a h.1)
      ])
      (λ z i. elim (in_insert o x (filter p q) z i) [
        | inl a ↦ filter_keeps p (insert cmp x q) z (subst (λ w. In w (insert cmp x q)) (sym a) (insert_new o x q))
            (ap p a ∙ e)
        | inr a ↦ let h = in_filter p q z a in filter_keeps p (insert cmp x q) z (insert_old o x q z h.0) h.1
      ])
  filter_insert_by false e = same_elements o.total (filter p (insert cmp x q)) (filter p q)
      (sorted_filter cmp p (insert cmp x q) (sorted_insert o x q s))
      (sorted_filter cmp p q s)
      (λ z i. let h = in_filter p (insert cmp x q) z i in elim (in_insert o x q z h.0) [
        | inl a ↦ absurd (false≢true (sym (ap p a ∙ e) ∙ h.1))
        | inr a ↦ filter_keeps p q z a h.1
      ])
      (λ z i. let h = in_filter p q z i in filter_keeps p (insert cmp x q) z (insert_old o x q z h.0) h.1)

  -- the filtered list after an insertion
  pub filter-insert : filter p (insert cmp x q) ≡ cond (p x) (insert cmp x (filter p q)) (filter p q)
  filter-insert = filter_insert_by (p x) refl

module _ {X : Type 0} {cmp : X → X → Ordering} (o : IsOrder cmp) (p : X → Bool) where
  -- an insertion on a condition goes first or not at all
  insert_all-cond : (b : Bool) (x : X) (xs q : List X) →
      insert_all cmp xs (cond b (insert cmp x q) q) ≡ insert_all cmp (cond b (x ∷ xs) xs) q
  insert_all-cond true x xs q = refl
  insert_all-cond false x xs q = refl

  -- the filtered list after several insertions
  pub filter-insert_all : (xs q : List X) → Sorted cmp q →
      filter p (insert_all cmp xs q) ≡ insert_all cmp (filter p xs) (filter p q)
  filter-insert_all [] q s = refl
  filter-insert_all (x ∷ xs) q s =
      filter-insert_all xs (insert cmp x q) (sorted_insert o x q s)
      ∙ ap (insert_all cmp (filter p xs)) (filter-insert o p x q s)
      ∙ insert_all-cond (p x) x (filter p xs) (filter p q)

-- ---- ++

-- an element of two lists together is in one of them
pub in_append : {X : Type 0} (xs ys : List X) (z : X) → In z (xs ++ ys) → In z xs ⊎ In z ys
in_append [] ys z i = inr i
in_append (x ∷ xs) ys z (inl e) = inl (inl e)
in_append (x ∷ xs) ys z (inr j) = elim (in_append xs ys z j) [ inl k ↦ inl (inr k) | inr k ↦ inr k ]

-- an element of the first list is in both together
pub append_old : {X : Type 0} (xs ys : List X) (z : X) → In z xs → In z (xs ++ ys)
append_old [] ys z i = absurd i
append_old (x ∷ xs) ys z (inl e) = inl e
append_old (x ∷ xs) ys z (inr j) = inr (append_old xs ys z j)

-- and so is an element of the second
pub append_new : {X : Type 0} (xs ys : List X) (z : X) → In z ys → In z (xs ++ ys)
append_new [] ys z i = i
append_new (x ∷ xs) ys z i = inr (append_new xs ys z i)

-- an element after all others is in order at the end
pub sorted_append : {X : Type 0} (cmp : X → X → Ordering) (xs : List X) (y : X) → Sorted cmp xs →
    AllByRecursion (λ x. cmp x y ≡ Less) xs → Sorted cmp (xs ++ y ∷ [])
sorted_append cmp [] y s f = (tt, tt)
sorted_append cmp (x ∷ xs) y s f = (all_push (λ z. cmp x z ≡ Less) xs y s.0 f.0, sorted_append cmp xs y s.1 f.1)

-- ---- slice_get

-- the elements of a list with one more at the end
pub slice_get-push : {X : Type 0} (xs : List X) (y x : X) (i : ℕ) → slice_get (xs ++ y ∷ []) i ≡ Some x
    → (slice_get xs i ≡ Some x) ⊎ ((i ≡ length xs) × (x ≡ y))
slice_get-push [] y x zero e = inr (refl, same_Some x y (sym e))
slice_get-push [] y x (suc i) e = absurd (cc)
slice_get-push (z ∷ zs) y x zero e = inl e
slice_get-push (z ∷ zs) y x (suc i) e = elim (slice_get-push zs y x i e) [
  | inl h ↦ inl h
  | inr h ↦ inr (ap suc h.0, h.1)
]

-- a list with another element at a place has it there
pub slice_get-set_same : {X : Type 0} (xs : List X) (i : ℕ) (x : X) → i < length xs
    → slice_get (slice_set xs i x) i ≡ Some x
slice_get-set_same [] i x l = absurd (omega (arith, l))
slice_get-set_same (y ∷ ys) zero x l = refl
slice_get-set_same (y ∷ ys) (suc i) x l = slice_get-set_same ys i x (omega (arith, l))

-- and elsewhere the old elements
pub slice_get-set_other : {X : Type 0} (xs : List X) (i j : ℕ) (x : X) → (i ≡ j → ⊥)
    → slice_get (slice_set xs j x) i ≡ slice_get xs i
slice_get-set_other [] i j x n = refl
slice_get-set_other (y ∷ ys) zero zero x n = absurd (n refl)
slice_get-set_other (y ∷ ys) zero (suc j) x n = refl
slice_get-set_other (y ∷ ys) (suc i) zero x n = refl
slice_get-set_other (y ∷ ys) (suc i) (suc j) x n = slice_get-set_other ys i j x (λ e. n (ap suc e))

-- ---- to_it, to_others

module _ {M : Type 0} (to : M → ℕ) where
  -- the messages to a station
  pub in_own : (s : ℕ) (xs : List M) (z : M) → In z (to_it to s xs) → In z xs × (to z ≡ s)
  in_own s xs z i = let h = in_filter (λ m. to m == s) xs z i in (h.0, eqb-true (to z) s h.1)

  -- a message among them to the station is one of them
  pub own_from : (s : ℕ) (xs : List M) (z : M) → In z xs → to z ≡ s → In z (to_it to s xs)
  own_from s xs z i e = filter_keeps (λ m. to m == s) xs z i (eq-eqb (to z) s e)

  -- and those to others
  pub in_others : (s : ℕ) (xs : List M) (z : M) → In z (to_others to s xs) → In z xs × (to z ≡ s → ⊥)
  in_others s xs z i = let h = in_filter (λ m. not (to m == s)) xs z i in
      (h.0, λ e. false≢true (sym (ap not (eq-eqb (to z) s e)) ∙ h.1))

  -- a message among them to another is one of them
  pub others_from : (s : ℕ) (xs : List M) (z : M) → In z xs → (to z ≡ s → ⊥) → In z (to_others to s xs)
  others_from s xs z i n = filter_keeps (λ m. not (to m == s)) xs z i (ap not (ne_eqb (to z) s n))
