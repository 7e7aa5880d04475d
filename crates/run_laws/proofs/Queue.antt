-- Ordered lists: the effect of an insertion, and that the elements determine the list.
use Rattle.std.proofs.Common.{◌≡◌, List, [], ◌∷◌, ◌++◌, ◌⊎◌, inl, inr, refl, sym, ap, ◌∙◌, subst}
use Rattle.std.specs.Ordering.{ordering_reverse}
use Rattle.std.specs.declared.cmp.Ordering.{Ordering}
use Rattle.std.specs.declared.cmp.Ordering.TheVariants.{Less, Equal, Greater}
use Rattle.std.specs.Cmp.{IsTotalOrder, tied_itself}
use Rattle.std.specs.List.{AllByRecursion}
use Rattle.sim_base.proofs.ListLaws.{all_weaker}
use Rattle.run_laws.specs.Queue.{insert_by, insert, insert_all, In, Sorted}
use Rattle.run_laws.specs.Handlers.{IsOrder}

-- ---- AllByRecursion

-- a property of all holds of each element
pub all_in : {X : Type 0} (P : X → Type 0) (xs : List X) (x : X) → AllByRecursion P xs → In x xs → P x
all_in P [] x h i = absurd i
all_in P (y ∷ ys) x h (inl e) = subst P (sym e) h.0
all_in P (y ∷ ys) x h (inr i) = all_in P ys x h.1 i

-- a property of each element holds of all
pub all_from : {X : Type 0} (P : X → Type 0) (xs : List X) → ((x : X) → In x xs → P x) → AllByRecursion P xs
all_from P [] f = tt
all_from P (y ∷ ys) f = (f y (inl refl), all_from P ys (λ x i. f x (inr i)))

-- ---- Less

module _ {X : Type 0} {cmp : X → X → Ordering} (total : IsTotalOrder cmp) where
  -- the lesser of two comes first whichever way they are compared
  pub less_if_greater : (x y : X) → cmp x y ≡ Greater → cmp y x ≡ Less
  less_if_greater x y e = total.antisymm y x ∙ ap ordering_reverse e

  -- nothing comes before itself
  pub not_below_itself : (x : X) → cmp x x ≡ Less → ⊥
  not_below_itself x e = let t = tied_itself total x in cc

  -- of two, one at most comes first
  not_both_first : (x y : X) → cmp x y ≡ Less → cmp y x ≡ Less → ⊥
  not_both_first x y e f = not_below_itself x (total.trans x y x e f)

  -- ---- Sorted

  -- after equal heads the rests have the same elements
  rest_in : (x y : X) (p q : List X) → x ≡ y → AllByRecursion (λ z. cmp x z ≡ Less) p →
      ((z : X) → In z (x ∷ p) → In z (y ∷ q)) → (z : X) → In z p → In z q
  rest_in x y p q e l f z i = elim (f z (inr i)) [
    | inl k ↦ absurd (not_below_itself x
        (subst (λ w. cmp x w ≡ Less) (k ∙ sym e) (all_in (λ z. cmp x z ≡ Less) p z l i)))
    | inr j ↦ j
  ]

  -- two ordered lists with the same elements are equal, even if the order does not separate all elements
  pub same_elements : (p q : List X) → Sorted cmp p → Sorted cmp q → ((z : X) → In z p → In z q) →
      ((z : X) → In z q → In z p) → p ≡ q
  same_elements [] [] s t f g = refl
  same_elements [] (y ∷ q) s t f g = absurd (g y (inl refl))
  same_elements (x ∷ p) [] s t f g = absurd (f x (inl refl))
  same_elements (x ∷ p) (y ∷ q) s t f g =
      let e : x ≡ y = elim (f x (inl refl)) [
        | inl e ↦ e
        | inr i ↦ elim (g y (inl refl)) [
          | inl e ↦ sym e
          | inr j ↦ absurd (not_both_first x y (all_in (λ z. cmp x z ≡ Less) p y s.0 j)
              (all_in (λ z. cmp y z ≡ Less) q x t.0 i))
        ]
      ] in
      let r : p ≡ q = same_elements p q s.1 t.1 (rest_in x y p q e s.0 f) (rest_in y x q p (sym e) t.0 g) in
      cc

-- ---- insert, insert_all

-- the elements of a list after an insertion
in_insert_by : {X : Type 0} (r : Ordering) (x y : X) (ys rest : List X) (z : X) → (In z rest → (z ≡ x) ⊎ In z ys) →
    In z (insert_by r x y ys rest) → (z ≡ x) ⊎ In z (y ∷ ys)
in_insert_by Less x y ys rest z f i = i
in_insert_by Equal x y ys rest z f i = inr i
in_insert_by Greater x y ys rest z f (inl e) = inr (inl e)
in_insert_by Greater x y ys rest z f (inr j) = elim (f j) [ inl e ↦ inl e | inr k ↦ inr (inr k) ]

-- the old elements stay
insert_by_old : {X : Type 0} (r : Ordering) (x y : X) (ys rest : List X) (z : X) → (In z ys → In z rest) →
    In z (y ∷ ys) → In z (insert_by r x y ys rest)
insert_by_old Less x y ys rest z f i = inr i
insert_by_old Equal x y ys rest z f i = i
insert_by_old Greater x y ys rest z f (inl e) = inl e
insert_by_old Greater x y ys rest z f (inr j) = inr (f j)

-- and the new element is there
insert_by_new : {X : Type 0} (r : Ordering) (x y : X) (ys rest : List X) → (r ≡ Equal → x ≡ y) → In x rest →
    In x (insert_by r x y ys rest)
insert_by_new Less x y ys rest f i = inl refl
insert_by_new Equal x y ys rest f i = inl (f refl)
insert_by_new Greater x y ys rest f i = inr i

module _ {X : Type 0} {cmp : X → X → Ordering} (o : IsOrder cmp) where
  -- the elements after an insertion: the new one and those before
  pub in_insert : (x : X) (q : List X) (z : X) → In z (insert cmp x q) → (z ≡ x) ⊎ In z q
  in_insert x [] z i = i
  in_insert x (y ∷ ys) z i = in_insert_by (cmp x y) x y ys (insert cmp x ys) z (in_insert x ys z) i

  -- the old elements stay
  pub insert_old : (x : X) (q : List X) (z : X) → In z q → In z (insert cmp x q)
  insert_old x [] z i = absurd i
  insert_old x (y ∷ ys) z i = insert_by_old (cmp x y) x y ys (insert cmp x ys) z (insert_old x ys z) i

  -- and the new one is there
  pub insert_new : (x : X) (q : List X) → In x (insert cmp x q)
  insert_new x [] = inl refl
  insert_new x (y ∷ ys) = insert_by_new (cmp x y) x y ys (insert cmp x ys) (o.same x y) (insert_new x ys)

  -- y comes before x and before all of ys
  above_insert : (x y : X) (ys : List X) → cmp y x ≡ Less → AllByRecursion (λ z. cmp y z ≡ Less) ys →
      AllByRecursion (λ z. cmp y z ≡ Less) (insert cmp x ys)
  above_insert x y ys e l = all_from (λ z. cmp y z ≡ Less) (insert cmp x ys) (λ z i. elim (in_insert x ys z i) [
    | inl q ↦ subst (λ w. cmp y w ≡ Less) (sym q) e
    | inr j ↦ all_in (λ z. cmp y z ≡ Less) ys z l j
  ])

  -- the order is kept, wherever the element goes
  sorted_insert_by : (r : Ordering) (x y : X) (ys : List X) → cmp x y ≡ r → Sorted cmp (y ∷ ys) →
      Sorted cmp (insert cmp x ys) → Sorted cmp (insert_by r x y ys (insert cmp x ys))
  sorted_insert_by Less x y ys e s t =
      ((e, all_weaker (λ z. cmp y z ≡ Less) (λ z. cmp x z ≡ Less) ys (λ z l. o.total.trans x y z e l) s.0), s)
  sorted_insert_by Equal x y ys e s t = s
  sorted_insert_by Greater x y ys e s t = (above_insert x y ys (less_if_greater o.total x y e) s.0, t)

  -- an insertion keeps the order
  pub sorted_insert : (x : X) (q : List X) → Sorted cmp q → Sorted cmp (insert cmp x q)
  sorted_insert x [] s = (tt, tt)
  sorted_insert x (y ∷ ys) s = sorted_insert_by (cmp x y) x y ys refl s (sorted_insert x ys s.1)

  -- the elements after the insertion of several
  pub in_insert_all : (xs q : List X) (z : X) → In z (insert_all cmp xs q) → In z xs ⊎ In z q
  in_insert_all [] q z i = inr i
  in_insert_all (x ∷ xs) q z i = elim (in_insert_all xs (insert cmp x q) z i) [
    | inl j ↦ inl (inr j)
    | inr j ↦ elim (in_insert x q z j) [ inl e ↦ inl (inl e) | inr k ↦ inr k ]
  ]

  -- the old elements stay
  pub insert_all_old : (xs q : List X) (z : X) → In z q → In z (insert_all cmp xs q)
  insert_all_old [] q z i = i
  insert_all_old (x ∷ xs) q z i = insert_all_old xs (insert cmp x q) z (insert_old x q z i)

  -- and the new ones are there
  pub insert_all_new : (xs q : List X) (z : X) → In z xs → In z (insert_all cmp xs q)
  insert_all_new [] q z i = absurd i
  insert_all_new (x ∷ xs) q z (inl e) = insert_all_old xs (insert cmp x q) z
      (subst (λ w. In w (insert cmp x q)) (sym e) (insert_new x q))
  insert_all_new (x ∷ xs) q z (inr j) = insert_all_new xs (insert cmp x q) z j

  -- several insertions keep the order
  pub sorted_insert_all : (xs q : List X) → Sorted cmp q → Sorted cmp (insert_all cmp xs q)
  sorted_insert_all [] q s = s
  sorted_insert_all (x ∷ xs) q s = sorted_insert_all xs (insert cmp x q) (sorted_insert x q s)

  -- a property of the new and of the old elements holds of all after an insertion
  pub all_insert_all : (P : X → Type 0) (xs q : List X) → AllByRecursion P xs → AllByRecursion P q →
      AllByRecursion P (insert_all cmp xs q)
  all_insert_all P xs q f g = all_from P (insert_all cmp xs q) (λ z i. elim (in_insert_all xs q z i) [
    | inl j ↦ all_in P xs z f j
    | inr j ↦ all_in P q z g j
  ])

  -- the elements after the head of a list in order are not the head
  pub not_head : (m : X) (q : List X) (z : X) → Sorted cmp (m ∷ q) → In z q → z ≡ m → ⊥
  not_head m q z s i e =
      not_below_itself o.total m (subst (λ y. cmp m y ≡ Less) e (all_in (λ y. cmp m y ≡ Less) q z s.0 i))

  -- the order in which elements are inserted makes no difference
  pub insert_swap : (x : X) (xs q : List X) → Sorted cmp q →
      insert_all cmp xs (insert cmp x q) ≡ insert cmp x (insert_all cmp xs q)
  insert_swap x xs q s = same_elements o.total (insert_all cmp xs (insert cmp x q)) (insert cmp x (insert_all cmp xs q))
      (sorted_insert_all xs (insert cmp x q) (sorted_insert x q s))
      (sorted_insert x (insert_all cmp xs q) (sorted_insert_all xs q s))
      (λ z i. elim (in_insert_all xs (insert cmp x q) z i) [
        | inl j ↦ insert_old x (insert_all cmp xs q) z (insert_all_new xs q z j)
        | inr j ↦ elim (in_insert x q z j) [
          | inl e ↦ subst (λ w. In w (insert cmp x (insert_all cmp xs q))) (sym e) (insert_new x (insert_all cmp xs q))
          | inr k ↦ insert_old x (insert_all cmp xs q) z (insert_all_old xs q z k)
        ]
      ])
      (λ z i. elim (in_insert x (insert_all cmp xs q) z i) [
        | inl e ↦ insert_all_old xs (insert cmp x q) z (subst (λ w. In w (insert cmp x q)) (sym e) (insert_new x q))
        | inr j ↦ elim (in_insert_all xs q z j) [
          | inl k ↦ insert_all_new xs (insert cmp x q) z k
          | inr k ↦ insert_all_old xs (insert cmp x q) z (insert_old x q z k)
        ]
      ])

-- one element more at the end is inserted last
pub insert_all-push : {X : Type 0} (cmp : X → X → Ordering) (xs : List X) (x : X) (q : List X) →
    insert_all cmp (xs ++ x ∷ []) q ≡ insert cmp x (insert_all cmp xs q)
insert_all-push cmp [] x q = refl
insert_all-push cmp (y ∷ xs) x q = insert_all-push cmp xs x (insert cmp y q)
