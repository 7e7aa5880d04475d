-- The elements of two merged lists, and their order.
use Rattle.std.proofs.Common.{◌≡◌, List, [], ◌∷◌, ◌⊎◌, inl, inr, refl, sym, ap, ◌∙◌, subst}
use Rattle.std.specs.Ordering.{ordering_reverse}
use Rattle.std.specs.declared.cmp.Ordering.{Ordering}
use Rattle.std.specs.declared.cmp.Ordering.TheVariants.{Less, Equal, Greater}
use Rattle.std.specs.Cmp.{IsTotalOrder}
use Rattle.std.specs.List.{AllByRecursion}
use Rattle.run_laws.specs.Queue.{In, Sorted}
use Rattle.sim_base.proofs.ListLaws.{all_weaker}
use Rattle.run_laws.proofs.Queue.{all_in, all_from, less_if_greater}
use Rattle.run_laws.specs.Merges.{merge_by, merge_at, merge}

-- ---- In

module _ {X : Type 0} (cmp : X → X → Ordering) where
  -- the elements of a merge with x, by those of the merge of the rest
  in_merge_by : (r : Ordering) (x y : X) (xs ys with_x with_y : List X) (z : X) →
      (In z with_x → In z xs ⊎ In z (y ∷ ys)) → (In z with_y → In z (x ∷ xs) ⊎ In z ys) →
      In z (merge_by r x y with_x with_y) → In z (x ∷ xs) ⊎ In z (y ∷ ys)
  in_merge_by Less x y xs ys with_x with_y z f g (inl e) = inl (inl e)
  in_merge_by Less x y xs ys with_x with_y z f g (inr i) = elim (f i) [ inl a ↦ inl (inr a) | inr b ↦ inr b ]
  in_merge_by Equal x y xs ys with_x with_y z f g (inl e) = inl (inl e)
  in_merge_by Equal x y xs ys with_x with_y z f g (inr i) = elim (f i) [ inl a ↦ inl (inr a) | inr b ↦ inr b ]
  in_merge_by Greater x y xs ys with_x with_y z f g (inl e) = inr (inl e)
  in_merge_by Greater x y xs ys with_x with_y z f g (inr i) = elim (g i) [ inl a ↦ inl a | inr b ↦ inr (inr b) ]

  -- by the place where the merge puts x
  in_merge_at : (x : X) (xs : List X) (rest : List X → List X) →
      ((ys : List X) (z : X) → In z (rest ys) → In z xs ⊎ In z ys) → (ys : List X) (z : X) →
      In z (merge_at cmp x rest ys) → In z (x ∷ xs) ⊎ In z ys
  in_merge_at x xs rest f [] z (inl e) = inl (inl e)
  in_merge_at x xs rest f [] z (inr i) = elim (f [] z i) [ inl a ↦ inl (inr a) | inr b ↦ inr b ]
  in_merge_at x xs rest f (y ∷ ys) z i = in_merge_by (cmp x y) x y xs ys (rest (y ∷ ys))
      (merge_at cmp x rest ys) z (f (y ∷ ys) z) (in_merge_at x xs rest f ys z) i

  -- an element of a merge is in one of the lists
  pub in_merge : (xs ys : List X) (z : X) → In z (merge cmp xs ys) → In z xs ⊎ In z ys
  in_merge [] ys z i = inr i
  in_merge (x ∷ xs) ys z i = in_merge_at x xs (merge cmp xs) (in_merge xs) ys z i

  -- an element of one of two lists is in their merge, by the lesser of their first elements
  merge_by_has : (r : Ordering) (x y : X) (xs ys with_x with_y : List X) (z : X) →
      (In z xs ⊎ In z (y ∷ ys) → In z with_x) → (In z (x ∷ xs) ⊎ In z ys → In z with_y) →
      In z (x ∷ xs) ⊎ In z (y ∷ ys) → In z (merge_by r x y with_x with_y)
  merge_by_has Less x y xs ys with_x with_y z f g (inl (inl e)) = inl e
  merge_by_has Less x y xs ys with_x with_y z f g (inl (inr i)) = inr (f (inl i))
  merge_by_has Less x y xs ys with_x with_y z f g (inr i) = inr (f (inr i))
  merge_by_has Equal x y xs ys with_x with_y z f g (inl (inl e)) = inl e
  merge_by_has Equal x y xs ys with_x with_y z f g (inl (inr i)) = inr (f (inl i))
  merge_by_has Equal x y xs ys with_x with_y z f g (inr i) = inr (f (inr i))
  merge_by_has Greater x y xs ys with_x with_y z f g (inl i) = inr (g (inl i))
  merge_by_has Greater x y xs ys with_x with_y z f g (inr (inl e)) = inl e
  merge_by_has Greater x y xs ys with_x with_y z f g (inr (inr i)) = inr (g (inr i))

  -- by the place where the merge puts x
  merge_at_has : (x : X) (xs : List X) (rest : List X → List X) →
      ((ys : List X) (z : X) → In z xs ⊎ In z ys → In z (rest ys)) → (ys : List X) (z : X) → In z (x ∷ xs) ⊎ In z ys →
      In z (merge_at cmp x rest ys)
  merge_at_has x xs rest f [] z (inl (inl e)) = inl e
  merge_at_has x xs rest f [] z (inl (inr i)) = inr (f [] z (inl i))
  merge_at_has x xs rest f [] z (inr i) = absurd i
  merge_at_has x xs rest f (y ∷ ys) z i = merge_by_has (cmp x y) x y xs ys (rest (y ∷ ys))
      (merge_at cmp x rest ys) z (f (y ∷ ys) z) (merge_at_has x xs rest f ys z) i

  -- and an element of one of the lists is in the merge
  pub merge_has : (xs ys : List X) (z : X) → In z xs ⊎ In z ys → In z (merge cmp xs ys)
  merge_has [] ys z (inl i) = absurd i
  merge_has [] ys z (inr i) = i
  merge_has (x ∷ xs) ys z i = merge_at_has x xs (merge cmp xs) (merge_has xs) ys z i

-- ---- Sorted

module _ {X : Type 0} {cmp : X → X → Ordering} (total : IsTotalOrder cmp) where
  -- an element before the heads of both comes before all of the merge
  before_merge : (a : X) (xs ys : List X) → AllByRecursion (λ z. cmp a z ≡ Less) xs →
      AllByRecursion (λ z. cmp a z ≡ Less) ys → AllByRecursion (λ z. cmp a z ≡ Less) (merge cmp xs ys)
  before_merge a xs ys f g = all_from (λ z. cmp a z ≡ Less) (merge cmp xs ys) (λ z i. elim (in_merge cmp xs ys z i) [
    | inl j ↦ all_in (λ z. cmp a z ≡ Less) xs z f j
    | inr j ↦ all_in (λ z. cmp a z ≡ Less) ys z g j
  ])

  -- no element of one ties with one of the other
  abbrev NoTies : List X → List X → Type 0
  NoTies xs ys = (x y : X) → In x xs → In y ys → cmp x y ≡ Equal → ⊥

  -- the order is kept, whichever of the first elements goes first
  sorted_merge_by : (r : Ordering) (x y : X) (xs ys : List X) → cmp x y ≡ r → Sorted cmp (x ∷ xs) →
      Sorted cmp (y ∷ ys) → NoTies (x ∷ xs) (y ∷ ys) →
      Sorted cmp (merge cmp xs (y ∷ ys)) → Sorted cmp (merge cmp (x ∷ xs) ys) →
      Sorted cmp (merge_by r x y (merge cmp xs (y ∷ ys)) (merge cmp (x ∷ xs) ys))
  sorted_merge_by Less x y xs ys e s t apart a b = (
    before_merge x xs (y ∷ ys) s.0
        (e, all_weaker (λ z. cmp y z ≡ Less) (λ z. cmp x z ≡ Less) ys (λ z l. total.trans x y z e l) t.0),
    a,
  )
  sorted_merge_by Equal x y xs ys e s t apart a b = absurd (apart x y (inl refl) (inl refl) e)
  sorted_merge_by Greater x y xs ys e s t apart a b =
      let l : cmp y x ≡ Less = less_if_greater total x y e in (
        before_merge y (x ∷ xs) ys (
          l,
          all_weaker (λ z. cmp x z ≡ Less) (λ z. cmp y z ≡ Less) xs
              (λ z k. total.trans y x z l k) s.0,
        ) t.0,
        b,
      )

  -- and wherever the merge puts x
  sorted_merge_at : (x : X) (xs : List X) →
      ((ys : List X) → Sorted cmp ys → NoTies xs ys → Sorted cmp (merge cmp xs ys)) → (ys : List X) →
      Sorted cmp (x ∷ xs) → Sorted cmp ys → NoTies (x ∷ xs) ys → Sorted cmp (merge cmp (x ∷ xs) ys)
  sorted_merge_at x xs f [] s t apart = (before_merge x xs [] s.0 tt, f [] tt (λ a b i j. absurd j))
  sorted_merge_at x xs f (y ∷ ys) s t apart = sorted_merge_by (cmp x y) x y xs ys refl s t apart
      (f (y ∷ ys) t (λ a b i j. apart a b (inr i) j))
      (sorted_merge_at x xs f ys s t.1 (λ a b i j. apart a b i (inr j)))

  -- a merge of two lists in order that have no ties is in order
  pub sorted_merge : (xs ys : List X) → Sorted cmp xs → Sorted cmp ys → NoTies xs ys → Sorted cmp (merge cmp xs ys)
  sorted_merge [] ys s t apart = t
  sorted_merge (x ∷ xs) ys s t apart = sorted_merge_at x xs (λ ys u a. sorted_merge xs ys s.1 u a) ys s t apart

  -- two elements of a list in order that tie are one
  pub ties_are_one : (xs : List X) (x y : X) → Sorted cmp xs → In x xs → In y xs → cmp x y ≡ Equal → x ≡ y
  ties_are_one [] x y s i j e = absurd i
  ties_are_one (z ∷ zs) x y s (inl a) (inl b) e = a ∙ sym b
  ties_are_one (z ∷ zs) x y s (inl a) (inr j) e =
      let l : cmp x y ≡ Less = subst (λ w. cmp w y ≡ Less) (sym a) (all_in (λ w. cmp z w ≡ Less) zs y s.0 j) in
      let h : ⊥ = cc in absurd h
  ties_are_one (z ∷ zs) x y s (inr i) (inl b) e =
      let l : cmp y x ≡ Less = subst (λ w. cmp w x ≡ Less) (sym b) (all_in (λ w. cmp z w ≡ Less) zs x s.0 i) in
      let k : cmp y x ≡ Equal = total.antisymm y x ∙ ap ordering_reverse e in
      let h : ⊥ = cc in absurd h
  ties_are_one (z ∷ zs) x y s (inr i) (inr j) e = ties_are_one zs x y s.1 i j e
