-- Messages that all clones of a set take, merged into others: insertions, the first message, cuts and spread marks.
use Rattle.std.proofs.Common.{◌≡◌, List, [], ◌∷◌, refl, sym, ap, ◌∙◌, subst}
use Rattle.std.proofs.Common.{Bool, true, false, Option, Some, None, Ordering, Less, Equal, Greater}
use Rattle.std.specs.Prelude.{is_some, if◌then◌else◌}
use Rattle.std.specs.Ordering.{ordering_reverse}
use Rattle.std.specs.Cmp.{tied_itself}
use Rattle.std.specs.List.{AllByRecursion}
use Rattle.sim_base.specs.Marked.{Above, SortedMarked}
use Rattle.sim_base.specs.Pending.{place_marked, insert_marked, cut_by, spread_marks}
use Rattle.sim_base.proofs.Cutting.{cut-Some, cut-None, SortedMarked-cut}
use Rattle.sim_base.proofs.ListLaws.{all_weaker}
use Rattle.sim_base.proofs.Placing.{sorted_insert_marked}
use Rattle.run_laws.specs.Copies.{insert_marked_all}
use Rattle.run_laws.specs.Handlers.{IsOrder}
use Rattle.run_laws.specs.Queue.{insert, insert_by, Sorted}
use Rattle.run_laws.proofs.Queue.{less_if_greater}
use Rattle.copy_pending.specs.Joins.{JoinsFreely, MeetsEach, join_found}

module _ {M K : Type 0} {cmp : M → M → Ordering} (o : IsOrder cmp) {join : K → K → K} (free : JoinsFreely join) where
  -- a message goes in with its marks
  abbrev put : M → K → List (M × K) → List (M × K)
  put m k q = insert_marked join cmp m k q

  -- all of the messages go in with the same marks
  abbrev put_all : List M → K → List (M × K) → List (M × K)
  put_all xs k q = insert_marked_all join cmp xs k q

  -- ---- cmp

  -- what comes before the lesser of two comes before the greater
  greater : (x y : M) → cmp x y ≡ Less → cmp y x ≡ Greater
  greater x y e = o.total.antisymm y x ∙ ap ordering_reverse e

  -- ---- put

  -- a message before the first goes before all
  pub put-Less : (m : M) (k : K) (y : M × K) (ys : List (M × K)) → cmp m y.0 ≡ Less → put m k (y ∷ ys) ≡ (m, k) ∷ y ∷ ys
  put-Less m k y ys e = ap (λ r. place_marked join r m k y ys (put m k ys)) e

  -- the first message gets the marks
  put-Equal : (m : M) (k : K) (y : M × K) (ys : List (M × K)) → cmp m y.0 ≡ Equal
      → put m k (y ∷ ys) ≡ (y.0, join y.1 k) ∷ ys
  put-Equal m k y ys e = ap (λ r. place_marked join r m k y ys (put m k ys)) e

  -- a message after the first goes into the rest
  put-Greater : (m : M) (k : K) (y : M × K) (ys : List (M × K)) → cmp m y.0 ≡ Greater
      → put m k (y ∷ ys) ≡ y ∷ put m k ys
  put-Greater m k y ys e = ap (λ r. place_marked join r m k y ys (put m k ys)) e

  -- one message that goes in twice has both marks
  put_twice : (m : M) (k l : K) (q : List (M × K)) → put m k (put m l q) ≡ put m (join l k) q
  put_twice m k l [] = put-Equal m k (m, l) [] (tied_itself o.total m)
  put_twice m k l (y ∷ ys) = by (put_twice m k l ys) (cmp m y.0) refl
    where
      by : put m k (put m l ys) ≡ put m (join l k) ys → (r : Ordering) → cmp m y.0 ≡ r
          → put m k (place_marked join r m l y ys (put m l ys))
          ≡ place_marked join r m (join l k) y ys (put m (join l k) ys)
      by h Less e = put-Equal m k (m, l) (y ∷ ys) (tied_itself o.total m)
      by h Equal e = put-Equal m k (y.0, join y.1 l) ys e ∙ ap (λ j. (y.0, j) ∷ ys) (free.assoc y.1 l k)
      by h Greater e = put-Greater m k y (put m l ys) e ∙ ap (λ t. y ∷ t) h

  -- a message before another and before the first goes before all
  put_ahead : (r : Ordering) (m : M) (k : K) (n : M) (l : K) (y : M × K) (ys rest : List (M × K)) → cmp m n ≡ Less
      → cmp m y.0 ≡ Less
      → put m k (place_marked join r n l y ys rest) ≡ (m, k) ∷ place_marked join r n l y ys rest
  put_ahead Less m k n l y ys rest e f = put-Less m k (n, l) (y ∷ ys) e
  put_ahead Equal m k n l y ys rest e f = put-Less m k (y.0, join y.1 l) ys f
  put_ahead Greater m k n l y ys rest e f = put-Less m k y rest f

  -- the lesser of two messages may go in first or last
  put_swap-Less : (m n : M) (k l : K) (q : List (M × K)) → cmp m n ≡ Less → put m k (put n l q) ≡ put n l (put m k q)
  put_swap-Less m n k l [] e = put-Less m k (n, l) [] e ∙ sym (put-Greater n l (m, k) [] (greater m n e))
  put_swap-Less m n k l (y ∷ ys) e = by (put_swap-Less m n k l ys e) (cmp m y.0) refl
    where
      by : put m k (put n l ys) ≡ put n l (put m k ys) → (r : Ordering) → cmp m y.0 ≡ r
          → put m k (put n l (y ∷ ys)) ≡ put n l (place_marked join r m k y ys (put m k ys))
      by h Less f = put_ahead (cmp n y.0) m k n l y ys (put n l ys) e f
          ∙ sym (put-Greater n l (m, k) (y ∷ ys) (greater m n e))
      by h Equal f =
          let later : cmp n y.0 ≡ Greater = subst (λ z. cmp n z ≡ Greater) (o.same m y.0 f) (greater m n e) in
          ap (put m k) (put-Greater n l y ys later) ∙ put-Equal m k y (put n l ys) f
          ∙ sym (put-Greater n l (y.0, join y.1 k) ys later)
      by h Greater f =
          let first : cmp y.0 m ≡ Less = less_if_greater o.total m y.0 f in
          let later : cmp n y.0 ≡ Greater = greater y.0 n (o.total.trans y.0 m n first e) in
          ap (put m k) (put-Greater n l y ys later) ∙ put-Greater m k y (put n l ys) f ∙ ap (λ t. y ∷ t) h
          ∙ sym (put-Greater n l y (put m k ys) later)

  -- two messages may go in in either order
  put_swap : (m n : M) (k l : K) (q : List (M × K)) → put m k (put n l q) ≡ put n l (put m k q)
  put_swap m n k l q = by (cmp m n) refl
    where
      by : (r : Ordering) → cmp m n ≡ r → put m k (put n l q) ≡ put n l (put m k q)
      by Less e = put_swap-Less m n k l q e
      by Equal e = subst (λ z. put m k (put z l q) ≡ put z l (put m k q)) (o.same m n e)
          (put_twice m k l q ∙ ap (λ j. put m j q) (free.comm l k) ∙ sym (put_twice m l k q))
      by Greater e = sym (put_swap-Less n m l k q (less_if_greater o.total m n e))

  -- ---- put_all

  -- a message may go in before or after others
  pub put_all-put : (xs : List M) (w : K) (m : M) (k : K) (q : List (M × K))
      → put_all xs w (put m k q) ≡ put m k (put_all xs w q)
  put_all-put [] w m k q = refl
  put_all-put (x ∷ xs) w m k q = ap (put_all xs w) (put_swap x m w k q) ∙ put_all-put xs w m k (put x w q)

  -- a message among those that go in with the same marks goes in with these
  pub put_all-insert : (m : M) (xs : List M) (w : K) (q : List (M × K))
      → put_all (insert cmp m xs) w q ≡ put m w (put_all xs w q)
  put_all-insert m [] w q = refl
  put_all-insert m (x ∷ xs) w q = by (put_all-insert m xs w (put x w q)) (cmp m x) refl
    where
      by : put_all (insert cmp m xs) w (put x w q) ≡ put m w (put_all xs w (put x w q)) → (r : Ordering) → cmp m x ≡ r
          → put_all (insert_by r m x xs (insert cmp m xs)) w q ≡ put m w (put_all xs w (put x w q))
      by h Less e = put_all-put (x ∷ xs) w m w q
      by h Equal e = sym (subst (λ z. put z w (put_all xs w (put x w q)) ≡ put_all xs w (put x w q))
          (sym (o.same m x e))
          (sym (put_all-put xs w x w (put x w q))
          ∙ ap (put_all xs w) (put_twice x w w q ∙ ap (λ j. put x j q) (free.idem w))))
      by h Greater e = h

  -- messages after the first go into the rest
  put_all-behind : (xs : List M) (w : K) (z : M × K) (q : List (M × K)) → AllByRecursion (λ x. cmp x z.0 ≡ Greater) xs
      → put_all xs w (z ∷ q) ≡ z ∷ put_all xs w q
  put_all-behind [] w z q h = refl
  put_all-behind (x ∷ xs) w z q h = ap (put_all xs w) (put-Greater x w z q h.0) ∙ put_all-behind xs w z (put x w q) h.1

  -- what a message comes before is after it
  all_greater : (x : M) (xs : List M) → AllByRecursion (λ y. cmp x y ≡ Less) xs
      → AllByRecursion (λ y. cmp y x ≡ Greater) xs
  all_greater x [] h = tt
  all_greater x (y ∷ ys) h = (greater x y h.0, all_greater x ys h.1)

  -- and after all that come before the message
  all_later : (z x : M) (xs : List M) → cmp z x ≡ Less → AllByRecursion (λ y. cmp x y ≡ Less) xs
      → AllByRecursion (λ y. cmp y z ≡ Greater) xs
  all_later z x [] e h = tt
  all_later z x (y ∷ ys) e h = (greater z y (o.total.trans z x y e h.0), all_later z x ys e h.1)

  -- the first is the first of those with the same marks
  pub first_of_common : (x : M) (xs : List M) (w : K) (q : List (M × K)) → Sorted cmp (x ∷ xs)
      → put x w q ≡ (x, w) ∷ q → put_all (x ∷ xs) w q ≡ (x, w) ∷ put_all xs w q
  first_of_common x xs w q s e = ap (put_all xs w) e ∙ put_all-behind xs w (x, w) q (all_greater x xs s.0)

  -- or of the others
  pub first_of_others : (x : M) (xs : List M) (w : K) (y : M × K) (q : List (M × K)) → Sorted cmp (x ∷ xs)
      → cmp x y.0 ≡ Greater → put_all (x ∷ xs) w (y ∷ q) ≡ y ∷ put_all (x ∷ xs) w q
  first_of_others x xs w y q s e = put_all-behind (x ∷ xs) w y q
      (e, all_later y.0 x xs (less_if_greater o.total x y.0 e) s.0)

  -- or of both
  pub first_of_both : (x : M) (xs : List M) (w : K) (y : M × K) (q : List (M × K)) → Sorted cmp (x ∷ xs)
      → cmp x y.0 ≡ Equal → put_all (x ∷ xs) w (y ∷ q) ≡ (y.0, join y.1 w) ∷ put_all xs w q
  first_of_both x xs w y q s e = ap (put_all xs w) (put-Equal x w y q e)
      ∙ put_all-behind xs w (y.0, join y.1 w) q
      (subst (λ z. AllByRecursion (λ l. cmp l z ≡ Greater) xs) (o.same x y.0 e) (all_greater x xs s.0))

  -- a message before the first goes before all
  pub put_first : (m : M) (k : K) (q : List (M × K)) → Above cmp m q → put m k q ≡ (m, k) ∷ q
  put_first m k [] h = refl
  put_first m k (y ∷ ys) h = put-Less m k y ys h.0

  -- the order is kept
  pub sorted_all : (xs : List M) (w : K) (q : List (M × K)) → SortedMarked cmp q → SortedMarked cmp (put_all xs w q)
  sorted_all [] w q s = s
  sorted_all (x ∷ xs) w q s = sorted_all xs w (put x w q) (sorted_insert_marked o.total join x w q s)

  -- ---- cut_by

  module _ {meet : K → K → Option K} (meets : MeetsEach join meet) (by : K) where
    -- the messages whose marks meet `by`
    abbrev cut : List (M × K) → List (M × K)
    cut q = cut_by meet by q

    -- joined marks meet as the first do, if the second do not
    meet_first : (a b : K) → meet b by ≡ None → meet (join a b) by ≡ meet a by
    meet_first a b e = meets.each a b by ∙ ap (join_found join (meet a by)) e ∙ none_last (meet a by)
      where
        none_last : (r : Option K) → join_found join r None ≡ r
        none_last None = refl
        none_last (Some k) = refl

    -- the same first message changes nothing
    same_front : (y : M × K) (k : K) (ys zs : List (M × K)) → meet k by ≡ meet y.1 by → cut ys ≡ cut zs
        → cut ((y.0, k) ∷ ys) ≡ cut (y ∷ zs)
    same_front y k ys zs e f = front (meet y.1 by) refl
      where
        front : (r : Option K) → meet y.1 by ≡ r → cut ((y.0, k) ∷ ys) ≡ cut (y ∷ zs)
        front None g = cut-None meet by (y.0, k) ys (e ∙ g) ∙ f ∙ sym (cut-None meet by y zs g)
        front (Some v) g = cut-Some meet by (y.0, k) v ys (e ∙ g) ∙ ap (λ t. (y.0, v) ∷ t) f
            ∙ sym (cut-Some meet by y v zs g)

    -- a message whose marks do not meet goes in without effect
    cut_put-None : (m : M) (w : K) (q : List (M × K)) → meet w by ≡ None → cut (put m w q) ≡ cut q
    cut_put-None m w [] e = cut-None meet by (m, w) [] e
    cut_put-None m w (y ∷ ys) e = place (cut_put-None m w ys e) (cmp m y.0)
      where
        place : cut (put m w ys) ≡ cut ys → (r : Ordering)
            → cut (place_marked join r m w y ys (put m w ys)) ≡ cut (y ∷ ys)
        place h Less = cut-None meet by (m, w) (y ∷ ys) e
        place h Equal = same_front y (join y.1 w) ys ys (meet_first y.1 w e) refl
        place h Greater = same_front y y.1 (put m w ys) ys refl h

    -- a message whose marks meet goes in with what they share
    cut_put-Some : (m : M) (w u : K) (q : List (M × K)) → meet w by ≡ Some u → SortedMarked cmp q
        → cut (put m w q) ≡ put m u (cut q)
    cut_put-Some m w u [] e s = cut-Some meet by (m, w) u [] e
    cut_put-Some m w u (y ∷ ys) e s = place (cut_put-Some m w u ys e s.1) (cmp m y.0) refl
      where
        -- before all
        ahead : (zs : List (M × K)) → SortedMarked cmp ((m, w) ∷ zs) → (m, u) ∷ cut zs ≡ put m u (cut zs)
        ahead zs t = sym (put_first m u (cut zs) (subst (SortedMarked cmp) (cut-Some meet by (m, w) u zs e)
            (SortedMarked-cut meet by cmp ((m, w) ∷ zs) t)).0)

        -- with an equal message
        tied : cmp m y.0 ≡ Equal → (r : Option K) → meet y.1 by ≡ r
            → cut ((y.0, join y.1 w) ∷ ys) ≡ put m u (cut (y ∷ ys))
        tied f None g = cut-Some meet by (y.0, join y.1 w) u ys
            (meets.each y.1 w by ∙ (λ i. join_found join (g i) (e i)))
            ∙ ap (λ z. (z, u) ∷ cut ys) (sym (o.same m y.0 f))
            ∙ ahead ys (subst (λ z. Above cmp z ys) (sym (o.same m y.0 f)) s.0, s.1)
            ∙ ap (put m u) (sym (cut-None meet by y ys g))
        tied f (Some v) g = cut-Some meet by (y.0, join y.1 w) (join v u) ys
            (meets.each y.1 w by ∙ (λ i. join_found join (g i) (e i)))
            ∙ sym (put-Equal m u (y.0, v) (cut ys) f)
            ∙ ap (put m u) (sym (cut-Some meet by y v ys g))

        -- after a lesser message
        after : cut (put m w ys) ≡ put m u (cut ys) → cmp m y.0 ≡ Greater → (r : Option K) → meet y.1 by ≡ r
            → cut (y ∷ put m w ys) ≡ put m u (cut (y ∷ ys))
        after h f None g = cut-None meet by y (put m w ys) g ∙ h ∙ ap (put m u) (sym (cut-None meet by y ys g))
        after h f (Some v) g = cut-Some meet by y v (put m w ys) g ∙ ap (λ t. (y.0, v) ∷ t) h
            ∙ sym (put-Greater m u (y.0, v) (cut ys) f) ∙ ap (put m u) (sym (cut-Some meet by y v ys g))

        place : cut (put m w ys) ≡ put m u (cut ys) → (r : Ordering) → cmp m y.0 ≡ r
            → cut (place_marked join r m w y ys (put m w ys)) ≡ put m u (cut (y ∷ ys))
        place h Less f = cut-Some meet by (m, w) u (y ∷ ys) e
            ∙ ahead (y ∷ ys) ((f, all_weaker _ _ ys (λ z l. o.total.trans m y.0 z.0 f l) s.0), s)
        place h Equal f = tied f (meet y.1 by) refl
        place h Greater f = after h f (meet y.1 by) refl

    -- messages whose marks do not meet go in without effect
    pub cut_all-None : (xs : List M) (w : K) (q : List (M × K)) → meet w by ≡ None → cut (put_all xs w q) ≡ cut q
    cut_all-None [] w q e = refl
    cut_all-None (x ∷ xs) w q e = cut_all-None xs w (put x w q) e ∙ cut_put-None x w q e

    -- messages whose marks meet go in with what they share
    pub cut_all-Some : (xs : List M) (w u : K) (q : List (M × K)) → meet w by ≡ Some u → SortedMarked cmp q
        → cut (put_all xs w q) ≡ put_all xs u (cut q)
    cut_all-Some [] w u q e s = refl
    cut_all-Some (x ∷ xs) w u q e s = cut_all-Some xs w u (put x w q) e (sorted_insert_marked o.total join x w q s)
        ∙ ap (put_all xs u) (cut_put-Some x w u q e s)

  -- ---- spread_marks

  module _ {meet : K → K → Option K} (meets : MeetsEach join meet) (by more : K) where
    -- more marks for those whose marks meet `by`
    abbrev spread : List (M × K) → List (M × K)
    spread q = spread_marks join meet by more q

    -- the marks that a message has then
    abbrev wider : K → K
    wider k = if is_some (meet k by) then join k more else k

    -- joined marks meet if the second do
    meet_last : (a b u : K) → meet b by ≡ Some u → is_some (meet (join a b) by) ≡ true
    meet_last a b u e = ap is_some (meets.each a b by) ∙ ap (λ r. is_some (join_found join (meet a by) r)) e
        ∙ some_last (meet a by)
      where
        some_last : (r : Option K) → is_some (join_found join r (Some u)) ≡ true
        some_last None = refl
        some_last (Some k) = refl

    -- joined marks, the second of which meet, get more as each of them does
    wider_join : (a b u : K) → meet b by ≡ Some u → wider (join a b) ≡ join (wider a) (join b more)
    wider_join a b u e = ap (λ t. if t then join (join a b) more else join a b) (meet_last a b u e)
        ∙ free.assoc a b more ∙ each (is_some (meet a by))
      where
        each : (t : Bool) → join a (join b more) ≡ join (if t then join a more else a) (join b more)
        each false = refl
        each true = sym (free.assoc a more (join b more)
            ∙ ap (join a) (sym (free.assoc more b more) ∙ ap (λ k. join k more) (free.comm more b)
            ∙ free.assoc b more more ∙ ap (join b) (free.idem more)))

    -- a message whose marks meet goes in with more
    spread_put : (m : M) (w u : K) (q : List (M × K)) → meet w by ≡ Some u
        → spread (put m w q) ≡ put m (join w more) (spread q)
    spread_put m w u [] e = ap (λ r. (m, if is_some r then join w more else w) ∷ []) e
    spread_put m w u (y ∷ ys) e = place (spread_put m w u ys e) (cmp m y.0) refl
      where
        place : spread (put m w ys) ≡ put m (join w more) (spread ys) → (r : Ordering) → cmp m y.0 ≡ r
            → spread (place_marked join r m w y ys (put m w ys)) ≡ put m (join w more) (spread (y ∷ ys))
        place h Less f = ap (λ r. (m, if is_some r then join w more else w) ∷ spread (y ∷ ys)) e
            ∙ sym (put-Less m (join w more) (y.0, wider y.1) (spread ys) f)
        place h Equal f = ap (λ k. (y.0, k) ∷ spread ys) (wider_join y.1 w u e)
            ∙ sym (put-Equal m (join w more) (y.0, wider y.1) (spread ys) f)
        place h Greater f = ap (λ t. (y.0, wider y.1) ∷ t) h
            ∙ sym (put-Greater m (join w more) (y.0, wider y.1) (spread ys) f)

    -- and so do several
    pub spread_all : (xs : List M) (w u : K) (q : List (M × K)) → meet w by ≡ Some u
        → spread (put_all xs w q) ≡ put_all xs (join w more) (spread q)
    spread_all [] w u q e = refl
    spread_all (x ∷ xs) w u q e = spread_all xs w u (put x w q) e ∙ ap (put_all xs (join w more)) (spread_put x w u q e)
