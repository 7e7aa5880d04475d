-- A pass through the triggers at a window's end: the clones that hold the branches, and their order.
use Rattle.std.proofs.Common.{◌≡◌, ℕ, zero, suc, ◌+◌, ◌<◌, ◌≤◌, List, [], ◌∷◌, ◌++◌, inl, inr, Option, Some, None, refl}
use Rattle.std.proofs.Common.{sym, ap, ap₂, ◌∙◌, arith, subst, cond, map, length, length-append, slice_set, append-nil}
use Rattle.std.specs.Prelude.{IsPermutation}
use Rattle.std.specs.List.{range_with_len}
use Rattle.std.proofs.lemmas.Bool.{cases_lt, cases_eq, lt-ltb, le-ltb}
use Rattle.std.proofs.lemmas.List.{length-map, length-set, map-append}
use Rattle.std.proofs.lemmas.List.FromFn.{length-range_with_len}
use Rattle.std.proofs.lemmas.List.Sorted.{IsPermutation-refl, IsPermutation-cons, IsPermutation-trans}
use Rattle.std.proofs.lemmas.List.Sorted.{IsPermutation-sym, IsPermutation-middle, IsPermutation-append_right}
use Rattle.std.proofs.lemmas.List.Sorted.{IsPermutation-to_front, length_permutation}
use Rattle.sim_base.specs.Clones.{Clone, clone_at}
use Rattle.sim_base.proofs.ListLaws.{range_with_len-suc}
use Rattle.run_laws.specs.Queue.{In}
use Rattle.run_laws.specs.Simulation.{Simulation}
use Rattle.run_laws.proofs.HandledStays.{log_at-0}
use Rattle.run_laws.proofs.Places.{clone_push_same, clone_push_other}
use Rattle.watch_points.specs.Due.{due_in}
use Rattle.watch_points.specs.Branches.{Branch, Trigger, initial_branch, present, with_branch, branch_by, outcomes}
use Rattle.watch_points.specs.Branches.{branch_named, branch_from, branch_if_due}
use Rattle.watch_points.specs.Keeping.{HoldsAfter, outcome_after, IsPlaced, option_at, trigger_order, outcome_at}
use Rattle.watch_points.specs.Keeping.{HoldsBranches, ClonesInTriggerOrder}
use Rattle.run_laws.specs.Orders.{IsPlaceOrder}
use Rattle.watch_points.specs.PassLaws.{HoldsAtStart}
use Rattle.watch_points.proofs.Branches.{branches_at-is}

-- ---- range_with_len

-- its elements are below its end
pub range-below : (a n k : ℕ) → In k (range_with_len a n) → k < a + n
range-below a zero k i = absurd i
range-below a (suc n) k (inl e) = omega (arith, e)
range-below a (suc n) k (inr i) = let h = range-below (a + 1) n k i in omega (arith, h)

-- and each number below its end is an element
pub range-has : (a n k : ℕ) → a ≤ k → k < a + n → In k (range_with_len a n)
range-has a zero k l b = absurd (omega (arith, l, b))
range-has a (suc n) k l b = elim (cases_eq k a) [
  | inl e ↦ inl e
  | inr d ↦ inr (range-has (a + 1) n k (omega (arith, l, d)) (omega (arith, b)))
]

-- ---- present

-- a value at a place that had none is one more value
present-set : {X : Type 0} (os : List (Option X)) (i : ℕ) (x : X) → i < length os → option_at os i ≡ None →
    IsPermutation (x ∷ present os) (present (slice_set os i (Some x)))
present-set [] i x l e = absurd (omega (arith, l))
present-set (None ∷ os) zero x l e = IsPermutation-refl (x ∷ present os)
present-set (Some y ∷ os) zero x l e = absurd (cc)
present-set (None ∷ os) (suc i) x l e = present-set os i x (omega (arith, l)) e
present-set (Some y ∷ os) (suc i) x l e =
    IsPermutation-trans (x ∷ y ∷ present os) (y ∷ x ∷ present os) (y ∷ present (slice_set os i (Some x)))
    (IsPermutation-sym (y ∷ x ∷ present os) (x ∷ y ∷ present os) (IsPermutation-middle (y ∷ []) x (present os)))
    (IsPermutation-cons y (x ∷ present os) (present (slice_set os i (Some x)))
    (present-set os i x (omega (arith, l)) e))

-- there are at most as many values as places
pub present-length : {X : Type 0} (os : List (Option X)) → length (present os) ≤ length os
present-length [] = omega arith
present-length (None ∷ os) = let h = present-length os in omega (arith, h)
present-length (Some x ∷ os) = let h = present-length os in omega (arith, h)

-- there are fewer if a place has none
pub present-fewer : {X : Type 0} (os : List (Option X)) (i : ℕ) → i < length os → option_at os i ≡ None →
    length (present os) < length os
present-fewer [] i l e = absurd (omega (arith, l))
present-fewer (None ∷ os) zero l e = let h = present-length os in omega (arith, h)
present-fewer (Some x ∷ os) zero l e = absurd (cc)
present-fewer (None ∷ os) (suc i) l e = let h = present-fewer os i (omega (arith, l)) e in omega (arith, h)
present-fewer (Some x ∷ os) (suc i) l e = let h = present-fewer os i (omega (arith, l)) e in omega (arith, h)

-- a value is at some place
pub present-at : {X : Type 0} (os : List (Option X)) (x : X) → In x (present os) → (j : ℕ) × (option_at os j ≡ Some x)
present-at [] x i = absurd i
present-at (None ∷ os) x i = let h = present-at os x i in (suc h.0, h.1)
present-at (Some y ∷ os) x (inl e) = (zero, ap Some (sym e))
present-at (Some y ∷ os) x (inr i) = let h = present-at os x i in (suc h.0, h.1)

-- if there is none at any place, there are none
present-none : {X Y : Type 0} (xs : List X) → present {X = Y} (map (λ x. None) xs) ≡ []
present-none [] = refl
present-none (x ∷ xs) = present-none xs

-- ---- option_at

option_at-none : {X Y : Type 0} (xs : List X) (i : ℕ) → option_at {X = Y} (map (λ x. None) xs) i ≡ None
option_at-none [] i = refl
option_at-none (x ∷ xs) zero = refl
option_at-none (x ∷ xs) (suc i) = option_at-none xs i

option_at-set_same : {X : Type 0} (os : List (Option X)) (i : ℕ) (o : Option X) → i < length os →
    option_at (slice_set os i o) i ≡ o
option_at-set_same [] i o l = absurd (omega (arith, l))
option_at-set_same (p ∷ os) zero o l = refl
option_at-set_same (p ∷ os) (suc i) o l = option_at-set_same os i o (omega (arith, l))

option_at-set_other : {X : Type 0} (os : List (Option X)) (i j : ℕ) (o : Option X) → (j ≡ i → ⊥) →
    option_at (slice_set os i o) j ≡ option_at os j
option_at-set_other [] i j o n = refl
option_at-set_other (p ∷ os) zero zero o n = absurd (n refl)
option_at-set_other (p ∷ os) zero (suc j) o n = refl
option_at-set_other (p ∷ os) (suc i) zero o n = refl
option_at-set_other (p ∷ os) (suc i) (suc j) o n = option_at-set_other os i j o (λ e. n (ap suc e))

-- ---- IsPlaced

-- one more clone leaves the branches at their places
IsPlaced-more : (cs : List Clone) (c : Clone) (o : Option Branch) (p : Option ℕ) → IsPlaced cs o p →
    IsPlaced (cs ++ c ∷ []) o p
IsPlaced-more cs c None None h = tt
IsPlaced-more cs c None (Some k) h = absurd h
IsPlaced-more cs c (Some b) None h = absurd h
IsPlaced-more cs c (Some b) (Some k) h =
    let below = h.0 in
    let many : length (cs ++ c ∷ []) ≡ length cs + 1 = length-append cs (c ∷ []) in
    (omega (arith, below, many), clone_push_other cs c k (λ e. let no : ⊥ = omega (arith, below, e) in no) ∙ h.1)

-- the added clone is the last
IsPlaced-last : (cs : List Clone) (b : Branch) → IsPlaced (cs ++ b.clone ∷ []) (Some b) (Some (length cs))
IsPlaced-last cs b =
    let many : length (cs ++ b.clone ∷ []) ≡ length cs + 1 = length-append cs (b.clone ∷ []) in
    (omega (arith, many), clone_push_same cs b.clone)

-- ---- trigger_order

-- if these are the places of all clones, there are at least n clones
pub clones-at_least : (n : ℕ) (cs : List Clone) (places : List (Option ℕ)) →
    IsPlaceOrder (length cs) (trigger_order n places) → n ≤ length cs
clones-at_least n cs places order = omega (
  arith,
  length_permutation (range_with_len 0 (length cs)) (trigger_order n places) order,
  length-append (range_with_len 0 n) (present places),
  length-range_with_len 0 (length cs),
  length-range_with_len 0 n,
)

-- ---- in_order

-- the clones at the branches' places
clone_at-placed : (cs : List Clone) (os : List (Option Branch)) (places : List (Option ℕ)) → length places ≡ length os →
    ((j : ℕ) → IsPlaced cs (option_at os j) (option_at places j)) →
    map (clone_at cs) (present places) ≡ map (λ (b : Branch). b.clone) (present os)
clone_at-placed cs [] [] l f = refl
clone_at-placed cs [] (p ∷ ps) l f = absurd (omega (arith, l))
clone_at-placed cs (o ∷ os) [] l f = absurd (omega (arith, l))
clone_at-placed cs (None ∷ os) (None ∷ ps) l f = clone_at-placed cs os ps (omega (arith, l)) (λ j. f (suc j))
clone_at-placed cs (None ∷ os) (Some k ∷ ps) l f = absurd (f zero)
clone_at-placed cs (Some b ∷ os) (None ∷ ps) l f = absurd (f zero)
clone_at-placed cs (Some b ∷ os) (Some k ∷ ps) l f =
    ap₂ (λ (c : Clone) (cs : List Clone). c ∷ cs) (f zero).1
    (clone_at-placed cs os ps (omega (arith, l)) (λ j. f (suc j)))

-- the clones at the first places
clone_at-range : (cs before ls : List Clone) →
    ((k : ℕ) → k < length ls → clone_at cs (length before + k) ≡ clone_at ls k) →
    map (clone_at cs) (range_with_len (length before) (length ls)) ≡ ls
clone_at-range cs before [] f = refl
clone_at-range cs before (c ∷ ls) f =
    let zero_at : length before ≡ length before + 0 = omega arith in
    let more : length (before ++ c ∷ []) ≡ length before + 1 = length-append before (c ∷ []) in
    ap₂ (λ (x : Clone) (xs : List Clone). x ∷ xs) (ap (clone_at cs) zero_at ∙ f zero (omega arith))
    (subst (λ n. map (clone_at cs) (range_with_len n (length ls)) ≡ ls) more
    (clone_at-range cs (before ++ c ∷ []) ls (λ k l.
    let e : length (before ++ c ∷ []) + k ≡ length before + suc k = omega (arith, more) in
    ap (clone_at cs) e ∙ f (suc k) (omega (arith, l)))))

-- the clones of the script's branches
initial_branch-clones : (ls : List Clone) → map (λ (b : Branch). b.clone) (map initial_branch ls) ≡ ls
initial_branch-clones [] = refl
initial_branch-clones (c ∷ ls) = ap (λ l. c ∷ l) (initial_branch-clones ls)

module _ {S M N : Type 0} (sim : Simulation S M N) where
  length-outcomes : (front : ℕ) (bs : List Branch) (ws : List (Trigger N)) →
      length (outcomes sim front bs ws) ≡ length ws
  length-outcomes front bs [] = refl
  length-outcomes front bs (w ∷ ws) = ap suc (length-outcomes front (with_branch bs (branch_by sim front bs w)) ws)

  -- in the order of the triggers the clones are the script's clones and the branches
  pub clones_in_trigger_order : ClonesInTriggerOrder sim
  clones_in_trigger_order front ls ws cs places k =
      let bs : List Branch = map initial_branch ls in
      map-append (clone_at cs) (range_with_len 0 (length ls)) (present places)
      ∙ ap₂ (λ (xs ys : List Clone). xs ++ ys) (clone_at-range cs [] ls (λ i l. ap (clone_at cs)
      (let e : 0 + i ≡ i = omega arith in e) ∙ k.script i l))
      (clone_at-placed cs (outcomes sim front (map initial_branch ls) ws) places
      (k.same_length ∙ sym (length-outcomes front (map initial_branch ls) ws)) k.placed)
      ∙ ap (λ xs. xs ++ map (λ (b : Branch). b.clone) (present (outcomes sim front (map initial_branch ls) ws)))
      (sym (initial_branch-clones ls))
      ∙ sym (map-append (λ (b : Branch). b.clone) (map initial_branch ls)
      (present (outcomes sim front (map initial_branch ls) ws)))
      ∙ ap (map (λ (b : Branch). b.clone)) (sym (branches_at-is sim front (map initial_branch ls) ws))

  -- ---- HoldsBranches

  -- at front 0 each log is empty, so no trigger makes a branch
  branch_by-0 : (bs : List Branch) (w : Trigger N) → branch_by sim 0 bs w ≡ None
  branch_by-0 bs w = by (branch_named w.who bs)
    where
      by : (o : Option Branch) → branch_from sim 0 w o ≡ None
      by None = refl
      by (Some b) = ap (λ es. branch_if_due sim w b.clone (due_in sim.time w.condition b.start es))
          (log_at-0 sim b.clone w.station)

  outcomes-0 : (bs : List Branch) (ws : List (Trigger N)) (i : ℕ) → option_at (outcomes sim 0 bs ws) i ≡ None
  outcomes-0 bs [] i = refl
  outcomes-0 bs (w ∷ ws) zero = branch_by-0 bs w
  outcomes-0 bs (w ∷ ws) (suc i) = outcomes-0 (with_branch bs (branch_by sim 0 bs w)) ws i

  -- and the script's clones hold the branches
  pub holds_at_start : HoldsAtStart sim
  holds_at_start ls ws =
      let firsts : List ℕ = range_with_len 0 (length ls) in
      record {
        script = λ k l. refl;
        same_length = length-map ws (λ w. None);
        placed = λ j. subst (λ o. IsPlaced ls o (option_at (map (λ w. None) ws) j))
            (sym (outcomes-0 (map initial_branch ls) ws j))
            (subst (λ p. IsPlaced ls None p) (sym (option_at-none ws j)) tt);
        order = subst (λ l. IsPermutation firsts l)
            (sym (ap (λ l. firsts ++ l) (present-none ws) ∙ append-nil firsts)) (IsPermutation-refl firsts);
      }

  -- ---- HoldsAfter

  module _ (front bound : ℕ) (ls : List Clone) (ws : List (Trigger N)) where
    outcome_after-passed : (i j : ℕ) → j < i → outcome_after sim front bound ls ws i j ≡ outcome_at sim bound ls ws j
    outcome_after-passed i j l = ap (λ b. cond b (outcome_at sim bound ls ws j) (outcome_at sim front ls ws j))
        (lt-ltb j i l)

    pub outcome_after-ahead : (i j : ℕ) → i ≤ j → outcome_after sim front bound ls ws i j ≡ outcome_at sim front ls ws j
    outcome_after-ahead i j l = ap (λ b. cond b (outcome_at sim bound ls ws j) (outcome_at sim front ls ws j))
        (le-ltb j i l)

    outcome_after-other : (i j : ℕ) → (j ≡ i → ⊥) →
        outcome_after sim front bound ls ws (i + 1) j ≡ outcome_after sim front bound ls ws i j
    outcome_after-other i j n = elim (cases_lt j i) [
      | inl l ↦ outcome_after-passed (i + 1) j (omega (arith, l)) ∙ sym (outcome_after-passed i j l)
      | inr l ↦ outcome_after-ahead (i + 1) j (omega (arith, l, n)) ∙ sym (outcome_after-ahead i j l)
    ]

    -- before the first trigger
    pub pass_begins : (cs : List Clone) (places : List (Option ℕ)) → HoldsBranches sim front ls ws cs places →
        HoldsAfter sim front bound ls ws 0 cs places
    pass_begins cs places k = record {
      script = k.script;
      same_length = k.same_length;
      placed = λ j. subst (λ o. IsPlaced cs o (option_at places j)) (sym (outcome_after-ahead 0 j (omega arith)))
          (k.placed j);
      order = k.order;
    }

    -- after the last trigger
    pub pass_ends : (cs : List Clone) (places : List (Option ℕ)) →
        HoldsAfter sim front bound ls ws (length ws) cs places → HoldsBranches sim bound ls ws cs places
    pass_ends cs places h = record {
      script = h.script;
      same_length = h.same_length;
      placed = λ j. elim (cases_lt j (length ws)) [
        | inl l ↦ subst (λ o. IsPlaced cs o (option_at places j)) (outcome_after-passed (length ws) j l) (h.placed j)
        | inr l ↦
            subst (λ o. IsPlaced cs o (option_at places j))
            (sym (past (outcomes sim bound (map initial_branch ls) ws) j
            (omega (arith, l, length-outcomes bound (map initial_branch ls) ws))))
            (subst (λ p. IsPlaced cs None p) (sym (past places j (let m = h.same_length in omega (arith, l, m)))) tt)
      ];
      order = h.order;
    }
      where
        past : {X : Type 0} (os : List (Option X)) (j : ℕ) → length os ≤ j → option_at os j ≡ None
        past [] j l = refl
        past (o ∷ os) zero l = absurd (omega (arith, l))
        past (o ∷ os) (suc j) l = past os j (omega (arith, l))

    -- a trigger with the same outcome at front and bound
    pub pass_stays : (i : ℕ) (cs : List Clone) (places : List (Option ℕ)) →
        outcome_at sim front ls ws i ≡ outcome_at sim bound ls ws i → HoldsAfter sim front bound ls ws i cs places →
        HoldsAfter sim front bound ls ws (i + 1) cs places
    pass_stays i cs places e h = record {
      script = h.script;
      same_length = h.same_length;
      placed = λ j. elim (cases_eq j i) [
        | inl is ↦ subst (λ o. IsPlaced cs o (option_at places j))
            (outcome_after-ahead i j (omega (arith, is)) ∙ ap (outcome_at sim front ls ws) is ∙ e
            ∙ ap (outcome_at sim bound ls ws) (sym is) ∙ sym (outcome_after-passed (i + 1) j (omega (arith, is))))
            (h.placed j)
        | inr n ↦ subst (λ o. IsPlaced cs o (option_at places j)) (sym (outcome_after-other i j n)) (h.placed j)
      ];
      order = h.order;
    }

    -- a trigger that has made no branch so far has no place
    pub no_place : (i : ℕ) (cs : List Clone) (places : List (Option ℕ)) → outcome_at sim front ls ws i ≡ None →
        HoldsAfter sim front bound ls ws i cs places → option_at places i ≡ None
    no_place i cs places e h = by (option_at places i) refl
        (subst (λ o. IsPlaced cs o (option_at places i)) (outcome_after-ahead i i (omega arith) ∙ e) (h.placed i))
      where
        by : (p : Option ℕ) → option_at places i ≡ p → IsPlaced cs None (option_at places i) → option_at places i ≡ None
        by None f g = f
        by (Some k) f g = absurd (subst (IsPlaced cs None) f g)

    -- a trigger that makes a branch now: the branch is the last clone
    pub pass_grows : (i : ℕ) (cs : List Clone) (places : List (Option ℕ)) (y : Branch) → i < length ws →
        outcome_at sim front ls ws i ≡ None → outcome_at sim bound ls ws i ≡ Some y →
        HoldsAfter sim front bound ls ws i cs places →
        HoldsAfter sim front bound ls ws (i + 1) (cs ++ y.clone ∷ []) (slice_set places i (Some (length cs)))
    pass_grows i cs places y below e f h =
        let many = h.same_length in
        let enough = clones-at_least (length ls) cs places h.order in
        let here : i < length places = omega (arith, below, many) in
        let none : option_at places i ≡ None = no_place i cs places e h in
        let more : length (cs ++ y.clone ∷ []) ≡ suc (length cs) = omega (arith, length-append cs (y.clone ∷ [])) in
        let firsts : List ℕ = range_with_len 0 (length ls) in
        record {
          script = λ k l. clone_push_other cs y.clone k (λ d. let no : ⊥ = omega (arith, d, l, enough) in no)
              ∙ h.script k l;
          same_length = length-set places i (Some (length cs)) ∙ many;
          placed = λ j. elim (cases_eq j i) [
            | inl is ↦ subst (λ k. IsPlaced (cs ++ y.clone ∷ []) (outcome_after sim front bound ls ws (i + 1) k)
                (option_at (slice_set places i (Some (length cs))) k)) (sym is)
                (subst (λ o. IsPlaced (cs ++ y.clone ∷ []) o (option_at (slice_set places i (Some (length cs))) i))
                (sym (outcome_after-passed (i + 1) i (omega arith) ∙ f))
                (subst (λ p. IsPlaced (cs ++ y.clone ∷ []) (Some y) p)
                (sym (option_at-set_same places i (Some (length cs)) here)) (IsPlaced-last cs y)))
            | inr n ↦ subst (λ o. IsPlaced (cs ++ y.clone ∷ []) o (option_at (slice_set places i (Some (length cs))) j))
                (sym (outcome_after-other i j n))
                (subst (λ p. IsPlaced (cs ++ y.clone ∷ []) (outcome_after sim front bound ls ws i j) p)
                (sym (option_at-set_other places i j (Some (length cs)) n))
                (IsPlaced-more cs y.clone (outcome_after sim front bound ls ws i j) (option_at places j) (h.placed j)))
          ];
          order =
              subst (λ n. IsPlaceOrder n (trigger_order (length ls) (slice_set places i (Some (length cs))))) (sym more)
              (subst (λ l. IsPermutation l (trigger_order (length ls) (slice_set places i (Some (length cs)))))
              (sym (range_with_len-suc 0 (length cs) ∙ ap (λ k. range_with_len 0 (length cs) ++ k ∷ [])
              (let z : 0 + length cs ≡ length cs = omega arith in z)))
              (IsPermutation-trans (range_with_len 0 (length cs) ++ length cs ∷ [])
              (length cs ∷ trigger_order (length ls) places)
              (trigger_order (length ls) (slice_set places i (Some (length cs))))
              (IsPermutation-trans (range_with_len 0 (length cs) ++ length cs ∷ [])
              (length cs ∷ range_with_len 0 (length cs)) (length cs ∷ trigger_order (length ls) places)
              (IsPermutation-to_front (range_with_len 0 (length cs)) (length cs))
              (IsPermutation-cons (length cs) (range_with_len 0 (length cs)) (trigger_order (length ls) places)
              h.order))
              (IsPermutation-trans (length cs ∷ trigger_order (length ls) places)
              (firsts ++ length cs ∷ present places)
              (trigger_order (length ls) (slice_set places i (Some (length cs))))
              (IsPermutation-sym (firsts ++ length cs ∷ present places) (length cs ∷ trigger_order (length ls) places)
              (IsPermutation-middle firsts (length cs) (present places)))
              (IsPermutation-append_right firsts (length cs ∷ present places)
              (present (slice_set places i (Some (length cs)))) (present-set places i (length cs) here none)))));
        }
