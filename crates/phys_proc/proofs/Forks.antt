-- One more clone in a copy, next to its origin.
use Rattle.std.proofs.Common.{◌≡◌, ◌≢◌, ℕ, ◌*◌, ◌≤◌, ◌==◌, ◌&&◌, ◌||◌, Bool, true, false}
use Rattle.std.proofs.Common.{cond, List, [], ◌∷◌, inl, inr, Option, Some, None, refl, sym}
use Rattle.std.proofs.Common.{ap, ap₂, ◌∙◌, subst, eq-eqb, eqb-true, nat_lt, arith, length, map}
use Rattle.std.specs.Prelude.{is_some}
use Rattle.std.specs.List.{AllByRecursion, AllZip}
use Rattle.std.proofs.Math.Bool.{and-true, and-false, or-true, or-false}
use Rattle.std.proofs.Math.Nat.{mul-le-mul_right}
use Rattle.std.proofs.lemmas.Bool.{cases_Bool, cases_eq, ne_eqb, or_left, or_parts}
use Rattle.sim_base.specs.Order.{msg_cmp}
use Rattle.sim_base.specs.Pending.{spread_marks}
use Rattle.sim_base.specs.declared.message.Msg.{Msg}
use Rattle.clone_sets.specs.Sets.{has, one, with, union, meet, common, empty, size}
use Rattle.clone_sets.specs.declared.set.CloneSet.{CloneSet}
use Rattle.clone_sets.proofs.SetLaws.{has-union, has-meet, has-one, has-with, has-empty}
use Rattle.clone_sets.proofs.SetLaws.{same_members, empty_from_none, common_none, common_is}
use Rattle.net_model.specs.Net.{Net}
use Rattle.stations.specs.Runs.{simulation}
use Rattle.sim_base.specs.Marked.{SortedMarked}
use Rattle.run_laws.specs.Copies.{IsForked, Carries, Disjoint, origin_of, part}
use Rattle.std.proofs.lemmas.Bool.{false≢true}
use Rattle.sim_base.proofs.ListLaws.{all_weaker}
use Rattle.sim_base.proofs.Cutting.{SortedMarked-spread}
use Rattle.phys_proc.specs.Own.{StationCopy, MarkedMessages, AreMarks, IsCopy, IsLowerBound}
use Rattle.phys_proc.specs.Own.{IsLowerBoundOfAll, copy_after_fork, taken_at, all_clones, handled_alone_by}
use Rattle.phys_proc.specs.Procs.{KeepsShares}
use Rattle.phys_proc.proofs.Counting.{empty_within, size_disjoint}
use Rattle.phys_proc.proofs.Halves.{IsCopy-like}

-- ---- set_after_fork

module _ (old new : ℕ) where
  -- a set shares a clone with that of the old clone alone just if it has that clone
  test_is : (k : CloneSet) → is_some (common k (one old)) ≡ has k old
  test_is k = by_met (common k (one old)) refl
    where
      none_at : has k old ≡ false → (d : ℕ) → (has k d && (old == d)) ≡ false
      none_at n d = elim (cases_eq old d) [
        | inl e ↦ ap (λ b. b && (old == d)) (sym (ap (has k) e) ∙ n)
        | inr f ↦ ap (λ b. has k d && b) (ne_eqb old d f) ∙ and-false (has k d)
      ]

      by_met : (o : Option CloneSet) → common k (one old) ≡ o → is_some o ≡ has k old
      by_met None e = sym (sym (and-true (has k old))
          ∙ ap (λ b. has k old && b) (sym (has-one old old ∙ eq-eqb old old refl)) ∙ common_none k (one old) e old)
      by_met (Some j) e = elim (cases_Bool (has k old)) [
        | inl y ↦ sym y
        | inr n ↦ absurd ((common_is k (one old) j e).1
            ((common_is k (one old) j e).0 ∙ empty_from_none (meet k (one old))
            (λ d. has-meet k (one old) d ∙ ap (λ b. has k d && b) (has-one old d) ∙ none_at n d)))
      ]

  -- a set with the new clone if it has the old one
  abbrev set_after_fork : CloneSet → CloneSet
  set_after_fork k = cond (is_some (common k (one old))) (union k (one new)) k

  -- it has a clone if it had the clone's origin
  has-set_after_fork : (k : CloneSet) (c : ℕ) → has k new ≡ false
      → has (set_after_fork k) c ≡ has k (origin_of old new c)
  has-set_after_fork k c fresh = ap (λ b. has (cond b (union k (one new)) k) c) (test_is k) ∙ by_old (has k old) refl
    where
      there : c ≡ new → has k (origin_of old new c) ≡ has k old
      there e = ap (λ b. has k (cond b old c)) (eq-eqb c new e)

      elsewhere : (c ≡ new → ⊥) → has k (origin_of old new c) ≡ has k c
      elsewhere n = ap (λ b. has k (cond b old c)) (ne_eqb c new n)

      by_old : (b : Bool) → has k old ≡ b → has (cond b (union k (one new)) k) c ≡ has k (origin_of old new c)
      by_old true y = has-union k (one new) c ∙ ap (λ b. has k c || b) (has-one new c) ∙ elim (cases_eq c new) [
        | inl e ↦ ap (λ b. has k c || b) (eq-eqb new c (sym e)) ∙ or-true (has k c) ∙ sym (there e ∙ y)
        | inr n ↦ ap (λ b. has k c || b) (ne_eqb new c (λ e. n (sym e))) ∙ or-false (has k c) ∙ sym (elsewhere n)
      ]
      by_old false y = elim (cases_eq c new) [
        | inl e ↦ ap (has k) e ∙ fresh ∙ sym (there e ∙ y)
        | inr n ↦ sym (elsewhere n)
      ]

  -- and the clones of a set stay in it
  set_after_fork-has : (k : CloneSet) (c : ℕ) → has k c ≡ true → has (set_after_fork k) c ≡ true
  set_after_fork-has k c i = by_test (is_some (common k (one old)))
    where
      by_test : (b : Bool) → has (cond b (union k (one new)) k) c ≡ true
      by_test true = has-union k (one new) c ∙ or_left (has k c) (has (one new) c) i
      by_test false = i

  -- ---- spread and IsForked

  -- pending messages with the new clone next to the old one
  abbrev pub spread : MarkedMessages → MarkedMessages
  spread xs = spread_marks union common (one old) (one new) xs

  -- of the spread messages a clone takes those that its origin takes
  taken_spread : (ends : ℕ → ℕ) (c : ℕ) (xs : MarkedMessages) → AllByRecursion (λ x. has x.1 new ≡ false) xs
      → part (λ m k c. has k c && nat_lt m.key.time (ends (origin_of old new c))) c (spread xs) ≡ taken_at ends
      (origin_of old new c) xs
  taken_spread ends c [] f = refl
  taken_spread ends c (x ∷ xs) f =
      ap (λ b. cond (b && nat_lt x.0.key.time (ends (origin_of old new c)))
      (x.0 ∷ part (λ m k c. has k c && nat_lt m.key.time (ends (origin_of old new c))) c (spread xs))
      (part (λ m k c. has k c && nat_lt m.key.time (ends (origin_of old new c))) c (spread xs)))
      (has-set_after_fork x.1 c f.0)
      ∙ ap (λ l. cond (has x.1 (origin_of old new c) && nat_lt x.0.key.time (ends (origin_of old new c))) (x.0 ∷ l) l)
      (taken_spread ends c xs f.1)

  -- a property of all messages holds of the spread ones
  all_spread : (P : Msg → Type 0) (xs : MarkedMessages) → AllByRecursion (λ x. P x.0) xs
      → AllByRecursion (λ x. P x.0) (spread xs)
  all_spread P [] f = tt
  all_spread P (x ∷ xs) f = (f.0, all_spread P xs f.1)

  -- the copy with the new clone
  abbrev forked_copy : StationCopy → StationCopy
  forked_copy a = record { set = set_after_fork a.set; state = a.state; log = a.log; pending = spread a.pending }

  -- if a copy does not have the new clone, its forked copy is it with the new clone next to the old one
  is_forked : (net : Net) (ends : ℕ → ℕ) (a : StationCopy) → has a.set new ≡ false
      → AllByRecursion (λ x. has x.1 new ≡ false) a.pending → SortedMarked msg_cmp a.pending
      → IsForked (simulation net) has ends old new a (forked_copy a)
  is_forked net ends a fresh marks sorted = record {
    log = refl;
    state = refl;
    set = λ c. has-set_after_fork a.set c fresh;
    parts = λ c. taken_spread ends c a.pending marks;
    sorted = SortedMarked-spread union common (one old) (one new) msg_cmp a.pending sorted;
  }

-- ---- copy_after_fork: only the copy of the old clone is changed

module _ (old new : ℕ) where
  -- marks without the old clone stay
  set_after_fork-other : (k : CloneSet) → has k old ≡ false → set_after_fork old new k ≡ k
  set_after_fork-other k n = ap (λ b. cond b (union k (one new)) k) (test_is old new k ∙ n)

  -- and so do messages of which none is marked with the old clone
  spread_stays : (xs : MarkedMessages) → AllByRecursion (λ x. has x.1 old ≡ false) xs → spread old new xs ≡ xs
  spread_stays [] f = refl
  spread_stays (x ∷ xs) f = λ i. (x.0, set_after_fork-other x.1 f.0 i) ∷ spread_stays xs f.1 i

  -- a clone that a copy does not have is in no marks of it
  no_mark : (set : CloneSet) (c : ℕ) (xs : MarkedMessages) → has set c ≡ false
      → AllByRecursion (λ x. AreMarks set x.1) xs
      → AllByRecursion (λ x. has x.1 c ≡ false) xs
  no_mark set c xs n f = all_weaker (λ x. AreMarks set x.1) (λ x. has x.1 c ≡ false) xs
      (λ x m. elim (cases_Bool (has x.1 c)) [ inl y ↦ absurd (false≢true (sym n ∙ m.within c y)) | inr o ↦ o ]) f

  -- the copy as `fork` leaves it
  forked_is : (net : Net) (s : ℕ) (a : StationCopy) → IsCopy net s a → copy_after_fork old new a ≡ forked_copy old new a
  forked_is net s a f = by_old (has a.set old) refl
    where
      by_old : (b : Bool) → has a.set old ≡ b
          → cond b (record { set = with a.set new; state = a.state; log = a.log; pending = spread old new a.pending })
          a ≡ forked_copy old new a
      by_old true y = λ i. record {
        set = ap (λ b. cond b (union a.set (one new)) a.set)
            (sym (test_is old new a.set ∙ y)) i;
        state = a.state;
        log = a.log;
        pending = spread old new a.pending;
      }
      by_old false n = λ i. record {
        set = sym (set_after_fork-other a.set n) i;
        state = a.state;
        log = a.log;
        pending = sym (spread_stays a.pending (no_mark a.set old a.pending n f.marks)) i;
      }

  module _ (net : Net) (s : ℕ) where
    -- marks of a copy are, with the new clone next to the old one, marks of the copy with the new clone
    marks_grow : (set : CloneSet) (xs : MarkedMessages) → has set new ≡ false
        → AllByRecursion (λ x. AreMarks set x.1) xs
        → AllByRecursion (λ x. AreMarks (set_after_fork old new set) x.1) (spread old new xs)
    marks_grow set [] n f = tt
    marks_grow set (x ∷ xs) n f = (
      record {
        nonempty = λ e. f.0.nonempty (empty_within x.1 (set_after_fork old new x.1) (set_after_fork-has old new x.1) e);
        within = λ c i. has-set_after_fork old new set c n
            ∙ f.0.within (origin_of old new c) (sym (has-set_after_fork old new x.1 c (fresh x.1 f.0)) ∙ i);
      },
      marks_grow set xs n f.1,
    )
      where
        fresh : (k : CloneSet) → AreMarks set k → has k new ≡ false
        fresh k m = elim (cases_Bool (has k new)) [ inl y ↦ absurd (false≢true (sym n ∙ m.within new y)) | inr o ↦ o ]

    -- a copy of the station is one still with the new clone
    forked_copy-fits : (a : StationCopy) → has a.set new ≡ false → IsCopy net s a → IsCopy net s (forked_copy old new a)
    forked_copy-fits a n f = IsCopy-like net s a (forked_copy old new a) f refl refl
        (f.inhabited.0, set_after_fork-has old new a.set f.inhabited.0 f.inhabited.1)
        (SortedMarked-spread union common (one old) (one new) msg_cmp a.pending f.sorted)
        (all_spread old new (λ m. m.to ≡ s) a.pending f.targets)
        (marks_grow a.set a.pending n f.marks)

    -- copies of a station, none of which has the new clone, are copies of it still with that clone
    pub forked_fits : (xs : List StationCopy) → AllByRecursion (λ a. has a.set new ≡ false) xs
        → AllByRecursion (IsCopy net s) xs → AllByRecursion (IsCopy net s) (map (copy_after_fork old new) xs)
    forked_fits [] n f = tt
    forked_fits (x ∷ xs) n f = (
      subst (IsCopy net s) (sym (forked_is net s x f.0)) (forked_copy-fits x n.0 f.0),
      forked_fits xs n.1 f.1,
    )

    -- and each copy is the same, with the new clone next to the old one
    pub all_forked : (ends : ℕ → ℕ) (xs : List StationCopy) → AllByRecursion (λ a. has a.set new ≡ false) xs
        → AllByRecursion (IsCopy net s) xs
        → AllZip (IsForked (simulation net) has ends old new) xs (map (copy_after_fork old new) xs)
    all_forked ends [] n f = tt
    all_forked ends (x ∷ xs) n f = (
      subst (IsForked (simulation net) has ends old new x) (sym (forked_is net s x f.0))
          (is_forked old new net ends x n.0 (no_mark x.set new x.pending n.0 f.0.marks) f.0.sorted),
      all_forked ends xs n.1 f.1,
    )

  -- ---- all_clones and KeepsShares

  -- its clones are those of the set after the fork
  set_is : (a : StationCopy) → (copy_after_fork old new a).set ≡ set_after_fork old new a.set
  set_is a = by_test (has a.set old) ∙ ap (λ b. cond b (union a.set (one new)) a.set) (sym (test_is old new a.set))
    where
      by_test : (b : Bool) → (cond b
          (record { set = with a.set new; state = a.state; log = a.log; pending = spread old new a.pending }) a).set
          ≡ cond b (union a.set (one new)) a.set
      by_test true = refl
      by_test false = refl

  -- its log is the same
  log_is : (a : StationCopy) → (copy_after_fork old new a).log ≡ a.log
  log_is a = by_test (has a.set old)
    where
      by_test : (b : Bool) → (cond b
          (record { set = with a.set new; state = a.state; log = a.log; pending = spread old new a.pending }) a).log
          ≡ a.log
      by_test true = refl
      by_test false = refl

  -- it has a clone if it had the clone's origin
  has_at : (a : StationCopy) (c : ℕ) → has a.set new ≡ false
      → has (copy_after_fork old new a).set c ≡ has a.set (origin_of old new c)
  has_at a c n = ap (λ k. has k c) (set_is a) ∙ has-set_after_fork old new a.set c n

  -- if all copies together do not have the new clone, none of them has it
  none_new : (xs : List StationCopy) → has (all_clones xs) new ≡ false → AllByRecursion (λ a. has a.set new ≡ false) xs
  none_new [] n = tt
  none_new (x ∷ xs) n = let h = or_parts (has x.set new) (has (all_clones xs) new)
      (sym (has-union x.set (all_clones xs) new) ∙ n) in (h.0, none_new xs h.1)

  -- a clone that is not among those of all copies together is in none of them
  pub fresh_in : (living : CloneSet) (xs : List StationCopy) → all_clones xs ≡ living → has living new ≡ false
      → AllByRecursion (λ a. has a.set new ≡ false) xs
  fresh_in living xs e n = none_new xs (ap (λ k. has k new) e ∙ n)

  -- all copies together have a clone if they had the clone's origin
  clones_at : (xs : List StationCopy) (c : ℕ) → AllByRecursion (λ a. has a.set new ≡ false) xs
      → has (all_clones (map (copy_after_fork old new) xs)) c ≡ has (all_clones xs) (origin_of old new c)
  clones_at [] c n = has-empty c ∙ sym (has-empty (origin_of old new c))
  clones_at (x ∷ xs) c n =
      has-union (copy_after_fork old new x).set (all_clones (map (copy_after_fork old new) xs)) c
      ∙ ap₂ (λ a b. a || b) (has_at x c n.0) (clones_at xs c n.1)
      ∙ sym (has-union x.set (all_clones xs) (origin_of old new c))

  -- and so have the living clones
  with_at : (living : CloneSet) (c : ℕ) → has living old ≡ true
      → has (with living new) c ≡ has living (origin_of old new c)
  with_at living c y = has-with living new c ∙ elim (cases_eq c new) [
    | inl e ↦ ap (λ b. b || has living c) (eq-eqb new c (sym e))
        ∙ sym (ap (λ b. has living (cond b old c)) (eq-eqb c new e) ∙ y)
    | inr f ↦ ap (λ b. b || has living c) (ne_eqb new c (λ e. f (sym e)))
        ∙ sym (ap (λ b. has living (cond b old c)) (ne_eqb c new f))
  ]

  -- a copy that shares no clone with others shares none with them then
  apart_one : (x : StationCopy) (xs : List StationCopy) → has x.set new ≡ false
      → AllByRecursion (λ a. has a.set new ≡ false) xs
      → AllByRecursion (λ b. (c : ℕ) → Carries has x c → ¬ (Carries has b c)) xs →
      AllByRecursion (λ b. (c : ℕ) → Carries has (copy_after_fork old new x) c → ¬ (Carries has b c))
      (map (copy_after_fork old new) xs)
  apart_one x [] n ns f = tt
  apart_one x (y ∷ ys) n ns f = (
    λ c i j. f.0 (origin_of old new c) (sym (has_at x c n) ∙ i)
        (sym (has_at y c ns.0) ∙ j),
    apart_one x ys n ns.1 f.1,
  )

  -- copies that share no clone share none then
  disjoint_all : (xs : List StationCopy) → AllByRecursion (λ a. has a.set new ≡ false) xs → Disjoint has xs
      → Disjoint has (map (copy_after_fork old new) xs)
  disjoint_all [] n d = tt
  disjoint_all (x ∷ xs) n d = (apart_one x xs n.0 n.1 d.0, disjoint_all xs n.1 d.1)

  -- copies that have clones have some then
  some_in_each : (xs : List StationCopy) → AllByRecursion (λ a. a.set ≢ empty) xs
      → AllByRecursion (λ a. a.set ≢ empty) (map (copy_after_fork old new) xs)
  some_in_each [] f = tt
  some_in_each (x ∷ xs) f = (
    λ e. f.0 (empty_within x.set (set_after_fork old new x.set) (set_after_fork-has old new x.set)
        (sym (set_is x) ∙ e)),
    some_in_each xs f.1,
  )

  -- a copy has no fewer clones then
  size-copy_after_fork : (x : StationCopy) → has x.set new ≡ false → size x.set ≤ size (copy_after_fork old new x).set
  size-copy_after_fork x n = subst (λ k. size x.set ≤ size k) (sym (set_is x))
      (by_test (is_some (common x.set (one old))))
    where
      by_test : (b : Bool) → size x.set ≤ size (cond b (union x.set (one new)) x.set)
      by_test true =
          let h = size_disjoint x.set (one new)
          (λ c i j. false≢true (sym n ∙ subst (λ d. has x.set d ≡ true)
          (sym (eqb-true new c (sym (has-one new c) ∙ j))) i)) in
          omega (arith, h)
      by_test false = omega arith

  -- and the clones of all copies have handled no less alone
  more_alone : (xs : List StationCopy) → AllByRecursion (λ a. has a.set new ≡ false) xs
      → handled_alone_by xs ≤ handled_alone_by (map (copy_after_fork old new) xs)
  more_alone [] n = omega arith
  more_alone (x ∷ xs) n =
      let h = more_alone xs n.1 in
      let m = mul-le-mul_right (length x.log) (size-copy_after_fork x n.0) in
      let e = ap (λ l. size (copy_after_fork old new x).set * length l) (log_is x) in
      omega (arith, h, m, e)

  -- the copies of a station keep their invariant with a new clone next to a living one
  pub shares_forked : (s handled : ℕ) (living : CloneSet) (xs : List StationCopy) → has living old ≡ true
      → has living new ≡ false → KeepsShares (record { station = s; living = living; handled = handled; copies = xs }) →
      KeepsShares (record {
        station = s;
        living = with living new;
        handled = handled;
        copies = map (copy_after_fork old new) xs;
      })
  shares_forked s handled living xs y n k =
      let fresh = fresh_in living xs k.shares.together n in
      record {
        shares = record {
          inhabited = some_in_each xs k.shares.inhabited;
          disjoint = disjoint_all xs fresh k.shares.disjoint;
          together = same_members (all_clones (map (copy_after_fork old new) xs)) (with living new)
              (λ c. clones_at xs c fresh ∙ (ap (λ k. has k (origin_of old new c)) k.shares.together
              ∙ sym (with_at living c y)));
        };
        once = let h = k.once in let m = more_alone xs fresh in omega (arith, h, m);
      }

  -- ---- IsLowerBoundOfAll

  -- if nothing of the copies is pending before a time, nothing is with the new clone
  pub IsLowerBoundOfAll-forked : (t : ℕ) (xs : List StationCopy) → IsLowerBoundOfAll t xs
      → IsLowerBoundOfAll t (map (copy_after_fork old new) xs)
  IsLowerBoundOfAll-forked t [] f = tt
  IsLowerBoundOfAll-forked t (x ∷ xs) f = (by_test (has x.set old), IsLowerBoundOfAll-forked t xs f.1)
    where
      by_test : (b : Bool) → IsLowerBound t
          (cond b (record { set = with x.set new; state = x.state; log = x.log; pending = spread old new x.pending }) x)
      by_test true = all_spread old new (λ m. t ≤ m.key.time) x.pending f.0
      by_test false = f.0
