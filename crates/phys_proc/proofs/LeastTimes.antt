-- The least time of the pending messages that clones take.
use Rattle.std.proofs.Common.{◌≡◌, ◌≢◌, ◌⊎◌, ℕ, ◌<◌, ◌≤◌, ◌&&◌, not, Bool}
use Rattle.std.proofs.Common.{true, false, cond, List, [], ◌∷◌, ◌++◌, inl, inr, Option, Some, None, refl}
use Rattle.std.proofs.Common.{sym, ap, ◌∙◌, subst, arith, nat_lt, eq-eqb, eqb-true, slice_get}
use Rattle.std.specs.declared.cmp.Ordering.TheVariants.{Less}
use Rattle.std.proofs.lemmas.Bool.{cases_Bool, lt-ltb, ltb-true, false≢true, and_parts, not-true, not-false}
use Rattle.sim_base.specs.Order.{msg_cmp}
use Rattle.sim_base.specs.Pending.{cut_by}
use Rattle.sim_base.specs.Marked.{SortedMarked}
use Rattle.sim_base.specs.declared.message.Msg.{Msg}
use Rattle.sim_base.proofs.OrderEqual.{msg-timed}
use Rattle.clone_sets.specs.Sets.{has, one, minus, common, empty, size}
use Rattle.clone_sets.specs.declared.set.CloneSet.{CloneSet}
use Rattle.clone_sets.proofs.SetLaws.{has-one, has-meet, has-empty, common_none, common_some, common_is}
use Rattle.clone_sets.proofs.SizeLaws.{minus_smaller}
use Rattle.clone_sets.proofs.CountLaws.{set_has_clone}
use Rattle.run_laws.specs.Queue.{In}
use Rattle.run_laws.specs.Fronts.{earlier}
use Rattle.run_laws.proofs.Leasts.{least-either}
use Rattle.run_laws.proofs.Queue.{all_in}
use Rattle.run_laws.proofs.Parts.{all_part_of}
use Rattle.sim_base.proofs.Elements.{in_cons_if, cons_if_new}
use Rattle.run_laws.proofs.Lists.{in_append, append_old, append_new}
use Rattle.phys_proc.specs.Own.{StationCopy, MarkedMessages, IsLowerBound, takes_at, taken_at}
use Rattle.phys_proc.specs.Procs.{IsTakenBy, IsLeastTime, IsLeastOf, IsLeast, IsWithCopy}
use Rattle.phys_proc.specs.Ends.{ends_in, has_ended}
use Rattle.phys_proc.proofs.Ends.{has_ended-is, ends_in-bound}
use Rattle.phys_proc.proofs.Halves.{cons_marked}

-- ---- taken_at

-- a message that a clone takes is pending with marks by which the clone takes it
in_taken : (ends : ℕ → ℕ) (c : ℕ) (q : MarkedMessages) (z : Msg) → In z (taken_at ends c q)
    → (k : CloneSet) × In (z, k) q
    × (takes_at ends z k c ≡ true)
in_taken ends c [] z i = absurd i
in_taken ends c (x ∷ xs) z i = elim (in_cons_if (takes_at ends x.0 x.1 c) x.0 (taken_at ends c xs) z i) [
  | inl h ↦ (x.1, inl (λ j. (h.1 j, x.1)), subst (λ m. takes_at ends m x.1 c ≡ true) (sym h.1) h.0)
  | inr h ↦ let r = in_taken ends c xs z h in (r.0, inr r.1, r.2)
]

-- and a message that is pending with such marks is taken
taken_has : (ends : ℕ → ℕ) (c : ℕ) (q : MarkedMessages) (x : Msg × CloneSet) → In x q → takes_at ends x.0 x.1 c ≡ true
    → In x.0 (taken_at ends c q)
taken_has ends c [] x i t = absurd i
taken_has ends c (y ∷ ys) x (inl e) t = cons_if_new (takes_at ends y.0 y.1 c) y.0 (taken_at ends c ys) x.0
    (subst (λ (u : Msg × CloneSet). takes_at ends u.0 u.1 c ≡ true) e t) (ap (λ (u : Msg × CloneSet). u.0) e)
taken_has ends c (y ∷ ys) x (inr i) t = later (takes_at ends y.0 y.1 c) (taken_has ends c ys x i t)
  where
    later : (b : Bool) → In x.0 (taken_at ends c ys) → In x.0 (cond b (y.0 ∷ taken_at ends c ys) (taken_at ends c ys))
    later true h = inr h
    later false h = h

-- ---- IsFirstWith and NoneWith

-- m is the first, and j has the marks that it shares with the set k
pub record IsFirstWith (k : CloneSet) (q : MarkedMessages) (m : Msg) (j : CloneSet) : Type 0 where
  pub marks : CloneSet
  pub is_in : In (m, marks) q
  pub meets : common marks k ≡ Some j
  pub least : (c : ℕ) → has k c ≡ true → (x : Msg × CloneSet) → In x q → has x.1 c ≡ true → m.key.time ≤ x.0.key.time

-- no message has marks of the set
abbrev pub NoneWith : CloneSet → MarkedMessages → Type 0
NoneWith k q = (c : ℕ) → has k c ≡ true → (x : Msg × CloneSet) → In x q → has x.1 c ≡ true → ⊥

-- marks that share no clone with a set have none of it
not_met : (k : CloneSet) (x : Msg × CloneSet) → common x.1 k ≡ None → (c : ℕ) → has k c ≡ true → has x.1 c ≡ true → ⊥
not_met k x e c i j = false≢true (sym (common_none x.1 k e c) ∙ (ap (λ b. b && has k c) j ∙ i))

-- the first message of the cut by a set is the first whose marks meet the set
first_with : (k : CloneSet) (q : MarkedMessages) (p : Msg × CloneSet) → SortedMarked msg_cmp q
    → Some p ≡ slice_get (cut_by common k q) 0 → IsFirstWith k q p.0 p.1
first_with k [] p s e = absurd (cc)
first_with k (x ∷ xs) p s e = by_met (common x.1 k) refl e (λ f. first_with k xs p s.1 f)
  where
    by_met : (o : Option CloneSet) → common x.1 k ≡ o → Some p ≡ slice_get (cons_marked k o x.0 (cut_by common k xs)) 0
        → (Some p ≡ slice_get (cut_by common k xs) 0 → IsFirstWith k xs p.0 p.1) → IsFirstWith k (x ∷ xs) p.0 p.1
    by_met None n f rest =
        let h = rest f in
        record {
          marks = h.marks;
          is_in = inr h.is_in;
          meets = h.meets;
          least = λ c i y m t. elim m [
            | inl d ↦
                absurd (not_met k x n c i (subst (λ (u : Msg × CloneSet). has u.1 c ≡ true) d t))
            | inr l ↦ h.least c i y l t
          ];
        }
    by_met (Some j) n f rest =
        let same : (x.0, j) ≡ p = cc in
        subst (λ (u : Msg × CloneSet). IsFirstWith k (x ∷ xs) u.0 u.1) same (record {
          marks = x.1;
          is_in = inl refl;
          meets = n;
          least = λ c i y m t. elim m [
            | inl d ↦ (let e = ap (λ (u : Msg × CloneSet). u.0.key.time) d in omega (arith, e))
            | inr l ↦ (let h = msg-timed x.0 y.0 (all_in (λ z. msg_cmp x.0 z.0 ≡ Less) xs y s.0 l) in omega (arith, h))
          ];
        })

-- if the cut by a set is empty, no message has marks of the set
none_with : (k : CloneSet) (q : MarkedMessages) → None ≡ slice_get (cut_by common k q) 0 → NoneWith k q
none_with k [] e = λ c i x m t. m
none_with k (x ∷ xs) e = by_met (common x.1 k) refl e (λ f. none_with k xs f)
  where
    by_met : (o : Option CloneSet) → common x.1 k ≡ o → None ≡ slice_get (cons_marked k o x.0 (cut_by common k xs)) 0
        → (None ≡ slice_get (cut_by common k xs) 0 → NoneWith k xs) → NoneWith k (x ∷ xs)
    by_met None n f rest = λ c i y m t.
        elim m [
          | inl d ↦ not_met k x n c i (subst (λ (u : Msg × CloneSet). has u.1 c ≡ true) d t)
          | inr l ↦ rest f c i y l t
        ]
    by_met (Some j) n f rest = absurd (cc)

-- ---- IsLeastTime, of one clone

-- it takes the first message that is marked with it, if that comes before its end
pub least_one : (ends : ℕ → ℕ) (c end : ℕ) (q : MarkedMessages) (p : Msg × CloneSet) → end ≡ ends c
    → SortedMarked msg_cmp q
    → Some p ≡ slice_get (cut_by common (one c) q) 0 → p.0.key.time < end
    → IsLeastTime (λ m. In m (taken_at ends c q)) (Some p.0.key.time)
least_one ends c end q p e s first soon =
    let f = first_with (one c) q p s first in
    let j = common_is f.marks (one c) p.1 f.meets in
    let d = set_has_clone p.1 j.1 in
    let both = and_parts (has f.marks d.0) (has (one c) d.0)
    (sym (common_some f.marks (one c) p.1 f.meets d.0) ∙ d.1) in
    let same : c ≡ d.0 = eqb-true c d.0 (sym (has-one c d.0) ∙ both.1) in
    let marked : has f.marks c ≡ true = subst (λ n. has f.marks n ≡ true) (sym same) both.0 in (
      (
        p.0,
        taken_has ends c q (p.0, f.marks) f.is_in (ap (λ b. b && nat_lt p.0.key.time (ends c)) marked
            ∙ lt-ltb p.0.key.time (ends c) (omega (arith, soon, e))),
        refl,
      ),
      λ z i. let k = in_taken ends c q z i in
          f.least c (has-one c c ∙ eq-eqb c c refl) (z, k.0) k.1
          (and_parts (has k.0 c) (nat_lt z.key.time (ends c)) k.2).0,
    )

-- it takes nothing, if that comes at its end or later
pub least_ended : (ends : ℕ → ℕ) (c end : ℕ) (q : MarkedMessages) (p : Msg × CloneSet) → end ≡ ends c
    → SortedMarked msg_cmp q
    → Some p ≡ slice_get (cut_by common (one c) q) 0 → end ≤ p.0.key.time → (z : Msg) → ¬ (In z (taken_at ends c q))
least_ended ends c end q p e s first late z i =
    let f = first_with (one c) q p s first in
    let k = in_taken ends c q z i in
    let t = and_parts (has k.0 c) (nat_lt z.key.time (ends c)) k.2 in
    let l = f.least c (has-one c c ∙ eq-eqb c c refl) (z, k.0) k.1 t.0 in
    let b = ltb-true z.key.time (ends c) t.1 in
    absurd (omega (arith, l, b, late, e))

-- nor does it if no message is marked with it
pub least_unmarked : (ends : ℕ → ℕ) (c : ℕ) (q : MarkedMessages) → None ≡ slice_get (cut_by common (one c) q) 0
    → (z : Msg)
    → ¬ (In z (taken_at ends c q))
least_unmarked ends c q none z i =
    let k = in_taken ends c q z i in
    none_with (one c) q none c (has-one c c ∙ eq-eqb c c refl) (z, k.0) k.1
    (and_parts (has k.0 c) (nat_lt z.key.time (ends c)) k.2).0

-- a least time stays one under a further property that is true
pub least_beside : (A : Type 0) (P : Msg → Type 0) (t : Option ℕ) → A → IsLeastTime P t → IsLeastTime (λ m. A × P m) t
least_beside A P None h a = λ m p. a m p.1
least_beside A P (Some t) h a = ((a.0.0, (h, a.0.1), a.0.2), λ m p. a.1 m p.1)

-- ---- IsLeastTime, of any clone of a copy

-- a message that some clone of the set takes
abbrev pub AnyTakes : (ℕ → ℕ) → CloneSet → MarkedMessages → Msg → Type 0
AnyTakes ends set q m = (c : ℕ) × (has set c ≡ true) × In m (taken_at ends c q)

-- the clones of the set that are not in `alive` take nothing
pub record OthersNone (ends : ℕ → ℕ) (set alive : CloneSet) (q : MarkedMessages) : Type 0 where
  pub within : (c : ℕ) → has alive c ≡ true → has set c ≡ true
  pub none : (c : ℕ) → has set c ≡ true → has alive c ≡ false → (m : Msg) → ¬ (In m (taken_at ends c q))

module _ (horizon : ℕ) (es : List (ℕ × ℕ)) (set alive : CloneSet) (q : MarkedMessages)
    (h : OthersNone (ends_in horizon es) set alive q) (sorted : SortedMarked msg_cmp q) where
  -- none of them has a message
  pub none_alive : None ≡ slice_get (cut_by common alive q) 0 → (m : Msg) → ¬ (AnyTakes (ends_in horizon es) set q m)
  none_alive none m t = elim (cases_Bool (has alive t.0)) [
    | inl y ↦ let k = in_taken (ends_in horizon es) t.0 q m t.2 in
        none_with alive q none t.0 y (m, k.0) k.1
        (and_parts (has k.0 t.0) (nat_lt m.key.time (ends_in horizon es t.0)) k.2).0
    | inr n ↦ h.none t.0 t.1 n m t.2
  ]

  module _ (p : Msg × CloneSet) (first : Some p ≡ slice_get (cut_by common alive q) 0) where
    -- a clone that is left takes nothing before the first message that is marked for one of them
    at_least : (c : ℕ) (z : Msg) → has alive c ≡ true → In z (taken_at (ends_in horizon es) c q)
        → (p.0.key.time ≤ z.key.time) × (z.key.time < ends_in horizon es c)
    at_least c z y i =
        let f = first_with alive q p sorted first in
        let k = in_taken (ends_in horizon es) c q z i in
        let t = and_parts (has k.0 c) (nat_lt z.key.time (ends_in horizon es c)) k.2 in
        (f.least c y (z, k.0) k.1 t.0, ltb-true z.key.time (ends_in horizon es c) t.1)

    -- its time is not before the horizon: nothing is taken
    pub none_soon : horizon ≤ p.0.key.time → (m : Msg) → ¬ (AnyTakes (ends_in horizon es) set q m)
    none_soon late m t = elim (cases_Bool (has alive t.0)) [
      | inl y ↦ (let k = at_least t.0 m y t.2 in let a = k.0 in let b = k.1 in let d = ends_in-bound horizon es t.0 in
          absurd (omega (arith, a, b, d, late)))
      | inr n ↦ h.none t.0 t.1 n m t.2
    ]

    module _ (takers gone : CloneSet) (left : (c : ℕ) → has takers c ≡ (has p.1 c && not (has gone c)))
        (went : (c : ℕ) → has gone c ≡ has_ended p.0.key.time es c) (soon : p.0.key.time < horizon) where
      -- those are gone whose end is not later than that message
      gone_at : (c : ℕ) → has gone c ≡ not (nat_lt p.0.key.time (ends_in horizon es c))
      gone_at c = went c ∙ has_ended-is horizon p.0.key.time es c soon

      -- it is marked for clones that are left
      shared_at : (c : ℕ) → has p.1 c ≡ true → has alive c ≡ true
      shared_at c i = let f = first_with alive q p sorted first in
          (and_parts (has f.marks c) (has alive c) (sym (common_some f.marks alive p.1 f.meets c) ∙ i)).1

      -- someone takes it
      pub some_takes : takers ≢ empty → IsLeastTime (AnyTakes (ends_in horizon es) set q) (Some p.0.key.time)
      some_takes some =
          let f = first_with alive q p sorted first in
          let c = set_has_clone takers some in
          let t = and_parts (has p.1 c.0) (not (has gone c.0)) (sym (left c.0) ∙ c.1) in
          let marked = (and_parts (has f.marks c.0) (has alive c.0) (sym (common_some f.marks alive p.1 f.meets c.0)
          ∙ t.0)).0 in
          let before : nat_lt p.0.key.time (ends_in horizon es c.0) ≡ true =
          not-false (nat_lt p.0.key.time (ends_in horizon es c.0))
          (not-true (not (nat_lt p.0.key.time (ends_in horizon es c.0))) (sym (ap not (gone_at c.0)) ∙ t.1)) in (
            (
              p.0,
              (
                c.0,
                h.within c.0 (shared_at c.0 t.0),
                taken_has (ends_in horizon es) c.0 q (p.0, f.marks) f.is_in
                    (ap (λ b. b && nat_lt p.0.key.time (ends_in horizon es c.0)) marked ∙ before),
              ),
              refl,
            ),
            λ z u. elim (cases_Bool (has alive u.0)) [
              | inl y ↦ (at_least u.0 z y u.2).0
              | inr n ↦ absurd (h.none u.0 u.1 n z u.2)
            ],
          )

      -- no one does: those that are marked have ended
      pub others_more : takers ≡ empty → (rest : CloneSet) → ((c : ℕ) → has rest c ≡ (has alive c && not (has p.1 c)))
          → OthersNone (ends_in horizon es) set rest q
      others_more none rest is = record {
        within = λ c i. h.within c (and_parts (has alive c) (not (has p.1 c)) (sym (is c) ∙ i)).0;
        none = λ c i n m t. elim (cases_Bool (has alive c)) [
          | inl y ↦ (let k = at_least c m y t in let a = k.0 in let b = k.1 in
              let marked : has p.1 c ≡ true =
              not-false (has p.1 c) (ap (λ x. x && not (has p.1 c)) (sym y) ∙ (sym (is c) ∙ n)) in
              let ended : nat_lt p.0.key.time (ends_in horizon es c) ≡ false =
              not-true (nat_lt p.0.key.time (ends_in horizon es c))
              (not-false (not (nat_lt p.0.key.time (ends_in horizon es c)))
              (sym (left c ∙ (ap (λ x. x && not (has gone c)) marked ∙ ap not (gone_at c)))
              ∙ (ap (λ k. has k c) none ∙ has-empty c))) in
              let before = lt-ltb p.0.key.time (ends_in horizon es c) (omega (arith, a, b)) in
              false≢true (sym ended ∙ before))
          | inr o ↦ h.none c i o m t
        ];
      }

    -- fewer are left
    pub fewer_alive : size (minus alive p.1) < size alive
    fewer_alive =
        let f = first_with alive q p sorted first in
        let j = common_is f.marks alive p.1 f.meets in
        let d = set_has_clone p.1 j.1 in
        let both = and_parts (has f.marks d.0) (has alive d.0)
        (sym (common_some f.marks alive p.1 f.meets d.0) ∙ d.1) in
        minus_smaller alive p.1 (λ e. false≢true
        (sym (has-empty d.0) ∙ (sym (ap (λ k. has k d.0) e)
        ∙ (has-meet alive p.1 d.0 ∙ (ap (λ b. b && has p.1 d.0) both.1 ∙ d.1)))))

-- ---- IsLeastTime, of two classes of messages

-- the least time of a class is that of the same class in other words
pub least_as : (P R : Msg → Type 0) (t : Option ℕ) → ((m : Msg) → P m → R m) → ((m : Msg) → R m → P m)
    → IsLeastTime P t → IsLeastTime R t
least_as P R None f e a = λ m r. a m (e m r)
least_as P R (Some t) f e a = ((a.0.0, f a.0.0 a.0.1, a.0.2), λ m r. a.1 m (e m r))

-- if a message is of one class exactly if it is of one of two others, its least time is the earlier of theirs
least_both : (P Q R : Msg → Type 0) (t u : Option ℕ) → ((m : Msg) → P m → R m) → ((m : Msg) → Q m → R m)
    → ((m : Msg) → R m → P m ⊎ Q m) → IsLeastTime P t → IsLeastTime Q u → IsLeastTime R (earlier t u)
least_both P Q R t u f g e a b = least_as (λ m. P m ⊎ Q m) R (earlier t u)
    (λ m h. elim h [ inl p ↦ f m p | inr q ↦ g m q ]) e (least-either (λ (m : Msg). m.key.time) P Q t u a b)

-- ---- IsTakenBy, IsLeast and IsLeastOf, copy after copy

module _ (ends : ℕ → ℕ) (xs all : List StationCopy) (x : StationCopy) (whole : all ≡ xs ++ x ∷ []) where
  -- a copy of the list is one of the list with a copy more
  was_there : (a : StationCopy) → In a xs → In a all
  was_there a i = subst (In a) (sym whole) (append_old xs (x ∷ []) a i)

  -- and so is that copy
  is_there : In x all
  is_there = subst (In x) (sym whole) (append_new xs (x ∷ []) x (inl refl))

  -- there are no others
  in_all : (a : StationCopy) → In a all → In a xs ⊎ (a ≡ x)
  in_all a i = elim (in_append xs (x ∷ []) a (subst (In a) whole i)) [
    | inl j ↦ inl j
    | inr j ↦ elim j [ inl e ↦ inr e | inr n ↦ absurd n ]
  ]

  -- a clone of the copies still takes what it took
  still_by : (c : ℕ) (m : Msg) → IsTakenBy ends xs c m → IsTakenBy ends all c m
  still_by c m h = record {
    copy = h.copy;
    is_copy = was_there h.copy h.is_copy;
    is_in = h.is_in;
    is_taken = h.is_taken;
  }

  -- and a message that a clone of the new copy takes is taken
  by_last : (c : ℕ) (m : Msg) → has x.set c ≡ true → In m (taken_at ends c x.pending) → IsTakenBy ends all c m
  by_last c m i t = record { copy = x; is_copy = is_there; is_in = i; is_taken = t }

  -- nothing else is
  by_one_of : (c : ℕ) (m : Msg) → IsTakenBy ends all c m
      → IsTakenBy ends xs c m ⊎ ((has x.set c ≡ true) × In m (taken_at ends c x.pending))
  by_one_of c m h = elim (in_all h.copy h.is_copy) [
    | inl i ↦ inl (record { copy = h.copy; is_copy = i; is_in = h.is_in; is_taken = h.is_taken })
    | inr e ↦ inr (
      subst (λ (u : StationCopy). has u.set c ≡ true) e h.is_in,
      subst (λ (u : StationCopy). In m (taken_at ends c u.pending)) e h.is_taken,
    )
  ]

  -- the least time of all is the earlier of that so far and that of the new copy
  least_more : (t u : Option ℕ) → IsLeast ends xs t → IsLeastTime (AnyTakes ends x.set x.pending) u
      → IsLeast ends all (earlier t u)
  least_more t u a b = least_both (λ m. (c : ℕ) × IsTakenBy ends xs c m) (AnyTakes ends x.set x.pending)
      (λ m. (c : ℕ) × IsTakenBy ends all c m) t u
      (λ m h. (h.0, still_by h.0 m h.1))
      (λ m h. (h.0, by_last h.0 m h.1 h.2))
      (λ m h. elim (by_one_of h.0 m h.1) [ inl p ↦ inl (h.0, p) | inr q ↦ inr (h.0, q.0, q.1) ])
      a b

  -- the least so far stays if nothing of the copy is pending earlier
  least_stays : (time : ℕ) → IsLeast ends xs (Some time) → IsLowerBound time x → IsLeast ends all (Some time)
  least_stays time h late = (
    (h.0.0, (h.0.1.0, still_by h.0.1.0 h.0.0 h.0.1.1), h.0.2),
    λ m t. elim (by_one_of t.0 m t.1) [
      | inl p ↦ h.1 m (t.0, p)
      | inr q ↦ all_in (λ (m : Msg). time ≤ m.key.time) (taken_at ends t.0 x.pending) m
          (all_part_of (takes_at ends) t.0 (λ (m : Msg). time ≤ m.key.time) x.pending late) q.1
    ],
  )

  -- the lesser of the least so far and that of the next copy is the least with that copy
  pub least_with : (before t : Option ℕ) → IsWithCopy ends x before t → IsLeast ends xs before → IsLeast ends all t
  least_with before t (inl w) h = subst (IsLeast ends all) (sym (w.3 ∙ w.1))
      (least_stays w.0 (subst (IsLeast ends xs) w.1 h) w.2)
  least_with before t (inr w) h = subst (IsLeast ends all) (sym w.2) (least_more before w.0 h w.1)

  -- and for one clone, the earlier of its least so far and its least of the copy is its least with the copy
  pub least_of_more : (c : ℕ) (t u : Option ℕ) → IsLeastOf ends xs c t
      → IsLeastTime (λ m. (has x.set c ≡ true) × In m (taken_at ends c x.pending)) u
      → IsLeastOf ends all c (earlier t u)
  least_of_more c t u a b = least_both (IsTakenBy ends xs c)
      (λ m. (has x.set c ≡ true) × In m (taken_at ends c x.pending)) (IsTakenBy ends all c) t u
      (λ m h. still_by c m h)
      (λ m h. by_last c m h.0 h.1)
      (λ m h. by_one_of c m h)
      a b
