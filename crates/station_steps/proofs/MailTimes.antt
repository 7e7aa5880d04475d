-- The least times of the mail that clones take.
use Rattle.std.proofs.Common.{◌≡◌, ◌≢◌, ℕ, ◌<◌, ◌≤◌, ◌==◌, ◌&&◌, not, Bool, true, false, ◌⊎◌, List, [], ◌∷◌, ◌++◌}
use Rattle.std.proofs.Common.{inl, inr, Option, Some, refl, sym, ap, ◌∙◌, subst, arith, nat_lt, IfSome, eqb-true}
use Rattle.std.proofs.Common.{eq-eqb, if◌then◌else◌}
use Rattle.std.specs.List.{AllByRecursion}
use Rattle.std.proofs.lemmas.Bool.{and_parts, false≢true, ltb-true, lt-ltb}
use Rattle.sim_base.specs.Order.{msg_cmp}
use Rattle.sim_base.specs.Marked.{SortedMarked}
use Rattle.sim_base.specs.declared.message.Msg.{Msg}
use Rattle.sim_base.proofs.Elements.{cons_if_new, in_cons_if}
use Rattle.clone_sets.specs.Sets.{has, empty, meet, minus, one}
use Rattle.clone_sets.specs.declared.set.CloneSet.{CloneSet}
use Rattle.clone_sets.proofs.SetLaws.{has-meet, has-minus}
use Rattle.clone_sets.proofs.CountLaws.{set_has_clone}
use Rattle.net_model.specs.Net.{Net}
use Rattle.stations.specs.Runs.{simulation}
use Rattle.run_laws.specs.Queue.{In}
use Rattle.run_laws.proofs.Queue.{all_in}
use Rattle.run_laws.specs.Copies.{Disjoint, SoFarGiven, messages_taken, takes}
use Rattle.run_laws.proofs.Delivery.{given_none, one_of}
use Rattle.run_laws.proofs.Lists.{append_new, append_old, in_append}
use Rattle.phys_proc.specs.Ends.{ends_in, has_ended}
use Rattle.phys_proc.specs.Own.{StationCopy, MarkedMessages, all_clones}
use Rattle.phys_proc.specs.Procs.{IsLeast, IsLeastOf, IsTakenBy}
use Rattle.phys_proc.proofs.Counting.{in_some, some_in}
use Rattle.phys_proc.proofs.Ends.{ends_in-bound, has_ended-is}
use Rattle.station_steps.specs.Mail.{IsEarliest, IsMailTaken}
use Rattle.station_steps.specs.Windows.{with_mail}
use Rattle.station_steps.proofs.Delivered.{given_so_far}
use Rattle.station_steps.proofs.TakenMail.{IsEarliest-late, IsEarliest-none, IsEarliest-one, IsEarliest-then}
use Rattle.station_steps.proofs.TakenMail.{least_earliest}

-- ---- IsMailTaken, of two lists together

module _ (ends : ℕ → ℕ) (clones : CloneSet) (xs ys : MarkedMessages) where
  -- what is taken from the first is taken from both
  of_first : (m : Msg) → IsMailTaken ends clones xs m → IsMailTaken ends clones (xs ++ ys) m
  of_first m q = record {
    clone = q.clone;
    is_in = q.is_in;
    marks = q.marks;
    is_mail = append_old xs ys (m, q.marks) q.is_mail;
    is_marked = q.is_marked;
    in_time = q.in_time;
  }

  -- what is taken from the second is taken from both
  of_second : (m : Msg) → IsMailTaken ends clones ys m → IsMailTaken ends clones (xs ++ ys) m
  of_second m q = record {
    clone = q.clone;
    is_in = q.is_in;
    marks = q.marks;
    is_mail = append_new xs ys (m, q.marks) q.is_mail;
    is_marked = q.is_marked;
    in_time = q.in_time;
  }

  -- nothing else is taken from both
  of_either : (m : Msg) → IsMailTaken ends clones (xs ++ ys) m
      → IsMailTaken ends clones xs m ⊎ IsMailTaken ends clones ys m
  of_either m q = elim (in_append xs ys (m, q.marks) q.is_mail) [
    | inl i ↦ inl (record {
      clone = q.clone;
      is_in = q.is_in;
      marks = q.marks;
      is_mail = i;
      is_marked = q.is_marked;
      in_time = q.in_time;
    })
    | inr i ↦ inr (record {
      clone = q.clone;
      is_in = q.is_in;
      marks = q.marks;
      is_mail = i;
      is_marked = q.is_marked;
      in_time = q.in_time;
    })
  ]

  -- the earlier of a time and one list, and then of another list, is that of both
  pub earliest-append : (a b c : Option ℕ) → IsEarliest a (IsMailTaken ends clones xs) b
      → IsEarliest b (IsMailTaken ends clones ys) c → IsEarliest a (IsMailTaken ends clones (xs ++ ys)) c
  earliest-append a b c h k = IsEarliest-then a b c (IsMailTaken ends clones xs) (IsMailTaken ends clones ys)
      (IsMailTaken ends clones (xs ++ ys)) of_first of_second of_either h k

-- from no messages none is taken
pub earliest-nil : (ends : ℕ → ℕ) (clones : CloneSet) (a : Option ℕ)
    → IsEarliest a (IsMailTaken ends clones []) a
earliest-nil ends clones a = IsEarliest-none a (IsMailTaken ends clones []) (λ m q. q.is_mail)

-- from messages that are not before a time none is taken before it
pub earliest-after : (ends : ℕ → ℕ) (clones : CloneSet) (ms : MarkedMessages) (a : Option ℕ) (t first : ℕ)
    → a ≡ Some t → t ≤ first → AllByRecursion (λ x. first ≤ x.0.key.time) ms
    → IsEarliest a (IsMailTaken ends clones ms) a
earliest-after ends clones ms a t first is late h =
    subst (λ b. IsEarliest b (IsMailTaken ends clones ms) b) (sym is)
    (IsEarliest-late t (IsMailTaken ends clones ms) (λ m q.
    let l = all_in (λ x. first ≤ x.0.key.time) ms (m, q.marks) h q.is_mail in omega (arith, l, late)))

-- ---- IsMailTaken, of one message

module _ (horizon : ℕ) (es : List (ℕ × ℕ)) (clones : CloneSet) (m : Msg) (k : CloneSet) (before : Option ℕ) where
  abbrev Taken : Msg → Type 0
  Taken = IsMailTaken (ends_in horizon es) clones ((m, k) ∷ [])

  -- it is the message that is taken
  only : (z : Msg) → Taken z → z ≡ m
  only z q = elim q.is_mail [ inl e ↦ ap (λ x. x.0) e | inr n ↦ absurd n ]

  -- with the marks that it has
  marked : (z : Msg) (q : Taken z) → has k q.clone ≡ true
  marked z q = elim q.is_mail [
    | inl e ↦ subst (λ (x : Msg × CloneSet). has x.1 q.clone ≡ true) e q.is_marked
    | inr n ↦ absurd n
  ]

  -- a time that is not after the message stays
  pub one-late : (t : ℕ) → before ≡ Some t → t ≤ m.key.time → IsEarliest before Taken before
  one-late t is late = subst (λ b. IsEarliest b Taken b) (sym is)
      (IsEarliest-late t Taken (λ z q. subst (λ (u : Msg). t ≤ u.key.time) (sym (only z q)) late))

  -- a message at the horizon or later changes nothing
  pub one-beyond : horizon ≤ m.key.time → IsEarliest before Taken before
  one-beyond late = IsEarliest-none before Taken (λ z q.
      let e = ends_in-bound horizon es q.clone in
      let l = subst (λ (u : Msg). u.key.time < ends_in horizon es q.clone) (only z q) q.in_time in
      omega (arith, e, l, late))

  module _ (gone takers : CloneSet) (went : (c : ℕ) → has gone c ≡ has_ended m.key.time es c)
      (is : takers ≡ minus (meet k clones) gone) (soon : m.key.time < horizon) where
    -- the takers are those of the clones that are in the set and have not ended
    takers_at : (c : ℕ) → has takers c ≡ ((has k c && has clones c) && nat_lt m.key.time (ends_in horizon es c))
    takers_at c = ap (λ s. has s c) is ∙ has-minus (meet k clones) gone c
        ∙ ap (λ b. b && not (has gone c)) (has-meet k clones c)
        ∙ ap (λ b. (has k c && has clones c) && b) (ap not (went c ∙ has_ended-is horizon m.key.time es c soon)
        ∙ twice (nat_lt m.key.time (ends_in horizon es c)))
      where
        twice : (b : Bool) → not (not b) ≡ b
        twice true = refl
        twice false = refl

    -- no clone takes it
    pub one-none : ((c : ℕ) → has takers c ≡ false) → IsEarliest before Taken before
    one-none none = IsEarliest-none before Taken (λ z q.
        let l = subst (λ (u : Msg). u.key.time < ends_in horizon es q.clone) (only z q) q.in_time in
        false≢true (sym (none q.clone) ∙ takers_at q.clone
        ∙ ap (λ b. (b && has clones q.clone) && nat_lt m.key.time (ends_in horizon es q.clone)) (marked z q)
        ∙ ap (λ b. b && nat_lt m.key.time (ends_in horizon es q.clone)) q.is_in
        ∙ lt-ltb m.key.time (ends_in horizon es q.clone) l))

    -- some clone takes it
    pub one-some : takers ≢ empty → IfSome before (λ b. m.key.time ≤ b) → IsEarliest before Taken (Some m.key.time)
    one-some some sooner =
        let c = set_has_clone takers some in
        let all = and_parts (has k c.0 && has clones c.0) (nat_lt m.key.time (ends_in horizon es c.0))
        (sym (takers_at c.0) ∙ c.1) in
        let both = and_parts (has k c.0) (has clones c.0) all.0 in
        IsEarliest-one before m Taken sooner (record {
          clone = c.0;
          is_in = both.1;
          marks = k;
          is_mail = inl refl;
          is_marked = both.0;
          in_time = ltb-true m.key.time (ends_in horizon es c.0) all.1;
        }) only

-- ---- IsTakenBy, with mail

module _ (net : Net) (ends : ℕ → ℕ) where
  -- what a clone takes from messages is one of them, and the clone takes it
  in_taken : (c : ℕ) (ms : MarkedMessages) (z : Msg) → In z (messages_taken (simulation net) has ends c ms)
      → (k : CloneSet) × In (z, k) ms × (has k c ≡ true) × (z.key.time < ends c)
  in_taken c [] z i = absurd i
  in_taken c (x ∷ ms) z i = elim (in_cons_if (takes (simulation net) has ends x.0 x.1 c) x.0
      (messages_taken (simulation net) has ends c ms) z i) [
        | inl h ↦ let t = and_parts (has x.1 c) (nat_lt x.0.key.time (ends c)) h.0 in (
          x.1,
          inl (λ j. (h.1 j, x.1)),
          t.0,
          subst (λ (u : Msg). u.key.time < ends c) (sym h.1) (ltb-true x.0.key.time (ends c) t.1),
        )
        | inr h ↦ let r = in_taken c ms z h in (r.0, inr r.1, r.2, r.3)
      ]

  -- a message among them that the clone may take is taken
  taken_has : (c : ℕ) (ms : MarkedMessages) (x : Msg × CloneSet) → In x ms → has x.1 c ≡ true
      → x.0.key.time < ends c → In x.0 (messages_taken (simulation net) has ends c ms)
  taken_has c [] x i h l = absurd i
  taken_has c (y ∷ ms) x (inl e) h l = cons_if_new (takes (simulation net) has ends y.0 y.1 c) y.0
      (messages_taken (simulation net) has ends c ms) x.0
      (subst (λ (u : Msg × CloneSet). takes (simulation net) has ends u.0 u.1 c ≡ true) e
      (ap (λ b. b && nat_lt x.0.key.time (ends c)) h ∙ lt-ltb x.0.key.time (ends c) l))
      (ap (λ (u : Msg × CloneSet). u.0) e)
  taken_has c (y ∷ ms) x (inr i) h l = later (takes (simulation net) has ends y.0 y.1 c) (taken_has c ms x i h l)
    where
      later : (b : Bool) → In x.0 (messages_taken (simulation net) has ends c ms)
          → In x.0 (if b then y.0 ∷ messages_taken (simulation net) has ends c ms
          else messages_taken (simulation net) has ends c ms)
      later true h = inr h
      later false h = h

  module _ (ms : MarkedMessages) (xs : List StationCopy) (disjoint : Disjoint has xs)
      (sorted : (a : StationCopy) → In a xs → SortedMarked msg_cmp a.pending) where
    -- the copies after the messages were delivered
    given : SoFarGiven (simulation net) has ends ms xs (with_mail ms xs)
    given = given_so_far net ends ms [] xs xs (given_none (simulation net) has ends xs disjoint sorted)

    -- a clone still takes what it took before
    taken_still : (c : ℕ) (m : Msg) → IsTakenBy ends xs c m → IsTakenBy ends (with_mail ms xs) c m
    taken_still c m h =
        let b = given.clones.each h.copy h.is_copy in
        let r = given.from b.0 b.1 in
        let is_in = subst (λ k. has k c ≡ true) (sym b.2) h.is_in in
        let was = subst (λ k. has k c ≡ true) r.2.set is_in in
        let one = one_of has xs h.copy r.0 c disjoint h.is_copy r.1 h.is_in was in
        record {
          copy = b.0;
          is_copy = b.1;
          is_in = is_in;
          is_taken = r.4 c m was (inl (subst (λ (u : StationCopy).
              In m (messages_taken (simulation net) has ends c u.pending)) one h.is_taken));
        }

    -- what a clone takes from the messages it takes from the copies
    taken_mail : (c : ℕ) (m : Msg) (k : CloneSet) → has (all_clones xs) c ≡ true → In (m, k) ms → has k c ≡ true
        → m.key.time < ends c → IsTakenBy ends (with_mail ms xs) c m
    taken_mail c m k lives i marked soon =
        let a = in_some xs c lives in
        let b = given.clones.each a.0 a.1 in
        let r = given.from b.0 b.1 in
        let is_in = subst (λ k. has k c ≡ true) (sym b.2) a.2 in
        let was = subst (λ k. has k c ≡ true) r.2.set is_in in
        record {
          copy = b.0;
          is_copy = b.1;
          is_in = is_in;
          is_taken = r.4 c m was (inr (taken_has c ms (m, k) i marked soon));
        }

    -- it takes nothing else
    taken_from : (c : ℕ) (m : Msg) → IsTakenBy ends (with_mail ms xs) c m → IsTakenBy ends xs c m
        ⊎ ((k : CloneSet) × In (m, k) ms × (has k c ≡ true) × (m.key.time < ends c) × (has (all_clones xs) c ≡ true))
    taken_from c m h =
        let r = given.from h.copy h.is_copy in
        let was = subst (λ k. has k c ≡ true) r.2.set h.is_in in
        elim (r.3 c m was h.is_taken) [
          | inl i ↦ inl (record { copy = r.0; is_copy = r.1; is_in = was; is_taken = i })
          | inr i ↦ let t = in_taken c ms m i in inr (t.0, t.1, t.2, t.3, some_in xs r.0 c r.1 was)
        ]

    -- ---- IsLeast and IsLeastOf

    -- the earlier of the copies' least time and the messages' is the least time after delivery
    pub least_with_mail : (living : CloneSet) → all_clones xs ≡ living → (t u : Option ℕ) → IsLeast ends xs t
        → IsEarliest t (IsMailTaken ends living ms) u → IsLeast ends (with_mail ms xs) u
    least_with_mail living all t u h k = least_earliest t u (λ m. (c : ℕ) × IsTakenBy ends xs c m)
        (IsMailTaken ends living ms) (λ m. (c : ℕ) × IsTakenBy ends (with_mail ms xs) c m)
        (λ m p. (p.0, taken_still p.0 m p.1))
        (λ m q. (
          q.clone,
          taken_mail q.clone m q.marks (ap (λ s. has s q.clone) all ∙ q.is_in) q.is_mail q.is_marked q.in_time,
        ))
        (λ m p. elim (taken_from p.0 m p.1) [
          | inl x ↦ inl (p.0, x)
          | inr y ↦ inr (record {
            clone = p.0;
            is_in = ap (λ s. has s p.0) (sym all) ∙ y.4;
            marks = y.0;
            is_mail = y.1;
            is_marked = y.2;
            in_time = y.3;
          })
        ])
        h k

    -- the same for one clone
    pub least_of_with_mail : (living clones : CloneSet) (c : ℕ) → all_clones xs ≡ living
        → clones ≡ meet living (one c) → ((d : ℕ) → has (one c) d ≡ (c == d)) → (t u : Option ℕ)
        → IsLeastOf ends xs c t → IsEarliest t (IsMailTaken ends clones ms) u
        → IsLeastOf ends (with_mail ms xs) c u
    least_of_with_mail living clones c all is single t u h k = least_earliest t u (IsTakenBy ends xs c)
        (IsMailTaken ends clones ms) (IsTakenBy ends (with_mail ms xs) c)
        (λ m p. taken_still c m p)
        (λ m q.
        let both = and_parts (has living q.clone) (has (one c) q.clone) (sym (member q.clone) ∙ q.is_in) in
        let same : c ≡ q.clone = eqb-true c q.clone (sym (single q.clone) ∙ both.1) in
        subst (λ d. IsTakenBy ends (with_mail ms xs) d m) (sym same)
        (taken_mail q.clone m q.marks (ap (λ s. has s q.clone) all ∙ both.0) q.is_mail q.is_marked q.in_time))
        (λ m p. elim (taken_from c m p) [
          | inl x ↦ inl x
          | inr y ↦ inr (record {
            clone = c;
            is_in = member c ∙ ap (λ b. b && has (one c) c) (ap (λ s. has s c) (sym all) ∙ y.4)
                ∙ single c ∙ self c;
            marks = y.0;
            is_mail = y.1;
            is_marked = y.2;
            in_time = y.3;
          })
        ])
        h k
      where
        member : (d : ℕ) → has clones d ≡ (has living d && has (one c) d)
        member d = ap (λ s. has s d) is ∙ has-meet living (one c) d

        self : (d : ℕ) → (d == d) ≡ true
        self d = eq-eqb d d refl
