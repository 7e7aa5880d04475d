-- A copy without messages that none of its clones takes, and a copy for some of the clones.
use Rattle.std.proofs.Common.{◌≡◌, ℕ, ◌<◌, ◌≤◌, ◌&&◌, true, false, cond, List, [], ◌∷◌, ◌++◌, Option}
use Rattle.std.proofs.Common.{Some, None, refl, sym, ap, ◌∙◌, subst, arith, nat_lt, not, ◌≢◌, append_assoc, length}
use Rattle.std.proofs.Common.{slice_get}
use Rattle.std.specs.Prelude.{option_map}
use Rattle.std.specs.List.{AllByRecursion, cons_option}
use Rattle.std.specs.declared.cmp.Ordering.TheVariants.{Less}
use Rattle.sim_base.specs.Order.{msg_cmp}
use Rattle.sim_base.specs.Pending.{cut_by, first_time, first_marks}
use Rattle.sim_base.specs.declared.message.Msg.{Msg}
use Rattle.clone_sets.specs.Sets.{has, common, empty}
use Rattle.clone_sets.specs.declared.set.CloneSet.{CloneSet}
use Rattle.clone_sets.proofs.SetLaws.{common_none, common_some, common_is}
use Rattle.net_model.specs.Net.{Net}
use Rattle.stations.specs.Runs.{simulation}
use Rattle.sim_base.specs.Marked.{SortedMarked}
use Rattle.run_laws.specs.Copies.{Carries, IsNarrowed}
use Rattle.sim_base.proofs.OrderEqual.{msg-timed}
use Rattle.sim_base.proofs.ListLaws.{all_weaker, all_right}
use Rattle.sim_base.proofs.Cutting.{SortedMarked-cut}
use Rattle.run_laws.proofs.Parts.{part_no, all_part_of}
use Rattle.phys_proc.specs.Ends.{ends_in, has_ended}
use Rattle.phys_proc.proofs.Ends.{has_ended-is, and_not}
use Rattle.std.proofs.lemmas.Bool.{and_parts}
use Rattle.std.proofs.Math.Bool.{and-true, and_assoc}
use Rattle.phys_proc.specs.Own.{StationCopy, MarkedMessages, AreMarks, takes_at, taken_at}
use Rattle.phys_proc.specs.Own.{IsCopy, IsSameToClones, NextDue, NothingDue, half}

-- ---- cut_by

module _ (by : CloneSet) where
  -- the messages that these clones are marked with, for them alone
  abbrev cut : MarkedMessages → MarkedMessages
  cut xs = cut_by common by xs

  -- the rest, with the message before it if it has marks left
  abbrev pub cons_marked : Option CloneSet → Msg → MarkedMessages → MarkedMessages
  cons_marked o m rest = cons_option (option_map (λ k. (m, k)) o) rest

  module _ (ends : ℕ → ℕ) (c : ℕ) (in_by : has by c ≡ true) where
    -- of a message and the rest a clone of the cut takes the same as before
    taken_cons_marked : (o : Option CloneSet) (x : Msg × CloneSet) (xs rest : MarkedMessages) → common x.1 by ≡ o
        → taken_at ends c rest ≡ taken_at ends c xs
        → taken_at ends c (cons_marked o x.0 rest) ≡ taken_at ends c (x ∷ xs)
    taken_cons_marked None x xs rest e h =
        let no : has x.1 c ≡ false = sym (and-true (has x.1 c)) ∙ (ap (λ b. has x.1 c && b) (sym in_by)
        ∙ common_none x.1 by e c) in
        h ∙ sym (part_no (takes_at ends) c x xs (ap (λ b. b && nat_lt x.0.key.time (ends c)) no))
    taken_cons_marked (Some k) x xs rest e h =
        let same : has k c ≡ has x.1 c =
        common_some x.1 by k e c ∙ (ap (λ b. has x.1 c && b) in_by ∙ and-true (has x.1 c)) in
        ap (λ b. cond (b && nat_lt x.0.key.time (ends c)) (x.0 ∷ taken_at ends c rest) (taken_at ends c rest)) same
        ∙ ap (λ l. cond (takes_at ends x.0 x.1 c) (x.0 ∷ l) l) h

    -- and so of all messages
    taken_cut : (xs : MarkedMessages) → taken_at ends c (cut xs) ≡ taken_at ends c xs
    taken_cut [] = refl
    taken_cut (x ∷ xs) = taken_cons_marked (common x.1 by) x xs (cut xs) refl (taken_cut xs)

  -- a property of a message and of the rest holds of both
  all_cons_marked : (P : Msg → Type 0) (o : Option CloneSet) (m : Msg) (rest : MarkedMessages) → P m
      → AllByRecursion (λ x. P x.0) rest → AllByRecursion (λ x. P x.0) (cons_marked o m rest)
  all_cons_marked P None m rest p f = f
  all_cons_marked P (Some k) m rest p f = (p, f)

  -- a property of all messages holds of those of the cut
  all_cut : (P : Msg → Type 0) (xs : MarkedMessages) → AllByRecursion (λ x. P x.0) xs
      → AllByRecursion (λ x. P x.0) (cut xs)
  all_cut P [] f = tt
  all_cut P (x ∷ xs) f = all_cons_marked P (common x.1 by) x.0 (cut xs) f.0 (all_cut P xs f.1)

  -- the marks shared with the set are some clones of the set
  marks_cons_marked : (o : Option CloneSet) (x : Msg × CloneSet) (rest : MarkedMessages) → common x.1 by ≡ o
      → AllByRecursion (λ y. AreMarks by y.1) rest → AllByRecursion (λ y. AreMarks by y.1) (cons_marked o x.0 rest)
  marks_cons_marked None x rest e f = f
  marks_cons_marked (Some k) x rest e f = (
    record {
      nonempty = (common_is x.1 by k e).1;
      within = λ c i. (and_parts (has x.1 c) (has by c) (sym (common_some x.1 by k e c) ∙ i)).1;
    },
    f,
  )

  -- marks in a cut are some of the clones that it is for
  marks_cut : (xs : MarkedMessages) → AllByRecursion (λ y. AreMarks by y.1) (cut xs)
  marks_cut [] = tt
  marks_cut (x ∷ xs) = marks_cons_marked (common x.1 by) x (cut xs) refl (marks_cut xs)

-- ---- prefixes and the first of a list

-- a list in order stays so without its first ones
sorted_rest : (xs ys : MarkedMessages) → SortedMarked msg_cmp (xs ++ ys) → SortedMarked msg_cmp ys
sorted_rest [] ys s = s
sorted_rest (x ∷ xs) ys s = sorted_rest xs ys s.1

-- the first of a list
first_of : (q : MarkedMessages) (x : Msg × CloneSet) → Some x ≡ slice_get q 0
    → (rest : MarkedMessages) × (q ≡ x ∷ rest)
first_of [] x e = absurd (cc)
first_of (y ∷ ys) x e = let h : y ≡ x = cc in (ys, ap (λ z. z ∷ ys) h)

-- the messages after the first
abbrev pub tail_of : MarkedMessages → MarkedMessages
tail_of [] = []
tail_of (x ∷ xs) = xs

-- the first element of a list is the one read at place 0
pub first_is : (q : MarkedMessages) (x y : Msg × CloneSet) (rest : MarkedMessages) → Some x ≡ slice_get q 0
    → q ≡ y ∷ rest
    → q ≡ x ∷ rest
first_is [] x y rest e f = absurd (cc)
first_is (z ∷ zs) x y rest e f = let h : z ≡ x = cc in let t : zs ≡ rest = ap tail_of f in λ i. h i ∷ t i

-- if there is a first time, there is a first message of that time
pub first_timed : (q : MarkedMessages) (t : ℕ) → Some t ≡ first_time q
    → (x : Msg × CloneSet) × (Some x ≡ slice_get q 0) × (x.0.key.time ≡ t)
first_timed [] t e = absurd (cc)
first_timed (x ∷ xs) t e = let h : t ≡ x.0.key.time = cc in (x, refl, sym h)

-- and with the first marks
pub first_marked : (q : MarkedMessages) (t : ℕ) (k : CloneSet) → Some t ≡ first_time q → Some k ≡ first_marks q
    → (m : Msg) × (Some (m, k) ≡ slice_get q 0) × (m.key.time ≡ t)
first_marked [] t k e f = absurd (cc)
first_marked (x ∷ xs) t k e f =
    let h : t ≡ x.0.key.time = cc in
    let g : k ≡ x.1 = cc in
    (x.0, ap (λ l. Some (x.0, l)) g, sym h)

-- if there is none, there is no message
pub none_timed : (q : MarkedMessages) → None ≡ first_time q → None ≡ slice_get q 0
none_timed [] e = refl
none_timed (x ∷ xs) e = absurd (cc)

-- if there is a first time, a message is pending
pub some_waits : (q : MarkedMessages) (t : ℕ) → Some t ≡ first_time q → 0 < length q
some_waits [] t e = absurd (cc)
some_waits (x ∷ xs) t e = omega arith

-- a list with nothing at place 0 is empty
none_of : (q : MarkedMessages) → None ≡ slice_get q 0 → q ≡ []
none_of [] e = refl
none_of (y ∷ ys) e = absurd (cc)

-- ---- IsCopy

-- a copy with the state and the log of a copy of the station is one too, if its clones and pending messages fit
pub IsCopy-like : (net : Net) (s : ℕ) (a b : StationCopy) → IsCopy net s a → b.state ≡ a.state → b.log ≡ a.log
    → ((c : ℕ) × Carries has b c) → SortedMarked msg_cmp b.pending → AllByRecursion (λ x. x.0.to ≡ s) b.pending
    → AllByRecursion (λ x. AreMarks b.set x.1) b.pending → IsCopy net s b
IsCopy-like net s a b f state log some sorted targets marks = record {
  valid = f.valid;
  inhabited = some;
  fits = rw state f.fits;
  suits = rw state f.suits;
  station = rw state f.station;
  handled = rw (state, log) f.handled;
  length_max = rw log f.length_max;
  sorted = sorted;
  targets = targets;
  replays = rw (state, log) f.replays;
  marks = marks;
}

-- ---- NothingDue and IsSameToClones

module _ (ends : ℕ → ℕ) where
  -- with the least message at the bound or later nothing is due
  late_one : (c bound : ℕ) (m : Msg) (k : CloneSet) (q : MarkedMessages) → bound ≤ m.key.time
      → AllByRecursion (λ x. msg_cmp m x.0 ≡ Less) q
      → AllByRecursion (λ m. bound ≤ m.key.time) (taken_at ends c ((m, k) ∷ q))
  late_one c bound m k q late f = all_part_of (takes_at ends) c (λ m. bound ≤ m.key.time) ((m, k) ∷ q) (
    late,
    all_weaker (λ y. msg_cmp m y.0 ≡ Less) (λ y. bound ≤ y.0.key.time) q (λ y l. let t = msg-timed m y.0 l in
        omega arith) f,
  )

  -- if the first remaining message comes at the bound or later, nothing is due
  pub nothing_late : (bound : ℕ) (a b : StationCopy) (m : Msg) (k : CloneSet) → IsSameToClones ends a b
      → SortedMarked msg_cmp a.pending → Some (m, k) ≡ slice_get b.pending 0 → bound ≤ m.key.time
      → NothingDue ends bound a b
  nothing_late bound a b m k h sorted first late =
      let f = first_of b.pending (m, k) first in
      let sb : SortedMarked msg_cmp ((m, k) ∷ f.0) =
      subst (SortedMarked msg_cmp) f.1
      (sorted_rest h.passed b.pending (subst (SortedMarked msg_cmp) h.pending sorted)) in
      record {
        same = h;
        settled = λ c i. subst (λ q. AllByRecursion (λ m. bound ≤ m.key.time) (taken_at ends c q))
            (sym f.1) (late_one c bound m k f.0 late sb.0);
      }

  -- and nothing is due if no message is left
  pub nothing_left : (bound : ℕ) (a b : StationCopy) → IsSameToClones ends a b → None ≡ slice_get b.pending 0
      → NothingDue ends bound a b
  nothing_left bound a b h none =
      record {
        same = h;
        settled = λ c i. subst (λ q. AllByRecursion (λ m. bound ≤ m.key.time) (taken_at ends c q))
            (sym (none_of b.pending none)) tt;
      }

  -- nothing was passed over yet
  pub same_none : (a : StationCopy) → IsSameToClones ends a a
  same_none a = record {
    copy = record { set = refl; log = refl; state = refl };
    parts = λ c h. refl;
    passed = [];
    pending = refl;
  }

  -- one message more
  pub same_more : (a b d : StationCopy) (m : Msg) (k : CloneSet) → IsSameToClones ends a b
      → b.pending ≡ (m, k) ∷ d.pending → d.set ≡ b.set → d.state ≡ b.state → d.log ≡ b.log
      → ((c : ℕ) → has a.set c ≡ true → takes_at ends m k c ≡ false) → IsSameToClones ends a d
  same_more a b d m k h p set state log none = record {
    copy = record { set = set ∙ h.copy.set; log = log ∙ h.copy.log; state = state ∙ h.copy.state };
    parts = λ c i. sym (ap (taken_at ends c) p ∙ part_no (takes_at ends) c (m, k) d.pending (none c i)) ∙ h.parts c i;
    passed = h.passed ++ (m, k) ∷ [];
    pending = h.pending ∙ (ap (λ l. h.passed ++ l) p ∙ sym (append_assoc h.passed ((m, k) ∷ []) d.pending));
  }

  module _ (net : Net) (s : ℕ) where
    -- it is a copy like the first
    pub copy_same : (a b : StationCopy) → IsCopy net s a → IsSameToClones ends a b → IsCopy net s b
    copy_same a b f h = IsCopy-like net s a b f h.copy.state h.copy.log
        (f.inhabited.0, subst (λ k. has k f.inhabited.0 ≡ true) (sym h.copy.set) f.inhabited.1)
        (sorted_rest h.passed b.pending (subst (SortedMarked msg_cmp) h.pending f.sorted))
        (all_right (λ x. x.0.to ≡ s) h.passed b.pending (subst (AllByRecursion (λ x. x.0.to ≡ s)) h.pending f.targets))
        (all_right (λ x. AreMarks b.set x.1) h.passed b.pending
        (subst (AllByRecursion (λ x. AreMarks b.set x.1)) h.pending
        (subst (λ k. AllByRecursion (λ x. AreMarks k x.1) a.pending) (sym h.copy.set) f.marks)))

    -- and its clones have the same view as before
    pub narrowed_same : (a b : StationCopy) → IsSameToClones ends a b → IsNarrowed (simulation net) has ends a b
    narrowed_same a b h = record {
      state = h.copy.state;
      log = h.copy.log;
      within = λ c i. subst (λ k. has k c ≡ true) h.copy.set i;
      parts = λ c i. h.parts c (subst (λ k. has k c ≡ true) h.copy.set i);
    }

    -- a copy for some of the clones is a copy
    pub copy_half : (a : StationCopy) (some : CloneSet) → IsCopy net s a → (c : ℕ) × (has some c ≡ true)
        → IsCopy net s (half a some)
    copy_half a some f any = IsCopy-like net s a (half a some) f refl refl any
        (SortedMarked-cut common some msg_cmp a.pending f.sorted) (all_cut some (λ m. m.to ≡ s) a.pending f.targets)
        (marks_cut some a.pending)

    -- whose clones have the same view as before
    pub narrowed_half : (a : StationCopy) (some : CloneSet) → ((c : ℕ) → has some c ≡ true → has a.set c ≡ true)
        → IsNarrowed (simulation net) has ends a (half a some)
    narrowed_half a some within = record {
      state = refl;
      log = refl;
      within = within;
      parts = λ c i. taken_cut some ends c i a.pending;
    }

-- ---- NextDue

module _ (horizon : ℕ) (es : List (ℕ × ℕ)) (bound : ℕ) (early : bound ≤ horizon) (a b : StationCopy) (m : Msg)
    (k takers shared gone : CloneSet) (same : IsSameToClones (ends_in horizon es) a b)
    (meets : (c : ℕ) → has shared c ≡ (has b.set c && has k c)) (left : (c : ℕ)
    → has takers c ≡ (has shared c && not (has gone c))) (went : (c : ℕ) → has gone c ≡ has_ended m.key.time es c)
    (soon : m.key.time < bound) where
  -- the takers are the clones of the copy that take the message
  takers_are : (c : ℕ) → has takers c ≡ (has a.set c && takes_at (ends_in horizon es) m k c)
  takers_are c =
      left c ∙ ap (λ x. x && not (has gone c)) (meets c ∙ ap (λ s. has s c && has k c) same.copy.set)
      ∙ and_assoc (has a.set c) (has k c) (not (has gone c))
      ∙ ap (λ x. has a.set c && x) (and_not (has k c) (has gone c) (nat_lt m.key.time (ends_in horizon es c))
      (went c ∙ has_ended-is horizon m.key.time es c (omega arith)))

  -- if there are some, the message is due next
  pub next_is_due : takers ≢ empty → Some (m, k) ≡ slice_get b.pending 0
      → NextDue (ends_in horizon es) bound a b m takers
  next_is_due some first =
      let f = first_of b.pending (m, k) first in
      record { same = same; marks = k; rest = f.0; pending = f.1; time_max = soon; take = takers_are; nonempty = some }

  -- if there are none, it is skipped
  pub none_takes : ((c : ℕ) → has takers c ≡ false) → (c : ℕ) → has a.set c ≡ true
      → takes_at (ends_in horizon es) m k c ≡ false
  none_takes none c i = ap (λ x. x && takes_at (ends_in horizon es) m k c) (sym i) ∙ sym (takers_are c) ∙ none c
