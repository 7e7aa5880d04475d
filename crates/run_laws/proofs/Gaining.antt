-- Handled once: the number of different prefixes of the clones' logs grows by the gains of the copies, and there are as
-- many copies as different logs.
--
-- The lemmas `.._by_logs` of gains hold for any two times of a station. They have two premises. The messages that a
-- clone takes come at the earlier time or later, and a copy's run alone to the later time ends with the clone's log
-- there. Rounds meet both.
use Rattle.std.proofs.Common.{◌≡◌, ◌↔◌, ℕ, ◌+◌, ◌-◌, ◌*◌, ◌≤◌, ◌<◌, min, List, []}
use Rattle.std.proofs.Common.{◌∷◌, ◌++◌, ◌⊎◌, inl, inr, Bool, true, nat_lt, ◌==◌, refl, sym}
use Rattle.std.proofs.Common.{ap, ◌∙◌, subst, arith, length, length-append, map, take, drop, append_assoc, append-nil}
use Rattle.std.specs.List.{AllByRecursion, flat_map}
use Rattle.std.specs.Set.{distinct_count}
use Rattle.std.proofs.lemmas.Bool.{cases_lt, lt-ltb}
use Rattle.std.proofs.lemmas.List.{take-append-drop, length-map, append_cancel_left}
use Rattle.std.proofs.lemmas.List.Elements.{filter-append}
use Rattle.std.proofs.lemmas.Map.Made.{distinct_count-le}
use Rattle.sim_base.specs.Clones.{Clone, clone_at}
use Rattle.sim_base.specs.declared.entry.Entry.{Entry}
use Rattle.run_laws.specs.Queue.{In}
use Rattle.run_laws.specs.Machine.{Config, Reach, IsSettled}
use Rattle.run_laws.specs.Simulation.{Simulation}
use Rattle.run_laws.specs.World.{World, log_of, world_step}
use Rattle.run_laws.specs.Window.{LocalStation}
use Rattle.run_laws.specs.Runs.{end_of, run_of, log_at, all_due, due_at}
use Rattle.run_laws.specs.Sharing.{prefixes, same_list, logs_at, copies, handled_once, handled_to_limit, IsBeyond}
use Rattle.run_laws.specs.Handlers.{HandlesLawfully}
use Rattle.run_laws.specs.Laws.{entries_before}
use Rattle.run_laws.specs.CountLaws.{TellsEntries, AreWithinLimitAt}
use Rattle.run_laws.specs.Prefixes.{Apart, IsCount, IsGained}
use Rattle.sim_base.specs.Marked.{JoinsMarks, SortedMarked}
use Rattle.run_laws.specs.Copies.{Copy, Carries, Disjoint, takes, messages_taken, view, IsNarrowed, Turns}
use Rattle.run_laws.specs.Copies.{IsCutLog, Gains, GainedBy, GainTogether, alone_from, AreOver, ends_of}
use Rattle.run_laws.specs.Copies.{StandsByLogs, Stands}
use Rattle.run_laws.proofs.Queue.{all_in, all_from}
use Rattle.run_laws.proofs.Lists.{in_filter, in_own, append_old, filter_all}
use Rattle.run_laws.proofs.Machine.{reach_keeps}
use Rattle.run_laws.proofs.Running.{fine_keeps}
use Rattle.run_laws.proofs.Worlds.{run_reached, run_goes_on, entry_of}
use Rattle.run_laws.proofs.Fronts.{trace_below, entries_before-late, log_at_front}
use Rattle.run_laws.proofs.NextFronts.{all_due-from_front}
use Rattle.run_laws.proofs.Parts.{sorted_part}
use Rattle.run_laws.proofs.Prefixes.{count_same, count_both, count_unique, gained_same, longer_than_itself}
use Rattle.run_laws.proofs.ComesTo.{until_lawful, turns-settle, cut_of_some}
use Rattle.run_laws.proofs.Steps.{ends_alone}
use Rattle.run_laws.proofs.Stands.{clone_in, stands_by_logs}
use Rattle.run_laws.proofs.Places.{place_in}
use Rattle.run_laws.proofs.Limits.{cut_goes_on}
use Rattle.run_laws.proofs.Counts.{distinct_is_count, same_list-Decides, in_map, map_has}
use Rattle.run_laws.proofs.Counts.{prefixes_count, few_prefixes, none_cut}

-- ---- ++

-- if two lists together are empty, the first is
nothing_first : {X : Type 0} (xs ys : List X) → xs ++ ys ≡ [] → xs ≡ []
nothing_first [] ys e = refl
nothing_first (x ∷ xs) ys e = absurd (cc)

-- a list with a further element is not empty
pub begins_somehow : {X : Type 0} (xs p : List X) (f : X) (m : List X) → p ≡ xs ++ f ∷ m →
    (g : X) × (n : List X) × (p ≡ g ∷ n)
begins_somehow [] p f m e = (f, m, e)
begins_somehow (x ∷ xs) p f m e = (x, xs ++ f ∷ m, e)

-- of two beginnings of a list, one is a beginning of the other
one_goes_on : {X : Type 0} (xs h p rest : List X) → xs ++ h ≡ p ++ rest →
    ((r : List X) × (xs ≡ p ++ r)) ⊎ ((f : X) × (m : List X) × (p ≡ xs ++ f ∷ m))
one_goes_on [] h [] rest e = inl ([], refl)
one_goes_on [] h (f ∷ m) rest e = inr (f, m, refl)
one_goes_on (x ∷ xs) h [] rest e = inl (x ∷ xs, refl)
one_goes_on (x ∷ xs) h (y ∷ p) rest e =
    let a : x ≡ y = cc in
    let t : xs ++ h ≡ p ++ rest = cc in
    elim (one_goes_on xs h p rest t) [
      | inl r ↦ let u = r.1 in inl (r.0, cc)
      | inr r ↦ let u = r.2 in inr (r.0, r.1, cc)
    ]

-- ---- IsBeyond

-- a log that is not beyond the limit is no longer than it
pub not_beyond : {S M N : Type 0} (sim : Simulation S M N) (c : Clone) (s front : ℕ) → ¬ (IsBeyond sim s front c) →
    length (log_at sim c s front) ≤ sim.limit
not_beyond sim c s front h = elim (cases_lt sim.limit (length (log_at sim c s front))) [
  | inl long ↦ absurd (h long)
  | inr short ↦ short
]

-- ---- log_at, due_at

module _ {S M N : Type 0} {sim : Simulation S M N} {Good : ℕ → S → Type 0} (law : HandlesLawfully sim Good) where
  -- a trace only grows
  trace-grows : {bound : ℕ} (c d : Config (World S M N) M) →
      Reach sim.order sim.time (world_step sim.to sim.handle) bound c d →
      (l : List (Entry M N)) × (d.at.trace ≡ c.at.trace ++ l)
  trace-grows c d r = reach_keeps (λ d. (l : List (Entry M N)) × (d.at.trace ≡ c.at.trace ++ l))
      ([], sym (append-nil c.at.trace))
      (λ x m q early h. let e : Entry M N = entry_of sim (sim.to m) (x.states (sim.to m)) m in
      (h.0 ++ e ∷ [], ap (λ l. l ++ e ∷ []) h.1 ∙ append_assoc c.at.trace h.0 (e ∷ [])))
      r

  -- all that a station handled before a front comes before it
  log_at-below : (c : Clone) (s front : ℕ) →
      AllByRecursion (λ e. nat_lt (sim.time e.msg) front ≡ true) (log_at sim c s front)
  log_at-below c s front = all_from (λ e. nat_lt (sim.time e.msg) front ≡ true) (log_at sim c s front) (λ e i.
      let t : sim.time e.msg < min front (end_of sim c) =
      all_in (λ e. sim.time e.msg < min front (end_of sim c)) (run_of sim c front).at.trace e
      (trace_below law c.plans (min front (end_of sim c)))
      (in_filter (λ e. sim.to e.msg == s) (run_of sim c front).at.trace e i).0 in
      lt-ltb (sim.time e.msg) front (omega arith))

  -- a log at a later front extends the log at a front
  log_at-goes_on : (c : Clone) (s front bound : ℕ) → front ≤ bound →
      (l : List (Entry M N)) × (log_at sim c s bound ≡ log_at sim c s front ++ l)
  log_at-goes_on c s front bound l =
      let later : min front (end_of sim c) ≤ min bound (end_of sim c) = omega arith in
      let h = trace-grows (run_of sim c front) (run_of sim c bound)
      (run_goes_on law c.plans (min front (end_of sim c)) (min bound (end_of sim c)) later) in (
        log_of sim.to s h.0,
        ap (log_of sim.to s) h.1 ∙ filter-append (λ e. sim.to e.msg == s)
            (run_of sim c front).at.trace h.0,
      )

  -- and is beyond the limit there, if it was before
  pub IsBeyond-later : (c : Clone) (s front bound : ℕ) → front ≤ bound → IsBeyond sim s front c → IsBeyond sim s bound c
  IsBeyond-later c s front bound l long =
      let h = log_at-goes_on c s front bound l in
      let e = ap length h.1 in
      let k = length-append (log_at sim c s front) h.0 in
      omega (arith, e, k, long)

  -- the due messages at a front do not come before it
  pub due_at-from_front : (c : Clone) (s front : ℕ) → AllByRecursion (λ m. front ≤ sim.time m) (due_at sim c s front)
  due_at-from_front c s front = all_from (λ m. front ≤ sim.time m) (due_at sim c s front) (λ z i.
      all_in (λ m. front ≤ sim.time m) (all_due sim c front) z (all_due-from_front law c front)
      (in_own sim.to s (all_due sim c front) z i).0)

-- ---- Gains, GainedBy, GainTogether

module _ {S M N K : Type 0} {sim : Simulation S M N} {Good : ℕ → S → Type 0} (law : HandlesLawfully sim Good)
    {has : K → ℕ → Bool} {join : K → K → K} (j : JoinsMarks has join) (ends : ℕ → ℕ) (s front bound : ℕ) where
  -- a copy is at the front, for one of its clones
  pub record AtFront (a : Copy S M N K) (c : ℕ) : Type 0 where
    pub good : Good s a.state
    pub sorted : SortedMarked sim.order a.pending
    pub log_before : entries_before sim front a.log ≡ a.log
    pub from_front : AllByRecursion (λ m. front ≤ sim.time m) (messages_taken sim has ends c a.pending)

  -- the entries of a gained prefix before the front are the log of the copy
  gained_before : (a : Copy S M N K) (p : List (Entry M N)) → ((c : ℕ) → Carries has a c → AtFront a c) →
      Gains sim has ends s bound a p → entries_before sim front p ≡ a.log
  gained_before a p at g =
      let cut = g.is_log in
      let c : ℕ = cut.clone in
      let h = at cut.clone cut.is_in in
      let kept : entries_before sim front cut.last.at.log ≡ a.log =
      fine_keeps law.order (until_lawful law (ends cut.clone) s) front (λ d. entries_before sim front d.at.log ≡ a.log)
      h.log_before
      (λ x m q f early h. entries_before-late law front x.log (entry_of sim s x.state m) f.from_t.0 ∙ h)
      (record {
        good = h.good;
        sorted = sorted_part (takes sim has ends) sim.order cut.clone a.pending h.sorted;
        from_t = h.from_front;
      })
      cut.ran in
      let own : List (Entry M N) = entries_before sim front (g.first ∷ g.more) in
      let rest : List (Entry M N) = g.rest ++ drop sim.limit cut.last.at.log in
      let whole : cut.last.at.log ≡ p ++ rest = sym (take-append-drop sim.limit cut.last.at.log)
      ∙ ap (λ l. l ++ drop sim.limit cut.last.at.log) (sym cut.is ∙ g.prefix)
      ∙ append_assoc p g.rest (drop sim.limit cut.last.at.log) in
      let is : entries_before sim front p ≡ a.log ++ own = ap (entries_before sim front) g.longer
      ∙ filter-append (λ e. nat_lt (sim.time e.msg) front) a.log (g.first ∷ g.more)
      ∙ ap (λ l. l ++ own) h.log_before in
      let both : a.log ++ (own ++ entries_before sim front rest) ≡ a.log ++ [] =
      sym (append_assoc a.log own (entries_before sim front rest))
      ∙ ap (λ l. l ++ entries_before sim front rest) (sym is)
      ∙ sym (filter-append (λ e. nat_lt (sim.time e.msg) front) p rest)
      ∙ sym (ap (entries_before sim front) whole) ∙ kept
      ∙ sym (append-nil a.log) in
      let none : own ≡ [] = nothing_first own (entries_before sim front rest)
      (append_cancel_left a.log (own ++ entries_before sim front rest) [] both) in
      is ∙ ap (λ l. a.log ++ l) none ∙ append-nil a.log

  -- no copies gain nothing
  counted_none : IsCount (GainedBy sim has ends s bound []) 0
  counted_none = record { members = []; apart = tt; exact = λ x i. absurd i; all = λ x i. absurd i.1; number = refl }

  -- one copy more, whose log differs from those of the others
  counted_more : (a : Copy S M N K) (old : List (Copy S M N K)) (m n : ℕ) →
      ((b : Copy S M N K) (c : ℕ) → In b (a ∷ old) → Carries has b c → AtFront b c) →
      ((b : Copy S M N K) (c d : ℕ) → In b old → Carries has a c → Carries has b d → a.log ≡ b.log → ⊥) →
      IsCount (Gains sim has ends s bound a) m → IsCount (GainedBy sim has ends s bound old) n →
      IsCount (GainedBy sim has ends s bound (a ∷ old)) (m + n)
  counted_more a old m n at differ x y =
      count_same (λ p. Gains sim has ends s bound a p ⊎ GainedBy sim has ends s bound old p)
      (GainedBy sim has ends s bound (a ∷ old)) (m + n)
      (λ p h. elim h [ inl g ↦ (a, inl refl, g) | inr g ↦ (g.0, inr g.1, g.2) ])
      (λ p g. elim g.1 [ inl e ↦ inl (subst (λ u. Gains sim has ends s bound u p) e g.2) | inr i ↦ inr (g.0, i, g.2) ])
      (count_both (Gains sim has ends s bound a) (GainedBy sim has ends s bound old) m n (λ p g h.
      let e : entries_before sim front p ≡ a.log = gained_before a p (λ c k. at a c (inl refl) k) g in
      let f : entries_before sim front p ≡ h.0.log = gained_before h.0 p (λ c k. at h.0 c (inr h.1) k) h.2 in
      differ h.0 g.is_log.clone h.2.is_log.clone h.1 g.is_log.is_in h.2.is_log.is_in (sym e ∙ f)) x y)

  -- copies that gain together, and one more
  pub together_push : (old : List (Copy S M N K)) (r : Copy S M N K) (n m : ℕ)
      → GainTogether sim has ends s bound old n →
      IsCount (Gains sim has ends s bound r) m → GainTogether sim has ends s bound (old ++ r ∷ []) (n + m)
  together_push [] r n m e x = (m, 0, x, refl, omega (arith, e))
  together_push (a ∷ old) r n m h x = let e = h.4 in
      (h.0, h.1 + m, h.2, together_push old r h.1 m h.3 x, omega (arith, e))

  -- the gains of a copy are counted without the messages that others have laid aside
  pub gained_alone : (r : Copy S M N K) (out : List (M × K)) (n : ℕ) →
      ((c : ℕ) → Carries has r c → messages_taken sim has ends c out ≡ []) →
      IsCount (IsGained (IsCutLog sim has ends s bound r out) r.log) n → IsCount (Gains sim has ends s bound r) n
  gained_alone r out n none h =
      let same : IsNarrowed sim has ends r r =
      record { state = refl; log = refl; within = λ c i. i; parts = λ c i. refl } in
      gained_same (IsCutLog sim has ends s bound r out) (IsCutLog sim has ends s bound r []) r.log n
      (λ l g. cut_of_some law j ends s bound r r [] out same none l g)
      (λ l g. cut_of_some law j ends s bound r r out [] same (λ c i. sym (none c i)) l g) h

-- ---- StandsByLogs

module _ {S M N K : Type 0} {sim : Simulation S M N} {Good : ℕ → S → Type 0} (law : HandlesLawfully sim Good)
    {has : K → ℕ → Bool} (cs : List Clone) (s front : ℕ)
    (old : List (Copy S M N K)) (st : StandsByLogs sim has cs front s old) where
  -- a copy's state is good
  pub good_state : (a : Copy S M N K) (c : ℕ) → In a old → Carries has a c → Good s a.state
  good_state a c i h = subst (Good s) (sym (st.state a c i h))
      ((run_reached law (clone_at cs c).plans (min front (end_of sim (clone_at cs c)))).1.good s)

  -- copies with one log are one copy
  one_copy : (a b : Copy S M N K) (c d : ℕ) → In a old → In b old → Carries has a c → Carries has b d →
      a.log ≡ b.log → a ≡ b
  one_copy a b c d i l h k e = st.shared a b c d i l h k (sym (st.log a c i h) ∙ e ∙ st.log b d l k)

-- copies at a front, the messages that clones take there, and a bound at which each copy's run alone ends with the
-- clone's log
module _ {S M N K : Type 0} {sim : Simulation S M N} {Good : ℕ → S → Type 0} (law : HandlesLawfully sim Good)
    {has : K → ℕ → Bool} {join : K → K → K} (j : JoinsMarks has join) (cs : List Clone) (s front bound : ℕ)
    (old : List (Copy S M N K)) (st : StandsByLogs sim has cs front s old)
    (taken_late : (a : Copy S M N K) (c : ℕ) → In a old → Carries has a c
    → AllByRecursion (λ m. front ≤ sim.time m) (messages_taken sim has (ends_of sim cs) c a.pending))
    (alone_log : (a : Copy S M N K) (c : ℕ) → In a old → Carries has a c
    → (alone_from sim has (ends_of sim cs) s bound a c).at.log ≡ log_at sim (clone_at cs c) s bound) where
  -- copies that represent clones are at the front
  pub at_front : (a : Copy S M N K) (c : ℕ) → In a old → Carries has a c →
      AtFront law j (ends_of sim cs) s front bound a c
  at_front a c i h = record {
    good = good_state law cs s front old st a c i h;
    sorted = st.sorted a i;
    log_before = ap (entries_before sim front) (st.log a c i h)
        ∙ log_at_front law (clone_at cs c) s front front (omega arith)
        ∙ sym (st.log a c i h);
    from_front = taken_late a c i h;
  }

  -- the copies' joint count of gains is the number of prefixes that one of them gains
  counted_together : (xs : List (Copy S M N K)) (n : ℕ) → ((a : Copy S M N K) → In a xs → In a old) → Disjoint has xs →
      GainTogether sim has (ends_of sim cs) s bound xs n → IsCount (GainedBy sim has (ends_of sim cs) s bound xs) n
  counted_together [] n within d e = subst (IsCount (GainedBy sim has (ends_of sim cs) s bound [])) (sym e)
      (counted_none law j (ends_of sim cs) s front bound)
  counted_together (a ∷ xs) n within d h =
      subst (IsCount (GainedBy sim has (ends_of sim cs) s bound (a ∷ xs))) (sym h.4)
      (counted_more law j (ends_of sim cs) s front bound a xs h.0 h.1 (λ b c i k. at_front b c (within b i) k)
      (λ b c e i k l same.
      let is : a ≡ b = one_copy law cs s front old st a b c e (within a (inl refl)) (within b (inr i)) k l same in
      all_in (λ b. (c : ℕ) → Carries has a c → ¬ (Carries has b c)) xs b d.0 i c k (subst (λ u. Carries has u c) is k))
      h.2 (counted_together xs h.1 (λ b i. within b (inr i)) d.1 h.3))

  module _ (later : front ≤ bound) where
    -- a clone's turns end with the clone's log at the bound
    pub last_log : (a : Copy S M N K) (c : ℕ) (d : Config (LocalStation S M N) M) → In a old → Carries has a c →
        Turns sim has (ends_of sim cs) s bound c (view sim has (ends_of sim cs) c a []) d →
        IsSettled sim.time bound d → d.at.log ≡ log_at sim (clone_at cs c) s bound
    last_log a c d i h ran done = (ends_alone law j (ends_of sim cs) s bound a c d
        (good_state law cs s front old st a c i h) (st.sorted a i) ran done).log
        ∙ alone_log a c i h

    -- those over the limit are the clones whose logs at the bound are beyond it
    pub over_by_logs : (over : K) → AreOver sim has (ends_of sim cs) s bound old over → (c : ℕ) →
        (has over c ≡ true) ↔ ((c < length cs) × IsBeyond sim s bound (clone_at cs c))
    over_by_logs over h c = (
      (λ o. let x = h.from c o in (
        st.living x.0 c x.1 x.2,
        subst (λ l. sim.limit < length l) (alone_log x.0 c x.1 x.2) x.3,
      )),
      (λ b. let x = st.carried c b.0 in
          h.all x.0 c x.1 x.2 (subst (λ l. sim.limit < length l) (sym (alone_log x.0 c x.1 x.2)) b.1)),
    )

    -- ---- handled_to_limit, handled_once

    -- the logs at the bound, each cut to the limit
    abbrev cut_logs : List (List (Entry M N))
    cut_logs = map (take sim.limit) (logs_at sim cs s bound)

    -- the prefixes at the front, those of the cut logs at the bound, and those that were gained
    abbrev Early : List (Entry M N) → Type 0
    Early = IsGained (λ l. In l (logs_at sim cs s front)) []

    -- those of the cut logs
    abbrev Late : List (Entry M N) → Type 0
    Late = IsGained (λ l. In l cut_logs) []

    -- those that were gained
    abbrev New : List (Entry M N) → Type 0
    New = GainedBy sim has (ends_of sim cs) s bound old

    -- handled once at the bound, with each log cut to the limit: the number at the front, plus the gains of the copies
    pub handled_to_limit_by_logs : (same : Entry M N → Entry M N → Bool) (total : ℕ) →
        TellsEntries same → AreWithinLimitAt sim cs s front →
        GainTogether sim has (ends_of sim cs) s bound old total →
        handled_to_limit sim same cs s bound ≡ handled_once sim same cs s front + total
    handled_to_limit_by_logs same total decides short together =
        count_unique Late (handled_to_limit sim same cs s bound) (handled_once sim same cs s front + total)
        (prefixes_count same decides cut_logs)
        (count_same (λ p. Early p ⊎ New p) Late (handled_once sim same cs s front + total)
        (λ p h. elim h [ inl g ↦ late_if_early p g | inr g ↦ late_if_new p g ]) late_is
        (count_both Early New (handled_once sim same cs s front) total apart
        (prefixes_count same decides (logs_at sim cs s front))
        (counted_together old total (λ a i. i) st.disjoint together)))
      where
        -- a log is one of the logs
        log_there : (f c : ℕ) → c < length cs → In (log_at sim (clone_at cs c) s f) (logs_at sim cs s f)
        log_there f c l = map_has (λ k. log_at sim k s f) cs (clone_at cs c) (clone_in cs c l)

        -- and a cut log one of the cut logs
        cut_there : (c : ℕ) → c < length cs → In (take sim.limit (log_at sim (clone_at cs c) s bound)) cut_logs
        cut_there c l = map_has (take sim.limit) (logs_at sim cs s bound) (log_at sim (clone_at cs c) s bound)
            (log_there bound c l)

        -- a cut log is the log at the front, followed by the cut rest
        cut_on : (c : ℕ) → c < length cs → (h : List (Entry M N)) →
            log_at sim (clone_at cs c) s bound ≡ log_at sim (clone_at cs c) s front ++ h →
            take sim.limit (log_at sim (clone_at cs c) s bound) ≡ log_at sim (clone_at cs c) s front
            ++ take (sim.limit - length (log_at sim (clone_at cs c) s front)) h
        cut_on c l h e = ap (take sim.limit) e ∙ cut_goes_on sim.limit (log_at sim (clone_at cs c) s front) h
            (not_beyond sim (clone_at cs c) s front (short c l))

        -- no prefix of a log at the front was gained
        apart : (p : List (Entry M N)) → Early p → New p → ⊥
        apart p g h =
            let k = in_map (λ k. log_at sim k s front) cs g.log g.is_log in
            let is : log_at sim k.0 s front ≡ p ++ g.rest = sym k.2 ∙ g.prefix in
            let early : entries_before sim front p ≡ p =
            filter_all (λ e. nat_lt (sim.time e.msg) front) p
            (all_from (λ e. nat_lt (sim.time e.msg) front ≡ true) p (λ x i.
            all_in (λ e. nat_lt (sim.time e.msg) front ≡ true) (log_at sim k.0 s front) x (log_at-below law k.0 s front)
            (subst (In x) (sym is) (append_old p g.rest x i)))) in
            let e : entries_before sim front p ≡ h.0.log =
            gained_before law j (ends_of sim cs) s front bound h.0 p (λ c i. at_front h.0 c h.1 i) h.2 in
            longer_than_itself h.0.log h.2.first h.2.more (sym h.2.longer ∙ sym early ∙ e)

        -- a prefix at the front is one of the cut logs
        late_if_early : (p : List (Entry M N)) → Early p → Late p
        late_if_early p g =
            let k = in_map (λ k. log_at sim k s front) cs g.log g.is_log in
            let c = place_in cs k.0 k.1 in
            let is : g.log ≡ log_at sim (clone_at cs c.0) s front = k.2 ∙ ap (λ k. log_at sim k s front) (sym c.2) in
            let h = log_at-goes_on law (clone_at cs c.0) s front bound later in
            let more : List (Entry M N) = take (sim.limit - length (log_at sim (clone_at cs c.0) s front)) h.0 in
            record {
              log = take sim.limit (log_at sim (clone_at cs c.0) s bound);
              is_log = cut_there c.0 c.1;
              first = g.first;
              more = g.more;
              rest = g.rest ++ more;
              longer = g.longer;
              prefix = cut_on c.0 c.1 h.0 h.1 ∙ ap (λ l. l ++ more) (sym is ∙ g.prefix) ∙ append_assoc p g.rest more;
            }

        -- and so is one that was gained
        late_if_new : (p : List (Entry M N)) → New p → Late p
        late_if_new p h =
            let g = h.2 in
            let cut = g.is_log in
            let n = begins_somehow h.0.log p g.first g.more g.longer in
            record {
              log = take sim.limit (log_at sim (clone_at cs cut.clone) s bound);
              is_log = cut_there cut.clone (st.living h.0 cut.clone h.1 cut.is_in);
              first = n.0;
              more = n.1;
              rest = g.rest;
              longer = n.2;
              prefix = ap (take sim.limit) (sym (last_log h.0 cut.clone cut.last h.1 cut.is_in cut.ran cut.settled))
                  ∙ sym cut.is ∙ g.prefix;
            }

        -- and there are no others
        late_is : (p : List (Entry M N)) → Late p → Early p ⊎ New p
        late_is p g =
            let w = in_map (take sim.limit) (logs_at sim cs s bound) g.log g.is_log in
            let k = in_map (λ k. log_at sim k s bound) cs w.0 w.1 in
            let c = place_in cs k.0 k.1 in
            let a = st.carried c.0 c.1 in
            let is : g.log ≡ take sim.limit (log_at sim (clone_at cs c.0) s bound) =
            w.2 ∙ ap (take sim.limit) (k.2 ∙ ap (λ k. log_at sim k s bound) (sym c.2)) in
            let h = log_at-goes_on law (clone_at cs c.0) s front bound later in
            let more : List (Entry M N) = take (sim.limit - length (log_at sim (clone_at cs c.0) s front)) h.0 in
            let e : log_at sim (clone_at cs c.0) s front ++ more ≡ p ++ g.rest = sym (cut_on c.0 c.1 h.0 h.1) ∙ sym is
            ∙ g.prefix in
            elim (one_goes_on (log_at sim (clone_at cs c.0) s front) more p g.rest e) [
              | inl r ↦ inl (record {
                log = log_at sim (clone_at cs c.0) s front;
                is_log = log_there front c.0 c.1;
                first = g.first;
                more = g.more;
                rest = r.0;
                longer = g.longer;
                prefix = r.1;
              })
              | inr r ↦
                  let d = turns-settle law j (ends_of sim cs) s bound a.0 [] c.0
                  (good_state law cs s front old st a.0 c.0 a.1 a.2) (st.sorted a.0 a.1) in
                  let there = last_log a.0 c.0 d.0 a.1 a.2 d.1 d.2 in
                  inr (
                    a.0,
                    a.1,
                    record {
                      log = g.log;
                      is_log = record {
                        clone = c.0;
                        is_in = a.2;
                        last = d.0;
                        ran = d.1;
                        settled = d.2;
                        is = is
                            ∙ ap (take sim.limit) (sym there);
                      };
                      first = r.0;
                      more = r.1;
                      rest = g.rest;
                      longer = r.2 ∙ ap (λ l. l ++ r.0 ∷ r.1) (sym (st.log a.0 c.0 a.1 a.2));
                      prefix = g.prefix;
                    },
                  )
            ]

    -- if no log gets too long, nothing is cut
    pub handled_once_by_logs : (same : Entry M N → Entry M N → Bool) (total : ℕ) →
        TellsEntries same → AreWithinLimitAt sim cs s bound →
        GainTogether sim has (ends_of sim cs) s bound old total →
        handled_once sim same cs s bound ≡ handled_once sim same cs s front + total
    handled_once_by_logs same total decides short together =
        ap (λ l. distinct_count (same_list same) (flat_map prefixes l))
        (sym (none_cut sim.limit (logs_at sim cs s bound) (λ l i.
        let k = in_map (λ k. log_at sim k s bound) cs l i in
        let c = place_in cs k.0 k.1 in
        subst (λ t. length t ≤ sim.limit) (ap (λ k. log_at sim k s bound) c.2 ∙ sym k.2)
        (not_beyond sim (clone_at cs c.0) s bound (short c.0 c.1)))))
        ∙ handled_to_limit_by_logs same total decides
        (λ c l long. short c l (IsBeyond-later law (clone_at cs c) s front bound later long)) together

    -- and at most this number is handled once: the total length of the logs cut to the limit
    pub handled_few_by_logs : (same : Entry M N → Entry M N → Bool) (total : ℕ) →
        TellsEntries same → AreWithinLimitAt sim cs s front →
        GainTogether sim has (ends_of sim cs) s bound old total →
        handled_once sim same cs s front + total ≤ length cs * sim.limit
    handled_few_by_logs same total decides short together =
        let e = handled_to_limit_by_logs same total decides short together in
        let d : distinct_count (same_list same) (flat_map prefixes cut_logs) ≤ length (flat_map prefixes cut_logs) =
        distinct_count-le (same_list same) (flat_map prefixes cut_logs) in
        let f : length (flat_map prefixes cut_logs) ≤ length (logs_at sim cs s bound) * sim.limit =
        few_prefixes sim.limit (logs_at sim cs s bound) in
        let n : length (logs_at sim cs s bound) * sim.limit ≡ length cs * sim.limit =
        ap (λ k. k * sim.limit) (length-map cs (λ c. log_at sim c s bound)) in
        omega (arith, e, d, f, n)

-- ---- copies

module _ {S M N K : Type 0} {sim : Simulation S M N} {Good : ℕ → S → Type 0} (law : HandlesLawfully sim Good)
    {has : K → ℕ → Bool} (cs : List Clone) (s front : ℕ)
    (old : List (Copy S M N K)) (st : StandsByLogs sim has cs front s old) where
  -- copies that are apart have different logs
  logs_apart : (xs : List (Copy S M N K)) → ((a : Copy S M N K) → In a xs → In a old) → Disjoint has xs →
      Apart (map (λ a. a.log) xs)
  logs_apart [] within d = tt
  logs_apart (x ∷ xs) within d = (
    (λ i.
        let h = in_map (λ a. a.log) xs x.log i in
        let here = st.inhabited x (within x (inl refl)) in
        let there = st.inhabited h.0 (within h.0 (inr h.1)) in
        let e : x ≡ h.0 = one_copy law cs s front old st x h.0 here.0 there.0 (within x (inl refl))
        (within h.0 (inr h.1)) here.1 there.1 h.2 in
        all_in (λ b. (c : ℕ) → Carries has x c → ¬ (Carries has b c)) xs h.0 d.0 h.1 here.0 here.1
        (subst (λ u. Carries has u here.0) e here.1)),
    logs_apart xs (λ a i. within a (inr i)) d.1,
  )

  -- there are as many copies as different logs
  pub copies_by_logs : (same : Entry M N → Entry M N → Bool) → TellsEntries same →
      copies sim same cs s front ≡ length old
  copies_by_logs same decides =
      count_unique (λ l. In l (logs_at sim cs s front)) (copies sim same cs s front) (length old)
      (distinct_is_count (same_list same) (same_list-Decides same decides) (logs_at sim cs s front))
      (record {
        members = map (λ a. a.log) old;
        apart = logs_apart old (λ a i. i) st.disjoint;
        exact = λ l i.
            let h = in_map (λ a. a.log) old l i in
            let c = st.inhabited h.0 h.1 in
            subst (λ u. In u (logs_at sim cs s front)) (sym (h.2 ∙ st.log h.0 c.0 h.1 c.1))
            (map_has (λ k. log_at sim k s front) cs (clone_at cs c.0)
            (clone_in cs c.0 (st.living h.0 c.0 h.1 c.1)));
        all = λ l i.
            let h = in_map (λ k. log_at sim k s front) cs l i in
            let c = place_in cs h.0 h.1 in
            let a = st.carried c.0 c.1 in
            subst (λ u. In u (map (λ a. a.log) old)) (st.log a.0 c.0 a.1 a.2 ∙ ap (λ k. log_at sim k s front) c.2
            ∙ sym h.2) (map_has (λ a. a.log) old a.0 a.1);
        number = rw length-map refl;
      })

-- ---- Stands

module _ {S M N K : Type 0} {sim : Simulation S M N} {Good : ℕ → S → Type 0} (law : HandlesLawfully sim Good)
    {has : K → ℕ → Bool} {join : K → K → K} (j : JoinsMarks has join) (cs : List Clone) (s front : ℕ)
    (old : List (Copy S M N K)) (st : Stands sim has cs front s old) where
  -- there are as many copies as different logs
  pub copies_are_logs : (same : Entry M N → Entry M N → Bool) → TellsEntries same →
      copies sim same cs s front ≡ length old
  copies_are_logs = copies_by_logs law cs s front old (stands_by_logs sim has cs front s old st)
