-- Copies that represent the clones still do so after a decision, an end and a fork.
use Rattle.std.proofs.Common.{◌≡◌, ℕ, ◌+◌, ◌≤◌, ◌<◌, List, [], ◌∷◌, ◌++◌, inl, inr, Bool, true, false, cond, ◌==◌, ◌&&◌}
use Rattle.std.proofs.Common.{nat_lt, min, refl, sym, ap, ◌∙◌, subst, arith, length, length-set, eq-eqb}
use Rattle.std.specs.List.{AllZip}
use Rattle.std.proofs.lemmas.Bool.{cases_Bool, cases_eq, ne_eqb, lt-ltb, ltb-true, false≢true, and_right}
use Rattle.std.proofs.lemmas.List.{length_push}
use Rattle.sim_base.specs.Clones.{Clone, clone_at, clones_with_plan, clones_with_end, clones_with_fork, fork_of}
use Rattle.sim_base.specs.Clones.{with_plan, with_end}
use Rattle.sim_base.specs.declared.decision.Planned.{Planned}
use Rattle.run_laws.specs.Queue.{insert, In}
use Rattle.run_laws.specs.Simulation.{Simulation}
use Rattle.run_laws.specs.World.{log_of, to_it}
use Rattle.run_laws.specs.Window.{earlier_than}
use Rattle.run_laws.specs.Runs.{run, end_of, IsTimelyPlan, IsTimelyEnd, MayFork, run_of, log_at, state_at, due_at}
use Rattle.run_laws.specs.Handlers.{HandlesLawfully}
use Rattle.run_laws.specs.Laws.{AddsDue, DropsDue}
use Rattle.sim_base.specs.Marked.{SortedMarked}
use Rattle.run_laws.specs.Copies.{Copy, Carries, Disjoint, takes, messages_taken, takes_as}
use Rattle.run_laws.specs.Copies.{AreOf, IsSameCopy, origin_of, IsGiven, IsForked, ends_of, Stands}
use Rattle.run_laws.proofs.Forks.{end_of-fork}
use Rattle.run_laws.proofs.Parts.{part-congr, part-filter}
use Rattle.run_laws.proofs.Late.{decision_adds_due, end_drops_due}
use Rattle.run_laws.proofs.Places.{set_cases, clone_push_same, clone_push_other}
use Rattle.run_laws.proofs.Delivery.{zip_from, zip_each, one_of, disjoint_given, disjoint_zip}

-- ---- messages_taken

module _ {S M N K : Type 0} (sim : Simulation S M N) (has : K → ℕ → Bool) where
  -- the messages that a clone takes depend on its own end alone
  taken_ends : (e f : ℕ → ℕ) (c : ℕ) (xs : List (M × K)) → e c ≡ f c
      → messages_taken sim has e c xs ≡ messages_taken sim has f c xs
  taken_ends e f c xs same = part-congr (takes sim has e)
      (takes sim has f) c c xs (λ m k. ap (λ t. has k c && nat_lt (sim.time m) t) same)

  -- of two ends the earlier decides
  earlier_test : (k : Bool) (t at end : ℕ) → at ≤ end → (k && nat_lt t at) ≡ ((k && nat_lt t end) && nat_lt t at)
  earlier_test false t at end l = refl
  earlier_test true t at end l = elim (cases_Bool (nat_lt t at)) [
    | inl e ↦ let b : t < at = ltb-true t at e in e ∙ sym (ap (λ x. x && nat_lt t at) (lt-ltb t end (omega arith)) ∙ e)
    | inr e ↦ e ∙ sym (and_right (nat_lt t end) (nat_lt t at) e)
  ]

  -- with an earlier end a clone takes the messages before it
  taken_earlier : (e f : ℕ → ℕ) (c : ℕ) (xs : List (M × K)) → f c ≤ e c →
      messages_taken sim has f c xs ≡ earlier_than sim.time (f c) (messages_taken sim has e c xs)
  taken_earlier e f c xs l = part-filter (takes sim has e) (takes sim has f)
      (λ m. nat_lt (sim.time m) (f c)) c xs (λ m k. earlier_test (has k c) (sim.time m) (f c) (e c) l)

  -- ---- Stands

  -- a copy for the changed clones, compared with the copy before
  record Matches (cs : List Clone) (front s : ℕ) (a b : Copy S M N K) : Type 0 where
    pub same : IsSameCopy a b
    pub due : (c : ℕ) → Carries has a c
        → messages_taken sim has (ends_of sim cs) c b.pending ≡ due_at sim (clone_at cs c) s front
    pub sorted : SortedMarked sim.order b.pending

  -- copies that match copies of the clones represent the changed clones
  stands_matched : (cs next : List Clone) (front s : ℕ) (copies done : List (Copy S M N K)) → length next ≡ length cs →
      ((c : ℕ) → log_at sim (clone_at next c) s front ≡ log_at sim (clone_at cs c) s front) →
      ((c : ℕ) → state_at sim (clone_at next c) s front ≡ state_at sim (clone_at cs c) s front) →
      ((b : Copy S M N K) → In b done → (a : Copy S M N K) × In a copies × Matches next front s a b) →
      ((a : Copy S M N K) → In a copies → (b : Copy S M N K) × In b done × (b.set ≡ a.set)) → Disjoint has done →
      Stands sim has cs front s copies → Stands sim has next front s done
  stands_matched cs next front s copies done many logs states was each apart st =
      let own : (b : Copy S M N K) (c : ℕ) (i : In b done) → Carries has b c → Carries has (was b i).0 c =
      λ b c i h. subst (λ u. has u c ≡ true) (was b i).2.same.set h in
      record {
        inhabited = λ b i. let x = was b i in let e = st.inhabited x.0 x.1 in
            (e.0, subst (λ u. has u e.0 ≡ true) (sym x.2.same.set) e.1);
        carried = λ c l. let x = st.carried c (omega (arith, many, l)) in let y = each x.0 x.1 in
            (y.0, y.1, subst (λ u. has u c ≡ true) (sym y.2) x.2);
        living = λ b c i h. let x = was b i in let l = st.living x.0 c x.1 (own b c i h) in omega (arith, many, l);
        disjoint = apart;
        log = λ b c i h. let x = was b i in x.2.same.log ∙ (st.log x.0 c x.1 (own b c i h) ∙ sym (logs c));
        state = λ b c i h. let x = was b i in x.2.same.state ∙ (st.state x.0 c x.1 (own b c i h) ∙ sym (states c));
        due = λ b c i h. (was b i).2.due c (own b c i h);
        shared = λ a b c d i l h k e.
            let x = was a i in let y = was b l in
            let g : x.0 ≡ y.0 = st.shared x.0 y.0 c d x.1 y.1 (own a c i h) (own b d l k)
            (sym (logs c) ∙ (e ∙ logs d)) in
            one_of has done a b c apart i l h
            (subst (λ u. has u c ≡ true) (x.2.same.set ∙ (ap (λ u. u.set) g ∙ sym y.2.same.set)) h);
        sorted = λ b i. (was b i).2.sorted;
      }

-- ---- clones_with_plan, clones_with_end

-- two tests, the first of which passes
and_swap : (a b : Bool) → a ≡ true → (b && true) ≡ (a && b)
and_swap true true e = refl
and_swap true false e = refl
and_swap false b e = absurd (false≢true e)

module _ {S M N K : Type 0} {sim : Simulation S M N} {Good : ℕ → S → Type 0} (law : HandlesLawfully sim Good)
    (has : K → ℕ → Bool) (cs : List Clone) (front s who : ℕ) (is_there : who < length cs) where
  module _ (p : Planned) (late : front ≤ sim.time (sim.set_message (length (clone_at cs who).plans) p)) where
    -- the decision as a message
    abbrev message : M
    message = sim.set_message (length (clone_at cs who).plans) p

    -- the change to its clone
    adds : AddsDue sim (clone_at cs who) p message front
    adds = decision_adds_due law (clone_at cs who) p front late

    -- each log stays
    logs_added : (c : ℕ) → log_at sim (clone_at (clones_with_plan cs who p) c) s front
        ≡ log_at sim (clone_at cs c) s front
    logs_added = set_cases (λ c k. log_at sim k s front ≡ log_at sim (clone_at cs c) s front) cs who
        (with_plan (clone_at cs who) p) is_there (ap (λ w. log_of sim.to s w.trace) adds.world)
        (λ c n. refl)

    -- each state stays
    states_added : (c : ℕ) → state_at sim (clone_at (clones_with_plan cs who p) c) s front
        ≡ state_at sim (clone_at cs c) s front
    states_added = set_cases (λ c k. state_at sim k s front ≡ state_at sim (clone_at cs c) s front) cs who
        (with_plan (clone_at cs who) p) is_there (ap (λ w. w.states s) adds.world)
        (λ c n. refl)

    -- each end stays
    ends_added : (c : ℕ) → ends_of sim (clones_with_plan cs who p) c ≡ ends_of sim cs c
    ends_added = set_cases (λ c k. end_of sim k ≡ end_of sim (clone_at cs c)) cs who
        (with_plan (clone_at cs who) p) is_there refl (λ c n. refl)

    -- a late decision for another station does not change the copies of a station
    stands_other_decision : (copies : List (Copy S M N K)) → (sim.to message ≡ s → ⊥) →
        Stands sim has cs front s copies → Stands sim has (clones_with_plan cs who p) front s copies
    stands_other_decision copies not st =
        stands_matched sim has cs (clones_with_plan cs who p) front s copies copies
        (length-set cs who (with_plan (clone_at cs who) p)) logs_added states_added
        (λ b i. (
          b,
          i,
          record {
            same = record { set = refl; log = refl; state = refl };
            due = λ c g. taken_ends sim has (ends_of sim (clones_with_plan cs who p)) (ends_of sim cs) c b.pending
                (ends_added c)
                ∙ st.due b c i g
                ∙ sym (set_cases (λ c k. due_at sim k s front ≡ due_at sim (clone_at cs c) s front) cs who
                (with_plan (clone_at cs who) p) is_there
                (adds.due_here s ∙ ap (λ t. cond t (insert sim.order message (due_at sim (clone_at cs who) s front))
                (due_at sim (clone_at cs who) s front))
                (and_right (nat_lt (sim.time message) (end_of sim (clone_at cs who))) (sim.to message == s)
                (ne_eqb (sim.to message) s not)))
                (λ c n. refl) c);
            sorted = st.sorted b i;
          },
        ))
        (λ a i. (a, i, refl)) st.disjoint st

    -- a late decision for a station is given to the clone that it is for, and to no other
    stands_decision : (copies done : List (Copy S M N K)) (k : K) → sim.to message ≡ s → AreOf has k who →
        AllZip (IsGiven sim has (ends_of sim cs) message k) copies done → Stands sim has cs front s copies →
        Stands sim has (clones_with_plan cs who p) front s done
    stands_decision copies done k to_s of_who zip st =
        let apart = disjoint_given sim has (ends_of sim cs) message k copies done zip st.disjoint in
        stands_matched sim has cs (clones_with_plan cs who p) front s copies done
        (length-set cs who (with_plan (clone_at cs who) p)) logs_added states_added
        (λ b i. let x = zip_from (IsGiven sim has (ends_of sim cs) message k) copies done b zip i in (
          x.0,
          x.1,
          record {
            same = x.2.same;
            due = λ c g. taken_ends sim has (ends_of sim (clones_with_plan cs who p)) (ends_of sim cs) c b.pending
                (ends_added c)
                ∙ x.2.parts c g
                ∙ ap (λ l. cond (takes sim has (ends_of sim cs) message k c) (insert sim.order message l) l)
                (st.due x.0 c x.1 g)
                ∙ sym (given c);
            sorted = x.2.sorted;
          },
        ))
        (λ a i. let y = zip_each (IsGiven sim has (ends_of sim cs) message k) copies done a zip i in
        (y.0, y.1, y.2.same.set)) apart st
      where
        -- the messages due to each clone then
        given : (c : ℕ) →
            due_at sim (clone_at (clones_with_plan cs who p) c) s front
            ≡ cond (takes sim has (ends_of sim cs) message k c)
            (insert sim.order message (due_at sim (clone_at cs c) s front)) (due_at sim (clone_at cs c) s front)
        given = set_cases (λ c x. due_at sim x s front ≡ cond (takes sim has (ends_of sim cs) message k c)
            (insert sim.order message (due_at sim (clone_at cs c) s front)) (due_at sim (clone_at cs c) s front)) cs
            who (with_plan (clone_at cs who) p) is_there
            (adds.due_here s ∙ ap (λ t. cond t (insert sim.order message (due_at sim (clone_at cs who) s front))
            (due_at sim (clone_at cs who) s front))
            (ap (λ b. nat_lt (sim.time message) (end_of sim (clone_at cs who)) && b) (eq-eqb (sim.to message) s to_s)
            ∙ and_swap (has k who) (nat_lt (sim.time message) (end_of sim (clone_at cs who)))
            (of_who who ∙ eq-eqb who who refl)))
            (λ c n. ap (λ b. cond (b && nat_lt (sim.time message) (ends_of sim cs c))
            (insert sim.order message (due_at sim (clone_at cs c) s front)) (due_at sim (clone_at cs c) s front))
            (sym (of_who c ∙ ne_eqb who c (λ e. n (sym e)))))

  -- an end at or after the front does not change the copies
  pub stands_end : (copies : List (Copy S M N K)) (at : ℕ) → IsTimelyEnd sim (clone_at cs who) front at →
      Stands sim has cs front s copies → Stands sim has (clones_with_end cs who at) front s copies
  stands_end copies at end st =
      let drops : DropsDue sim (clone_at cs who) at front = end_drops_due law (clone_at cs who) at front end in
      stands_matched sim has cs (clones_with_end cs who at) front s copies copies
      (length-set cs who (with_end (clone_at cs who) at))
      (set_cases (λ c k. log_at sim k s front ≡ log_at sim (clone_at cs c) s front) cs who
      (with_end (clone_at cs who) at) is_there (ap (λ w. log_of sim.to s w.trace) drops.world) (λ c n. refl))
      (set_cases (λ c k. state_at sim k s front ≡ state_at sim (clone_at cs c) s front) cs who
      (with_end (clone_at cs who) at) is_there (ap (λ w. w.states s) drops.world) (λ c n. refl))
      (λ b i. (
        b,
        i,
        record {
          same = record { set = refl; log = refl; state = refl };
          due = λ c g. taken_ends sim has (ends_of sim (clones_with_end cs who at))
              (λ t. end_of sim (clone_at (clones_with_end cs who at) c)) c b.pending refl
              ∙ set_cases (λ c k. Carries has b c
              → messages_taken sim has (λ t. end_of sim k) c b.pending ≡ due_at sim k s front) cs who
              (with_end (clone_at cs who) at) is_there
              (λ g. taken_earlier sim has (ends_of sim cs) (λ t. at) who b.pending end.within
              ∙ ap (earlier_than sim.time at) (st.due b who i g) ∙ sym (drops.due_here s))
              (λ c n g. taken_ends sim has (λ t. end_of sim (clone_at cs c)) (ends_of sim cs) c b.pending refl
              ∙ st.due b c i g)
              c g;
          sorted = st.sorted b i;
        },
      ))
      (λ a i. (a, i, refl)) st.disjoint st

-- ---- clones_with_fork

module _ {S M N K : Type 0} (sim : Simulation S M N) (has : K → ℕ → Bool) (cs : List Clone) (old : ℕ)
    (name : List ℕ) where
  -- forked copies stay apart
  disjoint_forked : (ends : ℕ → ℕ) (new : ℕ) (xs ys : List (Copy S M N K)) →
      AllZip (IsForked sim has ends old new) xs ys → Disjoint has xs → Disjoint has ys
  disjoint_forked ends new xs ys = disjoint_zip has (IsForked sim has ends old new) (origin_of old new)
      (λ a b c f i. sym (f.set c) ∙ i) xs ys

  -- a property of the new clone, which was the old one, and of the others holds of each
  fork_cases : (P : Clone → Clone → Type 0) →
      P (fork_of (clone_at cs old) name) (clone_at cs old)
      → ((k : Clone) → P k k) →
      (c : ℕ) → P (clone_at (clones_with_fork cs name old) c) (clone_at cs (origin_of old (length cs) c))
  fork_cases P a b c =
      let k : Clone = fork_of (clone_at cs old) name in
      elim (cases_eq c (length cs)) [
        | inl e ↦ subst (λ t. P (clone_at (clones_with_fork cs name old) c) (clone_at cs t))
            (sym (ap (λ b. cond b old c) (eq-eqb c (length cs) e)))
            (subst (λ t. P t (clone_at cs old)) (sym (ap (clone_at (cs ++ k ∷ [])) e ∙ clone_push_same cs k)) a)
        | inr n ↦ subst (λ t. P (clone_at (clones_with_fork cs name old) c) (clone_at cs t))
            (sym (ap (λ b. cond b old c) (ne_eqb c (length cs) n)))
            (subst (λ t. P t (clone_at cs c)) (sym (clone_push_other cs k c n)) (b (clone_at cs c)))
      ]

  -- a new clone next to its old one, which has no end
  pub stands_fork : (front s : ℕ) (copies done : List (Copy S M N K)) → MayFork cs old →
      AllZip (IsForked sim has (ends_of sim cs) old (length cs)) copies done → Stands sim has cs front s copies →
      Stands sim has (clones_with_fork cs name old) front s done
  stands_fork front s copies done may zip st =
      let new : ℕ = length cs in
      let k : Clone = fork_of (clone_at cs old) name in
      let many : length (clones_with_fork cs name old) ≡ length cs + 1 = length_push cs k in
      let same_end : end_of sim k ≡ end_of sim (clone_at cs old) = end_of-fork sim (clone_at cs old) name may.going in
      let same_run : run_of sim k front ≡ run_of sim (clone_at cs old) front =
      ap (λ e. run sim (clone_at cs old).plans (min front e)) same_end in
      let apart = disjoint_forked (ends_of sim cs) new copies done zip st.disjoint in
      let was : (b : Copy S M N K) → In b done → (a : Copy S M N K) × In a copies
      × IsForked sim has (ends_of sim cs) old new a b =
      λ b i. zip_from (IsForked sim has (ends_of sim cs) old new) copies done b zip i in
      let ends_are : (c : ℕ) → ends_of sim (clones_with_fork cs name old) c ≡ ends_of sim cs (origin_of old new c) =
      fork_cases (λ x y. end_of sim x ≡ end_of sim y) same_end (λ x. refl) in
      let logs : (c : ℕ) → log_at sim (clone_at (clones_with_fork cs name old) c) s front ≡ log_at sim
      (clone_at cs (origin_of old new c)) s front =
      fork_cases (λ x y. log_at sim x s front ≡ log_at sim y s front)
      (ap (λ w. log_of sim.to s w.at.trace) same_run) (λ x. refl) in
      let states : (c : ℕ) → state_at sim (clone_at (clones_with_fork cs name old) c) s front ≡ state_at sim
      (clone_at cs (origin_of old new c)) s front =
      fork_cases (λ x y. state_at sim x s front ≡ state_at sim y s front) (ap (λ w. w.at.states s) same_run)
      (λ x. refl) in
      let dues : (c : ℕ) → due_at sim (clone_at (clones_with_fork cs name old) c) s front ≡ due_at sim
      (clone_at cs (origin_of old new c)) s front = fork_cases (λ x y. due_at sim x s front ≡ due_at sim y s front)
      (ap (λ w. to_it sim.to s (earlier_than sim.time (end_of sim k) w.pending)) same_run
      ∙ ap (λ e. to_it sim.to s (earlier_than sim.time e (run_of sim (clone_at cs old) front).pending)) same_end)
      (λ x. refl) in
      record {
        inhabited = λ b i.
            let a = was b i in
            let e = st.inhabited a.0 a.1 in
            let l = st.living a.0 e.0 a.1 e.1 in
            (e.0, a.2.set e.0 ∙ ap (λ t. has a.0.set t) (itself e.0 l) ∙ e.1);
        carried = λ c l.
            let x = st.carried (origin_of old new c) (within c (omega (arith, many, l))) in
            let y = zip_each (IsForked sim has (ends_of sim cs) old new) copies done x.0 zip x.1 in
            (y.0, y.1, y.2.set c ∙ x.2);
        living = λ b c i h. let a = was b i in let l =
            back c (st.living a.0 (origin_of old new c) a.1 (sym (a.2.set c) ∙ h)) in omega (arith, many, l);
        disjoint = apart;
        log = λ b c i h. let a = was b i in a.2.log
            ∙ (st.log a.0 (origin_of old new c) a.1 (sym (a.2.set c) ∙ h) ∙ sym (logs c));
        state = λ b c i h. let a = was b i in a.2.state
            ∙ (st.state a.0 (origin_of old new c) a.1 (sym (a.2.set c) ∙ h) ∙ sym (states c));
        due = λ b c i h. let a = was b i in
            part-congr (takes sim has (ends_of sim (clones_with_fork cs name old))) (takes_as sim has
            (ends_of sim cs) old new)
            c c b.pending (λ m k. ap (λ t. has k c && nat_lt (sim.time m) t) (ends_are c))
            ∙ a.2.parts c ∙ st.due a.0 (origin_of old new c) a.1 (sym (a.2.set c) ∙ h) ∙ sym (dues c);
        shared = λ a b c d i l h k e.
            let x = was a i in let y = was b l in
            let g : x.0 ≡ y.0 = st.shared x.0 y.0 (origin_of old new c) (origin_of old new d) x.1 y.1
            (sym (x.2.set c) ∙ h) (sym (y.2.set d) ∙ k) (sym (logs c) ∙ (e ∙ logs d)) in
            one_of has done a b c apart i l h
            (y.2.set c ∙ (ap (λ u. has u.set (origin_of old new c)) (sym g) ∙ (sym (x.2.set c) ∙ h)));
        sorted = λ b i. (was b i).2.sorted;
      }
    where
      -- a clone that was there before is its own origin
      itself : (c : ℕ) → c < length cs → origin_of old (length cs) c ≡ c
      itself c l = ap (λ b. cond b old c) (ne_eqb c (length cs) (λ e. omega (arith, e, l)))

      -- the origin of each clone was there before
      within : (c : ℕ) → c < length cs + 1 → origin_of old (length cs) c < length cs
      within c k = elim (cases_eq c (length cs)) [
        | inl e ↦ subst (λ b. cond b old c < length cs) (sym (eq-eqb c (length cs) e)) may.in_range
        | inr n ↦ subst (λ b. cond b old c < length cs) (sym (ne_eqb c (length cs) n)) (less n)
      ]
        where
          less : (c ≡ length cs → ⊥) → c < length cs
          less n = grind arith

      -- and each clone whose origin was there before is there now
      back : (c : ℕ) → origin_of old (length cs) c < length cs → c < length cs + 1
      back c k = elim (cases_eq c (length cs)) [
        | inl e ↦ omega (arith, e)
        | inr n ↦ let h : c < length cs = subst (λ b. cond b old c < length cs) (ne_eqb c (length cs) n) k in
            omega arith
      ]

-- ---- clones_with_plan, by the message

module _ {S M N K : Type 0} {sim : Simulation S M N} {Good : ℕ → S → Type 0} (law : HandlesLawfully sim Good)
    (has : K → ℕ → Bool) (cs : List Clone) (front s who : ℕ) (p : Planned) (m : M) where
  -- a decision, by the message that it is
  pub stands_after_decision : (k : K) (copies done : List (Copy S M N K)) →
      IsTimelyPlan sim cs front who p m → sim.to m ≡ s →
      AreOf has k who →
      AllZip (IsGiven sim has (ends_of sim cs) m k) copies done → Stands sim has cs front s copies →
      Stands sim has (clones_with_plan cs who p) front s done
  stands_after_decision k copies done timely to_s of_who zip st =
      subst (λ m. front ≤ sim.time m → sim.to m ≡ s → AllZip (IsGiven sim has (ends_of sim cs) m k) copies done
      → Stands sim has (clones_with_plan cs who p) front s done) (sym timely.is)
      (λ late to_s zip. stands_decision law has cs front s who timely.in_range p late copies done k to_s of_who
      zip st)
      timely.late to_s zip

  -- and of one for another station
  pub stands_after_other_decision : (copies : List (Copy S M N K)) → IsTimelyPlan sim cs front who p m →
      (sim.to m ≡ s → ⊥) →
      Stands sim has cs front s copies → Stands sim has (clones_with_plan cs who p) front s copies
  stands_after_other_decision copies timely not st =
      subst (λ m. front ≤ sim.time m → (sim.to m ≡ s → ⊥) → Stands sim has (clones_with_plan cs who p) front s copies)
      (sym timely.is)
      (λ late not. stands_other_decision law has cs front s who timely.in_range p late copies not st)
      timely.late not
