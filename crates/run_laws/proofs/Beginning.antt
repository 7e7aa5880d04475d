-- Before anything was handled, the first copy of each station represents the first clone.
use Rattle.std.proofs.Common.{◌≡◌, ◌↔◌, ℕ, zero, suc, ◌<◌, ◌≤◌, min, List, [], ◌∷◌, ◌++◌, inl, inr}
use Rattle.std.proofs.Common.{Option, Some, None, Bool, true, ◌==◌, ◌&&◌, nat_lt, refl, sym, ap, ◌∙◌, subst}
use Rattle.std.proofs.Common.{arith, eq-eqb}
use Rattle.std.specs.List.{filter}
use Rattle.std.proofs.lemmas.Bool.{cases_Bool, cases_eq, eqb-true, and_parts}
use Rattle.sim_base.specs.Clones.{Clone, base, clone_at}
use Rattle.run_laws.specs.Queue.{insert_all, In}
use Rattle.run_laws.specs.Machine.{run_to}
use Rattle.run_laws.specs.Simulation.{Simulation}
use Rattle.run_laws.specs.World.{and_first, first_messages, first_world}
use Rattle.run_laws.specs.Runs.{run, end_of, run_of, log_at, state_at, all_due, due_at}
use Rattle.run_laws.specs.Handlers.{IsStation, HandlesLawfully, SendsToStations, IsStationOf}
use Rattle.sim_base.specs.Marked.{SortedMarked}
use Rattle.run_laws.specs.Copies.{Copy, AreOf, Carries, takes, messages_taken, first_pending, first_copy}
use Rattle.run_laws.specs.Copies.{ends_of, Stands}
use Rattle.run_laws.proofs.Queue.{in_insert_all, insert_all_new, same_elements}
use Rattle.run_laws.proofs.Lists.{in_filter, filter_keeps, sorted_filter, in_own}
use Rattle.run_laws.proofs.Lists.{own_from, in_append, append_old, append_new}
use Rattle.run_laws.proofs.Worlds.{in_first_messages}
use Rattle.run_laws.proofs.Parts.{part_yes, part_no, sorted_part}
use Rattle.run_laws.proofs.Late.{due_sorted}

-- ---- first_messages

module _ {S M N : Type 0} (sim : Simulation S M N) where
  -- a station's first message joins those before it
  first_new : (ms : List M) (f : Option M) (m : M) → f ≡ Some m → In m (and_first sim ms f)
  first_new ms None m e = let h : ⊥ = cc in absurd h
  first_new ms (Some x) m e = let h : m ≡ x = cc in append_new ms (x ∷ []) m (inl h)

  -- and they stay
  first_old : (ms : List M) (f : Option M) (m : M) → In m ms → In m (and_first sim ms f)
  first_old ms None m i = i
  first_old ms (Some x) m i = append_old ms (x ∷ []) m i

  -- the first message of each station is among them
  first_messages_have : (n s : ℕ) (m : M) → IsStationOf n s → (sim.setup s).first ≡ Some m → In m (first_messages sim n)
  first_messages_have zero s m here e = let low : 0 < s = here.0 in let high : s ≤ 0 = here.1 in
      absurd (omega (arith, low, high))
  first_messages_have (suc n) s m here e = elim (cases_eq s (suc n)) [
    | inl p ↦ first_new (first_messages sim n) (sim.setup (suc n)).first m (ap (λ r. (sim.setup r).first) (sym p) ∙ e)
    | inr n' ↦ first_old (first_messages sim n) (sim.setup (suc n)).first m (first_messages_have n s m
        (here.0, let high : s ≤ suc n = here.1 in let k : s ≤ n = omega (arith, n', high) in k) e)
  ]

  -- ---- run_of

  -- before 0 nothing is handled
  pub run_at_0 : (c : Clone) → run_of sim c 0 ≡ first_world sim c.plans
  unfolding run_to
  run_at_0 c = let e : min 0 (end_of sim c) ≡ 0 = omega arith in ap (run sim c.plans) e

-- ---- first_pending

module _ {S M N K : Type 0} (sim : Simulation S M N) (has : K → ℕ → Bool) (only : K) (ends : ℕ → ℕ) (c : ℕ) where
  -- the messages that a clone takes of a station's opening
  in_first_pending : (f : Option M) (z : M) → In z (messages_taken sim has ends c (first_pending only f)) →
      (f ≡ Some z) × (takes sim has ends z only c ≡ true)
  in_first_pending None z i = absurd i
  in_first_pending (Some m) z i = elim (cases_Bool (takes sim has ends m only c)) [
    | inl t ↦ elim (subst (In z) (part_yes (takes sim has ends) c (m, only) [] t) i) [
      | inl e ↦ (ap Some (sym e), subst (λ x. takes sim has ends x only c ≡ true) (sym e) t)
      | inr n ↦ absurd n
    ]
    | inr t ↦ absurd (subst (In z) (part_no (takes sim has ends) c (m, only) [] t) i)
  ]

  -- it takes the first message if its marks have the clone and it comes before the clone's end
  first_pending_has : (f : Option M) (z : M) → f ≡ Some z → takes sim has ends z only c ≡ true →
      In z (messages_taken sim has ends c (first_pending only f))
  first_pending_has f z e t = subst (λ f. In z (messages_taken sim has ends c (first_pending only f))) (sym e)
      (subst (In z) (sym (part_yes (takes sim has ends) c (z, only) [] t)) (inl refl))

  -- one message is in order
  first_sorted : (f : Option M) → SortedMarked sim.order (first_pending only f)
  first_sorted None = tt
  first_sorted (Some m) = (tt, tt)

-- ---- Stands

module _ {S M N K : Type 0} {sim : Simulation S M N} {Good : ℕ → S → Type 0} (law : HandlesLawfully sim Good)
    (to_stations : SendsToStations sim Good) (has : K → ℕ → Bool) (only : K)
    (of_first : AreOf has only 0) (s : ℕ) (here : IsStation sim s) where
  -- the marks have the first clone, and no other
  first_alone : (c : ℕ) → (has only c ≡ true) ↔ (c ≡ 0)
  first_alone c = ((λ e. sym (eqb-true 0 c (sym (of_first c) ∙ e))), (λ e. of_first c ∙ eq-eqb 0 c (sym e)))

  -- the messages that the first clone takes of it are those due to it
  due_first : messages_taken sim has (ends_of sim (base ∷ [])) 0 (first_pending only (sim.setup s).first)
      ≡ due_at sim base s 0
  due_first =
      let early : M → Bool = λ m. nat_lt (sim.time m) (end_of sim base) in
      let all : List M = first_messages sim sim.stations ++ [] in
      let begun : (run_of sim base 0).pending ≡ insert_all sim.order all [] = ap (λ w. w.pending) (run_at_0 sim base) in
      same_elements law.order.order.total (messages_taken sim has (ends_of sim (base ∷ [])) 0
      (first_pending only (sim.setup s).first)) (due_at sim base s 0)
      (sorted_part (takes sim has (ends_of sim (base ∷ []))) sim.order 0 (first_pending only (sim.setup s).first)
      (first_sorted sim has only (ends_of sim (base ∷ [])) 0 (sim.setup s).first))
      (sorted_filter sim.order (λ m. sim.to m == s) (all_due sim base 0) (due_sorted law base 0))
      (λ z i. let h = in_first_pending sim has only (ends_of sim (base ∷ [])) 0 (sim.setup s).first z i in
      let t : nat_lt (sim.time z) (end_of sim base) ≡ true =
      (and_parts (has only 0) (nat_lt (sim.time z) (end_of sim base)) h.1).1 in
      own_from sim.to s (all_due sim base 0) z
      (filter_keeps early (run_of sim base 0).pending z
      (subst (In z) (sym begun) (insert_all_new law.order.order all [] z
      (append_old (first_messages sim sim.stations) [] z (first_messages_have sim sim.stations s z here h.0))))
      t)
      (to_stations.first s z here h.0))
      (λ z i. let h = in_own sim.to s (all_due sim base 0) z i in
      let k = in_filter early (run_of sim base 0).pending z h.0 in
      elim (in_insert_all law.order.order all [] z (subst (In z) begun k.0)) [
        | inl a ↦ elim (in_append (first_messages sim sim.stations) [] z a) [
          | inl b ↦ let o = in_first_messages sim sim.stations z b in
              let same : o.0 ≡ s = sym (to_stations.first o.0 z o.1 o.2) ∙ h.1 in
              first_pending_has sim has only (ends_of sim (base ∷ [])) 0 (sim.setup s).first z
              (subst (λ r. (sim.setup r).first ≡ Some z) same o.2)
              (ap (λ b. b && nat_lt (sim.time z) (end_of sim base)) ((first_alone 0).1 refl) ∙ k.1)
          | inr b ↦ absurd b
        ]
        | inr a ↦ absurd a
      ])

  -- the first copy represents the first clone
  pub stands_first : Stands sim has (base ∷ []) 0 s (first_copy sim only s ∷ [])
  stands_first =
      let a : Copy S M N K = first_copy sim only s in
      let is_0 : (x : Copy S M N K) (c : ℕ) → In x (a ∷ []) → Carries has x c → (x ≡ a) × (c ≡ 0) = λ x c i h. elim i [
        | inl e ↦ (e, (first_alone c).0 (subst (λ u. Carries has u c) e h))
        | inr n ↦ absurd n
      ] in
      record {
        inhabited = λ x i. elim i [
          | inl e ↦ (0, subst (λ u. Carries has u 0) (sym e) ((first_alone 0).1 refl))
          | inr n ↦ absurd n
        ];
        carried = λ c l. (a, inl refl, (first_alone c).1 (omega arith));
        living = λ x c i h. let e = (is_0 x c i h).1 in omega (arith, e);
        disjoint = (tt, tt);
        log = λ x c i h. let e = is_0 x c i h in
            subst (λ u. u.log ≡ log_at sim (clone_at (base ∷ []) c) s 0) (sym e.0)
            (subst (λ d. [] ≡ log_at sim (clone_at (base ∷ []) d) s 0) (sym e.1)
            (ap (λ w. filter (λ e. sim.to e.msg == s) w.at.trace) (sym (run_at_0 sim base))));
        state = λ x c i h. let e = is_0 x c i h in subst (λ u. u.state ≡ state_at sim (clone_at (base ∷ []) c) s 0)
            (sym e.0) (subst (λ d. (sim.setup s).state ≡ state_at sim (clone_at (base ∷ []) d) s 0) (sym e.1)
            (ap (λ w. w.at.states s) (sym (run_at_0 sim base))));
        due = λ x c i h. let e = is_0 x c i h in
            subst (λ u. messages_taken sim has (ends_of sim (base ∷ [])) c u.pending
            ≡ due_at sim (clone_at (base ∷ []) c) s 0)
            (sym e.0) (subst (λ d. messages_taken sim has (ends_of sim (base ∷ [])) d a.pending ≡ due_at sim
            (clone_at (base ∷ []) d) s 0) (sym e.1) due_first);
        shared = λ x y c d i l h k e. (is_0 x c i h).0 ∙ sym (is_0 y d l k).0;
        sorted = λ x i. elim i [
          | inl e ↦ subst (λ u. SortedMarked sim.order u.pending) (sym e)
              (first_sorted sim has only (ends_of sim (base ∷ [])) 0 (sim.setup s).first)
          | inr n ↦ absurd n
        ];
      }
