-- Decisions and ends at or after a front: the changes that they make to a clone there.
use Rattle.std.proofs.Common.{◌≡◌, ℕ, suc, ◌+◌, ◌<◌, ◌≤◌, min, List, [], ◌∷◌, ◌++◌, ◌==◌, ◌&&◌}
use Rattle.std.proofs.Common.{Bool, true, false, cond, nat_lt, refl, sym, ap, ◌∙◌, arith, append_assoc, length}
use Rattle.std.specs.List.{filter}
use Rattle.std.proofs.lemmas.Bool.{lt-ltb, ltb-true}
use Rattle.std.specs.declared.cmp.Ordering.{Ordering}
use Rattle.sim_base.specs.Clones.{Clone, with_plan, with_end}
use Rattle.sim_base.specs.declared.decision.Planned.{Planned}
use Rattle.run_laws.specs.Queue.{insert, insert_all, Sorted}
use Rattle.run_laws.specs.Machine.{run_to}
use Rattle.run_laws.specs.Simulation.{Simulation}
use Rattle.run_laws.specs.World.{to_it, world_step, first_messages, set_messages, first_world}
use Rattle.run_laws.specs.Window.{earlier_than}
use Rattle.run_laws.specs.Runs.{run, end_of, IsTimelyEnd, run_of, all_due, due_at}
use Rattle.run_laws.specs.Handlers.{HandlesLawfully}
use Rattle.run_laws.specs.Laws.{and_pending, AddsDue, DropsDue}
use Rattle.run_laws.proofs.Queue.{insert_all-push, same_elements}
use Rattle.run_laws.proofs.Lists.{in_filter, filter_keeps, sorted_filter, filter_swap, filter-insert}
use Rattle.run_laws.proofs.Running.{run_late}
use Rattle.run_laws.proofs.Worlds.{world_lawful, begins_fine, run_fine}

-- ---- set_messages, first_world

module _ {S M N : Type 0} (sim : Simulation S M N) where
  -- the last decision has the place after the others
  set_messages-push : (k : ℕ) (plans : List Planned) (p : Planned) →
      set_messages sim k (plans ++ p ∷ []) ≡ set_messages sim k plans ++ sim.set_message (k + length plans) p ∷ []
  set_messages-push k [] p = ap (λ n. sim.set_message n p ∷ []) (let e : k ≡ k + 0 = omega arith in e)
  set_messages-push k (x ∷ plans) p = ap (λ l. sim.set_message k x ∷ l)
      (set_messages-push (suc k) plans p ∙ ap (λ n. set_messages sim (suc k) plans ++ sim.set_message n p ∷ [])
      (let e : suc k + length plans ≡ k + suc (length plans) = omega arith in e))

  -- a world with one decision more begins with one message more
  first_world-push : (plans : List Planned) (p : Planned) →
      first_world sim (plans ++ p ∷ [])
      ≡ and_pending sim.order (sim.set_message (length plans) p) (first_world sim plans)
  first_world-push plans p =
      let m = sim.set_message (length plans) p in
      let first = first_messages sim sim.stations in
      let last : set_messages sim 0 (plans ++ p ∷ []) ≡ set_messages sim 0 plans ++ m ∷ [] = set_messages-push 0 plans p
      ∙ ap (λ n. set_messages sim 0 plans ++ sim.set_message n p ∷ [])
      (let e : 0 + length plans ≡ length plans = omega arith in e) in
      let all : insert_all sim.order (first ++ set_messages sim 0 (plans ++ p ∷ [])) [] ≡ insert sim.order m
      (insert_all sim.order (first ++ set_messages sim 0 plans) []) =
      ap (λ l. insert_all sim.order (first ++ l) []) last
      ∙ ap (λ l. insert_all sim.order l []) (sym (append_assoc first (set_messages sim 0 plans) (m ∷ [])))
      ∙ insert_all-push sim.order (first ++ set_messages sim 0 plans) m [] in
      ap (λ q. record { at = (first_world sim plans).at; pending = q }) all

-- ---- cond

-- a message that passes two tests in turn
both_tests : {M : Type 0} (cmp : M → M → Ordering) (b a : Bool) (m : M) (d l r : List M)
    → l ≡ cond a (insert cmp m r) r →
    cond b l r ≡ cond (b && a) (insert cmp m r) r
both_tests cmp true a m d l r e = e
both_tests cmp false a m d l r e = refl

-- a test of a list that depends on a condition
filter-cond : {X : Type 0} (p : X → Bool) (b : Bool) (l r : List X) →
    filter p (cond b l r) ≡ cond b (filter p l) (filter p r)
filter-cond p true l r = refl
filter-cond p false l r = refl

-- ---- run, all_due, with one decision more

module _ {S M N : Type 0} {sim : Simulation S M N} {Good : ℕ → S → Type 0} (law : HandlesLawfully sim Good) where
  -- a late decision is pending at the front, and changes nothing else
  run_late_plan : (plans : List Planned) (p : Planned) (front : ℕ) →
      front ≤ sim.time (sim.set_message (length plans) p) →
      run sim (plans ++ p ∷ []) front ≡ and_pending sim.order (sim.set_message (length plans) p) (run sim plans front)
  run_late_plan plans p front l =
      ap (λ w. run_to sim.order (world_step sim.to sim.handle) sim.time w front) (first_world-push sim plans p)
      ∙ run_late law.order (world_lawful law) front (first_world sim plans) (sim.set_message (length plans) p) l
      (begins_fine law plans)

  -- the due messages are in order
  pub due_sorted : (c : Clone) (front : ℕ) → Sorted sim.order (all_due sim c front)
  due_sorted c front = sorted_filter sim.order (λ m. nat_lt (sim.time m) (end_of sim c))
      (run_of sim c front).pending (run_fine law c.plans (min front (end_of sim c))).sorted

  -- a decision at or after a front adds its message to the due ones there
  pub decision_adds_due : (c : Clone) (p : Planned) (front : ℕ)
      → front ≤ sim.time (sim.set_message (length c.plans) p) →
      AddsDue sim c p (sim.set_message (length c.plans) p) front
  decision_adds_due c p front l =
      let m = sim.set_message (length c.plans) p in
      let end : ℕ = end_of sim c in
      let late : min front (end_of sim c) ≤ sim.time m = omega arith in
      let is : run_of sim (with_plan c p) front ≡ and_pending sim.order m (run_of sim c front) =
      run_late_plan c.plans p (min front end) late in
      let d : all_due sim (with_plan c p) front ≡ cond (nat_lt (sim.time m) end)
      (insert sim.order m (all_due sim c front)) (all_due sim c front) =
      ap (λ w. filter (λ m. nat_lt (sim.time m) end) w.pending) is
      ∙ filter-insert law.order.order (λ m. nat_lt (sim.time m) end) m (run_of sim c front).pending
      (run_fine law c.plans (min front end)).sorted in
      record {
        world = ap (λ w. w.at) is;
        due = d;
        due_here = λ s.
            ap (to_it sim.to s) d
            ∙ filter-cond (λ m. sim.to m == s) (nat_lt (sim.time m) end) (insert sim.order m (all_due sim c front))
            (all_due sim c front)
            ∙ both_tests sim.order (nat_lt (sim.time m) end) (sim.to m == s) m (all_due sim c front)
            (to_it sim.to s (insert sim.order m (all_due sim c front))) (due_at sim c s front)
            (filter-insert law.order.order (λ m. sim.to m == s) m (all_due sim c front) (due_sorted c front));
      }

  -- ---- all_due, with an end

  -- of two ends the earlier counts
  earlier_end : (q : List M) (at end : ℕ) → at ≤ end → Sorted sim.order q →
      earlier_than sim.time at q ≡ earlier_than sim.time at (earlier_than sim.time end q)
  earlier_end q at end l s = same_elements law.order.order.total (earlier_than sim.time at q)
      (earlier_than sim.time at (earlier_than sim.time end q))
      (sorted_filter sim.order (λ m. nat_lt (sim.time m) at) q s)
      (sorted_filter sim.order (λ m. nat_lt (sim.time m) at) (earlier_than sim.time end q)
      (sorted_filter sim.order (λ m. nat_lt (sim.time m) end) q s))
      (λ z i. let h = in_filter (λ m. nat_lt (sim.time m) at) q z i in
      let t : sim.time z < at = ltb-true (sim.time z) at h.1 in
      filter_keeps (λ m. nat_lt (sim.time m) at) (earlier_than sim.time end q) z
      (filter_keeps (λ m. nat_lt (sim.time m) end) q z h.0 (lt-ltb (sim.time z) end (omega arith))) h.1)
      (λ z i. let h = in_filter (λ m. nat_lt (sim.time m) at) (earlier_than sim.time end q) z i in
      filter_keeps (λ m. nat_lt (sim.time m) at) q z (in_filter (λ m. nat_lt (sim.time m) end) q z h.0).0 h.1)

  -- an end at or after a front drops the due messages from it on
  pub end_drops_due : (c : Clone) (at front : ℕ) → IsTimelyEnd sim c front at → DropsDue sim c at front
  end_drops_due c at front end =
      let late = end.late in
      let within = end.within in
      let same : min front at ≡ min front (end_of sim c) = omega arith in
      let is : run_of sim (with_end c at) front ≡ run_of sim c front = ap (run sim c.plans) same in
      let d : all_due sim (with_end c at) front ≡ earlier_than sim.time at (all_due sim c front) =
      ap (λ w. earlier_than sim.time at w.pending) is
      ∙ earlier_end (run_of sim c front).pending at (end_of sim c) within
      (run_fine law c.plans (min front (end_of sim c))).sorted in
      record {
        world = ap (λ w. w.at) is;
        due = d;
        due_here = λ s. ap (to_it sim.to s) d
            ∙ filter_swap (λ m. sim.to m == s) (λ m. nat_lt (sim.time m) at) (all_due sim c front);
      }
