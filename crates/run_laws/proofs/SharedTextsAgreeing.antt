-- Clones whose decisions agree below a time have the same trace before it.
use Rattle.std.proofs.Common.{◌≡◌, ℕ, suc, ◌≤◌, min, List, [], ◌∷◌, ◌++◌, inl}
use Rattle.std.proofs.Common.{inr, Bool, cond, nat_lt, refl, sym, ap, ◌∙◌, arith}
use Rattle.std.proofs.lemmas.List.Elements.{filter-append}
use Rattle.std.proofs.lemmas.Bool.{cases_Bool, cases_lt, lt-ltb, le-ltb}
use Rattle.std.specs.declared.cmp.Ordering.{Ordering}
use Rattle.sim_base.specs.Clones.{Clone}
use Rattle.sim_base.specs.declared.decision.Planned.{Planned}
use Rattle.run_laws.specs.Queue.{insert, insert_all, Sorted}
use Rattle.run_laws.specs.Machine.{Config, run_to}
use Rattle.run_laws.specs.Simulation.{Simulation}
use Rattle.run_laws.specs.World.{World, first_messages, set_messages, first_world}
use Rattle.run_laws.specs.Window.{earlier_than}
use Rattle.run_laws.specs.Runs.{run, end_of, trace_of}
use Rattle.run_laws.specs.Handlers.{IsTimed, IsLawful, HandlesLawfully}
use Rattle.run_laws.specs.Laws.{entries_before}
use Rattle.run_laws.proofs.Queue.{insert_swap, sorted_insert, sorted_insert_all}
use Rattle.run_laws.proofs.Running.{Fine, all_from_zero, run_late}
use Rattle.run_laws.proofs.Worlds.{world_lawful}
use Rattle.run_laws.proofs.Fronts.{trace_at_front}
use Rattle.run_laws.specs.SharedTexts.{parting_time, parting_of, TellsPlans}

-- ---- run_to

module _ {X M : Type 0} {cmp : M → M → Ordering} {time : M → ℕ} {handle : X → M → X × List M} {Good : X → Type 0}
    (o : IsTimed cmp time) (law : IsLawful time handle Good) where
  -- the state that a machine which begins with these messages has at a bound
  abbrev state_at_bound : X → List M → ℕ → X
  state_at_bound x q bound = (run_to cmp handle time (record { at = x; pending = q }) bound).at

  -- messages from the bound on change nothing of that state
  late_left_out : (bound : ℕ) (x : X) → Good x → (ms q : List M) → Sorted cmp q →
      state_at_bound x (insert_all cmp ms q) bound
      ≡ state_at_bound x (insert_all cmp (earlier_than time bound ms) q) bound
  late_left_out bound x g [] q s = refl
  late_left_out bound x g (m ∷ ms) q s =
      let early : List M = earlier_than time bound ms in
      -- with or without the message, by whether it comes before the bound
      let cut : Bool → X = λ b. state_at_bound x (insert_all cmp (cond b (m ∷ early) early) q) bound in
      elim (cases_lt (time m) bound) [
        | inl l ↦
            late_left_out bound x g ms (insert cmp m q) (sorted_insert o.order m q s)
            ∙ ap cut (sym (lt-ltb (time m) bound l))
        | inr l ↦
            let all : Config X M = record { at = x; pending = insert_all cmp ms q } in
            let fine : Fine cmp time Good 0 all = record {
              good = g;
              sorted = sorted_insert_all o.order ms q s;
              from_t = all_from_zero time all.pending;
            } in
            ap (λ p. state_at_bound x p bound) (insert_swap o.order m ms q s)
            ∙ ap (λ c. c.at) (run_late o law bound all m l fine)
            ∙ late_left_out bound x g ms q s
            ∙ ap cut (sym (le-ltb (time m) bound l))
      ]

module _ {S M N : Type 0} {sim : Simulation S M N} {Good : ℕ → S → Type 0} (law : HandlesLawfully sim Good) where
  -- decisions that agree below a time lead to one world at that time
  worlds_agree : (ps qs : List Planned) (t : ℕ) →
      earlier_than sim.time t (set_messages sim 0 ps) ≡ earlier_than sim.time t (set_messages sim 0 qs) →
      (run sim ps t).at ≡ (run sim qs t).at
  worlds_agree ps qs t e =
      let first : List M = first_messages sim sim.stations in
      let x : World S M N = (first_world sim []).at in
      -- the states that the first messages and the decisions below the time lead to
      let world : List M → World S M N = λ l.
      state_at_bound law.order (world_lawful law) x (insert_all sim.order l []) t in
      let below : List Planned → List M = λ plans. earlier_than sim.time t (set_messages sim 0 plans) in
      let cut : (plans : List Planned) → (run sim plans t).at ≡ world (earlier_than sim.time t first ++ below plans) =
      λ plans.
      late_left_out law.order (world_lawful law) t x law.opens (first ++ set_messages sim 0 plans) [] tt
      ∙ ap world (filter-append (λ m. nat_lt (sim.time m) t) first (set_messages sim 0 plans)) in
      cut ps ∙ ap (λ l. world (earlier_than sim.time t first ++ l)) e ∙ sym (cut qs)

  -- a clone's trace before a time that it does not end before
  before_time : (c : Clone) (t : ℕ) → t ≤ end_of sim c → t ≤ sim.horizon →
      entries_before sim t (trace_of sim c) ≡ (run sim c.plans t).at.trace
  before_time c t l k = trace_at_front law c.plans t (min sim.horizon (end_of sim c)) (omega arith)

  -- two clones whose decisions below a time are equal have the same trace before it, if neither ends earlier
  pub traces_agree : (c d : Clone) (t : ℕ) → t ≤ end_of sim c → t ≤ end_of sim d → t ≤ sim.horizon →
      earlier_than sim.time t (set_messages sim 0 c.plans) ≡ earlier_than sim.time t (set_messages sim 0 d.plans) →
      entries_before sim t (trace_of sim c) ≡ entries_before sim t (trace_of sim d)
  traces_agree c d t l k h e =
      before_time c t l h ∙ ap (λ w. w.trace) (worlds_agree c.plans d.plans t e) ∙ sym (before_time d t k h)

-- ---- parting_time

module _ {S M N : Type 0} (sim : Simulation S M N) where
  -- a message at the time or later is left out
  left_out : (t : ℕ) (m : M) (ms : List M) → t ≤ sim.time m →
      earlier_than sim.time t (m ∷ ms) ≡ earlier_than sim.time t ms
  left_out t m ms l =
      ap (λ b. cond b (m ∷ earlier_than sim.time t ms) (earlier_than sim.time t ms)) (le-ltb (sim.time m) t l)

  module _ (same : Planned → Planned → Bool) (tells : TellsPlans sim same) where
    -- so is a decision from then on, wherever it is in the list
    late_plan : (k t : ℕ) (p : Planned) (ps : List Planned) → t ≤ p.at →
        earlier_than sim.time t (set_messages sim k (p ∷ ps)) ≡ earlier_than sim.time t (set_messages sim (suc k) ps)
    late_plan k t p ps l =
        let e = tells.at k p in
        left_out t (sim.set_message k p) (set_messages sim (suc k) ps) (omega (arith, e, l))

    -- before they diverge, two lists have the same decisions
    agree_below : (most k t : ℕ) (ps qs : List Planned) → t ≤ parting_time same most ps qs →
        earlier_than sim.time t (set_messages sim k ps) ≡ earlier_than sim.time t (set_messages sim k qs)
    agree_below most k t [] [] l = refl
    agree_below most k t (p ∷ ps) [] l =
        late_plan k t p ps (omega arith) ∙ agree_below most (suc k) t ps [] (omega arith)
    agree_below most k t [] (q ∷ qs) l =
        agree_below most (suc k) t [] qs (omega arith) ∙ sym (late_plan k t q qs (omega arith))
    agree_below most k t (p ∷ ps) (q ∷ qs) l = elim (cases_Bool (same p q)) [
      | inl y ↦
          let e : p ≡ q = tells.sound p q y in
          let r : t ≤ parting_time same most ps qs = rw y at l in
          let m : M = sim.set_message k q in
          ap (λ z. earlier_than sim.time t (sim.set_message k z ∷ set_messages sim (suc k) ps)) e
          ∙ ap (λ rest. cond (nat_lt (sim.time m) t) (m ∷ rest) rest) (agree_below most (suc k) t ps qs r)
      | inr n ↦
          let r : t ≤ min (min p.at q.at) (parting_time same most ps qs) = rw n at l in
          late_plan k t p ps (omega arith)
          ∙ agree_below most (suc k) t ps qs (omega arith)
          ∙ sym (late_plan k t q qs (omega arith))
    ]

  -- lists part at `most` or before
  parting_low : (same : Planned → Planned → Bool) (most : ℕ) (ps qs : List Planned) →
      parting_time same most ps qs ≤ most
  parting_low same most [] [] = omega arith
  parting_low same most (p ∷ ps) [] = let h = parting_low same most ps [] in omega (arith, h)
  parting_low same most [] (q ∷ qs) = let h = parting_low same most [] qs in omega (arith, h)
  parting_low same most (p ∷ ps) (q ∷ qs) = let h = parting_low same most ps qs in elim (cases_Bool (same p q)) [
    | inl y ↦ rw y h
    | inr n ↦ let g : min (min p.at q.at) (parting_time same most ps qs) ≤ most = omega (arith, h) in rw n g
  ]

module _ {S M N : Type 0} {sim : Simulation S M N} {Good : ℕ → S → Type 0} (law : HandlesLawfully sim Good) where
  -- clones have the same trace until their lists diverge
  pub agree_to_parting : (same : Planned → Planned → Bool) (c d : Clone) → TellsPlans sim same →
      end_of sim c ≤ sim.horizon → end_of sim d ≤ sim.horizon →
      entries_before sim (parting_of sim same c d) (trace_of sim c)
      ≡ entries_before sim (parting_of sim same c d) (trace_of sim d)
  agree_to_parting same c d tells hc hd =
      let t : ℕ = parting_of sim same c d in
      let most : ℕ = min (end_of sim c) (end_of sim d) in
      let low : t ≤ most = parting_low sim same most c.plans d.plans in
      traces_agree law c d t (omega arith) (omega arith) (omega arith)
      (agree_below sim same tells most 0 t c.plans d.plans (omega arith))
