-- A front rises, and the fronts of a run end at the horizon. A log stays the same while nothing is due.
use Rattle.std.proofs.Common.{◌≡◌, ℕ, zero, suc, ◌+◌, ◌<◌, ◌≤◌, min, List, [], ◌∷◌}
use Rattle.std.proofs.Common.{inl, inr, Option, Some, None, nat_lt, refl, sym, ap, ◌∙◌, arith, subst}
use Rattle.std.specs.List.{AllByRecursion}
use Rattle.std.specs.Ordering.{nat_cmp}
use Rattle.std.specs.declared.cmp.Ordering.TheVariants.{Less}
use Rattle.std.proofs.lemmas.Bool.{cases_lt, lt-ltb, ltb-true}
use Rattle.std.proofs.lemmas.Cmp.{nat_cmp_total}
use Rattle.sim_base.specs.Clones.{Clone}
use Rattle.run_laws.specs.Machine.{IsSettled}
use Rattle.run_laws.specs.Simulation.{Simulation}
use Rattle.run_laws.specs.World.{log_of, first_world}
use Rattle.run_laws.specs.Runs.{run, end_of, run_of, log_at, all_due}
use Rattle.run_laws.specs.Fronts.{earlier, least_time, least_of, least, window_end, next_front, AreFronts}
use Rattle.run_laws.specs.Handlers.{HandlesLawfully}
use Rattle.run_laws.specs.FrontLaws.{RiseToHorizon}
use Rattle.sim_base.proofs.ListLaws.{all_weaker}
use Rattle.sim_base.proofs.OrderLaws.{nat_cmp-lt}
use Rattle.run_laws.proofs.Queue.{all_in, all_from}
use Rattle.run_laws.proofs.Lists.{in_filter, filter_keeps}
use Rattle.run_laws.proofs.Running.{run_reach, run_is}
use Rattle.run_laws.proofs.Worlds.{world_lawful, begins_fine, run_reached}

-- ---- window_end

module _ {S M N : Type 0} (sim : Simulation S M N) where
  -- no window goes past the horizon
  pub window_end-within : (t : Option ℕ) → window_end sim t ≤ sim.horizon
  window_end-within None = omega arith
  window_end-within (Some t) = omega arith

  -- two windows that end at a time or later end so together
  window_end-earlier : (b : ℕ) (t u : Option ℕ) → b ≤ window_end sim t → b ≤ window_end sim u →
      b ≤ window_end sim (earlier t u)
  window_end-earlier b None u l k = k
  window_end-earlier b (Some t) None l k = l
  window_end-earlier b (Some t) (Some u) l k = omega (arith, l, k)

  -- a window whose messages come at a front or later extends by the lookahead
  window_end-far : (front : ℕ) (q : List M) → AllByRecursion (λ m. front ≤ sim.time m) q →
      min sim.horizon (front + sim.lookahead) ≤ window_end sim (least_time sim.time q)
  window_end-far front [] a = omega arith
  window_end-far front (m ∷ q) a =
      let near : front ≤ sim.time m = a.0 in
      window_end-earlier (min sim.horizon (front + sim.lookahead)) (Some (sim.time m)) (least_time sim.time q)
      (omega (arith, near)) (window_end-far front q a.1)

-- ---- next_front

module _ {S M N : Type 0} {sim : Simulation S M N} {Good : ℕ → S → Type 0} (law : HandlesLawfully sim Good) where
  -- the due messages at a front come at it or later
  pub all_due-from_front : (c : Clone) (front : ℕ) → AllByRecursion (λ m. front ≤ sim.time m) (all_due sim c front)
  all_due-from_front c front = all_from (λ m. front ≤ sim.time m) (all_due sim c front) (λ m i.
      let h = in_filter (λ m. nat_lt (sim.time m) (end_of sim c)) (run_of sim c front).pending m i in
      let a : min front (end_of sim c) ≤ sim.time m =
      all_in (λ m. min front (end_of sim c) ≤ sim.time m) (run_of sim c front).pending m
      (run_reached law c.plans (min front (end_of sim c))).1.from_t h.0 in
      let b : sim.time m < end_of sim c = ltb-true (sim.time m) (end_of sim c) h.1 in
      omega (arith, a, b))

  -- if nothing is due before a time, a log stays the same up to that time
  pub log_at-nothing_due : (c : Clone) (s front until : ℕ) → front ≤ until →
      AllByRecursion (λ m. until ≤ sim.time m) (all_due sim c front) →
      log_at sim c s until ≡ log_at sim c s front
  log_at-nothing_due c s front until l due =
      let le : min front (end_of sim c) ≤ min until (end_of sim c) = omega arith in
      let settled : IsSettled sim.time (min until (end_of sim c)) (run sim c.plans (min front (end_of sim c))) =
      all_from (λ m. min until (end_of sim c) ≤ sim.time m) (run sim c.plans (min front (end_of sim c))).pending
      (λ m i. elim (cases_lt (sim.time m) (end_of sim c)) [
        | inl e ↦ let far : until ≤ sim.time m = all_in (λ m. until ≤ sim.time m) (all_due sim c front) m due
            (filter_keeps (λ m. nat_lt (sim.time m) (end_of sim c)) (run sim c.plans (min front (end_of sim c))).pending
            m i (lt-ltb (sim.time m) (end_of sim c) e)) in omega arith
        | inr e ↦ omega arith
      ]) in
      let same : run sim c.plans (min front (end_of sim c)) ≡ run sim c.plans (min until (end_of sim c)) =
      run_is law.order (world_lawful law) (min until (end_of sim c)) (first_world sim c.plans)
      (run sim c.plans (min front (end_of sim c))) (begins_fine law c.plans)
      (run_reach law.order (world_lawful law) (min until (end_of sim c)) (min front (end_of sim c))
      (first_world sim c.plans) le (begins_fine law c.plans)).0 settled in
      ap (λ w. log_of sim.to s w.at.trace) (sym same)

  -- each window may extend by the lookahead
  pub next_front-far : (cs : List Clone) (front : ℕ) → min sim.horizon (front + sim.lookahead) ≤ next_front sim cs front
  next_front-far [] front = omega arith
  next_front-far (c ∷ cs) front = window_end-earlier sim (min sim.horizon (front + sim.lookahead))
      (least_of sim c front)
      (least sim cs front)
      (window_end-far sim front (all_due sim c front) (all_due-from_front c front))
      (next_front-far cs front)

  -- so below the horizon the next front is later
  pub next_front-rises : (cs : List Clone) (front : ℕ) → 0 < sim.lookahead → front < sim.horizon →
      front < next_front sim cs front
  next_front-rises cs front l h = let far = next_front-far cs front in omega (arith, far, l, h)

  -- ---- AreFronts

  -- the fronts of a run rise to the horizon
  pub fronts-rise : (cs : List Clone) (front : ℕ) (fs : List ℕ) → 0 < sim.lookahead → AreFronts sim cs front fs →
      RiseToHorizon sim front fs
  fronts-rise cs front [] l h = record { rise = (tt, tt); within = (omega (arith, h), tt); horizon = inl (sym h) }
  fronts-rise cs front (f ∷ fs) l h =
      let r = fronts-rise cs f fs l h.2 in
      let below = h.0 in
      let is = h.1 in
      let first : front < f = subst (λ u. front < u) (sym is) (next_front-rises cs front l below) in
      record {
        rise = (
          (
            nat_cmp-lt front f first,
            all_weaker (λ g. nat_cmp f g ≡ Less) (λ g. nat_cmp front g ≡ Less) fs
                (λ g e. nat_cmp_total.trans front f g (nat_cmp-lt front f first) e) r.rise.0,
          ),
          r.rise,
        );
        within = (omega (arith, below), r.within);
        horizon = inr r.horizon;
      }

  -- from each front on there are some
  pub fronts-go_on : (cs : List Clone) (front : ℕ) → 0 < sim.lookahead → front ≤ sim.horizon →
      (fs : List ℕ) × AreFronts sim cs front fs
  fronts-go_on cs front l h = within sim.horizon front h (omega arith)
    where
      -- by how far the horizon is
      within : (n front : ℕ) → front ≤ sim.horizon → sim.horizon ≤ front + n → (fs : List ℕ) × AreFronts sim cs front fs
      within zero front h k = ([], omega (arith, h, k))
      within (suc n) front h k = elim (cases_lt front sim.horizon) [
        | inl below ↦
            let f : ℕ = next_front sim cs front in
            let rises : front < f = next_front-rises cs front l below in
            let r = within n f (window_end-within sim (least sim cs front)) (omega (arith, rises, k)) in
            (f ∷ r.0, (below, refl, r.1))
        | inr past ↦ ([], omega (arith, h, past))
      ]

module _ {S M N : Type 0} (sim : Simulation S M N) where
  -- and there is one list of them
  pub fronts-unique : (cs : List Clone) (front : ℕ) (fs gs : List ℕ) → AreFronts sim cs front fs →
      AreFronts sim cs front gs → fs ≡ gs
  fronts-unique cs front [] [] a b = refl
  fronts-unique cs front [] (g ∷ gs) a b = let l = b.0 in absurd (omega (arith, a, l))
  fronts-unique cs front (f ∷ fs) [] a b = let l = a.0 in absurd (omega (arith, b, l))
  fronts-unique cs front (f ∷ fs) (g ∷ gs) a b =
      let e : f ≡ g = a.1 ∙ sym b.1 in
      let r : fs ≡ gs = fronts-unique cs f fs gs a.2 (subst (λ u. AreFronts sim cs u gs) (sym e) b.2) in
      cc
