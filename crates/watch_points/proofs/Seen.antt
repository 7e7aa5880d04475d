-- Entries of a log that were looked at before: they need no second look.
use Rattle.std.proofs.Common.{◌≡◌, ℕ, zero, suc, ◌<◌, ◌≤◌, ◌&&◌, min, List, [], ◌∷◌, ◌++◌, Bool, true, false, cond}
use Rattle.std.proofs.Common.{Option, Some, None, inl, inr, refl, sym, ap, ◌∙◌, subst, arith, length, drop}
use Rattle.std.proofs.Common.{append_assoc, append-nil, ◌==◌}
use Rattle.std.specs.Prelude.{nat_le}
use Rattle.std.proofs.lemmas.Bool.{cases_lt, lt-ltb, le-ltb}
use Rattle.std.proofs.lemmas.List.Elements.{filter-append}
use Rattle.sim_base.specs.Clones.{Clone}
use Rattle.sim_base.specs.declared.entry.Entry.{Entry}
use Rattle.run_laws.specs.Machine.{Config, Reach}
use Rattle.run_laws.specs.Simulation.{Simulation}
use Rattle.run_laws.specs.World.{World, log_of, world_step}
use Rattle.run_laws.specs.Runs.{end_of, run_of, log_at}
use Rattle.run_laws.specs.FrontLaws.{time_before}
use Rattle.run_laws.specs.Handlers.{HandlesLawfully}
use Rattle.run_laws.proofs.Machine.{reach_keeps}
use Rattle.run_laws.proofs.Worlds.{run_goes_on, entry_of}
use Rattle.watch_points.specs.Due.{due_in}

-- ---- due_in

module _ {M N : Type 0} (time : M → ℕ) (condition : N → Bool) where
  -- if no entry of a list is due, the entries after it decide, and any number of its entries may be left out
  pub due_in-seen : (start n : ℕ) (xs ys : List (Entry M N)) → due_in time condition start xs ≡ None → n ≤ length xs →
      due_in time condition start (drop n (xs ++ ys)) ≡ due_in time condition start (xs ++ ys)
  due_in-seen start zero [] ys e l = refl
  due_in-seen start (suc n) [] ys e l = absurd (omega (arith, l))
  due_in-seen start zero (x ∷ xs) ys e l = refl
  due_in-seen start (suc n) (x ∷ xs) ys e l =
      by (nat_le start (time x.msg) && condition x.line) e (λ f. due_in-seen start n xs ys f (omega (arith, l)))
    where
      by : (b : Bool) → cond b (Some (time x.msg)) (due_in time condition start xs) ≡ None →
          (due_in time condition start xs ≡ None → due_in time condition start (drop n (xs ++ ys))
          ≡ due_in time condition start (xs ++ ys)) →
          due_in time condition start (drop n (xs ++ ys))
          ≡ cond b (Some (time x.msg)) (due_in time condition start (xs ++ ys))
      by true f rest = absurd (cc)
      by false f rest = rest f

-- ---- log_at

module _ {S M N : Type 0} {sim : Simulation S M N} {Good : ℕ → S → Type 0} (law : HandlesLawfully sim Good) where
  -- a trace only grows
  trace-grows : {bound : ℕ} (c d : Config (World S M N) M) →
      Reach sim.order sim.time (world_step sim.to sim.handle) bound c d →
      (l : List (Entry M N)) × (d.at.trace ≡ c.at.trace ++ l)
  trace-grows c d r = reach_keeps (λ d. (l : List (Entry M N)) × (d.at.trace ≡ c.at.trace ++ l))
      ([], sym (append-nil c.at.trace))
      (λ x m q early h. let e : Entry M N = entry_of sim (sim.to m) (x.states (sim.to m)) m in
      (h.0 ++ e ∷ [], ap (λ l. l ++ e ∷ []) h.1 ∙ append_assoc c.at.trace h.0 (e ∷ [])))
      r

  -- a log at a front goes on to a later one
  log_at-goes_on : (c : Clone) (s front bound : ℕ) → front ≤ bound →
      (l : List (Entry M N)) × (log_at sim c s bound ≡ log_at sim c s front ++ l)
  log_at-goes_on c s front bound l =
      let later : min front (end_of sim c) ≤ min bound (end_of sim c) = omega arith in
      let h = trace-grows (run_of sim c front) (run_of sim c bound)
      (run_goes_on law c.plans (min front (end_of sim c)) (min bound (end_of sim c)) later) in (
        log_of sim.to s h.0,
        ap (log_of sim.to s) h.1 ∙ filter-append (λ e. sim.to e.msg == s)
            (run_of sim c front).at.trace h.0,
      )

  -- if nothing in a log at a front is due, its entries may be left out later
  pub due_in-unseen : (condition : N → Bool) (c : Clone) (s start front bound seen : ℕ) → front ≤ bound →
      due_in sim.time condition start (log_at sim c s front) ≡ None → seen ≤ length (log_at sim c s front) →
      due_in sim.time condition start (drop seen (log_at sim c s bound))
      ≡ due_in sim.time condition start (log_at sim c s bound)
  due_in-unseen condition c s start front bound seen l none few =
      let h = log_at-goes_on c s front bound l in
      subst (λ es. due_in sim.time condition start (drop seen es) ≡ due_in sim.time condition start es) (sym h.1)
      (due_in-seen sim.time condition start seen (log_at sim c s front) h.0 none few)

-- ---- time_before

-- a time that is known at a front is the time itself
pub time_before-some : (at t : ℕ) (o : Option ℕ) → Some t ≡ time_before at o → (o ≡ Some t) × (t < at)
time_before-some at t None e = absurd (cc)
time_before-some at t (Some u) e = elim (cases_lt u at) [
  | inl l ↦ (let yes : time_before at (Some u) ≡ Some u = ap (λ c. cond c (Some u) None) (lt-ltb u at l) in
      let same : t ≡ u = cc in (ap Some (sym same), omega (arith, same, l)))
  | inr l ↦ (let no : time_before at (Some u) ≡ None = ap (λ c. cond c (Some u) None) (le-ltb u at l) in
      let never : ⊥ = cc in absurd never)
]
