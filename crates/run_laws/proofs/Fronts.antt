-- A log at a front is the part of any later log before the front.
use Rattle.std.proofs.Common.{◌≡◌, ℕ, ◌<◌, ◌≤◌, min, List, [], ◌∷◌, ◌++◌, inl}
use Rattle.std.proofs.Common.{inr, cond, nat_lt, true, sym, ap, ◌∙◌, arith, append-nil, ◌==◌}
use Rattle.std.specs.List.{AllByRecursion}
use Rattle.std.proofs.lemmas.List.Elements.{filter-append}
use Rattle.std.proofs.lemmas.Bool.{cases_lt, lt-ltb, le-ltb}
use Rattle.sim_base.specs.Clones.{Clone}
use Rattle.sim_base.specs.declared.decision.Planned.{Planned}
use Rattle.sim_base.specs.declared.entry.Entry.{Entry}
use Rattle.sim_base.proofs.ListLaws.{all_push, all_weaker}
use Rattle.run_laws.specs.Simulation.{Simulation}
use Rattle.run_laws.specs.World.{log_of}
use Rattle.run_laws.specs.Runs.{run, end_of, run_of, log_at}
use Rattle.run_laws.specs.Handlers.{HandlesLawfully}
use Rattle.run_laws.specs.Laws.{entries_before}
use Rattle.run_laws.proofs.Lists.{filter_all, filter_swap}
use Rattle.run_laws.proofs.Machine.{reach_keeps}
use Rattle.run_laws.proofs.Running.{fine_keeps}
use Rattle.run_laws.proofs.Worlds.{world_lawful, run_reached, run_goes_on, entry_of}

-- ---- before

module _ {S M N : Type 0} {sim : Simulation S M N} {Good : ℕ → S → Type 0} (law : HandlesLawfully sim Good) where
  -- the messages handled before a bound come before it
  pub trace_below : (plans : List Planned) (bound : ℕ)
      → AllByRecursion (λ e. sim.time e.msg < bound) (run sim plans bound).at.trace
  trace_below plans bound = reach_keeps (λ w. AllByRecursion (λ e. sim.time e.msg < bound) w.at.trace) tt
      (λ x m q early h. all_push (λ e. sim.time e.msg < bound) x.trace
      (entry_of sim (sim.to m) (x.states (sim.to m)) m) h early)
      (run_reached law plans bound).0

  -- if all entries come before a bound, all come before a later front
  all_before : (front bound : ℕ) (es : List (Entry M N)) → bound ≤ front
      → AllByRecursion (λ e. sim.time e.msg < bound) es → entries_before sim front es ≡ es
  all_before front bound es l f = filter_all (λ e. nat_lt (sim.time e.msg) front) es
      (all_weaker (λ e. sim.time e.msg < bound) (λ e. nat_lt (sim.time e.msg) front ≡ true) es
      (λ e h. lt-ltb (sim.time e.msg) front (omega arith)) f)

  -- an entry at or after the front is left out
  pub entries_before-late : (front : ℕ) (es : List (Entry M N)) (e : Entry M N) → front ≤ sim.time e.msg
      → entries_before sim front (es ++ e ∷ []) ≡ entries_before sim front es
  entries_before-late front es e l = filter-append (λ e. nat_lt (sim.time e.msg) front) es (e ∷ [])
      ∙ ap (λ b. entries_before sim front es ++ cond b (e ∷ []) []) (le-ltb (sim.time e.msg) front l)
      ∙ append-nil (entries_before sim front es)

  -- the trace at a front is that part of a later trace which comes before it
  pub trace_at_front : (plans : List Planned) (front bound : ℕ) → front ≤ bound
      → entries_before sim front (run sim plans bound).at.trace ≡ (run sim plans front).at.trace
  trace_at_front plans front bound l =
      let w = run sim plans front in
      fine_keeps law.order (world_lawful law) front (λ d. entries_before sim front d.at.trace ≡ w.at.trace)
      (all_before front front w.at.trace (omega arith) (trace_below plans front))
      (λ x m q f early h. entries_before-late front x.trace (entry_of sim (sim.to m) (x.states (sim.to m)) m) f.from_t.0
      ∙ h)
      (run_reached law plans front).1
      (run_goes_on law plans front bound l)

  -- the same of a clone, which may have ended
  clone_trace_at_front : (c : Clone) (front bound : ℕ) → front ≤ bound
      → entries_before sim front (run_of sim c bound).at.trace ≡ (run_of sim c front).at.trace
  clone_trace_at_front c front bound l = elim (cases_lt front (end_of sim c)) [
    | inl a ↦
        let e : min front (end_of sim c) ≡ front = omega arith in
        let le : front ≤ min bound (end_of sim c) = omega arith in
        trace_at_front c.plans front (min bound (end_of sim c)) le ∙ ap (λ f. (run sim c.plans f).at.trace) (sym e)
    | inr a ↦
        let e : min bound (end_of sim c) ≡ min front (end_of sim c) = omega arith in
        let le : min front (end_of sim c) ≤ front = omega arith in
        ap (λ f. entries_before sim front (run sim c.plans f).at.trace) e
        ∙ all_before front (min front (end_of sim c)) (run_of sim c front).at.trace le
        (trace_below c.plans (min front (end_of sim c)))
  ]

  -- the log of a station at a front is that part of its log at a later one which comes before it
  pub log_at_front : (c : Clone) (s front bound : ℕ) → front ≤ bound
      → entries_before sim front (log_at sim c s bound) ≡ log_at sim c s front
  log_at_front c s front bound l =
      filter_swap (λ e. nat_lt (sim.time e.msg) front) (λ e. sim.to e.msg == s) (run_of sim c bound).at.trace
      ∙ ap (log_of sim.to s) (clone_trace_at_front c front bound l)
