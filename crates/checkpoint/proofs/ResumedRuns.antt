-- A run never reads its trace, so a run from a world without its trace handles the same messages.
use Rattle.std.proofs.Common.{◌≡◌, ℕ, zero, suc, List, [], ◌∷◌, ◌++◌, min, refl, sym, ap, ◌∙◌, append_assoc}
use Rattle.std.proofs.Common.{append-nil}
use Rattle.sim_base.specs.declared.entry.Entry.{Entry}
use Rattle.run_laws.specs.Queue.{insert_all}
use Rattle.run_laws.specs.Machine.{Config, turn_on, turn, turns, run_to, count_at}
use Rattle.run_laws.specs.Simulation.{Simulation}
use Rattle.run_laws.specs.World.{World, world_step, put, first_world}
use Rattle.run_laws.specs.Runs.{run, run_from, end_of}
use Rattle.run_laws.specs.Handlers.{HandlesLawfully}
use Rattle.run_laws.proofs.Running.{run_on}
use Rattle.run_laws.proofs.Worlds.{world_lawful, begins_fine}
use Rattle.checkpoint.specs.Resume.{with_past, without_trace, RunForgetsItsTrace, ResumedIsUnbroken}

module _ {S M N : Type 0} (sim : Simulation S M N) where
  -- ---- RunForgetsItsTrace

  -- a turn with entries before the trace
  turn_on-with_past : (es : List (Entry M N)) (w : World S M N) (q : List M) →
      turn_on sim.order (world_step sim.to sim.handle) (record { states = w.states; trace = es ++ w.trace }) q
      ≡ with_past es (turn_on sim.order (world_step sim.to sim.handle) w q)
  turn_on-with_past es w [] = refl
  turn_on-with_past es w (m ∷ q) =
      let h = sim.handle (sim.to m) (w.states (sim.to m)) m in
      let e : Entry M N = record { msg = m; line = h.line } in
      ap (λ (t : List (Entry M N)). let c : Config (World S M N) M = record {
        at = record { states = put w.states (sim.to m) h.state; trace = t };
        pending = insert_all sim.order h.sends q;
      } in c) (append_assoc es w.trace (e ∷ []))

  -- turns with entries before the trace
  turns-with_past : (n : ℕ) (es : List (Entry M N)) (c : Config (World S M N) M) →
      turns sim.order (world_step sim.to sim.handle) n (with_past es c)
      ≡ with_past es (turns sim.order (world_step sim.to sim.handle) n c)
  turns-with_past zero es c = refl
  turns-with_past (suc n) es c =
      ap (turns sim.order (world_step sim.to sim.handle) n) (turn_on-with_past es c.at c.pending)
      ∙ turns-with_past n es (turn sim.order (world_step sim.to sim.handle) c)

  -- a run with entries before the trace
  pub run_forgets_its_trace : RunForgetsItsTrace sim
  unfolding run_to
  run_forgets_its_trace es c zero = refl
  run_forgets_its_trace es c (suc t) =
      let d = run_from sim c t in
      ap (λ (x : Config (World S M N) M). turns sim.order (world_step sim.to sim.handle)
      (count_at sim.time t x.pending) x) (run_forgets_its_trace es c t)
      ∙ turns-with_past (count_at sim.time t d.pending) es d

  -- ---- ResumedIsUnbroken

  -- a world is itself without its trace, with that trace as its past
  with_past-without_trace : (c : Config (World S M N) M) → c ≡ with_past c.at.trace (without_trace c)
  with_past-without_trace c = ap (λ (t : List (Entry M N)). let d : Config (World S M N) M = record {
    at = record { states = c.at.states; trace = t };
    pending = c.pending;
  } in d) (sym (append-nil c.at.trace))

  -- so a run from a world is a run without the trace, with that trace as its past
  pub run_from-without_trace : (c : Config (World S M N) M) (bound : ℕ) →
      run_from sim c bound ≡ with_past c.at.trace (run_from sim (without_trace c) bound)
  run_from-without_trace c bound =
      ap (λ (x : Config (World S M N) M). run_from sim x bound) (with_past-without_trace c)
      ∙ run_forgets_its_trace c.at.trace (without_trace c) bound

module _ {S M N : Type 0} {sim : Simulation S M N} {Good : ℕ → S → Type 0} (law : HandlesLawfully sim Good) where
  -- a run to a front continues to the end of the clone, and its trace is split at the front
  pub resumed_is_unbroken : ResumedIsUnbroken sim
  resumed_is_unbroken c front within =
      let last : ℕ = min sim.horizon (end_of sim c) in
      ap (λ (x : Config (World S M N) M). x.at.trace)
      (sym (run_on law.order (world_lawful law) front last (first_world sim c.plans) within
      (begins_fine law c.plans)) ∙ run_from-without_trace sim (run sim c.plans front) last)
