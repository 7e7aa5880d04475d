-- The state of a station is the replay of its log.
use Rattle.std.proofs.Common.{◌≡◌, ℕ, min, List, [], ◌∷◌, ◌++◌, refl, sym, ap, ◌∙◌}
use Rattle.sim_base.specs.Clones.{Clone}
use Rattle.sim_base.specs.declared.entry.Entry.{Entry}
use Rattle.run_laws.specs.Simulation.{Simulation}
use Rattle.run_laws.specs.World.{World, log_of, world_step, replay}
use Rattle.run_laws.specs.Runs.{end_of, log_at, state_at}
use Rattle.run_laws.specs.Handlers.{HandlesLawfully}
use Rattle.run_laws.proofs.Machine.{reach_keeps}
use Rattle.run_laws.proofs.Worlds.{put_cases, log_here, log_there, entry_of, run_reached}

-- ---- replay

module _ {S M N : Type 0} (sim : Simulation S M N) where
  -- one entry more is handled after the others
  pub replay-push : (s : ℕ) (st : S) (es : List (Entry M N)) (e : Entry M N) →
      replay sim.to sim.handle s st (es ++ e ∷ []) ≡ (sim.handle s (replay sim.to sim.handle s st es) e.msg).state
  replay-push s st [] e = refl
  replay-push s st (x ∷ es) e = replay-push s (sim.handle s st x.msg).state es e

  -- and a turn keeps it so
  replayed_step : (opening : ℕ → S) (x : World S M N) (m : M) →
      ((s : ℕ) → x.states s ≡ replay sim.to sim.handle s (opening s) (log_of sim.to s x.trace)) → (s : ℕ) →
      (world_step sim.to sim.handle x m).0.states s ≡ replay sim.to sim.handle s (opening s)
      (log_of sim.to s (world_step sim.to sim.handle x m).0.trace)
  replayed_step opening x m h =
      let r = sim.to m in
      let e : Entry M N = entry_of sim r (x.states r) m in
      put_cases (λ s st. st ≡ replay sim.to sim.handle s (opening s) (log_of sim.to s (x.trace ++ e ∷ []))) x.states r
      (sim.handle r (x.states r) m).state
      (sym (ap (replay sim.to sim.handle r (opening r)) (log_here sim.to r x.trace e refl)
      ∙ replay-push r (opening r) (log_of sim.to r x.trace) e
      ∙ ap (λ st. (sim.handle r st m).state) (sym (h r))))
      (λ s n. h s ∙ sym (ap (replay sim.to sim.handle s (opening s)) (log_there sim.to s x.trace e (λ p. n (sym p)))))

-- ---- state_at

module _ {S M N : Type 0} {sim : Simulation S M N} {Good : ℕ → S → Type 0} (law : HandlesLawfully sim Good) where
  -- the state of a station at a front is the replay of its log from its opening state
  pub state_is_replay : (c : Clone) (s front : ℕ) →
      state_at sim c s front ≡ replay sim.to sim.handle s (sim.setup s).state (log_at sim c s front)
  state_is_replay c s front =
      reach_keeps (λ w. (s : ℕ) → w.at.states s ≡ replay sim.to sim.handle s (sim.setup s).state
      (log_of sim.to s w.at.trace))
      (λ s. refl)
      (λ x m q early h. replayed_step sim (λ s. (sim.setup s).state) x m h)
      (run_reached law c.plans (min front (end_of sim c))).0
      s

  -- clones with equal logs at a station have it in the same state
  pub equal_logs_equal_states : (c d : Clone) (s front : ℕ) → log_at sim c s front ≡ log_at sim d s front →
      state_at sim c s front ≡ state_at sim d s front
  equal_logs_equal_states c d s front e = state_is_replay c s front
      ∙ ap (replay sim.to sim.handle s (sim.setup s).state) e ∙ sym (state_is_replay d s front)

  -- from a good state a log leads to a good one
  good_from : (s : ℕ) (st : S) (es : List (Entry M N)) → Good s st → Good s (replay sim.to sim.handle s st es)
  good_from s st [] g = g
  good_from s st (e ∷ es) g = good_from s (sim.handle s st e.msg).state es (law.keeps s st e.msg g)

  -- the replay of any log from the opening state is good
  pub replay_is_good : (s : ℕ) (es : List (Entry M N)) → Good s (replay sim.to sim.handle s (sim.setup s).state es)
  replay_is_good s es = good_from s (sim.setup s).state es (law.opens s)
