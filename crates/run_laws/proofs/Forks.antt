-- A fork of a clone without end equals that clone at every front.
use Rattle.std.proofs.Common.{◌≡◌, ℕ, List, None, sym, ap}
use Rattle.sim_base.specs.Clones.{Clone, fork_of}
use Rattle.run_laws.specs.Simulation.{Simulation}
use Rattle.run_laws.specs.Runs.{end_of, log_at, all_due}

-- ---- fork_of

module _ {S M N : Type 0} (sim : Simulation S M N) (c : Clone) (name : List ℕ) (no_end : c.end ≡ None) where
  -- the clone with the new name
  abbrev fork : Clone
  fork = fork_of c name

  -- it ends when the clone ends
  pub end_of-fork : end_of sim fork ≡ end_of sim c
  end_of-fork = ap (λ x. end_of sim (record { name = name; plans = c.plans; end = x })) (sym no_end)

  -- its logs are the clone's
  pub log_at-fork : (s front : ℕ) → log_at sim fork s front ≡ log_at sim c s front
  log_at-fork s front = ap (λ x. log_at sim (record { name = name; plans = c.plans; end = x }) s front) (sym no_end)

  -- and its due messages are those of the clone
  pub all_due-fork : (front : ℕ) → all_due sim fork front ≡ all_due sim c front
  all_due-fork front = ap (λ x. all_due sim (record { name = name; plans = c.plans; end = x }) front) (sym no_end)
