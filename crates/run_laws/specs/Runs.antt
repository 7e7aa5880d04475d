-- The run of a clone, and its parts: trace, logs, states, and the messages that are due.
use Rattle.std.specs.Prelude.{ℕ, ◌≡◌, ◌<◌, ◌≤◌, List, None, length, min, unwrap_or, nat_lt}
use Rattle.std.specs.List.{filter}
use Rattle.sim_base.specs.Clones.{Clone, clone_at}
use Rattle.sim_base.specs.declared.decision.Planned.{Planned}
use Rattle.sim_base.specs.declared.entry.Entry.{Entry}
use Rattle.run_laws.specs.Machine.{Config, run_to}
use Rattle.run_laws.specs.Simulation.{Simulation}
use Rattle.run_laws.specs.World.{World, first_world, world_step, to_it, log_of}

-- a clone may be forked: it exists, and has no end
pub record MayFork (cs : List Clone) (old : ℕ) : Type 0 where
  pub in_range : old < length cs
  pub going : (clone_at cs old).end ≡ None

module _ {S M N : Type 0} (sim : Simulation S M N) where
  -- the run of a world from its present state to a front: every message below the front is handled
  abbrev pub run_from : Config (World S M N) M → ℕ → Config (World S M N) M
  run_from world front = run_to sim.order (world_step sim.to sim.handle) sim.time world front

  -- the run of a decision list to a front
  abbrev pub run : List Planned → ℕ → Config (World S M N) M
  run plans front = run_from (first_world sim plans) front

  -- a clone's end, or the horizon if it has none
  abbrev pub end_of : Clone → ℕ
  end_of c = unwrap_or c.end sim.horizon

  -- m is the message of a decision of clone who, which exists, and comes at a front or later
  pub record IsTimelyPlan (cs : List Clone) (front who : ℕ) (p : Planned) (m : M) : Type 0 where
    pub in_range : who < length cs
    pub is : m ≡ sim.set_message (length (clone_at cs who).plans) p
    pub late : front ≤ sim.time m

  -- a clone may end then: at a front or later, and not past its present end
  pub record IsTimelyEnd (c : Clone) (front at : ℕ) : Type 0 where
    pub late : front ≤ at
    pub within : at ≤ end_of c

  -- a clone's run to a front, or to its end if that comes first
  abbrev pub run_of : Clone → ℕ → Config (World S M N) M
  run_of c front = run c.plans (min front (end_of c))

  -- the entries of all messages that a clone handles before the horizon
  abbrev pub trace_of : Clone → List (Entry M N)
  trace_of c = (run_of c sim.horizon).at.trace

  -- the entries of station s before a front
  abbrev pub log_at : Clone → ℕ → ℕ → List (Entry M N)
  log_at c s front = log_of sim.to s (run_of c front).at.trace

  -- the state of station s at a front
  abbrev pub state_at : Clone → ℕ → ℕ → S
  state_at c s front = (run_of c front).at.states s

  -- the messages that are pending at a front and come before the clone's end
  abbrev pub all_due : Clone → ℕ → List M
  all_due c front = filter (λ m. nat_lt (sim.time m) (end_of c)) (run_of c front).pending

  -- those of them that are for station s
  abbrev pub due_at : Clone → ℕ → ℕ → List M
  due_at c s front = to_it sim.to s (all_due c front)
