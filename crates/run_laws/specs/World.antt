-- The world of one clone, simulated alone on one thread.
use Rattle.std.specs.Prelude.{ℕ, zero, suc, List, [], ◌∷◌, ◌++◌, ◌==◌, if◌then◌else◌, Option, Some, None}
use Rattle.std.specs.List.{filter}
use Rattle.sim_base.specs.declared.decision.Planned.{Planned}
use Rattle.sim_base.specs.declared.entry.Entry.{Entry}
use Rattle.run_laws.specs.Queue.{insert_all}
use Rattle.run_laws.specs.Machine.{Config}
use Rattle.run_laws.specs.Simulation.{Simulation, Outcome}

-- one state for each station, and the handled messages in order
pub record World (S M N : Type 0) : Type 0 where
  pub states : ℕ → S
  pub trace : List (Entry M N)

module _ {M : Type 0} (to : M → ℕ) where
  -- the messages to station s
  abbrev pub to_it : ℕ → List M → List M
  to_it s ms = filter (λ m. to m == s) ms

  -- the entries of station s
  abbrev pub log_of : {N : Type 0} → ℕ → List (Entry M N) → List (Entry M N)
  log_of s es = filter (λ e. to e.msg == s) es

-- f, except that r has v
abbrev pub put : {A : Type 0} → (ℕ → A) → ℕ → A → ℕ → A
put f r v s = if s == r then v else f s

module _ {S M N : Type 0} (to : M → ℕ) (handle : ℕ → S → M → Outcome S M N) where
  -- the receiver handles a message: its state changes, the trace grows, and its sends are returned
  abbrev pub world_step : World S M N → M → World S M N × List M
  world_step w m =
      let h = handle (to m) (w.states (to m)) m in (
        record { states = put w.states (to m) h.state; trace = w.trace ++ record { msg = m; line = h.line } ∷ [] },
        h.sends,
      )

  -- the state of station s after a log, from the state st on
  abbrev pub replay : ℕ → S → List (Entry M N) → S
  replay s st [] = st
  replay s st (e ∷ es) = replay s (handle s st e.msg).state es

module _ {S M N : Type 0} (sim : Simulation S M N) where
  -- messages, followed by a station's first message if it has one
  abbrev pub and_first : List M → Option M → List M
  and_first ms None = ms
  and_first ms (Some m) = ms ++ m ∷ []

  -- the first messages of the stations 1 to n
  abbrev pub first_messages : ℕ → List M
  first_messages zero = []
  first_messages (suc n) = and_first (first_messages n) (sim.setup (suc n)).first

  -- the decisions as messages, the first numbered k
  abbrev pub set_messages : ℕ → List Planned → List M
  set_messages k [] = []
  set_messages k (d ∷ ds) = sim.set_message k d ∷ set_messages (suc k) ds

  -- the world of a clone with these decisions, before anything was handled
  abbrev pub first_world : List Planned → Config (World S M N) M
  first_world plans = record {
    at = record { states = λ s. (sim.setup s).state; trace = [] };
    pending = insert_all sim.order (first_messages sim.stations ++ set_messages 0 plans) [];
  }
