-- One station alone in a window.
use Rattle.std.specs.Prelude.{ℕ, List, [], ◌∷◌, ◌++◌, ◌==◌, not, min, nat_lt}
use Rattle.std.specs.List.{filter}
use Rattle.sim_base.specs.declared.entry.Entry.{Entry}
use Rattle.run_laws.specs.Machine.{Config, run_to}
use Rattle.run_laws.specs.Simulation.{Simulation, Outcome}
use Rattle.run_laws.specs.World.{to_it}

-- a station alone: its state, its log, and the messages that it has laid aside for other stations
pub record LocalStation (S M N : Type 0) : Type 0 where
  pub state : S
  pub log : List (Entry M N)
  pub aside : List M

module _ {M : Type 0} (to : M → ℕ) where
  -- the messages to other stations than s
  abbrev pub to_others : ℕ → List M → List M
  to_others s ms = filter (λ m. not (to m == s)) ms

module _ {M : Type 0} (time : M → ℕ) where
  -- the messages before a time
  abbrev pub earlier_than : ℕ → List M → List M
  earlier_than t ms = filter (λ m. nat_lt (time m) t) ms

module _ {S M N : Type 0} (to : M → ℕ) (handle : ℕ → S → M → Outcome S M N) where
  -- station s handles a message: its sends to itself become pending, and the others are laid aside
  abbrev pub local_step : ℕ → LocalStation S M N → M → LocalStation S M N × List M
  local_step s p m =
      let h = handle s p.state m in (
        record {
          state = h.state;
          log = p.log ++ record { msg = m; line = h.line } ∷ [];
          aside = p.aside ++ to_others to s h.sends;
        },
        to_it to s h.sends,
      )

module _ {S M N : Type 0} where
  -- a station before its window
  abbrev pub alone_at : List (Entry M N) → S → List M → Config (LocalStation S M N) M
  alone_at log state pending = record { at = record { state = state; log = log; aside = [] }; pending = pending }

module _ {S M N : Type 0} (sim : Simulation S M N) where
  -- one station's window, from its log, state and pending messages. It handles the messages below the bound and its
  -- clone's end, least first
  abbrev pub local_run : ℕ → List (Entry M N) → S → List M → ℕ → ℕ → Config (LocalStation S M N) M
  local_run s log state pending bound end =
      run_to sim.order (local_step sim.to sim.handle s) sim.time (alone_at log state pending)
      (min bound end)
