-- The window rule: how far all stations may advance in parallel.
use Rattle.std.specs.Prelude.{◌≡◌, ℕ, ◌+◌, ◌<◌, ◌≤◌, List, [], ◌∷◌, min, Option, Some, None}
use Rattle.sim_base.specs.Clones.{Clone}
use Rattle.run_laws.specs.Simulation.{Simulation}
use Rattle.run_laws.specs.Runs.{all_due}

-- the lesser of two times that may be missing
abbrev pub earlier : Option ℕ → Option ℕ → Option ℕ
earlier None t = t
earlier (Some t) None = Some t
earlier (Some t) (Some u) = Some (min t u)

module _ {M : Type 0} (time : M → ℕ) where
  -- the least time of the messages, if there are any
  abbrev pub least_time : List M → Option ℕ
  least_time [] = None
  least_time (m ∷ q) = earlier (Some (time m)) (least_time q)

module _ {S M N : Type 0} (sim : Simulation S M N) where
  -- the least due time in a clone
  abbrev pub least_of : Clone → ℕ → Option ℕ
  least_of c front = least_time sim.time (all_due sim c front)

  -- the least due time in any clone
  abbrev pub least : List Clone → ℕ → Option ℕ
  least [] front = None
  least (c ∷ cs) front = earlier (least_of c front) (least cs front)

  -- the end of a window whose least message has this time: its sends over links come no sooner
  abbrev pub window_end : Option ℕ → ℕ
  window_end None = sim.horizon
  window_end (Some t) = min sim.horizon (t + sim.lookahead)

  -- the next front
  abbrev pub next_front : List Clone → ℕ → ℕ
  next_front cs front = window_end (least cs front)

  -- a window of all stations: from a front to a bound that is not past the next front
  pub record IsWindow (cs : List Clone) (front bound : ℕ) : Type 0 where
    pub later : front ≤ bound
    pub within : bound ≤ next_front cs front

  -- from a front on, each is the next front of the one before, which is below the horizon; the last is the horizon
  abbrev pub AreFronts : List Clone → ℕ → List ℕ → Type 0
  AreFronts cs front [] = front ≡ sim.horizon
  AreFronts cs front (f ∷ fs) = (front < sim.horizon) × (f ≡ next_front cs front) × AreFronts cs f fs
