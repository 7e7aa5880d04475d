-- Clones and stations by their numbers, and what copies that represent the clones at a front say of the logs.
use Rattle.std.proofs.Common.{ℕ, zero, suc, ◌≤◌, ◌<◌, List, [], ◌∷◌, ◌⊎◌, inl, inr, Bool, refl, arith, length}
use Rattle.std.proofs.lemmas.Bool.{cases_lt}
use Rattle.sim_base.specs.Clones.{Clone, clone_at}
use Rattle.run_laws.specs.Queue.{In}
use Rattle.run_laws.specs.Simulation.{Simulation}
use Rattle.run_laws.specs.Handlers.{IsStation}
use Rattle.run_laws.specs.Copies.{Copy, StandsByLogs, Stands}

-- ---- In

-- a clone that is there is one of the clones
pub clone_in : (cs : List Clone) (c : ℕ) → c < length cs → In (clone_at cs c) cs
clone_in [] c l = absurd (omega arith)
clone_in (x ∷ xs) zero l = inl refl
clone_in (x ∷ xs) (suc c) l = inr (clone_in xs c (omega arith))

-- ---- IsStation

-- a number is a station's, or not
pub station_or_not : {S M N : Type 0} (sim : Simulation S M N) (r : ℕ) → IsStation sim r ⊎ (IsStation sim r → ⊥)
station_or_not sim r = elim (cases_lt 0 r) [
  | inl a ↦ elim (cases_lt sim.stations r) [
    | inl b ↦ inr (λ h. let l : r ≤ sim.stations = h.1 in omega arith)
    | inr b ↦ inl (a, b)
  ]
  | inr a ↦ inr (λ h. let l : 0 < r = h.0 in omega arith)
]

-- ---- StandsByLogs

-- copies that represent the clones at a front represent them there by their logs
pub stands_by_logs : {S M N K : Type 0} (sim : Simulation S M N) (has : K → ℕ → Bool) (cs : List Clone) (front s : ℕ)
    (copies : List (Copy S M N K)) → Stands sim has cs front s copies → StandsByLogs sim has cs front s copies
stands_by_logs sim has cs front s copies st = record {
  inhabited = st.inhabited;
  carried = st.carried;
  living = st.living;
  disjoint = st.disjoint;
  log = st.log;
  state = st.state;
  shared = st.shared;
  sorted = st.sorted;
}
