-- The requirements of the laws on a simulation: on its order of messages, and on its stations.
--
-- The requirements on a station hold in good states, which the author of a simulation chooses. A station opens in a
-- good state, and stays in good states.
use Rattle.std.specs.Prelude.{◌≡◌, ◌⊎◌, ℕ, ◌+◌, ◌<◌, ◌≤◌, List, Some, length}
use Rattle.std.specs.List.{AllByRecursion}
use Rattle.std.specs.Cmp.{IsTotalOrder}
use Rattle.std.specs.declared.cmp.Ordering.{Ordering}
use Rattle.std.specs.declared.cmp.Ordering.TheVariants.{Less, Equal}
pub use Rattle.sim_base.specs.Order.{key_order}
use Rattle.sim_base.specs.Clones.{Clone, clone_at}
use Rattle.sim_base.specs.declared.decision.Planned.{Planned}
use Rattle.run_laws.specs.Queue.{In}
use Rattle.run_laws.specs.Simulation.{Simulation}
use Rattle.run_laws.specs.World.{World}

-- an order that separates any two elements
pub record IsOrder {M : Type 0} (cmp : M → M → Ordering) : Type 0 where
  pub total : IsTotalOrder cmp
  pub same : (x y : M) → cmp x y ≡ Equal → x ≡ y

-- an order in which an earlier time comes first
pub record IsTimed {M : Type 0} (cmp : M → M → Ordering) (time : M → ℕ) : Type 0 where
  pub order : IsOrder cmp
  pub timed : (x y : M) → cmp x y ≡ Less → time x ≤ time y

-- a machine that stays good, and whose sends come later than the handled message
pub record IsLawful {X M : Type 0} (time : M → ℕ) (handle : X → M → X × List M) (Good : X → Type 0) : Type 0 where
  pub keeps : (x : X) (m : M) → Good x → Good (handle x m).0
  pub later : (x : X) (m : M) → Good x → AllByRecursion (λ z. time m < time z) (handle x m).1

module _ {S M N : Type 0} where
  -- each station of a world is in a good state
  abbrev pub AllGood : (ℕ → S → Type 0) → World S M N → Type 0
  AllGood Good w = (s : ℕ) → Good s (w.states s)

-- the number of one of n stations
abbrev pub IsStationOf : ℕ → ℕ → Type 0
IsStationOf n s = (0 < s) × (s ≤ n)

module _ {S M N : Type 0} (sim : Simulation S M N) where
  -- the number of a station
  abbrev pub IsStation : ℕ → Type 0
  IsStation s = IsStationOf sim.stations s

  -- the decisions are for stations
  abbrev pub AreForStations : List Planned → Type 0
  AreForStations plans = AllByRecursion (λ p. IsStation p.station) plans

  -- and so are those of all clones
  abbrev pub AllAreForStations : List Clone → Type 0
  AllAreForStations cs = (c : ℕ) → c < length cs → AreForStations (clone_at cs c).plans

  -- the requirements of the laws of runs, windows and copies
  pub record HandlesLawfully (Good : ℕ → S → Type 0) : Type 0 where
    pub order : IsTimed sim.order sim.time
    pub opens : (s : ℕ) → Good s (sim.setup s).state
    pub keeps : (s : ℕ) (st : S) (m : M) → Good s st → Good s (sim.handle s st m).state
    -- a send comes later
    pub later : (s : ℕ) (st : S) (m : M) → Good s st →
        AllByRecursion (λ z. sim.time m < sim.time z) (sim.handle s st m).sends
    -- and a send to another station comes later by the lookahead or more
    pub far : (s : ℕ) (st : S) (m z : M) → Good s st → In z (sim.handle s st m).sends → ¬ (sim.to z ≡ s) →
        sim.time m + sim.lookahead ≤ sim.time z

  -- every message is for a station, if the decisions are
  pub record SendsToStations (Good : ℕ → S → Type 0) : Type 0 where
    pub first : (s : ℕ) (m : M) → IsStation s → (sim.setup s).first ≡ Some m → sim.to m ≡ s
    pub set_message : (k : ℕ) (p : Planned) → sim.to (sim.set_message k p) ≡ p.station
    pub sends : (s : ℕ) (st : S) (m z : M) → IsStation s → Good s st → In z (sim.handle s st m).sends →
        IsStation (sim.to z)

  -- a station numbers its sends, each number once; a decision has sender 0 and its place in the list as its number
  pub record HandlesFreshly (Good : ℕ → S → Type 0) (sender number : M → ℕ) (next : S → ℕ) : Type 0 where
    -- messages that differ in time, sender or number are ordered by those
    pub keyed : (x y : M) → sim.order x y ≡ Less →
        (key_order sim.time sender number x y ≡ Less) ⊎ (key_order sim.time sender number x y ≡ Equal)
    -- the opening message of a station is its own, and its number counts as used
    pub opened : (s : ℕ) (m : M) → IsStation s → (sim.setup s).first ≡ Some m →
        (sender m ≡ s) × (number m < next (sim.setup s).state)
    pub set_message : (k : ℕ) (p : Planned) → (sender (sim.set_message k p) ≡ 0) × (number (sim.set_message k p) ≡ k)
    -- the sends of a station are its own, with numbers from the next one on, each used once
    pub mine : (s : ℕ) (st : S) (m z : M) → IsStation s → Good s st → In z (sim.handle s st m).sends → sender z ≡ s
    pub low : (s : ℕ) (st : S) (m z : M) → IsStation s → Good s st → In z (sim.handle s st m).sends → next st ≤ number z
    pub high : (s : ℕ) (st : S) (m z : M) → IsStation s → Good s st → In z (sim.handle s st m).sends →
        number z < next (sim.handle s st m).state
    pub rises : (s : ℕ) (st : S) (m : M) → IsStation s → Good s st → next st ≤ next (sim.handle s st m).state
    pub apart : (s : ℕ) (st : S) (m z y : M) → IsStation s → Good s st → In z (sim.handle s st m).sends →
        In y (sim.handle s st m).sends → number z ≡ number y → z ≡ y
