-- A machine that handles its pending messages, least first, one time unit after another.
--
-- Both worlds of this crate are such machines: the world of one clone, and one station alone.
use Rattle.std.specs.Prelude.{◌≡◌, ℕ, zero, suc, ◌<◌, ◌≤◌, List, [], ◌∷◌, ◌==◌, if◌then◌else◌}
use Rattle.std.specs.List.{AllByRecursion}
use Rattle.std.specs.declared.cmp.Ordering.{Ordering}
use Rattle.run_laws.specs.Queue.{insert_all}

-- the state of a machine, and its pending messages in their order
pub record Config (X M : Type 0) : Type 0 where
  pub at : X
  pub pending : List M

module _ {M : Type 0} (time : M → ℕ) where
  -- the number of messages with time t
  abbrev pub count_at : ℕ → List M → ℕ
  count_at t [] = 0
  count_at t (m ∷ q) = if time m == t then suc (count_at t q) else count_at t q

module _ {X M : Type 0} (cmp : M → M → Ordering) (handle : X → M → X × List M) where
  -- m was handled, and its sends join q
  abbrev pub config_after : X → M → List M → Config X M
  config_after x m q = let h = handle x m in record { at = h.0; pending = insert_all cmp h.1 q }

  -- the turn of a machine with these messages: the first is handled; without messages nothing changes
  abbrev pub turn_on : X → List M → Config X M
  turn_on x [] = record { at = x; pending = [] }
  turn_on x (m ∷ q) = config_after x m q

  -- one turn: the least pending message is handled
  abbrev pub turn : Config X M → Config X M
  turn c = turn_on c.at c.pending

  -- `n` turns
  abbrev pub turns : ℕ → Config X M → Config X M
  turns zero c = c
  turns (suc n) c = turns n (turn c)

  -- the run to a bound: every message with a time below it is handled
  --
  -- Sends have later times, so all messages of a time are present when its turns begin.
  unfoldable pub run_to : (M → ℕ) → Config X M → ℕ → Config X M
  run_to time c zero = c
  run_to time c (suc t) = let d = run_to time c t in turns (count_at time t d.pending) d

module _ {X M : Type 0} (cmp : M → M → Ordering) (time : M → ℕ) (handle : X → M → X × List M) (bound : ℕ) where
  -- d handles its least message, which comes before the bound, and becomes e
  pub record Next (d e : Config X M) : Type 0 where
    pub m : M
    pub q : List M
    pub pending : d.pending ≡ m ∷ q
    pub time_max : time m < bound
    pub is : e ≡ config_after cmp handle d.at m q

  -- the machines that some turns, each of a message before the bound, reach from c
  pub data Reach (c : Config X M) : Config X M → Type 0 where
    stay : Reach c c
    go : {d e : Config X M} → Reach c d → Next d e → Reach c e

module _ {X M : Type 0} (time : M → ℕ) (bound : ℕ) where
  -- the machine is settled: nothing before the bound is pending
  abbrev pub IsSettled : Config X M → Type 0
  IsSettled c = AllByRecursion (λ m. bound ≤ time m) c.pending
