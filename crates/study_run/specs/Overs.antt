-- The first log of a run that is beyond the limit, found window by window.
use Rattle.std.specs.Prelude.{◌≡◌, ℕ, zero, suc, ◌+◌, ◌≤◌, List, Option, Some, None, if◌then◌else◌, length, nat_lt}
use Rattle.std.specs.Option.{option_or}
use Rattle.sim_base.specs.Clones.{Clone, clone_at}
use Rattle.net_model.specs.Net.{Net}
use Rattle.stations.specs.Runs.{log_at, next_front}

-- the first of f 0, f 1 .. f (n - 1) that is not None
unfoldable pub first_below : {X : Type 0} → (ℕ → Option X) → ℕ → Option X
first_below f zero = None
first_below f (suc n) = option_or (first_below f n) (f n)

-- the station and the clone, if the clone's log there is beyond the limit at a front
abbrev pub overrun_of : Net → List Clone → ℕ → ℕ → ℕ → Option (ℕ × ℕ)
overrun_of net cs front s c =
    if nat_lt net.limit (length (log_at net (clone_at cs c) s front)) then Some (s, c) else None

-- the least such clone at a station
abbrev pub overrun_in : Net → List Clone → ℕ → ℕ → Option (ℕ × ℕ)
overrun_in net cs front s = first_below (overrun_of net cs front s) (length cs)

-- the least such station, and the least such clone there
abbrev pub overrun_at : Net → List Clone → ℕ → Option (ℕ × ℕ)
overrun_at net cs front = first_below (λ i. overrun_in net cs front (i + 1)) (length net.sites)

-- the same at the first of the next n fronts of a run, up to the horizon, that has one
unfoldable pub first_overrun : Net → List Clone → ℕ → ℕ → Option (ℕ × ℕ)
first_overrun net cs zero front = None
first_overrun net cs (suc n) front =
    if nat_lt front net.horizon
    then option_or (overrun_at net cs (next_front net cs front)) (first_overrun net cs n (next_front net cs front))
    else None

-- the first in a whole run, which has at most one front for each time up to the horizon
abbrev pub first_overrun_of : Net → List Clone → Option (ℕ × ℕ)
first_overrun_of net cs = first_overrun net cs net.horizon 0

-- a run has reached a front, and no log is beyond the limit there: a search from there on finds what the whole search
-- finds
pub record HasCome (net : Net) (cs : List Clone) (front : ℕ) : Type 0 where
  pub left : ℕ
  pub enough : net.horizon ≤ left + front
  pub same : first_overrun net cs left front ≡ first_overrun_of net cs
