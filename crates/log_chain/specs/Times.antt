-- The times of entries.
use Rattle.std.specs.Prelude.{ℕ, ◌≤◌, not, List, [], ◌∷◌, map, nat_lt, ⊤}
use Rattle.std.specs.List.{AllByRecursion, filter}
use Rattle.sim_base.specs.declared.entry.Entry.{Entry}
use Rattle.sim_base.specs.declared.entry.Line.{Line}
use Rattle.sim_base.specs.declared.message.Msg.{Msg}

-- no number is above a later one
abbrev pub Rises : List ℕ → Type 0
Rises [] = ⊤
Rises (n ∷ ns) = AllByRecursion (λ m. n ≤ m) ns × Rises ns

-- the time of each entry
abbrev pub times_of : List (Entry Msg Line) → List ℕ
times_of es = map (λ e. e.msg.key.time) es

-- no entry is later than an entry after it
abbrev pub RiseByTime : List (Entry Msg Line) → Type 0
RiseByTime es = Rises (times_of es)

-- the entries at a time or later
abbrev pub from_time : ℕ → List (Entry Msg Line) → List (Entry Msg Line)
from_time t es = filter (λ e. not (nat_lt e.msg.key.time t)) es
