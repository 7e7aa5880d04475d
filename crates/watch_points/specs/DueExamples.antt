-- A small log, computed: four catches of the ball game of run_laws.
use Rattle.std.specs.Prelude.{ℕ, nat_le, List, [], ◌∷◌, Option}
use Rattle.sim_base.specs.declared.entry.Entry.{Entry}
use Rattle.run_laws.specs.Examples.{Ball, catch_at}
use Rattle.watch_points.specs.Due.{due_in}

-- four catches of station 1: the time, the ball's number, the station, and the count after the catch
abbrev pub catches : List (Entry Ball ℕ)
catches = catch_at 2 0 1 1 ∷ catch_at 5 2 1 2 ∷ catch_at 6 1 1 3 ∷ catch_at 8 0 1 4 ∷ []

-- the time, from a start on, at which the station has first caught this number of balls or more
abbrev pub caught : ℕ → ℕ → Option ℕ
caught least start = due_in (λ (b : Ball). b.time) (nat_le least) start catches
