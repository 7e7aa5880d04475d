-- A small simulation, computed: two stations throw a ball to each other, and each decision throws in one more, which
-- bounces once where it lands. A station counts its catches.
use Rattle.std.specs.Prelude.{ℕ, ◌+◌, ◌-◌, ◌==◌, nat_lt, if◌then◌else◌, List, [], ◌∷◌, Some, None, Bool, ◌&&◌, codes, ⊤}
use Rattle.std.specs.Ordering.{nat_cmp, ordering_then}
use Rattle.std.specs.declared.cmp.Ordering.{Ordering}
use Rattle.sim_base.specs.Clones.{Clone, base, clones_with_fork}
use Rattle.sim_base.specs.declared.decision.Planned.{Planned}
use Rattle.sim_base.specs.declared.message.Param.TheVariants.{Room}
use Rattle.sim_base.specs.declared.entry.Entry.{Entry}
use Rattle.run_laws.specs.Machine.{Config}
use Rattle.run_laws.specs.Simulation.{Simulation}
use Rattle.run_laws.specs.Window.{LocalStation}
use Rattle.run_laws.specs.Merges.{merge_of_logs}
use Rattle.run_laws.specs.Laws.{window}

-- number 0 is the ball that is thrown to and fro
pub record Ball : Type 0 where
  pub time : ℕ
  pub number : ℕ
  pub to : ℕ

-- a ball, by its time, its number and the station that it goes to
abbrev pub ball : ℕ → ℕ → ℕ → Ball
ball time number to = record { time = time; number = number; to = to }

-- balls by time, then by number, then by station
abbrev pub ball_cmp : Ball → Ball → Ordering
ball_cmp a b = ordering_then (nat_cmp a.time b.time) (ordering_then (nat_cmp a.number b.number) (nat_cmp a.to b.to))

-- the balls that a station throws after a catch; a bounce has the number of its ball plus ten
abbrev pub bounces : ℕ → Ball → List Ball
bounces s b =
    if b.number == 0 then ball (b.time + 3) 0 (3 - s) ∷ []
    else if nat_lt b.number 10 then ball (b.time + 1) (b.number + 10) s ∷ []
    else []

-- the game as a simulation: the first ball comes to station 1 at time 2, and everything ends at 12
abbrev pub game : Simulation ℕ Ball ℕ
game = record {
  order = ball_cmp;
  time = λ b. b.time;
  to = λ b. b.to;
  stations = 2;
  setup = λ s. record { state = 0; first = if s == 1 then Some (ball 2 0 1) else None };
  handle = λ s count b. record { state = count + 1; sends = bounces s b; line = count + 1 };
  set_message = λ k p. ball p.at (k + 1) p.station;
  lookahead = 3;
  horizon = 12;
  limit = 2;
}

-- any state of any station is good
abbrev pub AnyState : ℕ → ℕ → Type 0
AnyState s count = ⊤

-- the catch of a ball, by its time, its number, the station that catches it, and the count after it
abbrev pub catch_at : ℕ → ℕ → ℕ → ℕ → Entry Ball ℕ
catch_at time number to count = record { msg = ball time number to; line = count }

-- the trace of the base clone: one ball alone, to and fro
abbrev pub base_trace : List (Entry Ball ℕ)
base_trace = catch_at 2 0 1 1 ∷ catch_at 5 0 2 1 ∷ catch_at 8 0 1 2 ∷ catch_at 11 0 2 2 ∷ []

-- the decision to throw in a ball at a time and a station
abbrev pub throw_in : ℕ → ℕ → Planned
throw_in time station = record { at = time; station = station; change = record { param = Room; a = 0; b = 0 } }

-- two more balls, at 6 and at 5, to station 1; their numbers follow the list, not the time
abbrev pub busy : Clone
busy = record { name = codes "busy"; plans = throw_in 6 1 ∷ throw_in 5 1 ∷ []; end = None }

-- the trace of busy
abbrev pub busy_trace : List (Entry Ball ℕ)
busy_trace =
    catch_at 2 0 1 1 ∷ catch_at 5 0 2 1 ∷ catch_at 5 2 1 2 ∷ catch_at 6 1 1 3 ∷ catch_at 6 12 1 4 ∷ catch_at 7 11 1 5
    ∷ catch_at 8 0 1 6 ∷ catch_at 11 0 2 2 ∷ []

-- catches nothing at 8 or later: the ball thrown in at 7 does not bounce
abbrev pub until_eight : Clone
until_eight = record { name = codes "until-eight"; plans = throw_in 7 1 ∷ []; end = Some 8 }

-- the trace of until_eight
abbrev pub until_eight_trace : List (Entry Ball ℕ)
until_eight_trace = catch_at 2 0 1 1 ∷ catch_at 5 0 2 1 ∷ catch_at 7 1 1 2 ∷ []

-- a ball at 11 is still caught, one at the horizon is not
abbrev pub last_minute : Clone
last_minute = record { name = codes "last-minute"; plans = throw_in 12 1 ∷ throw_in 11 1 ∷ []; end = None }

-- the trace of last_minute
abbrev pub last_minute_trace : List (Entry Ball ℕ)
last_minute_trace = catch_at 2 0 1 1 ∷ catch_at 5 0 2 1 ∷ catch_at 8 0 1 2 ∷ catch_at 11 0 2 2 ∷ catch_at 11 2 1 3 ∷ []

-- the base clone, busy and until_eight
abbrev pub all_three : List Clone
all_three = base ∷ busy ∷ until_eight ∷ []

-- the three, and a twin of busy, the clone at place 1
abbrev pub with_twin : List Clone
with_twin = clones_with_fork all_three (codes "twin") 1

-- a clone's trace, merged from its two stations' logs: there is no sender, and numbers separate balls of one time
abbrev pub merged_trace : Clone → List (Entry Ball ℕ)
merged_trace c = merge_of_logs game (λ b. 0) (λ b. b.number) c 12 2

-- whether two entries have the same time, number, station and count
abbrev pub same_catch : Entry Ball ℕ → Entry Ball ℕ → Bool
same_catch e f = ((e.msg.time == f.msg.time && e.msg.number == f.msg.number) && e.msg.to == f.msg.to) && e.line ==
    f.line

-- one station's window alone, from its state in a clone at a front
abbrev pub window_of : Clone → ℕ → ℕ → ℕ → Config (LocalStation ℕ Ball ℕ) Ball
window_of c s front bound = window game c s front bound
