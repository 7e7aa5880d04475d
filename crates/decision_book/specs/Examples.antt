-- Worked examples: decisions on one desk.
use Rattle.std.specs.Prelude.{ℕ, List, [], ◌∷◌, codes, Some, None}
use Rattle.sim_base.specs.declared.decision.Decision.{Decision}
use Rattle.sim_base.specs.declared.decision.Decision.TheVariants.{Fork, Set, End}
use Rattle.sim_base.specs.declared.message.Param.TheVariants.{Service, Room}
use Rattle.sim_base.specs.Clones.{Clone, base}
use Rattle.stations.specs.Examples.{set_at}
use Rattle.stations.specs.Examples.OneDesk.{desk}
use Rattle.decision_book.specs.declared.call.Reply.{Reply}
use Rattle.decision_book.specs.declared.call.Reply.TheVariants.{Accepted, Closed, Late}
use Rattle.decision_book.specs.Journal.{Event, NewFront, NewCall}

-- fork NEW from base
abbrev pub branch : List ℕ → Decision
branch new = Fork new (codes "base")

-- set WHO at TIME desk service 2 2
abbrev pub faster : List ℕ → ℕ → Decision
faster who at = Set who at (codes "desk") (record { param = Service; a = 2; b = 2 })

-- set WHO at TIME desk room 9
abbrev pub roomier : List ℕ → ℕ → Decision
roomier who at = Set who at (codes "desk") (record { param = Room; a = 9; b = 0 })

-- a call by a caller, with this number of fronts before it, and its reply
abbrev pub call : ℕ → ℕ → Decision → Reply → Event
call caller fronts d reply = NewCall (record { caller = caller; fronts = fronts; decision = d; reply = reply })

-- three calls at front 10, then this front and three more, and a call at the horizon
abbrev pub raised_to : ℕ → List Event
raised_to front =
    NewFront 5 ∷ NewFront 7 ∷ NewFront 10
    ∷ call 1 3 (branch (codes "fast")) Accepted
    ∷ call 1 3 (faster (codes "fast") 10) Accepted
    ∷ call 2 3 (faster (codes "fast") 9) (Late 10)
    ∷ NewFront front ∷ NewFront 15 ∷ NewFront 17 ∷ NewFront 20
    ∷ call 1 7 (branch (codes "x")) Closed ∷ []

-- a set is pending at 10 and the lookahead is 2, so the front after 10 is 12
abbrev pub during_a_run : List Event
during_a_run = raised_to 12

-- the resulting clones
abbrev pub clones_of_the_run : List Clone
clones_of_the_run = base ∷ record { name = codes "fast"; plans = set_at 10 desk Service 2 2 ∷ []; end = None } ∷ []

-- a set at 9 that is accepted at front 10
abbrev pub late_set_accepted : List Event
late_set_accepted = NewFront 10 ∷ call 1 1 (faster (codes "base") 9) Accepted ∷ []

-- a fork inherits a set that is not due yet, and then the two diverge
abbrev pub script : List Decision
script =
    faster (codes "base") 15
    ∷ branch (codes "a")
    ∷ branch (codes "b")
    ∷ roomier (codes "a") 8
    ∷ roomier (codes "b") 8
    ∷ End (codes "a") 19 ∷ []

-- the resulting clones, with their lists and the end of a
abbrev pub clones_of_the_script : List Clone
clones_of_the_script =
    record { name = codes "base"; plans = set_at 15 desk Service 2 2 ∷ []; end = None }
    ∷ record { name = codes "a"; plans = set_at 15 desk Service 2 2 ∷ set_at 8 desk Room 9 0 ∷ []; end = Some 19 }
    ∷ record { name = codes "b"; plans = set_at 15 desk Service 2 2 ∷ set_at 8 desk Room 9 0 ∷ []; end = None } ∷ []

-- the decisions that reach b
abbrev pub script_of_b : List Decision
script_of_b = faster (codes "base") 15 ∷ branch (codes "b") ∷ roomier (codes "b") 8 ∷ []

-- the third is refused
abbrev pub refused_script : List Decision
refused_script = branch (codes "a") ∷ faster (codes "a") 8 ∷ faster (codes "ghost") 8 ∷ faster (codes "a") 20 ∷ []
