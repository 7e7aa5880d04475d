-- The reply to a decision: the first row of the table of refusals whose condition holds, or Accepted.
use Rattle.std.specs.Prelude.{ℕ, ◌==◌, Bool, true, false, nat_lt, nat_le, List, [], ◌∷◌}
use Rattle.std.specs.Prelude.{length, Option, Some, None, Result, Ok, Err, is_none, is_some, option_map}
use Rattle.sim_base.specs.declared.decision.Decision.{Decision}
use Rattle.sim_base.specs.declared.decision.Decision.TheVariants.{Fork, Set, End}
use Rattle.sim_base.specs.declared.message.Change.{Change}
use Rattle.sim_base.specs.declared.lists.TheConstants.{MAX_CLONES, MAX_DECISIONS}
use Rattle.sim_base.specs.Clones.{Clone, clone_at, place_of}
use Rattle.net_model.specs.Net.{Net, station_named, site_of}
use Rattle.stations.specs.declared.change.ChangeFault.{ChangeFault}
use Rattle.stations.specs.declared.change.ChangeFault.TheVariants as refused
use Rattle.stations.specs.Changes.{accepts}
use Rattle.decision_book.specs.declared.call.Reply.{Reply}
use Rattle.decision_book.specs.declared.call.Reply.TheVariants.{Accepted, Full, Closed, UnknownClone, Ended, NameTaken}
use Rattle.decision_book.specs.declared.call.Reply.TheVariants.{TooManyClones, UnknownStation, WrongParameter}
use Rattle.decision_book.specs.declared.call.Reply.TheVariants.{OutOfRange, ListFull, PastHorizon, Late}
use Rattle.sim_base.specs.Decisions.{subject}
use Rattle.decision_book.specs.declared.call.TheConstants.{MAX_CALLS}
use Rattle.decision_book.specs.Journal.{Situation}

-- a row: the refusal, if its condition holds
abbrev pub row : Bool → Reply → Option Reply
row true reply = Some reply
row false reply = None

-- the first row whose condition holds
abbrev pub first_row : List (Option Reply) → Reply
first_row [] = Accepted
first_row (Some reply ∷ more) = reply
first_row (None ∷ more) = first_row more

-- the rows of a fork
abbrev pub fork_rows : List Clone → List ℕ → List (Option Reply)
fork_rows clones new = row (is_some (place_of new clones)) NameTaken
    ∷ row (nat_le MAX_CLONES (length clones)) TooManyClones
    ∷ []

-- the rows of the time of a set or an end
abbrev pub time_rows : Net → ℕ → ℕ → List (Option Reply)
time_rows net front at = row (nat_le net.horizon at) PastHorizon
    ∷ row (nat_lt at front) (Late front)
    ∷ []

-- the row of a change that the station refuses
abbrev pub fault_row : Result (Unit {0}) ChangeFault → Option Reply
fault_row (Ok u) = None
fault_row (Err refused.WrongParameter) = Some WrongParameter
fault_row (Err refused.OutOfRange) = Some OutOfRange

-- the row of a change at the station that was found
abbrev pub change_row : Net → Option ℕ → Change → Option Reply
change_row net None change = None
change_row net (Some s) change = fault_row (accepts (site_of net s) change)

-- the rows of a set for the clone at this place
abbrev pub set_rows : Net → List Clone → ℕ → ℕ → ℕ → List ℕ → Change → List (Option Reply)
set_rows net clones front clone at station change = row (is_none (station_named station net)) UnknownStation
    ∷ change_row net (station_named station net) change
    ∷ row (nat_le MAX_DECISIONS (length (clone_at clones clone).plans)) ListFull
    ∷ time_rows net front at

-- the rows of a decision on the clone at this place
abbrev pub rows : Situation → ℕ → Decision → List (Option Reply)
rows s clone (Fork new old) = fork_rows s.clones new
rows s clone (Set who at station change) = set_rows s.net s.clones s.front clone at station change
rows s clone (End who at) = time_rows s.net s.front at

-- the rows of a decision, if the clone that it is about has this place
abbrev pub clone_rows : Situation → Decision → Option ℕ → List (Option Reply)
clone_rows s d None = Some UnknownClone ∷ []
clone_rows s d (Some clone) = option_map (λ at. Ended at) (clone_at s.clones clone).end ∷ rows s clone d

-- the reply: the first row of the whole table, in its order
abbrev pub reply : Situation → Decision → Reply
reply s d = first_row (row (nat_le MAX_CALLS s.calls) Full
    ∷ row (s.front == s.net.horizon) Closed
    ∷ clone_rows s d (place_of (subject d) s.clones))
