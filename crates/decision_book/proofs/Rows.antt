-- The rows of the table: the conditions of their refusals, and the rows that an accepted decision passed.
use Rattle.std.proofs.Common.{◌≡◌, ◌==◌, ℕ, ◌<◌, ◌≤◌, Bool, true, false, nat_le, nat_lt, List, [], ◌∷◌, refl, arith}
use Rattle.std.proofs.Common.{length, Option, Some, None, IfSome, is_some, is_none, Result, Ok, Err, option_map}
use Rattle.std.proofs.lemmas.Bool.Decides.{nat_tests}
use Rattle.sim_base.specs.declared.decision.Decision.{Decision}
use Rattle.sim_base.specs.declared.decision.Decision.TheVariants.{Fork, Set, End}
use Rattle.sim_base.specs.declared.lists.TheConstants.{MAX_CLONES, MAX_DECISIONS}
use Rattle.sim_base.specs.declared.message.Change.{Change}
use Rattle.sim_base.specs.Clones.{clone_at, place_of}
use Rattle.sim_base.specs.Decisions.{subject}
use Rattle.net_model.specs.Net.{Net, site_of, station_named}
use Rattle.stations.specs.declared.change.ChangeFault.{ChangeFault}
use Rattle.stations.specs.declared.change.ChangeFault.TheVariants as refused
use Rattle.stations.specs.Changes.{accepts}
use Rattle.decision_book.specs.declared.call.TheConstants.{MAX_CALLS}
use Rattle.decision_book.specs.declared.call.Reply.{Reply}
use Rattle.decision_book.specs.declared.call.Reply.TheVariants.{Accepted, Full, Closed, UnknownClone, Ended, NameTaken}
use Rattle.decision_book.specs.declared.call.Reply.TheVariants.{TooManyClones, UnknownStation, WrongParameter}
use Rattle.decision_book.specs.declared.call.Reply.TheVariants.{OutOfRange, ListFull, PastHorizon, Late}
use Rattle.decision_book.specs.Journal.{Situation}
use Rattle.decision_book.specs.Replies.{row, first_row, reply, rows, time_rows, fault_row, change_row, clone_rows}

-- ---- first_row

-- if a row that refuses comes first and the reply is Accepted, its condition does not hold, nor that of a later row
pub first_row-Accepted : (b : Bool) (r : Reply) (more : List (Option Reply)) → (r ≡ Accepted → ⊥)
    → first_row (row b r ∷ more) ≡ Accepted → (b ≡ false) × (first_row more ≡ Accepted)
first_row-Accepted true r more other h = absurd (other h)
first_row-Accepted false r more other h = (refl, h)

-- if the row of the end does not refuse, the clone has no end
first_row-end : (end : Option ℕ) (more : List (Option Reply))
    → first_row (option_map (λ at. Ended at) end ∷ more) ≡ Accepted → (end ≡ None) × (first_row more ≡ Accepted)
first_row-end None more h = (refl, h)
first_row-end (Some at) more h = absurd cc

-- if the row of a change at a station does not refuse, no later row does
pub first_row-fault : (f : Result (Unit {0}) ChangeFault) (more : List (Option Reply))
    → first_row (fault_row f ∷ more) ≡ Accepted → first_row more ≡ Accepted
first_row-fault (Ok u) more h = h
first_row-fault (Err refused.WrongParameter) more h = absurd cc
first_row-fault (Err refused.OutOfRange) more h = absurd cc

-- so with the row of a change at the station that was found
pub first_row-change : (net : Net) (o : Option ℕ) (change : Change) (more : List (Option Reply))
    → first_row (change_row net o change ∷ more) ≡ Accepted → first_row more ≡ Accepted
first_row-change net None change more h = h
first_row-change net (Some s) change more h = first_row-fault (accepts (site_of net s) change) more h

-- if a number is not at most another, the other is below it
nat_le-false : (a b : ℕ) → nat_le a b ≡ false → b < a
nat_le-false a b h = grind (arith, nat_tests)

-- and if it is not below another, it is at least as much
nat_lt-false : (a b : ℕ) → nat_lt a b ≡ false → b ≤ a
nat_lt-false a b h = grind (arith, nat_tests)

-- if the rows of the time do not refuse, it is at the front or later, and before the horizon
pub first_row-times : (net : Net) (front at : ℕ) → first_row (time_rows net front at) ≡ Accepted
    → (front ≤ at) × (at < net.horizon)
first_row-times net front at h =
    let a = first_row-Accepted (nat_le net.horizon at) PastHorizon (row (nat_lt at front) (Late front) ∷ [])
    (λ e. absurd cc) h in
    let b = first_row-Accepted (nat_lt at front) (Late front) [] (λ e. absurd cc) a.1 in
    (nat_lt-false at front b.0, nat_le-false net.horizon at a.0)

-- ---- EachRow

-- a property of the refusal of each row, if its condition holds
abbrev pub EachRow : (Reply → Type 0) → List (Option Reply) → Type 0
EachRow P [] = Unit {0}
EachRow P (o ∷ os) = IfSome o (λ r. P r) × EachRow P os

-- holds of the first whose condition holds, if it holds of Accepted
pub first_row-each : (P : Reply → Type 0) (os : List (Option Reply)) → P Accepted → EachRow P os → P (first_row os)
first_row-each P [] none h = none
first_row-each P (Some r ∷ os) none h = h.0
first_row-each P (None ∷ os) none h = first_row-each P os none h.1

-- a property of a refusal holds of its row
pub row-each : (P : Reply → Type 0) (b : Bool) (r : Reply) → P r → IfSome (row b r) (λ q. P q)
row-each P true r h = h
row-each P false r h = tt

-- a property of the refusals of the rows of a clone, at this front
pub record OfClone (P : Reply → Type 0) (front : ℕ) : Type 0 where
  pub unknown_clone : P UnknownClone
  pub ended : (at : ℕ) → P (Ended at)
  pub name_taken : P NameTaken
  pub too_many_clones : P TooManyClones
  pub unknown_station : P UnknownStation
  pub wrong_parameter : P WrongParameter
  pub out_of_range : P OutOfRange
  pub list_full : P ListFull
  pub past_horizon : P PastHorizon
  pub late : P (Late front)

module _ (P : Reply → Type 0) (s : Situation) (of : OfClone P s.front) where
  times-each : (at : ℕ) → EachRow P (time_rows s.net s.front at)
  times-each at = (
    row-each P (nat_le s.net.horizon at) PastHorizon of.past_horizon,
    (row-each P (nat_lt at s.front) (Late s.front) of.late, tt),
  )

  fault-each : (f : Result (Unit {0}) ChangeFault) → IfSome (fault_row f) (λ r. P r)
  fault-each (Ok u) = tt
  fault-each (Err refused.WrongParameter) = of.wrong_parameter
  fault-each (Err refused.OutOfRange) = of.out_of_range

  change-each : (o : Option ℕ) (change : Change) → IfSome (change_row s.net o change) (λ r. P r)
  change-each None change = tt
  change-each (Some i) change = fault-each (accepts (site_of s.net i) change)

  rows-each : (clone : ℕ) (d : Decision) → EachRow P (rows s clone d)
  rows-each clone (Fork new old) = (
    row-each P (is_some (place_of new s.clones)) NameTaken of.name_taken,
    (row-each P (nat_le MAX_CLONES (length s.clones)) TooManyClones of.too_many_clones, tt),
  )
  rows-each clone (Set who at station change) = (
    row-each P (is_none (station_named station s.net)) UnknownStation of.unknown_station,
    (
      change-each (station_named station s.net) change,
      (
        row-each P (nat_le MAX_DECISIONS (length (clone_at s.clones clone).plans)) ListFull of.list_full,
        times-each at,
      ),
    ),
  )
  rows-each clone (End who at) = times-each at

  end-each : (end : Option ℕ) → IfSome (option_map (λ at. Ended at) end) (λ r. P r)
  end-each None = tt
  end-each (Some at) = of.ended at

  -- holds of the refusal of each of these rows
  pub clone_rows-each : (d : Decision) (place : Option ℕ) → EachRow P (clone_rows s d place)
  clone_rows-each d None = (of.unknown_clone, tt)
  clone_rows-each d (Some clone) = (end-each (clone_at s.clones clone).end, rows-each clone d)

-- ---- IsOpen

-- the findings of an accepted decision
pub record IsOpen (j : Situation) (d : Decision) : Type 0 where
  pub at_most : nat_le MAX_CALLS j.calls ≡ false
  pub running : (j.front == j.net.horizon) ≡ false
  pub clone : ℕ
  pub place : place_of (subject d) j.clones ≡ Some clone
  pub going : (clone_at j.clones clone).end ≡ None
  pub rest : first_row (rows j clone d) ≡ Accepted

-- a reply that is Full is not Accepted
not_full : Full ≡ Accepted → ⊥
not_full h = cc

-- nor is one that is Closed
not_closed : Closed ≡ Accepted → ⊥
not_closed h = cc

-- if no row from the clone on refuses, the decision finds all that it needs
open_clone : (j : Situation) (d : Decision) → nat_le MAX_CALLS j.calls ≡ false → (j.front == j.net.horizon) ≡ false
    → (o : Option ℕ) → place_of (subject d) j.clones ≡ o → first_row (clone_rows j d o) ≡ Accepted → IsOpen j d
open_clone j d few running None e h = absurd cc
open_clone j d few running (Some clone) e h =
    let going = first_row-end (clone_at j.clones clone).end (rows j clone d) h in
    record { at_most = few; running = running; clone = clone; place = e; going = going.0; rest = going.1 }

-- an accepted decision found a free place in the journal, a front before the horizon, and its clone without an end
pub IsOpen-accepted : (j : Situation) (d : Decision) → reply j d ≡ Accepted → IsOpen j d
IsOpen-accepted j d h =
    let one = first_row-Accepted (nat_le MAX_CALLS j.calls) Full
    (row (j.front == j.net.horizon) Closed ∷ clone_rows j d (place_of (subject d) j.clones)) not_full h in
    let two = first_row-Accepted (j.front == j.net.horizon) Closed
    (clone_rows j d (place_of (subject d) j.clones)) not_closed one.1 in
    open_clone j d one.0 two.0 (place_of (subject d) j.clones) refl two.1

-- and one that finds all this is accepted
pub reply-IsOpen : (j : Situation) (d : Decision) → IsOpen j d → reply j d ≡ Accepted
reply-IsOpen j d o = rw (o.at_most, o.running, o.place, o.going) o.rest
