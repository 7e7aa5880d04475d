-- The account of a caller: its calls in a journal, and the fronts that it saw.
use Rattle.std.specs.Prelude.{◌≡◌, ℕ, ◌+◌, ◌<◌, Bool, true, List, [], ◌∷◌, ◌++◌, length, map, nat_eq, if◌then◌else◌}
use mathlib.Core.List.{IsPrefix}
use Rattle.decision_book.specs.declared.call.Call.{Call}
use Rattle.decision_book.specs.declared.call.TheConstants.{MAX_CALLS}
use Rattle.decision_book.specs.Journal.{Event, NewFront, NewCall, calls_of, front_of}

-- a caller: its calls, each with its place in the journal, the fronts that it saw, and whether a reply was Full
pub record Account : Type 0 where
  pub caller : ℕ
  pub calls : List (ℕ × Call)
  pub fronts : List ℕ
  pub full : Bool

-- the calls of one caller among these, each with its place, counted from the given place
abbrev pub calls_from : ℕ → ℕ → List Call → List (ℕ × Call)
calls_from x n [] = []
calls_from x n (c ∷ cs) = if nat_eq c.caller x then (n, c) ∷ calls_from x (n + 1) cs else calls_from x (n + 1) cs

-- the calls of one caller in a journal, each with its place among all calls, from 0
abbrev pub calls_by : ℕ → List Event → List (ℕ × Call)
calls_by x events = calls_from x 0 (calls_of events)

-- the fronts of a journal rise, and are above this one
abbrev pub RisesFrom : ℕ → List Event → Type 0
RisesFrom f [] = Unit {0}
RisesFrom f (NewFront g ∷ es) = (f < g) × RisesFrom g es
RisesFrom f (NewCall c ∷ es) = RisesFrom f es

-- the events are these, followed only by calls
abbrev pub OnlyCalls : List Event → List Event → Type 0
OnlyCalls before events = (cs : List Call) × (events ≡ before ++ map NewCall cs)

-- the front is 0, or one of the journal
abbrev pub IsFrontOf : List Event → ℕ → Type 0
IsFrontOf events f = (before : List Event) × IsPrefix before events × (f ≡ front_of before)

-- each of these fronts is 0, or one of the journal
abbrev pub EachFront : List Event → List ℕ → Type 0
EachFront events [] = Unit {0}
EachFront events (f ∷ fs) = IsFrontOf events f × EachFront events fs

-- an account is right: its calls are the caller's, its fronts are the journal's, and it is marked Full only if the
-- journal is full
pub record IsAccount (events : List Event) (a : Account) : Type 0 where
  pub calls : a.calls ≡ calls_by a.caller events
  pub fronts : EachFront events a.fronts
  pub full : a.full ≡ true → length (calls_of events) ≡ MAX_CALLS

-- each of these accounts is right
abbrev pub AreAccounts : List Event → List Account → Type 0
AreAccounts events [] = Unit {0}
AreAccounts events (a ∷ as') = IsAccount events a × AreAccounts events as'

-- the number of accounts of this caller
abbrev pub accounts_of : ℕ → List Account → ℕ
accounts_of x [] = 0
accounts_of x (a ∷ as') = (if nat_eq a.caller x then 1 else 0) + accounts_of x as'
