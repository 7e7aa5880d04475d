-- Legal journals: right journals in which each front is the next front of the clones before it.
use Rattle.std.specs.Prelude.{◌≡◌, List, []}
use Rattle.net_model.specs.Net.{Net}
use Rattle.stations.specs.Runs.{next_front}
use Rattle.decision_book.specs.Journal.{Event, NewFront, NewCall, after}
use Rattle.decision_book.specs.Right.{IsRight, EachAfter}

-- a front is the next front of the clones after the events before it
abbrev pub IsNextFront : Net → List Event → Event → Type 0
IsNextFront net before (NewFront f) = f ≡ next_front net (after net before).clones (after net before).front
IsNextFront net before (NewCall call) = Unit {0}

-- each front is the next one
abbrev pub FrontsAreNext : Net → List Event → Type 0
FrontsAreNext net events = EachAfter (IsNextFront net) [] events

-- a right journal whose fronts are the next ones
pub record IsLegal (net : Net) (events : List Event) : Type 0 where
  pub right : IsRight net events
  pub fronts : FrontsAreNext net events
