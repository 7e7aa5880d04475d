-- The rule of the deque: each task of a call is in the deque together with its item, or was taken by exactly one seat.
use Rattle.std.specs.Prelude.{
  ◌≡◌,
  ℕ,
  ◌+◌,
  ◌<◌,
  List,
  [],
  ◌∷◌,
  ◌++◌,
  nat_eq,
  nat_lt,
  length,
  map,
  slice_index_or,
  sum_by,
  if◌then◌else◌,
}
use Rattle.std.specs.List.{AllByRecursion}
use mathlib.Core.Option.{some}
use lib.ListN.{get_elem?}
use Rattle.crossbeam_deque.specs.Handles.{worker_deque, worker_flavor}
use Rattle.crossbeam_deque.specs.declared.handles.Worker.{Worker}
use Rattle.crew_pool.specs.declared.task_deque.SeatView.{SeatView}
use Rattle.crew_pool.specs.declared.task_deque.TheConstants.{MAX_PARTS}

-- both handles are on the same deque, and both are first in, first out, or neither is
abbrev pub SameDeque : {T A V P : Type 0} → Worker T A V P → Worker T A V P → Type 0
SameDeque old new = (worker_deque new ≡ worker_deque old) × (worker_flavor new ≡ worker_flavor old)

-- what a seat knows: its parts, the items of the tasks that were dealt, and the numbers of the tasks that it has taken
abbrev pub seat_view : {X : Type 0} → ℕ → List X → List ℕ → SeatView X
seat_view parts dealt taken = record { parts = parts; dealt = dealt; taken = taken }

-- 1 if the numbers are equal, else 0
abbrev pub one_if_same : ℕ → ℕ → ℕ
one_if_same x y = if nat_eq y x then 1 else 0

-- the number of times that x is in the list
abbrev pub occurrences : ℕ → List ℕ → ℕ
occurrences x [] = 0
occurrences x (y ∷ ys) = one_if_same x y + occurrences x ys

-- 1 for a number below n, else 0
abbrev pub one_if_below : ℕ → ℕ → ℕ
one_if_below x n = if nat_lt x n then 1 else 0

-- the numbers of numbered values
abbrev pub numbers : {X : Type 0} → List (ℕ × X) → List ℕ
numbers ps = map (λ p. p.0) ps

-- `asks` holds of each value and its number
abbrev pub EachPair : {X : Type 0} → (ℕ → X → Type 0) → List (ℕ × X) → Type 0
EachPair asks ps = AllByRecursion (λ p. asks p.0 p.1) ps

-- x is the item at this place
abbrev pub IsItemAt : {X : Type 0} → List X → ℕ → X → Type 0
IsItemAt {X} items i x = (i < length items) × ((d : X) → slice_index_or items i d ≡ x)

-- a seat with no part has taken nothing, and a seat with a part knows what was dealt
abbrev pub KnowsDealt : {X : Type 0} → List X → SeatView X → Type 0
KnowsDealt dealt v = (v.parts ≡ 0 → v.taken ≡ []) × (0 < v.parts → v.dealt ≡ dealt)

-- the same of each seat
abbrev pub EachKnowsDealt : {X : Type 0} → List X → List (SeatView X) → Type 0
EachKnowsDealt {X} dealt views =
    (port : ℕ) (v : SeatView X) → get_elem? views port ≡ some v → KnowsDealt dealt v

-- the rule: there is a list of dealt items that each seat with a part knows. Seats hold all parts. Each number below
-- the list's length is in the deque or was taken, once, and no other number is. A number in the deque is together with
-- its item
abbrev pub TasksOnce : {X : Type 0} → List (ℕ × X) → List (SeatView X) → Type 0
TasksOnce {X} tasks views =
    (dealt : List X) × (sum_by (λ v. v.parts) views ≡ MAX_PARTS)
    × ((x : ℕ) → sum_by (λ v. occurrences x v.taken) views + occurrences x (numbers tasks)
    ≡ one_if_below x (length dealt))
    × EachKnowsDealt dealt views × EachPair (IsItemAt dealt) tasks

-- the view after these tasks were taken
abbrev pub view_after : {X Y : Type 0} → SeatView X → List (ℕ × Y) → SeatView X
view_after v ps = seat_view v.parts v.dealt (v.taken ++ numbers ps)

-- the seat takes these tasks, each number with its item
abbrev pub TakesTasks : {X : Type 0} → SeatView X → List (ℕ × X) → SeatView X → Type 0
TakesTasks v tasks w = EachPair (IsItemAt v.dealt) tasks × (w ≡ view_after v tasks)

-- the seat deals one more task after the others
abbrev pub DealsTask : {X : Type 0} → SeatView X → List (ℕ × X) → SeatView X → Type 0
DealsTask v tasks w = w ≡ seat_view v.parts (v.dealt ++ map (λ p. p.1) tasks) v.taken

-- if the seat has every part, it has taken each number that was dealt, once
abbrev pub IsComplete : {X : Type 0} → SeatView X → Type 0
IsComplete v = v.parts ≡ MAX_PARTS → (x : ℕ) → occurrences x v.taken ≡ one_if_below x (length v.dealt)
