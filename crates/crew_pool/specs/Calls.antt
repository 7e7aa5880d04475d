-- A call of a crew: the jobs of its members, and their results.
use Rattle.std.specs.Prelude.{
  ◌≡◌,
  ℕ,
  ◌-◌,
  ◌<◌,
  ◌≤◌,
  ◌≢◌,
  List,
  [],
  length,
  slice_index_or,
  Result,
  IfOk,
  IfSome,
  Vec,
  Option,
  Some,
  None,
  All,
}
use Rattle.atomic_blocks.specs.Lent.{RowsId}
use Rattle.crossbeam_deque.specs.Handles.{Pass, view, IsPassOf, worker_flavor, worker_view}
use Rattle.crossbeam_deque.specs.declared.handles.Worker.{Worker}
use Rattle.crew_pool.specs.Tasks.{EachAt}
use Rattle.crew_pool.specs.declared.crew.TheConstants.{MAX_TASKS}
use Rattle.crew_pool.specs.declared.workers.TheConstants.{MAX_WORKERS}
use Rattle.crew_pool.specs.Deque.{seat_view, numbers, occurrences, EachPair, IsComplete}
use Rattle.crew_pool.specs.declared.task_deque.SeatView.{SeatView}
use Rattle.crew_pool.specs.declared.task_deque.TheConstants.{MAX_PARTS}

-- a call that was started: the work, and the items of its tasks
pub record CallView (W X : Type 0) : Type 0 where
  pub work : W
  pub items : List X

-- a job: the work, the deque that its member may steal from, and the items of the call's tasks
pub record JobView (W X D : Type 0) : Type 0 where
  pub work : W
  pub deque : D
  pub items : List X

-- the items of the call, as a seat knows them
abbrev pub dealt_of : {X A : Type 0} → Pass (ℕ × X) (SeatView X) A → List X
dealt_of seat = (view seat).dealt

-- a seat with which a thief begins: it is at this deque, has one part, knows the items, and has taken nothing
abbrev pub IsStart : {X A : Type 0} → List X → RowsId × A → Pass (ℕ × X) (SeatView X) A → Type 0
IsStart items deque seat = IsPassOf deque seat × (view seat ≡ seat_view 1 items [])

-- the end of a thief: a seat at this deque, with an answer for each task that it has taken, unless out of memory
abbrev pub IsEnd : {X Y A Z E : Type 0} → (ℕ → Y → Type 0) → List X → RowsId × A
    → Pass (ℕ × X) (SeatView X) A × Result (Vec (ℕ × Y) Z) E → Type 0
IsEnd answers items deque end =
    IsPassOf deque end.0
    × IfOk end.1 (λ outs. (view end.0 ≡ seat_view 1 items (numbers outs.items)) × EachPair answers outs.items)

-- the owner has this number of parts and knows the items; it has taken the numbers of the pairs, and `asks` holds of
-- each pair
abbrev pub HasTaken : {X Y A P : Type 0} → (ℕ → Y → Type 0) → ℕ → List X → Worker (ℕ × X) A (SeatView X) P
    → List (ℕ × Y) → Type 0
HasTaken asks parts items owner pairs = (worker_view owner ≡ seat_view parts items (numbers pairs)) × EachPair asks
    pairs

-- the owner between two calls: it has every part, and all tasks were taken
pub record IsResting {X A P : Type 0} (owner : Worker (ℕ × X) A (SeatView X) P) : Type 0 where
  pub fifo : worker_flavor owner ≡ 0
  pub every : (worker_view owner).parts ≡ MAX_PARTS
  pub complete : IsComplete (worker_view owner)

-- the owner once all tasks of a call were dealt and `out` parts were cut off: it has taken nothing
pub record IsDealt {X A P : Type 0} (takes : ℕ → X → Type 0) (out : ℕ) (items : List X)
    (owner : Worker (ℕ × X) A (SeatView X) P) : Type 0 where
  pub fifo : worker_flavor owner ≡ 0
  pub dealt : worker_view owner ≡ seat_view (MAX_PARTS - out) items []
  pub at_most : out < MAX_WORKERS
  pub tasks : length items ≤ MAX_TASKS
  pub ready : EachAt takes items

-- no job is out at these callers
abbrev pub AreIdle : {J : Type 0} → List (Option J) → Type 0
AreIdle callers = All (λ caller. caller ≡ None) callers

-- this job is out at each of these callers
abbrev pub AreOut : {J : Type 0} → J → List (Option J) → Type 0
AreOut job callers = All (λ caller. caller ≡ Some job) callers

-- `asks` holds of each value and its place, and a place whose number is among the pairs is not empty
abbrev pub ArePlaced : {Y : Type 0} → (ℕ → Y → Type 0) → List (Option Y) → List (ℕ × Y) → Type 0
ArePlaced {Y} asks places ps =
    (j : ℕ) (d : Option Y) → j < length places
    → IfSome (slice_index_or places j d) (λ y. asks j y)
    × (0 < occurrences j (numbers ps) → slice_index_or places j d ≢ None)
