-- The tasks of a crew, and its results.
use Rattle.std.specs.Prelude.{◌≡◌, ℕ, ◌+◌, ◌<◌, ◌≤◌, List, length, slice_index_or, sum_by}
use Rattle.crew_pool.specs.declared.crew.TheConstants.{MAX_TASKS}

-- `asks` holds of each element and its place
abbrev pub EachAt : {X : Type 0} → (ℕ → X → Type 0) → List X → Type 0
EachAt {X} asks xs = (i : ℕ) (d : X) → i < length xs → asks i (slice_index_or xs i d)

-- an answer of a task to the item at its place
abbrev pub AnswersTo : {X Y : Type 0} → (ℕ → X → Y → Type 0) → List X → ℕ → Y → Type 0
AnswersTo {X} answers items i out = (d : X) → answers i (slice_index_or items i d) out

-- all tasks may be run on these items: no more than a call may have, each ready for the task of its place
pub record MayRunAll {X : Type 0} (takes : ℕ → X → Type 0) (items : List X) : Type 0 where
  pub at_most : length items ≤ MAX_TASKS
  pub ready : EachAt takes items

-- all tasks have run on these items: there is an answer for each, at its place, and the counter has grown by their cost
pub record HaveRunAll {X Y : Type 0} (gives : ℕ → X → Y → Type 0) (cost_of : Y → ℕ) (items : List X) (before after : ℕ)
    (outs : List Y) : Type 0 where
  pub count : length outs ≡ length items
  pub answers : EachAt (AnswersTo gives items) outs
  pub cost : after ≡ before + sum_by cost_of outs
