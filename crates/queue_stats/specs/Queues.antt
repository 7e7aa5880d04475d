-- Properties of every server's log: the rules on which the figures rest.
use Rattle.std.specs.Prelude.{ℕ, Bool, true, ◌<◌, ◌≡◌, ◌+◌, ◌≤◌, ◌⊎◌, List, [], ◌∷◌, ◌++◌}
use Rattle.std.specs.List.{AllByRecursion}
use Rattle.sim_base.specs.declared.message.Job.{Job as JobOf}
use Rattle.sim_base.specs.declared.entry.Entry.{Entry}
use Rattle.sim_base.specs.declared.entry.Line.{Line}
use Rattle.sim_base.specs.declared.message.Msg.{Msg}
use Rattle.queue_stats.specs.Moments.{Moment, moments, in_system, is_change, is_visit_of, is_departure_of}
use Rattle.queue_stats.specs.Figures.{count, visit_count, departure_count}

-- a moment that may follow these moments at a queue with this number of servers at the start
pub record Follows (servers : ℕ) (before : List Moment) (m : Moment) : Type 0 where
  -- time does not go back
  pub later : AllByRecursion (λ x. x.time ≤ m.time) before
  -- each visitor has departed or is in the system
  pub conserved : departure_count (before ++ m ∷ []) + in_system m ≡ visit_count (before ++ m ∷ [])
  -- no job departs more often than it visits
  pub matched : (j : JobOf) → count (is_departure_of j) (before ++ m ∷ []) ≤ count (is_visit_of j) (before ++ m ∷ [])
  -- until a parameter changes, no more jobs are in service than there are servers, and no job waits while a server is
  -- free
  pub work_conserving : count is_change (before ++ m ∷ []) ≡ 0
      → (m.busy ≤ servers) × ((m.wait ≡ 0) ⊎ (servers ≤ m.busy))

-- the history of a queue: each moment may follow those before it
pub data IsQueue (servers : ℕ) : List Moment → Type 0 where
  opened : IsQueue servers []
  goes_on : {before after : List Moment} (m : Moment) → IsQueue servers before → after ≡ before ++ m ∷ []
      → Follows servers before m → IsQueue servers after

-- the log of a queue before time h, which has one server if it is `single`
pub record IsServerQueue (single : Bool) (h : ℕ) (log : List (Entry Msg Line)) : Type 0 where
  pub servers : ℕ
  pub queue : IsQueue servers (moments log)
  pub time_max : AllByRecursion (λ x. x.time < h) (moments log)
  pub one : single ≡ true → servers ≡ 1
