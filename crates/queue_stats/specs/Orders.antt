-- The order of service: the order in which jobs arrive and depart, and the end of each visit.
use Rattle.std.specs.Prelude.{ℕ, ◌≡◌, ◌<◌, ◌≤◌, ◌++◌, List, [], ◌∷◌, Some, false, slice_get}
use Rattle.sim_base.specs.Clones.{Clone}
use Rattle.sim_base.specs.declared.message.Job.{Job as JobOf}
use Rattle.net_model.specs.declared.station.Kind.TheVariants as kind
use Rattle.net_model.specs.Net.{Net, HasStation, site_of}
use Rattle.stations.specs.Runs.{log_at}
use Rattle.queue_stats.specs.Moments.{Event, visit, departure, Moment, moments, is_change}
use Rattle.queue_stats.specs.Figures.{count, Visit, visits, visit_end, arrival_time, departure_time, departure_count}

-- the job whose visit an event begins, if any
abbrev pub visiting_job : Event → List JobOf
visiting_job (visit job) = job ∷ []
visiting_job _ = []

-- the job that departs at an event, if any
abbrev pub departing_job : Event → List JobOf
departing_job (departure job) = job ∷ []
departing_job _ = []

-- the jobs of all visits, in order of arrival
abbrev pub visiting_jobs : List Moment → List JobOf
visiting_jobs [] = []
visiting_jobs (m ∷ ms) = visiting_job m.event ++ visiting_jobs ms

-- the jobs of all departures, in order of departure
abbrev pub departing_jobs : List Moment → List JobOf
departing_jobs [] = []
departing_jobs (m ∷ ms) = departing_job m.event ++ departing_jobs ms

-- jobs depart in order of arrival: the departed ones are the first that arrived
pub record DepartInOrder (ms : List Moment) : Type 0 where
  pub rest : List JobOf
  pub is : visiting_jobs ms ≡ departing_jobs ms ++ rest

-- visits end in order of arrival: the n-th visit begins at the n-th arrival and ends at the n-th departure, which is
-- its own job's. So the wait and the service time of the n-th visit in Lindley's equation are its own
pub record VisitsEndInOrder (ms : List Moment) : Type 0 where
  pub begins : (n : ℕ) (v : Visit) → slice_get (visits ms) n ≡ Some v → v.time ≡ arrival_time n ms
  pub ends : (n : ℕ) (v : Visit) → slice_get (visits ms) n ≡ Some v → n < departure_count ms
      → (h : ℕ) → visit_end h ms v ≡ departure_time n ms
  -- without an n-th departure, the n-th visit has not ended before h
  pub not_ended : (n : ℕ) (v : Visit) → slice_get (visits ms) n ≡ Some v → departure_count ms ≤ n
      → (h : ℕ) → visit_end h ms v ≡ h

-- jobs depart in order in every run, at a single server that serves by arrival, until a parameter changes
abbrev pub RunsServeInOrder : Net → Type 0
RunsServeInOrder net = (c : Clone) (s front room lo hi : ℕ) → HasStation net s
    → (site_of net s).kind ≡ kind.Server 1 room lo hi false → count is_change (moments (log_at net c s front)) ≡ 0
    → DepartInOrder (moments (log_at net c s front))

-- visits end in order in every run, at such a server until a parameter changes
abbrev pub RunsEndVisitsInOrder : Net → Type 0
RunsEndVisitsInOrder net = (c : Clone) (s front room lo hi : ℕ) → HasStation net s
    → (site_of net s).kind ≡ kind.Server 1 room lo hi false → count is_change (moments (log_at net c s front)) ≡ 0
    → VisitsEndInOrder (moments (log_at net c s front))
