-- The figures of a queue's history: counts, the number in the system over time, times in the system, and waits.
use Rattle.std.specs.Prelude.{ℕ, zero, suc, ◌+◌, ◌-◌, ◌||◌, List, [], ◌∷◌, ◌++◌, Bool, Option, Some, None, length, map}
use Rattle.std.specs.Prelude.{max, nat_lt, nat_le, if◌then◌else◌, slice_index_or}
use Rattle.std.specs.List.{filter}
use Rattle.sim_base.specs.declared.message.Job.{Job as JobOf}
use Rattle.queue_stats.specs.Moments.{Event, visit, Moment, in_system, is_visit, is_loss, is_departure, is_departure_of}
use Rattle.queue_stats.specs.Moments.{same_job}

-- ---- counts

-- 1 if a test passes, else 0
abbrev pub one_if : Bool → ℕ
one_if b = if b then 1 else 0

-- the number of moments whose event passes a test
abbrev pub count : (Event → Bool) → List Moment → ℕ
count p ms = length (filter (λ m. p m.event) ms)

-- the times of those moments, in order
abbrev pub times : (Event → Bool) → List Moment → List ℕ
times p ms = map (λ m. m.time) (filter (λ m. p m.event) ms)

-- the number of arrivals
abbrev pub arrival_count : List Moment → ℕ
arrival_count ms = count (λ e. is_visit e || is_loss e) ms

-- the number of losses
abbrev pub loss_count : List Moment → ℕ
loss_count ms = count is_loss ms

-- the number of visits, which are the arrivals that were not lost
abbrev pub visit_count : List Moment → ℕ
visit_count ms = count is_visit ms

-- the number of departures
abbrev pub departure_count : List Moment → ℕ
departure_count ms = count is_departure ms

-- the greatest of some numbers, or 0
abbrev pub greatest : List ℕ → ℕ
greatest [] = 0
greatest (n ∷ ns) = max n (greatest ns)

-- the sum of some numbers. Unlike std's `sum`, which is a fold, it computes at a list with a known head: to the head
-- plus the sum of the rest
abbrev pub total : List ℕ → ℕ
total [] = 0
total (n ∷ ns) = n + total ns

-- the greatest number of waiting jobs
abbrev pub most_waiting : List Moment → ℕ
most_waiting ms = greatest (map (λ m. m.wait) ms)

-- ---- the number in the system over time

-- the number of jobs in the system after the last moment, or n if there is no moment
abbrev pub last_in_system : ℕ → List Moment → ℕ
last_in_system n [] = n
last_in_system n (m ∷ ms) = last_in_system (in_system m) ms

-- the number of jobs in the system at a time
abbrev pub in_system_at : List Moment → ℕ → ℕ
in_system_at ms u = last_in_system 0 (filter (λ m. nat_le m.time u) ms)

-- the sum of f over all times below h
abbrev pub sum_below : (ℕ → ℕ) → ℕ → ℕ
sum_below f zero = 0
sum_below f (suc u) = sum_below f u + f u

-- the number of jobs in the system, summed over all times below h
abbrev pub present : ℕ → List Moment → ℕ
present h ms = sum_below (in_system_at ms) h

-- ---- the time in the system of each visit

-- a visit of a job: the number of visits that the job made before, and the time of arrival
pub record Visit : Type 0 where
  pub job : JobOf
  pub nth : ℕ
  pub time : ℕ

-- the number of times that a job is among some jobs
abbrev pub occurrences : JobOf → List JobOf → ℕ
occurrences j js = length (filter (same_job j) js)

-- the visit that an event begins, if any, after visits of the jobs before
abbrev pub new_visit : List JobOf → Event → ℕ → List Visit
new_visit before (visit j) t = record { job = j; nth = occurrences j before; time = t } ∷ []
new_visit before _ t = []

-- the jobs before, and the job whose visit an event begins
abbrev pub and_visitor : List JobOf → Event → List JobOf
and_visitor before (visit j) = j ∷ before
and_visitor before _ = before

-- the visits of some moments in order of arrival, after visits of the jobs before
abbrev pub visits_after : List JobOf → List Moment → List Visit
visits_after before [] = []
visits_after before (m ∷ ms) = new_visit before m.event m.time ++ visits_after (and_visitor before m.event) ms

-- the visits of a whole history
abbrev pub visits : List Moment → List Visit
visits ms = visits_after [] ms

-- the end of a visit: the n-th visit of a job ends at the job's n-th departure, or at h if there is none
abbrev pub visit_end : ℕ → List Moment → Visit → ℕ
visit_end h ms v = slice_index_or (times (is_departure_of v.job) ms) v.nth h

-- the time from arrival to the end, summed over all visits
abbrev pub time_in_system : ℕ → List Moment → ℕ
time_in_system h ms = total (map (λ v. visit_end h ms v - v.time) (visits ms))

-- ---- waits, if one server serves in order of arrival

-- the service start of the n-th visit, if it has started, after `came` earlier visits. It is the first moment after
-- which the number of visits minus the number of waiting jobs is more than n
abbrev pub service_start_after : ℕ → ℕ → List Moment → Option ℕ
service_start_after came n [] = None
service_start_after came n (m ∷ ms) =
    let now = if is_visit m.event then came + 1 else came in
    if nat_lt n (now - m.wait) then Some m.time else service_start_after now n ms

-- the service start of the n-th visit of a whole history, from 0
abbrev pub service_start : ℕ → List Moment → Option ℕ
service_start n ms = service_start_after 0 n ms

-- the arrival time of the n-th visit, from 0
abbrev pub arrival_time : ℕ → List Moment → ℕ
arrival_time n ms = slice_index_or (times is_visit ms) n 0

-- the time of the n-th departure, from 0
abbrev pub departure_time : ℕ → List Moment → ℕ
departure_time n ms = slice_index_or (times is_departure ms) n 0

-- the wait of a visit, from its arrival time and its service start; no wait if it has not started
abbrev pub wait_from : ℕ → Option ℕ → List ℕ
wait_from came None = []
wait_from came (Some s) = (s - came) ∷ []

-- the waits of those of the first n visits that have started
abbrev pub waits_below : ℕ → List Moment → List ℕ
waits_below zero ms = []
waits_below (suc n) ms = waits_below n ms ++ wait_from (arrival_time n ms) (service_start n ms)

-- the waits of all visits that have started
abbrev pub waits : List Moment → List ℕ
waits ms = waits_below (visit_count ms) ms
