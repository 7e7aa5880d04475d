-- Lindley's equation: each wait at a single server, from the wait before it.
use Rattle.std.specs.Prelude.{ℕ, suc, ◌≡◌, ◌+◌, ◌-◌, ◌<◌, ◌≤◌, List, Some}
use Rattle.queue_stats.specs.Moments.{Moment}
use Rattle.queue_stats.specs.Figures.{service_start, arrival_time, departure_time, departure_count}

-- Lindley's equation, with the order of its times. A visit waits from its arrival to its service start, and is in
-- service from then until its departure. The n-th arrival, service start and departure are those of the n-th visit
pub record IsLindley (ms : List Moment) : Type 0 where
  -- no visit's service starts before its arrival
  pub ordered : (n s : ℕ) → service_start n ms ≡ Some s → arrival_time n ms ≤ s
  -- the first visit does not wait
  pub first : (s : ℕ) → service_start 0 ms ≡ Some s → s - arrival_time 0 ms ≡ 0
  -- if a visit has started, then the visit before it has started and ended. Its departure is not before its own start,
  -- and not after the start of the next visit
  pub before : (n t : ℕ) → service_start (suc n) ms ≡ Some t →
      (s : ℕ) × (service_start n ms ≡ Some s) × (n < departure_count ms) × (s ≤ departure_time n ms)
      × (departure_time n ms ≤ t)
  -- the wait of a visit is the previous visit's wait plus its service time, less the time between the two arrivals; or
  -- 0 if that is negative
  pub next : (n s t : ℕ) → service_start n ms ≡ Some s → service_start (suc n) ms ≡ Some t →
      t - arrival_time (suc n) ms
      ≡ ((s - arrival_time n ms) + (departure_time n ms - s)) - (arrival_time (suc n) ms - arrival_time n ms)
