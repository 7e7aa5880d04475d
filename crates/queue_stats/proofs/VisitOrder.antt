-- If jobs depart in order of arrival, visits end in order of arrival.
use Rattle.std.proofs.Common.{◌≡◌, ℕ, zero, suc, ◌+◌, ◌-◌, ◌<◌, ◌≤◌, List, [], ◌∷◌, ◌++◌, Bool, true, false, Some}
use Rattle.std.proofs.Common.{cond, length, take, get_or, slice_get, refl, sym, ap, ◌∙◌, subst, arith, length-append}
use Rattle.std.specs.List.{filter}
use Rattle.std.proofs.lemmas.List.{get_or_past, take-append-le}
use Rattle.std.proofs.lemmas.List.Elements.{filter-append}
use Rattle.std.proofs.lemmas.Option.{none-some, same_Some}
use Rattle.std.proofs.Math.Seq.{take-append-add}
use Rattle.sim_base.specs.declared.message.Job.{Job as JobOf}
use Rattle.queue_stats.specs.Moments.{Event, visit, loss, departure, change, other, Moment, same_job}
use Rattle.queue_stats.specs.Moments.{is_visit, is_departure, is_departure_of}
use Rattle.queue_stats.specs.Figures.{one_if, count, times, Visit, occurrences, new_visit, and_visitor, visits_after}
use Rattle.queue_stats.specs.Figures.{visits, visit_end, departure_count}
use Rattle.queue_stats.specs.Orders.{visiting_job, visiting_jobs, departing_job, departing_jobs, DepartInOrder}
use Rattle.queue_stats.specs.Orders.{VisitsEndInOrder}
use Rattle.queue_stats.proofs.Lists.{filter-cons}
use Rattle.queue_stats.proofs.Pushes.{count-cons, times-cons, times-length}
use Rattle.queue_stats.proofs.Little.{same_job-itself}

-- ---- occurrences

-- one job more in front
occurrences-cons : (j k : JobOf) (js : List JobOf)
    → occurrences j (k ∷ js) ≡ one_if (same_job j k) + occurrences j js
occurrences-cons j k js = filter-cons (same_job j) k js

-- the jobs of two lists
occurrences-append : (j : JobOf) (xs ys : List JobOf)
    → occurrences j (xs ++ ys) ≡ occurrences j xs + occurrences j ys
occurrences-append j xs ys = ap length (filter-append (same_job j) xs ys)
    ∙ length-append (filter (same_job j) xs) (filter (same_job j) ys)

-- ---- the n-th visit

-- a visit is the n-th, by the jobs and times of all visits, after visits of the jobs before
record IsNthVisit (before jobs : List JobOf) (ts : List ℕ) (n : ℕ) (v : Visit) : Type 0 where
  pub job : slice_get jobs n ≡ Some v.job
  pub nth : v.nth ≡ occurrences v.job before + occurrences v.job (take n jobs)
  pub time : v.time ≡ get_or ts n 0

-- one event more in front, after which the other visits come in order
nth_visit-step : (before jobs : List JobOf) (ts : List ℕ) (later : List Visit) (e : Event) (t : ℕ)
    → ((n : ℕ) (v : Visit) → slice_get later n ≡ Some v → IsNthVisit (and_visitor before e) jobs ts n v)
    → (n : ℕ) (v : Visit) → slice_get (new_visit before e t ++ later) n ≡ Some v
    → IsNthVisit before (visiting_job e ++ jobs) (cond (is_visit e) (t ∷ []) [] ++ ts) n v
nth_visit-step before jobs ts later (visit j) t rest zero v is =
    let new : Visit = record { job = j; nth = occurrences j before; time = t } in
    let first : new ≡ v = same_Some new v is in
    let job : j ≡ v.job = ap (λ (w : Visit). w.job) first in
    let nth : occurrences j before ≡ v.nth = ap (λ (w : Visit). w.nth) first in
    let plus : occurrences v.job before ≡ occurrences v.job before + 0 = omega arith in
    record {
      job = ap Some job;
      nth = sym nth ∙ ap (λ k. occurrences k before) job ∙ plus;
      time = sym (ap (λ (w : Visit). w.time) first);
    }
nth_visit-step before jobs ts later (visit j) t rest (suc n) v is =
    let r = rest n v is in
    let a = r.nth in
    let b = occurrences-cons v.job j before in
    let c = occurrences-cons v.job j (take n jobs) in
    let nth : v.nth ≡ occurrences v.job before + occurrences v.job (j ∷ take n jobs) = omega (arith, a, b, c) in
    record { job = r.job; nth = nth; time = r.time }
nth_visit-step before jobs ts later loss t rest n v is = rest n v is
nth_visit-step before jobs ts later (departure j) t rest n v is = rest n v is
nth_visit-step before jobs ts later change t rest n v is = rest n v is
nth_visit-step before jobs ts later other t rest n v is = rest n v is

-- the visits of a history
nth_visit : (before : List JobOf) (ms : List Moment) (n : ℕ) (v : Visit) → slice_get (visits_after before ms) n ≡ Some v
    → IsNthVisit before (visiting_jobs ms) (times is_visit ms) n v
nth_visit before [] n v is = absurd (none-some v is)
nth_visit before (m ∷ ms) n v is =
    subst (λ ts. IsNthVisit before (visiting_job m.event ++ visiting_jobs ms) ts n v) (sym (times-cons is_visit m ms))
    (nth_visit-step before (visiting_jobs ms) (times is_visit ms) (visits_after (and_visitor before m.event) ms) m.event
    m.time (λ n v is. nth_visit (and_visitor before m.event) ms n v is) n v is)

-- ---- the n-th departure

-- if the n-th departure is of job j, its time is that of the job's own departure with the same number
nth_departure-step : (j : JobOf) (jobs : List JobOf) (own ts : List ℕ) (h : ℕ) (e : Event) (t : ℕ)
    → ((n : ℕ) → slice_get jobs n ≡ Some j → get_or own (occurrences j (take n jobs)) h ≡ get_or ts n h)
    → (n : ℕ) → slice_get (departing_job e ++ jobs) n ≡ Some j
    → get_or (cond (is_departure_of j e) (t ∷ []) [] ++ own) (occurrences j (take n (departing_job e ++ jobs))) h
    ≡ get_or (cond (is_departure e) (t ∷ []) [] ++ ts) n h
nth_departure-step j jobs own ts h (departure k) t rest zero is =
    let same : k ≡ j = same_Some k j is in
    let own_job : same_job j k ≡ true = subst (λ i. same_job j i ≡ true) (sym same) (same_job-itself j) in
    ap (λ b. get_or (cond b (t ∷ []) [] ++ own) 0 h) own_job
nth_departure-step j jobs own ts h (departure k) t rest (suc n) is = by (same_job j k) ∙ rest n is
  where
    by : (b : Bool) → get_or (cond b (t ∷ []) [] ++ own)
        (length (cond b (k ∷ filter (same_job j) (take n jobs)) (filter (same_job j) (take n jobs)))) h
        ≡ get_or own (occurrences j (take n jobs)) h
    by true = refl
    by false = refl
nth_departure-step j jobs own ts h (visit k) t rest n is = rest n is
nth_departure-step j jobs own ts h loss t rest n is = rest n is
nth_departure-step j jobs own ts h change t rest n is = rest n is
nth_departure-step j jobs own ts h other t rest n is = rest n is

-- the departures of a history
nth_departure : (j : JobOf) (ms : List Moment) (n h : ℕ) → slice_get (departing_jobs ms) n ≡ Some j
    → get_or (times (is_departure_of j) ms) (occurrences j (take n (departing_jobs ms))) h
    ≡ get_or (times is_departure ms) n h
nth_departure j [] n h is = absurd (none-some j is)
nth_departure j (m ∷ ms) n h is =
    ap (λ l. get_or l (occurrences j (take n (departing_job m.event ++ departing_jobs ms))) h)
    (times-cons (is_departure_of j) m ms)
    ∙ nth_departure-step j (departing_jobs ms) (times (is_departure_of j) ms) (times is_departure ms) h m.event m.time
    (λ n is. nth_departure j ms n h is) n is
    ∙ ap (λ l. get_or l n h) (sym (times-cons is_departure m ms))

-- a job departs once for each time that it is among the departing jobs
departures-occurrences : (j : JobOf) (ms : List Moment)
    → count (is_departure_of j) ms ≡ occurrences j (departing_jobs ms)
departures-occurrences j [] = refl
departures-occurrences j (m ∷ ms) = count-cons (is_departure_of j) m ms
    ∙ ap (λ k. one_if (is_departure_of j m.event) + k) (departures-occurrences j ms) ∙ sym (by m.event)
  where
    by : (e : Event) → occurrences j (departing_job e ++ departing_jobs ms)
        ≡ one_if (is_departure_of j e) + occurrences j (departing_jobs ms)
    by (departure k) = occurrences-cons j k (departing_jobs ms)
    by (visit k) = omega arith
    by loss = omega arith
    by change = omega arith
    by other = omega arith

-- one job departs at each departure
departing_jobs-length : (ms : List Moment) → length (departing_jobs ms) ≡ departure_count ms
departing_jobs-length [] = refl
departing_jobs-length (m ∷ ms) = by m.event
    ∙ ap (λ k. one_if (is_departure m.event) + k) (departing_jobs-length ms) ∙ sym (count-cons is_departure m ms)
  where
    by : (e : Event) → length (departing_job e ++ departing_jobs ms)
        ≡ one_if (is_departure e) + length (departing_jobs ms)
    by (departure k) = omega arith
    by (visit k) = omega arith
    by loss = omega arith
    by change = omega arith
    by other = omega arith

-- ---- the order

module _ (ms : List Moment) (in_order : DepartInOrder ms) (n : ℕ) (v : Visit)
    (is : slice_get (visits ms) n ≡ Some v) where
  abbrev jobs : List JobOf
  jobs = departing_jobs ms

  -- the visit, by the jobs that departed and those that have not
  the_visit : IsNthVisit [] (jobs ++ in_order.rest) (times is_visit ms) n v
  the_visit = subst (λ l. IsNthVisit [] l (times is_visit ms) n v) in_order.is (nth_visit [] ms n v is)

  -- the n-th visit ends at the n-th departure
  ends-at : n < departure_count ms → (h : ℕ) → visit_end h ms v ≡ get_or (times is_departure ms) n 0
  ends-at low h =
      let within : n < length jobs = let l = departing_jobs-length ms in omega (arith, low, l) in
      let first : take n (jobs ++ in_order.rest) ≡ take n jobs =
      take-append-le n jobs in_order.rest (omega (arith, within)) in
      let all = the_visit.nth in
      let same = ap (occurrences v.job) first in
      let nth : v.nth ≡ occurrences v.job (take n jobs) = omega (arith, all, same) in
      let job : slice_get jobs n ≡ Some v.job = slice_get-append_left jobs in_order.rest n within ∙ the_visit.job in
      ap (λ i. get_or (times (is_departure_of v.job) ms) i h) nth
      ∙ nth_departure v.job ms n h job
      ∙ get_or-default (times is_departure ms) n h 0
      (let l = times-length is_departure ms in omega (arith, low, l))
    where
      -- an element of the first of two lists
      slice_get-append_left : (xs ys : List JobOf) (i : ℕ) → i < length xs → slice_get xs i ≡ slice_get (xs ++ ys) i
      slice_get-append_left [] ys i low = absurd (omega (arith, low))
      slice_get-append_left (x ∷ xs) ys zero low = refl
      slice_get-append_left (x ∷ xs) ys (suc i) low = slice_get-append_left xs ys i (omega (arith, low))

      -- within a list the default does not matter
      get_or-default : (ts : List ℕ) (i d e : ℕ) → i < length ts → get_or ts i d ≡ get_or ts i e
      get_or-default [] i d e low = absurd (omega (arith, low))
      get_or-default (x ∷ xs) zero d e low = refl
      get_or-default (x ∷ xs) (suc i) d e low = get_or-default xs i d e (omega (arith, low))

  -- without an n-th departure it has not ended
  not_ended-before : departure_count ms ≤ n → (h : ℕ) → visit_end h ms v ≡ h
  not_ended-before high h =
      let long = departing_jobs-length ms in
      let more : n ≡ length jobs + (n - length jobs) = omega (arith, high, long) in
      let first : take n (jobs ++ in_order.rest) ≡ jobs ++ take (n - length jobs) in_order.rest =
      ap (λ k. take k (jobs ++ in_order.rest)) more ∙ take-append-add jobs in_order.rest (n - length jobs) in
      let all = the_visit.nth in
      let same = ap (occurrences v.job) first
      ∙ occurrences-append v.job jobs (take (n - length jobs) in_order.rest) in
      let nth : v.nth ≡ occurrences v.job jobs + occurrences v.job (take (n - length jobs) in_order.rest) =
      omega (arith, all, same) in
      let departed = times-length (is_departure_of v.job) ms ∙ departures-occurrences v.job ms in
      get_or_past (times (is_departure_of v.job) ms) v.nth h (omega (arith, nth, departed))

-- if jobs depart in order, visits end in order
pub visits-end_in_order : (ms : List Moment) → DepartInOrder ms → VisitsEndInOrder ms
visits-end_in_order ms in_order = record {
  begins = λ n v is. (nth_visit [] ms n v is).time;
  ends = λ n v is low h. ends-at ms in_order n v is low h;
  not_ended = λ n v is high h. not_ended-before ms in_order n v is high h;
}
