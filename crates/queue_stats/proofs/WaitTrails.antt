-- The waits that the two walks add up are the waits of the visits.
use Rattle.std.proofs.Common.{◌≡◌, ℕ, zero, suc, ◌+◌, ◌-◌, ◌<◌, ◌≤◌, inl, inr, List, [], ◌∷◌, ◌++◌, Bool, true, false}
use Rattle.std.proofs.Common.{if◌then◌else◌, cond, nat_lt, length, map, refl, sym, ap, ◌∙◌, subst, arith, append-nil}
use Rattle.std.proofs.Common.{append_assoc, length-append, get_or, Some}
use Rattle.std.specs.List.{filter}
use Rattle.std.proofs.lemmas.Bool.{cases_lt, lt-ltb, le-ltb, false≢true}
use Rattle.std.proofs.lemmas.List.{get_or_append_left, map-append}
use Rattle.std.proofs.lemmas.List.Elements.{filter-append}
use Rattle.sim_base.specs.declared.entry.Entry.{Entry}
use Rattle.sim_base.specs.declared.entry.Line.{Line}
use Rattle.sim_base.specs.declared.message.Msg.{Msg}
use Rattle.sim_base.specs.declared.message.Payload.{Payload}
use Rattle.sim_base.specs.declared.message.Payload.TheVariants.{Tick, Job, Done, Set}
use Rattle.queue_stats.specs.declared.waits.Waits.{Waits}
use Rattle.queue_stats.specs.Moments.{Event, visit, loss, Moment, event_of, moment_of, moments_after, moments}
use Rattle.queue_stats.specs.Moments.{last_lost, lost_in, wait_in, is_visit, is_loss, is_change, is_departure}
use Rattle.queue_stats.specs.Figures.{one_if, count, times, visit_count, arrival_time, service_start, wait_from}
use Rattle.queue_stats.specs.Figures.{waits_below, waits, total, greatest}
use Rattle.queue_stats.specs.Queues.{IsQueue}
use Rattle.queue_stats.specs.Tallies.{is_job}
use Rattle.queue_stats.specs.Trails.{first_arrival, after_first_arrival, with_wait, waits_along, no_waits}
use Rattle.queue_stats.specs.Trails.{waits_along_log}
use Rattle.queue_stats.proofs.Lists.{one_if-le, total-push, greatest-push}
use Rattle.queue_stats.proofs.Pushes.{count-push, count-cons, times-length, last_wait-push}
use Rattle.queue_stats.proofs.Lindley.{or_else, start_if_below, service_start_after-push, came_after_all-is}
use Rattle.queue_stats.proofs.Lindley.{started_count, started_count-is, service_start-is, start_time, nth-old}
use Rattle.queue_stats.proofs.Lindley.{start_if_below-low, start_if_below-high}
use Rattle.queue_stats.proofs.Prefixes.{prefix, moments_after-append}

-- ---- arrivals

-- the times of all jobs that arrive
abbrev job_times : List (Entry Msg Line) → List ℕ
job_times [] = []
job_times (e ∷ es) = if is_job e.msg.payload then e.msg.key.time ∷ job_times es else job_times es

-- the first arrival is the first of them
first-job_times : (es : List (Entry Msg Line)) → first_arrival es ≡ get_or (job_times es) 0 0
first-job_times [] = refl
first-job_times (e ∷ es) = by (is_job e.msg.payload) (first-job_times es)
  where
    by : (b : Bool) → first_arrival es ≡ get_or (job_times es) 0 0
        → (if b then e.msg.key.time else first_arrival es)
        ≡ get_or (if b then e.msg.key.time ∷ job_times es else job_times es) 0 0
    by true rest = refl
    by false rest = rest

-- the arrivals after the first are the others
after-job_times : (es : List (Entry Msg Line)) (i : ℕ)
    → get_or (job_times (after_first_arrival es)) i 0 ≡ get_or (job_times es) (suc i) 0
after-job_times [] i = refl
after-job_times (e ∷ es) i = by (is_job e.msg.payload) (after-job_times es i)
  where
    by : (b : Bool) → get_or (job_times (after_first_arrival es)) i 0 ≡ get_or (job_times es) (suc i) 0
        → get_or (job_times (if b then es else after_first_arrival es)) i 0
        ≡ get_or (if b then e.msg.key.time ∷ job_times es else job_times es) (suc i) 0
    by true rest = refl
    by false rest = rest

-- a log after its first k arrivals
abbrev trail : ℕ → List (Entry Msg Line) → List (Entry Msg Line)
trail zero es = es
trail (suc k) es = after_first_arrival (trail k es)

-- its arrivals are the others
trail-job_times : (k : ℕ) (es : List (Entry Msg Line)) (i : ℕ)
    → get_or (job_times (trail k es)) i 0 ≡ get_or (job_times es) (k + i) 0
trail-job_times zero es i = ap (λ n. get_or (job_times es) n 0) (omega arith)
trail-job_times (suc k) es i = after-job_times (trail k es) i ∙ trail-job_times k es (suc i)
    ∙ ap (λ n. get_or (job_times es) n 0) (omega arith)

-- a job that arrives and is not lost is a visit
is_job-visit : (p : Payload) (before now : ℕ) → one_if (is_loss (event_of p before now)) ≡ 0
    → is_job p ≡ is_visit (event_of p before now)
is_job-visit (Job j) before now none = by (nat_lt before now) none
  where
    by : (b : Bool) → one_if (is_loss (if b then loss else visit j)) ≡ 0 → true ≡ is_visit (if b then loss else visit j)
    by true none = absurd (omega (arith, none))
    by false none = refl
is_job-visit (Done j) before now none = refl
is_job-visit (Set c) before now none = refl
is_job-visit Tick before now none = refl

-- one entry more in front, which is a job and a visit, or neither
job_times-cons : (a b : Bool) (m : Moment) (ts : List ℕ) (ms : List Moment) → a ≡ b → ts ≡ map (λ m. m.time) ms
    → (if a then m.time ∷ ts else ts) ≡ map (λ m. m.time) (cond b (m ∷ ms) ms)
job_times-cons true true m ts ms same rest = ap (λ l. m.time ∷ l) rest
job_times-cons false false m ts ms same rest = rest
job_times-cons true false m ts ms same rest = absurd (false≢true (sym same))
job_times-cons false true m ts ms same rest = absurd (false≢true same)

-- if no job is lost, all jobs that arrive are visits
job_times-is : (before : ℕ) (es : List (Entry Msg Line)) → count is_loss (moments_after before es) ≡ 0
    → job_times es ≡ times is_visit (moments_after before es)
job_times-is before [] none = refl
job_times-is before (e ∷ es) none =
    let ms : List Moment = moments_after (lost_in e.line) es in
    let m : Moment = moment_of before e in
    let cons = count-cons is_loss m ms in
    job_times-cons (is_job e.msg.payload) (is_visit m.event) m (job_times es) (filter (λ m. is_visit m.event) ms)
    (is_job-visit e.msg.payload before (lost_in e.line) (omega (arith, none, cons)))
    (job_times-is (lost_in e.line) es (omega (arith, none, cons)))

-- ---- waits, with one moment more

module _ (ms : List Moment) (m : Moment) (q : IsQueue 1 ms) (q' : IsQueue 1 (ms ++ m ∷ []))
    (unchanged : count is_change (ms ++ m ∷ []) ≡ 0) where
  -- no parameter changed before
  unchanged_before : count is_change ms ≡ 0
  unchanged_before = let more = count-push is_change ms m in omega (arith, more, unchanged)

  -- the walk counts the visits that have started
  started_count-now : visit_count (ms ++ m ∷ []) - m.wait ≡ started_count (ms ++ m ∷ [])
  started_count-now = ap (λ w. visit_count (ms ++ m ∷ []) - w) (sym (last_wait-push 0 ms m))
      ∙ started_count-is q' unchanged

  -- visits that have started keep their starts, and the others that start now start at this moment
  start-push : (n : ℕ)
      → service_start n (ms ++ m ∷ [])
      ≡ or_else (service_start n ms) (start_if_below n (started_count (ms ++ m ∷ [])) m.time)
  start-push n = service_start_after-push 0 n ms m
      ∙ ap (λ k. or_else (service_start n ms) (start_if_below n (k - m.wait) m.time))
      (came_after_all-is 0 (ms ++ m ∷ []) ∙ omega arith)
      ∙ ap (λ k. or_else (service_start n ms) (start_if_below n k m.time)) started_count-now

  -- the visits that had started keep their waits
  waits_below-old : (n : ℕ) → n ≤ started_count ms → waits_below n (ms ++ m ∷ []) ≡ waits_below n ms
  waits_below-old zero low = refl
  waits_below-old (suc n) low =
      let has = service_start-is q unchanged_before n
      ∙ start_if_below-low n (started_count ms) (start_time n ms) (omega (arith, low)) in
      let same : service_start n (ms ++ m ∷ []) ≡ service_start n ms = start-push n
      ∙ ap (λ o. or_else o (start_if_below n (started_count (ms ++ m ∷ [])) m.time)) has ∙ sym has in
      let come : arrival_time n (ms ++ m ∷ []) ≡ arrival_time n ms = nth-old is_visit ms m n (omega (arith, low)) in
      ap (λ l. l ++ wait_from (arrival_time n (ms ++ m ∷ [])) (service_start n (ms ++ m ∷ [])))
      (waits_below-old n (omega (arith, low)))
      ∙ ap (λ o. waits_below n ms ++ wait_from (arrival_time n (ms ++ m ∷ [])) o) same
      ∙ ap (λ a. waits_below n ms ++ wait_from a (service_start n ms)) come

  -- if one visit more starts, its wait ends now
  waits_below-new : started_count ms < started_count (ms ++ m ∷ [])
      → waits_below (suc (started_count ms)) (ms ++ m ∷ [])
      ≡ waits_below (started_count ms) ms ++ (m.time - arrival_time (started_count ms) (ms ++ m ∷ [])) ∷ []
  waits_below-new more =
      let none = service_start-is q unchanged_before (started_count ms)
      ∙ start_if_below-high (started_count ms) (started_count ms) (start_time (started_count ms) ms) (omega arith) in
      let now : service_start (started_count ms) (ms ++ m ∷ []) ≡ Some m.time = start-push (started_count ms)
      ∙ ap (λ o. or_else o (start_if_below (started_count ms) (started_count (ms ++ m ∷ [])) m.time)) none
      ∙ start_if_below-low (started_count ms) (started_count (ms ++ m ∷ [])) m.time more in
      ap (λ l. l ++ wait_from (arrival_time (started_count ms) (ms ++ m ∷ []))
      (service_start (started_count ms) (ms ++ m ∷ [])))
      (waits_below-old (started_count ms) (omega arith))
      ∙ ap (λ o. waits_below (started_count ms) ms ++ wait_from (arrival_time (started_count ms) (ms ++ m ∷ [])) o) now

  -- if no visit starts, the waits stay the same
  waits_below-same : started_count (ms ++ m ∷ []) ≤ started_count ms
      → waits_below (started_count (ms ++ m ∷ [])) (ms ++ m ∷ []) ≡ waits_below (started_count ms) ms
  waits_below-same few =
      let v = count-push is_visit ms m in
      let l = count-push is_departure ms m in
      let same : started_count (ms ++ m ∷ []) ≡ started_count ms = omega (arith, few, v, l) in
      ap (λ n. waits_below n (ms ++ m ∷ [])) same ∙ waits_below-old (started_count ms) (omega arith)

-- visits that have not started have no wait
waits_below-all : {ms : List Moment} → IsQueue 1 ms → count is_change ms ≡ 0 → (d : ℕ)
    → waits_below (started_count ms + d) ms ≡ waits_below (started_count ms) ms
waits_below-all {ms} q unchanged zero =
    let same : started_count ms + 0 ≡ started_count ms = omega arith in ap (λ n. waits_below n ms) same
waits_below-all {ms} q unchanged (suc d) =
    let next : started_count ms + suc d ≡ suc (started_count ms + d) = omega arith in
    let none = service_start-is q unchanged (started_count ms + d)
    ∙ start_if_below-high (started_count ms + d) (started_count ms) (start_time (started_count ms + d) ms)
    (omega arith) in
    ap (λ n. waits_below n ms) next
    ∙ ap (λ o. waits_below (started_count ms + d) ms ++ wait_from (arrival_time (started_count ms + d) ms) o) none
    ∙ append-nil (waits_below (started_count ms + d) ms)
    ∙ waits_below-all q unchanged d

-- the waits are those of the visits that have started
waits-started : {ms : List Moment} → IsQueue 1 ms → count is_change ms ≡ 0
    → waits ms ≡ waits_below (started_count ms) ms
waits-started {ms} q unchanged =
    let whole : visit_count ms ≡ started_count ms + (visit_count ms - started_count ms) = omega arith in
    ap (λ n. waits_below n ms) whole ∙ waits_below-all q unchanged (visit_count ms - started_count ms)

-- ---- the walks

-- the sum and the longest of some waits
pub record AreWaits (w : Waits) (ns : List ℕ) : Type 0 where
  pub waited : w.waited ≡ total ns
  pub longest : w.longest ≡ greatest ns

-- with one wait more
are_waits-push : (w : Waits) (ns : List ℕ) (n : ℕ) → AreWaits w ns → AreWaits (with_wait w n) (ns ++ n ∷ [])
are_waits-push w ns n s =
    let a = s.waited in
    let b = s.longest in
    let t = total-push ns n in
    let g = greatest-push ns n in
    record { waited = omega (arith, a, t); longest = omega (arith, b, g) }

-- the count of two lists
count-append : (p : Event → Bool) (ms ns : List Moment) → count p (ms ++ ns) ≡ count p ms + count p ns
count-append p ms ns =
    ap length (filter-append (λ m. p m.event) ms ns)
    ∙ length-append (filter (λ m. p m.event) ms) (filter (λ m. p m.event) ns)

-- the arrival times of two lists
times-append : (ms ns : List Moment) → times is_visit (ms ++ ns) ≡ times is_visit ms ++ times is_visit ns
times-append ms ns = ap (map (λ m. m.time)) (filter-append (λ m. is_visit m.event) ms ns)
    ∙ map-append (λ m. m.time) (filter (λ m. is_visit m.event) ms) (filter (λ m. is_visit m.event) ns)

-- the state of the walks after the entries `done` of a log: the number of arrivals, the number of service starts, the
-- log after the arrivals of the visits that have started, and their waits
record IsWalked (log done : List (Entry Msg Line)) (came started : ℕ) (trailing : List (Entry Msg Line)) (w : Waits)
    : Type 0 where
  arrivals : came ≡ visit_count (moments done)
  starts : started ≡ started_count (moments done)
  rest : trailing ≡ trail started log
  waits : AreWaits w (waits_below started (moments done))

module _ (log done es : List (Entry Msg Line)) (e : Entry Msg Line) (q : IsQueue 1 (moments log))
    (unchanged : count is_change (moments log) ≡ 0) (none : count is_loss (moments log) ≡ 0)
    (is : log ≡ done ++ e ∷ es) where
  -- the moments before an entry
  abbrev before : List Moment
  before = moments done

  -- the moment of the entry
  abbrev here : Moment
  here = moment_of (last_lost 0 done) e

  -- the moments until the entry
  abbrev now : List Moment
  now = before ++ here ∷ []

  -- the moments after the entry
  abbrev later : List Moment
  later = moments_after (lost_in e.line) es

  -- the moments of the log
  parts : moments log ≡ now ++ later
  parts = ap moments is ∙ moments_after-append 0 done (e ∷ es) ∙ sym (append_assoc before (here ∷ []) later)

  -- the moments of the entries until this one
  joined : moments (done ++ e ∷ []) ≡ now
  joined = moments_after-append 0 done (e ∷ [])

  -- they are those of a queue
  queue_now : IsQueue 1 now
  queue_now = prefix q now later parts

  -- so are the moments before the entry
  queue_before : IsQueue 1 before
  queue_before = prefix queue_now before (here ∷ []) refl

  -- no parameter has changed
  unchanged_now : count is_change now ≡ 0
  unchanged_now =
      let changes = ap (count is_change) parts ∙ count-append is_change now later in
      omega (arith, changes, unchanged)

  -- the walk counts the visits
  visit_count-now : (came : ℕ) → came ≡ visit_count before → came + one_if (is_job e.msg.payload) ≡ visit_count now
  visit_count-now came arrivals =
      let losses = ap (count is_loss) parts ∙ count-append is_loss now later in
      let loss_here = count-push is_loss before here in
      let visit_here = ap one_if (is_job-visit e.msg.payload (last_lost 0 done) (lost_in e.line)
      (omega (arith, losses, none, loss_here))) in
      let more = count-push is_visit before here in
      omega (arith, arrivals, visit_here, more)

  -- it finds the number of visits that have started
  started_count-walk : (came : ℕ) → came ≡ visit_count before
      → came + one_if (is_job e.msg.payload) - wait_in e.line ≡ started_count now
  started_count-walk came arrivals =
      ap (λ n. n - wait_in e.line) (visit_count-now came arrivals)
      ∙ started_count-now before here queue_before queue_now unchanged_now

  -- the next arrival on the trail is that of the visit that starts now
  first_arrival-trail : (started : ℕ) → started < started_count now
      → first_arrival (trail started log) ≡ arrival_time started now
  first_arrival-trail started more =
      let long = times-length is_visit now in
      let same : started + 0 ≡ started = omega arith in
      first-job_times (trail started log) ∙ trail-job_times started log 0
      ∙ ap (λ ts. get_or ts (started + 0) 0)
      (job_times-is 0 log none ∙ ap (times is_visit) parts ∙ times-append now later)
      ∙ get_or_append_left (times is_visit now) (times is_visit later) 0 (started + 0) (omega (arith, more, long))
      ∙ ap (λ n. get_or (times is_visit now) n 0) same

  module _ (came started : ℕ) (trailing : List (Entry Msg Line)) (w : Waits)
      (walked : IsWalked log done came started trailing w) where
    -- if a visit starts, its wait ends now
    walked-start : started < started_count now → IsWalked log (done ++ e ∷ []) (came + one_if (is_job e.msg.payload))
        (started + 1) (after_first_arrival trailing) (with_wait w (e.msg.key.time - first_arrival trailing))
    walked-start more =
        let next : started + 1 ≡ suc started = omega arith in
        let visits = count-push is_visit before here in
        let departures = count-push is_departure before here in
        let was = walked.starts in
        let up : started + 1 ≡ started_count now =
        omega (
          arith,
          more,
          was,
          visits,
          departures,
          one_if-le (is_visit here.event),
          one_if-le (is_departure here.event),
        ) in
        let arrives : first_arrival trailing ≡ arrival_time started now =
        ap first_arrival walked.rest ∙ first_arrival-trail started more in
        let waited : waits_below (started + 1) (moments (done ++ e ∷ []))
        ≡ waits_below started before ++ (here.time - first_arrival trailing) ∷ [] =
        ap (λ n. waits_below n (moments (done ++ e ∷ []))) next ∙ ap (waits_below (suc started)) joined
        ∙ ap (λ n. waits_below (suc n) now) was
        ∙ waits_below-new before here queue_before queue_now unchanged_now (omega (arith, more, was))
        ∙ ap (λ n. waits_below n before ++ (here.time - arrival_time n now) ∷ []) (sym was)
        ∙ ap (λ a. waits_below started before ++ (here.time - a) ∷ []) (sym arrives) in
        record {
          arrivals = visit_count-now came walked.arrivals ∙ ap visit_count (sym joined);
          starts = up ∙ ap started_count (sym joined);
          rest = ap after_first_arrival walked.rest ∙ ap (λ n. trail n log) (sym next);
          waits = subst (AreWaits (with_wait w (e.msg.key.time - first_arrival trailing))) (sym waited)
              (are_waits-push w (waits_below started before) (e.msg.key.time - first_arrival trailing) walked.waits);
        }

    -- if no visit starts, the waits stay the same
    walked-same : started_count now ≤ started
        → IsWalked log (done ++ e ∷ []) (came + one_if (is_job e.msg.payload)) started trailing w
    walked-same few =
        let visits = count-push is_visit before here in
        let departures = count-push is_departure before here in
        let was = walked.starts in
        let same : started ≡ started_count now = omega (arith, few, was, visits, departures) in
        let waited : waits_below started (moments (done ++ e ∷ [])) ≡ waits_below started before =
        ap (waits_below started) joined ∙ ap (λ n. waits_below n now) same
        ∙ waits_below-same before here queue_before queue_now unchanged_now (omega (arith, few, was))
        ∙ ap (λ n. waits_below n before) (sym was) in
        record {
          arrivals = visit_count-now came walked.arrivals ∙ ap visit_count (sym joined);
          starts = same ∙ ap started_count (sym joined);
          rest = walked.rest;
          waits = subst (AreWaits w) (sym waited) walked.waits;
        }

module _ (log : List (Entry Msg Line)) (q : IsQueue 1 (moments log)) (unchanged : count is_change (moments log) ≡ 0)
    (none : count is_loss (moments log) ≡ 0) where
  -- from any place in the log on, the walks find the waits of the whole log
  waits_along-rest : (done es : List (Entry Msg Line)) (came started : ℕ) (trailing : List (Entry Msg Line)) (w : Waits)
      → log ≡ done ++ es → IsWalked log done came started trailing w
      → AreWaits (waits_along came started trailing w es) (waits (moments log))
  waits_along-rest done [] came started trailing w is walked =
      let whole : log ≡ done = is ∙ append-nil done in
      subst (AreWaits w)
      (ap (λ n. waits_below n (moments done)) walked.starts
      ∙ sym (waits-started (subst (λ l. IsQueue 1 (moments l)) whole q)
      (sym (ap (λ l. count is_change (moments l)) whole) ∙ unchanged))
      ∙ ap (λ l. waits (moments l)) (sym whole)) walked.waits
  waits_along-rest done (e ∷ es) came started trailing w is walked =
      let all : log ≡ (done ++ e ∷ []) ++ es = is ∙ sym (append_assoc done (e ∷ []) es) in
      let c : ℕ = came + one_if (is_job e.msg.payload) in
      let now = started_count-walk log done es e q unchanged none is came walked.arrivals in
      let next : Waits = with_wait w (e.msg.key.time - first_arrival trailing) in
      let goal : Bool → Type 0 =
      λ b. AreWaits (if b then waits_along c (started + 1) (after_first_arrival trailing) next es
      else waits_along c started trailing w es) (waits (moments log)) in
      elim (cases_lt started (started_count (moments done ++ moment_of (last_lost 0 done) e ∷ []))) [
        | inl more ↦ subst goal (sym (lt-ltb started (c - wait_in e.line) (omega (arith, more, now))))
            (waits_along-rest (done ++ e ∷ []) es c (started + 1) (after_first_arrival trailing) next all
            (walked-start log done es e q unchanged none is came started trailing w walked more))
        | inr few ↦ subst goal (sym (le-ltb started (c - wait_in e.line) (omega (arith, few, now))))
            (waits_along-rest (done ++ e ∷ []) es c started trailing w all
            (walked-same log done es e q unchanged none is came started trailing w walked few))
      ]

  -- the walks find the waits of the whole log
  pub waits_along-all : AreWaits (waits_along_log log) (waits (moments log))
  waits_along-all = waits_along-rest [] log 0 0 log no_waits refl (record {
    arrivals = refl;
    starts = omega arith;
    rest = refl;
    waits = record { waited = refl; longest = refl };
  })
