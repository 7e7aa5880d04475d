-- Lindley's equation, for the history of a single server's queue.
use Rattle.std.proofs.Common.{◌≡◌, ℕ, zero, suc, ◌+◌, ◌-◌, ◌<◌, ◌≤◌, ◌⊎◌, inl, inr, List, [], ◌∷◌, ◌++◌, Bool, true}
use Rattle.std.proofs.Common.{false, if◌then◌else◌, cond, nat_lt, map, refl, sym, ap, ◌∙◌, subst, arith, append-nil}
use Rattle.std.proofs.Common.{get_or, Option, Some, None, min, max}
use Rattle.std.specs.List.{AllByRecursion, filter}
use Rattle.std.proofs.lemmas.Bool.{cases_lt, lt-ltb, le-ltb, false≢true}
use Rattle.std.proofs.lemmas.List.{get_or_push}
use Rattle.std.proofs.lemmas.Option.{same_Some}
use Rattle.sim_base.proofs.ListLaws.{all_push}
use Rattle.queue_stats.specs.Moments.{Event, visit, loss, departure, change, other, Moment, in_system, is_visit}
use Rattle.queue_stats.specs.Moments.{is_departure, is_change}
use Rattle.queue_stats.specs.Figures.{one_if, count, times, service_start_after, service_start, arrival_time}
use Rattle.queue_stats.specs.Figures.{departure_time, last_in_system, departure_count, visit_count}
use Rattle.queue_stats.specs.Queues.{Follows, IsQueue, opened, goes_on}
use Rattle.queue_stats.specs.Lindley.{IsLindley}
use Rattle.queue_stats.proofs.Lists.{get_or-push, get_or-le}
use Rattle.queue_stats.proofs.Pushes.{count-push, count-cons, times-push, times-length, last_wait, last_wait-push}
use Rattle.queue_stats.proofs.Pushes.{last_in_system-push}
use Rattle.queue_stats.proofs.Little.{conserved}

-- ---- service_start

-- the first option if it has a value, else the second
abbrev pub or_else : Option ℕ → Option ℕ → Option ℕ
or_else (Some s) o = Some s
or_else None o = o

-- a service start at t if the visit is below k
abbrev pub start_if_below : ℕ → ℕ → ℕ → Option ℕ
start_if_below n k t = if nat_lt n k then Some t else None

-- the number of visits after one event more
abbrev came_after : ℕ → Event → ℕ
came_after came e = if is_visit e then came + 1 else came

-- the event adds 1 if it is a visit
came_after-is : (came : ℕ) (e : Event) → came_after came e ≡ came + one_if (is_visit e)
came_after-is came (visit j) = refl
came_after-is came loss = omega arith
came_after-is came (departure j) = omega arith
came_after-is came change = omega arith
came_after-is came other = omega arith

-- the number of visits after some moments
abbrev pub came_after_all : ℕ → List Moment → ℕ
came_after_all came [] = came
came_after_all came (m ∷ ms) = came_after_all (came_after came m.event) ms

-- one moment more may start visits that have not started
pub service_start_after-push : (came n : ℕ) (ms : List Moment) (m : Moment) → service_start_after came n (ms ++ m ∷ [])
    ≡ or_else (service_start_after came n ms) (start_if_below n (came_after_all came (ms ++ m ∷ []) - m.wait) m.time)
service_start_after-push came n [] m = refl
service_start_after-push came n (x ∷ xs) m = by (nat_lt n (came_after came x.event - x.wait))
    (service_start_after-push (came_after came x.event) n xs m)
  where
    by : (b : Bool) → service_start_after (came_after came x.event) n (xs ++ m ∷ [])
        ≡ or_else (service_start_after (came_after came x.event) n xs)
        (start_if_below n (came_after_all (came_after came x.event) (xs ++ m ∷ []) - m.wait) m.time)
        → (if b then Some x.time else service_start_after (came_after came x.event) n (xs ++ m ∷ []))
        ≡ or_else (if b then Some x.time else service_start_after (came_after came x.event) n xs)
        (start_if_below n (came_after_all (came_after came x.event) (xs ++ m ∷ []) - m.wait) m.time)
    by true rest = refl
    by false rest = rest

-- the number of visits after some moments, as a count
pub came_after_all-is : (came : ℕ) (ms : List Moment) → came_after_all came ms ≡ came + visit_count ms
came_after_all-is came [] = omega arith
came_after_all-is came (m ∷ ms) =
    let rest = came_after_all-is (came_after came m.event) ms in
    let one = came_after-is came m.event in
    let more = count-cons is_visit m ms in
    omega (arith, rest, one, more)

-- ---- service starts by arrivals and departures

-- the departure before which the n-th visit cannot start, 0 for the first visit
abbrev previous_departure : ℕ → List Moment → ℕ
previous_departure zero ms = 0
previous_departure (suc n) ms = departure_time n ms

-- the service start of the n-th visit: its arrival, or the departure before, whichever is later
abbrev pub start_time : ℕ → List Moment → ℕ
start_time n ms = max (arrival_time n ms) (previous_departure n ms)

-- the number of visits that have started
abbrev pub started_count : List Moment → ℕ
started_count ms = min (visit_count ms) (departure_count ms + 1)

-- if no moment is later than t, no time is
times-le : (p : Event → Bool) (ms : List Moment) (t : ℕ) → AllByRecursion (λ x. x.time ≤ t) ms
    → AllByRecursion (λ x. x ≤ t) (times p ms)
times-le p [] t all = tt
times-le p (m ∷ ms) t all = by (p m.event) (times-le p ms t all.1)
  where
    by : (b : Bool) → AllByRecursion (λ x. x ≤ t) (times p ms)
        → AllByRecursion (λ x. x ≤ t)
        (map (λ m. m.time) (cond b (m ∷ filter (λ m. p m.event) ms) (filter (λ m. p m.event) ms)))
    by true rest = (all.0, rest)
    by false rest = rest

-- one moment more keeps the earlier times at their places
pub nth-old : (p : Event → Bool) (ms : List Moment) (m : Moment) (n : ℕ) → n < count p ms
    → get_or (times p (ms ++ m ∷ [])) n 0 ≡ get_or (times p ms) n 0
nth-old p ms m n low = ap (λ ts. get_or ts n 0) (times-push p ms m) ∙ by (p m.event)
  where
    by : (b : Bool) → get_or (times p ms ++ cond b (m.time ∷ []) []) n 0 ≡ get_or (times p ms) n 0
    by true = get_or-push (times p ms) m.time n 0 (λ e. let long = times-length p ms in omega (arith, low, e, long))
    by false = ap (λ ts. get_or ts n 0) (append-nil (times p ms))

-- the time of the moment more is at the next place
nth-new : (p : Event → Bool) (ms : List Moment) (m : Moment) (n : ℕ) → n ≡ count p ms → p m.event ≡ true
    → get_or (times p (ms ++ m ∷ [])) n 0 ≡ m.time
nth-new p ms m n is holds =
    ap (λ ts. get_or ts n 0) (times-push p ms m ∙ ap (λ b. times p ms ++ cond b (m.time ∷ []) []) holds)
    ∙ get_or_push (times p ms) m.time 0 n (let long = times-length p ms in omega (arith, is, long))

-- one moment more keeps the service starts of the visits that may have started
start_time-old : (ms : List Moment) (m : Moment) (n : ℕ) → n < visit_count ms → n < departure_count ms + 1
    → start_time n (ms ++ m ∷ []) ≡ start_time n ms
start_time-old ms m zero come gone = ap (λ a. max a 0) (nth-old is_visit ms m zero come)
start_time-old ms m (suc n) come gone =
    let a = nth-old is_visit ms m (suc n) come in
    let b = nth-old is_departure ms m n (omega (arith, gone)) in
    omega (arith, a, b)

-- no departure is later than the last moment
previous_departure-le : (ms : List Moment) (n t : ℕ) → AllByRecursion (λ x. x.time ≤ t) ms → previous_departure n ms ≤ t
previous_departure-le ms zero t all = omega arith
previous_departure-le ms (suc n) t all = get_or-le (times is_departure ms) n t (times-le is_departure ms t all)

-- ---- one server

-- at one server all jobs in the system but one wait
last_wait-is : {ms : List Moment} → IsQueue 1 ms → count is_change ms ≡ 0 → last_wait 0 ms ≡ last_in_system 0 ms - 1
last_wait-is opened unchanged = refl
last_wait-is (goes_on {before = ms} m q is f) unchanged =
    let here : count is_change (ms ++ m ∷ []) ≡ 0 = ap (count is_change) (sym is) ∙ unchanged in
    let w = f.work_conserving here in
    let one : m.wait ≡ in_system m - 1 = elim w.1 [
      | inl nobody ↦ let b = w.0 in omega (arith, nobody, b)
      | inr all_busy ↦ let b = w.0 in omega (arith, all_busy, b)
    ] in
    subst (λ l. last_wait 0 l ≡ last_in_system 0 l - 1) (sym is)
    (last_wait-push 0 ms m ∙ one ∙ ap (λ n. n - 1) (sym (last_in_system-push 0 ms m)))

-- the number of visits less the number of waiting jobs is the number of visits that have started
pub started_count-is : {ms : List Moment} → IsQueue 1 ms → count is_change ms ≡ 0
    → visit_count ms - last_wait 0 ms ≡ started_count ms
started_count-is {ms} q unchanged =
    let w = last_wait-is q unchanged in
    let c = conserved q in
    omega (arith, w, c)

-- there are at most as many departures as visits
departure_count-le : {ms : List Moment} → IsQueue 1 ms → departure_count ms ≤ visit_count ms
departure_count-le q = let c = conserved q in omega (arith, c)

-- no moment is later than the last
all-until_last : {servers : ℕ} (ms : List Moment) (m : Moment) → Follows servers ms m
    → AllByRecursion (λ x. x.time ≤ m.time) (ms ++ m ∷ [])
all-until_last ms m f = all_push (λ x. x.time ≤ m.time) ms m f.later (omega arith)

-- no service start is later than the last moment
start_time-le : (ms : List Moment) (n t : ℕ) → AllByRecursion (λ x. x.time ≤ t) ms → start_time n ms ≤ t
start_time-le ms n t all =
    let a = get_or-le (times is_visit ms) n t (times-le is_visit ms t all) in
    let b = previous_departure-le ms n t all in
    omega (arith, a, b)

-- one moment more is a departure or leaves their number the same
departure_count-push : (ms : List Moment) (m : Moment)
    → ((is_departure m.event ≡ true) × (departure_count (ms ++ m ∷ []) ≡ departure_count ms + 1))
    ⊎ (departure_count (ms ++ m ∷ []) ≡ departure_count ms)
departure_count-push ms m = by (is_departure m.event) refl
  where
    by : (b : Bool) → is_departure m.event ≡ b
        → ((is_departure m.event ≡ true) × (departure_count (ms ++ m ∷ []) ≡ departure_count ms + 1))
        ⊎ (departure_count (ms ++ m ∷ []) ≡ departure_count ms)
    by true is = inl (is, count-push is_departure ms m ∙ ap (λ b. departure_count ms + one_if b) is)
    by false is = inr (count-push is_departure ms m ∙ ap (λ b. departure_count ms + one_if b) is ∙ omega arith)

-- one moment more is a visit or leaves their number the same
visit_count-push : (ms : List Moment) (m : Moment)
    → ((is_visit m.event ≡ true) × (visit_count (ms ++ m ∷ []) ≡ visit_count ms + 1))
    ⊎ (visit_count (ms ++ m ∷ []) ≡ visit_count ms)
visit_count-push ms m = by (is_visit m.event) refl
  where
    by : (b : Bool) → is_visit m.event ≡ b
        → ((is_visit m.event ≡ true) × (visit_count (ms ++ m ∷ []) ≡ visit_count ms + 1))
        ⊎ (visit_count (ms ++ m ∷ []) ≡ visit_count ms)
    by true is = inl (is, count-push is_visit ms m ∙ ap (λ b. visit_count ms + one_if b) is)
    by false is = inr (count-push is_visit ms m ∙ ap (λ b. visit_count ms + one_if b) is ∙ omega arith)

-- a visit that has ended started at its departure or earlier
start_time-le-departure_time : {ms : List Moment} → IsQueue 1 ms → (n : ℕ) → n < departure_count ms
    → start_time n ms ≤ departure_time n ms
start_time-le-departure_time opened n low = absurd (omega (arith, low))
start_time-le-departure_time (goes_on {before = ms} m q is f) n low =
    subst (λ l. start_time n l ≤ departure_time n l) (sym is)
    (step (start_time-le-departure_time q n) (cases_lt n (departure_count ms)))
  where
    step : (n < departure_count ms → start_time n ms ≤ departure_time n ms)
        → (n < departure_count ms) ⊎ (departure_count ms ≤ n)
        → start_time n (ms ++ m ∷ []) ≤ departure_time n (ms ++ m ∷ [])
    step old (inl here) =
        let few = departure_count-le q in
        let same = start_time-old ms m n (omega (arith, here, few)) (omega (arith, here)) in
        let end = nth-old is_departure ms m n here in
        let h = old here in
        omega (arith, same, end, h)
    step old (inr there) =
        let bound : n < departure_count (ms ++ m ∷ []) = subst (λ l. n < departure_count l) is low in
        elim (departure_count-push ms m) [
          | inl one ↦
              let more = one.1 in
              let end = nth-new is_departure ms m n (omega (arith, bound, there, more)) one.0 in
              let most = start_time-le (ms ++ m ∷ []) n m.time (all-until_last ms m f) in
              omega (arith, end, most)
          | inr same ↦ absurd (omega (arith, bound, there, same))
        ]

-- arrival times are in order
arrival_time-rises : {ms : List Moment} → IsQueue 1 ms → (n : ℕ) → suc n < visit_count ms
    → arrival_time n ms ≤ arrival_time (suc n) ms
arrival_time-rises opened n low = absurd (omega (arith, low))
arrival_time-rises (goes_on {before = ms} m q is f) n low =
    subst (λ l. arrival_time n l ≤ arrival_time (suc n) l) (sym is)
    (step (arrival_time-rises q n) (cases_lt (suc n) (visit_count ms)))
  where
    step : (suc n < visit_count ms → arrival_time n ms ≤ arrival_time (suc n) ms)
        → (suc n < visit_count ms) ⊎ (visit_count ms ≤ suc n)
        → arrival_time n (ms ++ m ∷ []) ≤ arrival_time (suc n) (ms ++ m ∷ [])
    step old (inl here) =
        let a = nth-old is_visit ms m n (omega (arith, here)) in
        let b = nth-old is_visit ms m (suc n) here in
        let h = old here in
        omega (arith, a, b, h)
    step old (inr there) =
        let bound : suc n < visit_count (ms ++ m ∷ []) = subst (λ l. suc n < visit_count l) is low in
        elim (visit_count-push ms m) [
          | inl one ↦
              let more = one.1 in
              let end = nth-new is_visit ms m (suc n) (omega (arith, bound, there, more)) one.0 in
              let most = get_or-le (times is_visit (ms ++ m ∷ [])) n m.time
              (times-le is_visit (ms ++ m ∷ []) m.time (all-until_last ms m f)) in
              omega (arith, end, most)
          | inr same ↦ absurd (omega (arith, bound, there, same))
        ]

-- no event is both a visit and a departure
visit_or_departure : (e : Event) → is_visit e ≡ true → is_departure e ≡ true → ⊥
visit_or_departure (visit j) a b = false≢true b
visit_or_departure loss a b = false≢true b
visit_or_departure (departure j) a b = false≢true a
visit_or_departure change a b = false≢true b
visit_or_departure other a b = false≢true b

-- ---- service_start in closed form

-- the service start in closed form, if the visit is below k
abbrev pub start_below : ℕ → ℕ → List Moment → Option ℕ
start_below k n ms = start_if_below n k (start_time n ms)

-- a visit below k starts
pub start_if_below-low : (n k t : ℕ) → n < k → start_if_below n k t ≡ Some t
start_if_below-low n k t low = ap (λ b. if b then Some t else None) (lt-ltb n k low)

-- no other visit starts
pub start_if_below-high : (n k t : ℕ) → k ≤ n → start_if_below n k t ≡ None
start_if_below-high n k t high = ap (λ b. if b then Some t else None) (le-ltb n k high)

-- the service start of a visit is the closed form if the visit has started, else none
pub service_start-is : {ms : List Moment} → IsQueue 1 ms → count is_change ms ≡ 0 → (n : ℕ)
    → service_start n ms ≡ start_below (started_count ms) n ms
service_start-is opened unchanged n = sym (start_if_below-high n (started_count []) (start_time n []) (omega arith))
service_start-is (goes_on {before = ms} {after = after} m q is f) unchanged n =
    subst (λ l. service_start n l ≡ start_below (started_count l) n l) (sym is)
    (service_start_after-push 0 n ms m
    ∙ ap (λ k. or_else (service_start n ms) (start_if_below n (k - m.wait) m.time)) now
    ∙ ap (λ k. or_else (service_start n ms) (start_if_below n k m.time)) ready
    ∙ ap (λ o. or_else o (start_if_below n (started_count (ms ++ m ∷ [])) m.time))
    (service_start-is q unchanged_before n)
    ∙ step (cases_lt n (started_count ms)) (cases_lt n (started_count (ms ++ m ∷ []))))
  where
    -- no parameter has changed
    unchanged_here : count is_change (ms ++ m ∷ []) ≡ 0
    unchanged_here = ap (count is_change) (sym is) ∙ unchanged

    unchanged_before : count is_change ms ≡ 0
    unchanged_before = let more = count-push is_change ms m in omega (arith, more, unchanged_here)

    now : came_after_all 0 (ms ++ m ∷ []) ≡ visit_count (ms ++ m ∷ [])
    now = came_after_all-is 0 (ms ++ m ∷ []) ∙ omega arith

    ready : visit_count (ms ++ m ∷ []) - m.wait ≡ started_count (ms ++ m ∷ [])
    ready = ap (λ w. visit_count (ms ++ m ∷ []) - w) (sym (last_wait-push 0 ms m))
        ∙ started_count-is (goes_on m q refl f) unchanged_here

    -- by whether the visit had started before the moment, and has started now
    step : (n < started_count ms) ⊎ (started_count ms ≤ n)
        → (n < started_count (ms ++ m ∷ [])) ⊎ (started_count (ms ++ m ∷ []) ≤ n)
        → or_else (start_below (started_count ms) n ms) (start_if_below n (started_count (ms ++ m ∷ [])) m.time)
        ≡ start_below (started_count (ms ++ m ∷ [])) n (ms ++ m ∷ [])
    step (inl old) (inl new) =
        ap (λ o. or_else o (start_if_below n (started_count (ms ++ m ∷ [])) m.time))
        (start_if_below-low n (started_count ms) (start_time n ms) old)
        ∙ ap Some (sym (start_time-old ms m n (omega (arith, old)) (omega (arith, old))))
        ∙ sym (start_if_below-low n (started_count (ms ++ m ∷ [])) (start_time n (ms ++ m ∷ [])) new)
    step (inl old) (inr new) =
        let v = count-push is_visit ms m in
        let l = count-push is_departure ms m in
        absurd (omega (arith, old, new, v, l))
    step (inr old) (inr new) =
        ap (λ o. or_else o (start_if_below n (started_count (ms ++ m ∷ [])) m.time))
        (start_if_below-high n (started_count ms) (start_time n ms) old)
        ∙ start_if_below-high n (started_count (ms ++ m ∷ [])) m.time new
        ∙ sym (start_if_below-high n (started_count (ms ++ m ∷ [])) (start_time n (ms ++ m ∷ [])) new)
    step (inr old) (inl new) =
        ap (λ o. or_else o (start_if_below n (started_count (ms ++ m ∷ [])) m.time))
        (start_if_below-high n (started_count ms) (start_time n ms) old)
        ∙ ap (λ t. start_if_below n (started_count (ms ++ m ∷ [])) t) (sym begins)
      where
        begins : start_time n (ms ++ m ∷ []) ≡ m.time
        begins =
            let most = get_or-le (times is_visit (ms ++ m ∷ [])) n m.time
            (times-le is_visit (ms ++ m ∷ []) m.time (all-until_last ms m f)) in
            let before = previous_departure-le (ms ++ m ∷ []) n m.time (all-until_last ms m f) in
            elim (visit_count-push ms m) [
              | inl come ↦ elim (departure_count-push ms m) [
                | inl gone ↦ absurd (visit_or_departure m.event come.0 gone.0)
                | inr same ↦
                    let more = come.1 in
                    let end = nth-new is_visit ms m n (omega (arith, old, new, more, same)) come.0 in
                    omega (arith, end, before)
              ]
              | inr same ↦ elim (departure_count-push ms m) [
                | inl gone ↦
                    let more = gone.1 in
                    let here : n ≡ suc (departure_count ms) = omega (arith, old, new, more, same) in
                    let end = ap (λ k. previous_departure k (ms ++ m ∷ [])) here
                    ∙ nth-new is_departure ms m (departure_count ms) refl gone.0 in
                    omega (arith, end, most)
                | inr stays ↦ absurd (omega (arith, old, new, same, stays))
              ]
            ]

-- ---- Lindley's equation

-- if a visit has a service start, it is among those that have started, and its start is the closed form
service_start-started : {ms : List Moment} → IsQueue 1 ms → count is_change ms ≡ 0 → (n t : ℕ)
    → service_start n ms ≡ Some t
    → (n < started_count ms) × (t ≡ start_time n ms)
service_start-started {ms} q unchanged n t is = elim (cases_lt n (started_count ms)) [
  | inl low ↦ (
    low,
    same_Some t (start_time n ms) (sym is ∙ service_start-is q unchanged n
        ∙ start_if_below-low n (started_count ms) (start_time n ms) low),
  )
  | inr high ↦
      let none : service_start n ms ≡ None =
      service_start-is q unchanged n ∙ start_if_below-high n (started_count ms) (start_time n ms) high in
      let both : Some t ≡ None = sym is ∙ none in
      absurd (cc)
]

-- Lindley's equation at one server, until a parameter changes
pub lindley : {ms : List Moment} → IsQueue 1 ms → count is_change ms ≡ 0 → IsLindley ms
lindley {ms} q unchanged = record {
  ordered = λ n s is. let e = (service_start-started q unchanged n s is).1 in omega (arith, e);
  first = λ s is. let h = service_start-started q unchanged 0 s is in let e = h.1 in omega (arith, e);
  before = λ n t is.
      let h = service_start-started q unchanged (suc n) t is in
      let low = h.0 in
      let e = h.1 in (
        start_time n ms,
        service_start-is q unchanged n
            ∙ start_if_below-low n (started_count ms) (start_time n ms) (omega (arith, low)),
        omega (arith, low),
        start_time-le-departure_time q n (omega (arith, low)),
        omega (arith, e),
      );
  next = λ n s t is after.
      let a = service_start-started q unchanged n s is in
      let b = service_start-started q unchanged (suc n) t after in
      let low = b.0 in
      let early = a.1 in
      let late = b.1 in
      let rise = arrival_time-rises q n (omega (arith, low)) in
      let ends = start_time-le-departure_time q n (omega (arith, low)) in
      omega (arith, early, late, rise, ends);
}
