-- Little's law in its finite form, for any history of a queue.
use Rattle.std.proofs.Common.{◌≡◌, ℕ, zero, suc, ◌+◌, ◌-◌, ◌*◌, ◌<◌, ◌≤◌, ◌⊎◌, inl, inr, List, [], ◌∷◌, ◌++◌, Bool}
use Rattle.std.proofs.Common.{true, false, cond, length, map, refl, sym, ap, ◌∙◌, subst, arith, append-nil, ◌&&◌, ◌==◌}
use Rattle.std.proofs.Common.{eq-eqb, get_or, append_assoc}
use Rattle.std.specs.List.{AllByRecursion, filter}
use Rattle.std.proofs.Math.Nat.{suc-mul, mul-suc}
use Rattle.std.proofs.lemmas.List.{get_or_past, get_or_push}
use Rattle.std.proofs.lemmas.Bool.{cases_eq, ne_eqb, and_from, and_left, and_right}
use Rattle.sim_base.specs.declared.message.Job.{Job as JobOf}
use Rattle.sim_base.proofs.ListLaws.{all_weaker, all_pop}
use Rattle.queue_stats.specs.Moments.{Event, visit, loss, departure, change, other, Moment, in_system, same_job}
use Rattle.queue_stats.specs.Moments.{is_visit, is_departure, is_visit_of, is_departure_of}
use Rattle.queue_stats.specs.Figures.{one_if, count, times, total, Visit, occurrences, new_visit, and_visitor}
use Rattle.queue_stats.specs.Figures.{visits_after, visits, visit_end, time_in_system, present, last_in_system}
use Rattle.queue_stats.specs.Figures.{departure_count, visit_count}
use Rattle.queue_stats.specs.Queues.{Follows, IsQueue, opened, goes_on}
use Rattle.queue_stats.proofs.Lists.{filter-cons, get_or-push}
use Rattle.queue_stats.proofs.Pushes.{count-push, count-cons, times-push, times-length, present-push, present-later}
use Rattle.queue_stats.proofs.Pushes.{last_in_system-push}

-- ---- same_job

-- a job is the same job as itself
pub same_job-itself : (j : JobOf) → same_job j j ≡ true
same_job-itself j =
    and_from (j.source == j.source && j.count == j.count) (j.born == j.born)
    (and_from (j.source == j.source) (j.count == j.count) (eq-eqb j.source j.source refl) (eq-eqb j.count j.count refl))
    (eq-eqb j.born j.born refl)

-- two jobs are different, in either order of comparison
record Differ (j k : JobOf) : Type 0 where
  pub one : same_job j k ≡ false
  pub other : same_job k j ≡ false

-- a job with these parts
abbrev job_of : ℕ → ℕ → ℕ → JobOf
job_of source count born = record { source = source; count = count; born = born }

-- jobs with equal parts are equal
job_of_parts : (j k : JobOf) → j.source ≡ k.source → j.count ≡ k.count → j.born ≡ k.born → j ≡ k
job_of_parts j k a b c =
    ap (λ s. job_of s j.count j.born) a ∙ ap (λ n. job_of k.source n j.born) b ∙ ap (λ n. job_of k.source k.count n) c

-- two jobs are equal or different
cases_job : (j k : JobOf) → (j ≡ k) ⊎ Differ j k
cases_job j k = elim (cases_eq j.source k.source) [
  | inl a ↦ elim (cases_eq j.count k.count) [
    | inl b ↦ elim (cases_eq j.born k.born) [
      | inl c ↦ inl (job_of_parts j k a b c)
      | inr n ↦ inr (record {
        one = and_right (j.source == k.source && j.count == k.count) (j.born == k.born) (ne_eqb j.born k.born n);
        other = and_right (k.source == j.source && k.count == j.count) (k.born == j.born)
            (ne_eqb k.born j.born (λ e. n (sym e)));
      })
    ]
    | inr n ↦ inr (record {
      one = and_left (j.source == k.source && j.count == k.count) (j.born == k.born)
          (and_right (j.source == k.source) (j.count == k.count) (ne_eqb j.count k.count n));
      other = and_left (k.source == j.source && k.count == j.count) (k.born == j.born)
          (and_right (k.source == j.source) (k.count == j.count) (ne_eqb k.count j.count (λ e. n (sym e))));
    })
  ]
  | inr n ↦ inr (record {
    one = and_left (j.source == k.source && j.count == k.count) (j.born == k.born)
        (and_left (j.source == k.source) (j.count == k.count) (ne_eqb j.source k.source n));
    other = and_left (k.source == j.source && k.count == j.count) (k.born == j.born)
        (and_left (k.source == j.source) (k.count == j.count) (ne_eqb k.source j.source (λ e. n (sym e))));
  })
]

-- ---- visits

-- the jobs that visited, after visits of the jobs before
abbrev visitors_after : List JobOf → List Moment → List JobOf
visitors_after before [] = before
visitors_after before (m ∷ ms) = visitors_after (and_visitor before m.event) ms

-- one moment more adds its visit, if any
visits_after-push : (before : List JobOf) (ms : List Moment) (m : Moment) → visits_after before (ms ++ m ∷ [])
    ≡ visits_after before ms ++ new_visit (visitors_after before ms) m.event m.time
visits_after-push before [] m = append-nil (new_visit before m.event m.time)
visits_after-push before (x ∷ xs) m =
    ap (λ l. new_visit before x.event x.time ++ l) (visits_after-push (and_visitor before x.event) xs m)
    ∙ sym (append_assoc (new_visit before x.event x.time) (visits_after (and_visitor before x.event) xs)
    (new_visit (visitors_after (and_visitor before x.event) xs) m.event m.time))

-- a job whose visit begins occurs once more among the visitors
occurrences-visitor : (j : JobOf) (before : List JobOf) (e : Event)
    → occurrences j (and_visitor before e) ≡ occurrences j before + one_if (is_visit_of j e)
occurrences-visitor j before (visit k) = by (same_job j k)
  where
    by : (b : Bool) → length (cond b (k ∷ filter (same_job j) before) (filter (same_job j) before))
        ≡ occurrences j before + one_if b
    by true = omega arith
    by false = omega arith
occurrences-visitor j before loss = omega arith
occurrences-visitor j before (departure k) = omega arith
occurrences-visitor j before change = omega arith
occurrences-visitor j before other = omega arith

-- a job occurs among the visitors once for each of its visits
occurrences-after : (j : JobOf) (before : List JobOf) (ms : List Moment)
    → occurrences j (visitors_after before ms) ≡ occurrences j before + count (is_visit_of j) ms
occurrences-after j before [] = omega arith
occurrences-after j before (m ∷ ms) =
    let rest = occurrences-after j (and_visitor before m.event) ms in
    let one = occurrences-visitor j before m.event in
    let more = count-cons (is_visit_of j) m ms in
    omega (arith, rest, one, more)

-- ---- sums over visits

-- the sum over two lists
total-append : (f : Visit → ℕ) (xs ys : List Visit) → total (map f (xs ++ ys)) ≡ total (map f xs) + total (map f ys)
total-append f [] ys = omega arith
total-append f (x ∷ xs) ys = let rest = total-append f xs ys in omega (arith, rest)

-- functions that are equal at each visit have equal sums
total-same : (f g : Visit → ℕ) (vs : List Visit) → AllByRecursion (λ v. f v ≡ g v) vs
    → total (map f vs) ≡ total (map g vs)
total-same f g [] same = refl
total-same f g (v ∷ vs) same = let rest = total-same f g vs same.1 in let one = same.0 in omega (arith, rest, one)

-- the next lemma for one visit more, by whether it passes the test
total-less_by : (f g : Visit → ℕ) (test : Visit → Bool) (d : ℕ) (v : Visit) (vs : List Visit) (b : Bool)
    → g v + one_if b * d ≡ f v
    → total (map g vs) + length (filter test vs) * d ≡ total (map f vs)
    → g v + total (map g vs) + length (cond b (v ∷ filter test vs) (filter test vs)) * d ≡ f v + total (map f vs)
total-less_by f g test d v vs true one rest =
    let product = suc-mul (length (filter test vs)) d in omega (arith, rest, one, product)
total-less_by f g test d v vs false one rest = omega (arith, rest, one)

-- functions that differ by d at each visit that passes a test: the sums differ by d for each such visit
total-less : (f g : Visit → ℕ) (test : Visit → Bool) (d : ℕ) (vs : List Visit)
    → AllByRecursion (λ v. g v + one_if (test v) * d ≡ f v) vs
    → total (map g vs) + length (filter test vs) * d ≡ total (map f vs)
total-less f g test d [] less = omega arith
total-less f g test d (v ∷ vs) less = total-less_by f g test d v vs (test v) less.0 (total-less f g test d vs less.1)

-- ---- the visit of a job with a number

-- whether this is the n-th visit of job k
abbrev is_nth_visit : JobOf → ℕ → Visit → Bool
is_nth_visit k n v = same_job v.job k && v.nth == n

-- a visit with another number is not that visit
is_nth_visit-other_number : (k : JobOf) (n : ℕ) (v : Visit) → (v.nth ≡ n → ⊥) → is_nth_visit k n v ≡ false
is_nth_visit-other_number k n v apart = and_right (same_job v.job k) (v.nth == n) (ne_eqb v.nth n apart)

-- a visit of another job is not that visit
is_nth_visit-other_job : (k : JobOf) (n : ℕ) (v : Visit) → same_job v.job k ≡ false → is_nth_visit k n v ≡ false
is_nth_visit-other_job k n v apart = and_left (same_job v.job k) (v.nth == n) apart

-- a visit of job k with the number n is that visit
is_nth_visit-itself : (k : JobOf) (n : ℕ) (v : Visit) → v.job ≡ k → v.nth ≡ n → is_nth_visit k n v ≡ true
is_nth_visit-itself k n v job nth = and_from (same_job v.job k) (v.nth == n)
    (subst (λ j. same_job j k ≡ true) (sym job) (same_job-itself k)) (eq-eqb v.nth n nth)

-- the number of visits that pass a test, with one visit more in front
length_filter-cons : (test : Visit → Bool) (v : Visit) (vs : List Visit) (b : Bool) → test v ≡ b
    → length (filter test (v ∷ vs)) ≡ one_if b + length (filter test vs)
length_filter-cons test v vs b is = filter-cons test v vs ∙ ap (λ b. one_if b + length (filter test vs)) is

-- if a job made more than n visits before, none of its later visits has the number n
nth_visits-none : (k : JobOf) (n : ℕ) (before : List JobOf) (ms : List Moment) → n < occurrences k before
    → length (filter (is_nth_visit k n) (visits_after before ms)) ≡ 0
nth_visits-none k n before [] low = refl
nth_visits-none k n before (m ∷ ms) low = by m.event
    (λ e. nth_visits-none k n (and_visitor before e) ms (let one = occurrences-visitor k before e in
    omega (arith, low, one)))
  where
    -- by the event
    by : (e : Event) → ((e : Event) → length (filter (is_nth_visit k n) (visits_after (and_visitor before e) ms)) ≡ 0)
        → length (filter (is_nth_visit k n) (new_visit before e m.time ++ visits_after (and_visitor before e) ms)) ≡ 0
    by (visit j) rest =
        let v : Visit = record { job = j; nth = occurrences j before; time = m.time } in
        let none : is_nth_visit k n v ≡ false = elim (cases_job j k) [
          | inl same ↦ is_nth_visit-other_number k n v (λ e. let at = ap (λ i. occurrences i before) same in
              omega (arith, low, e, at))
          | inr differ ↦ is_nth_visit-other_job k n v differ.one
        ] in
        let h = rest (visit j) in
        let c = length_filter-cons (is_nth_visit k n) v (visits_after (j ∷ before) ms) false none in
        omega (arith, h, c)
    by loss rest = rest loss
    by (departure j) rest = rest (departure j)
    by change rest = rest change
    by other rest = rest other

-- if a job visits more than n times, exactly one of its visits has the number n
nth_visits-one : (k : JobOf) (n : ℕ) (before : List JobOf) (ms : List Moment) → occurrences k before ≤ n
    → n < occurrences k before + count (is_visit_of k) ms
    → length (filter (is_nth_visit k n) (visits_after before ms)) ≡ 1
nth_visits-one k n before [] low high = absurd (omega (arith, low, high))
nth_visits-one k n before (m ∷ ms) low high = by m.event refl
    (λ e l h. nth_visits-one k n (and_visitor before e) ms l h)
  where
    -- the count of the job's visits, with this moment in front
    more : (e : Event) → m.event ≡ e
        → count (is_visit_of k) (m ∷ ms) ≡ one_if (is_visit_of k e) + count (is_visit_of k) ms
    more e is = count-cons (is_visit_of k) m ms ∙ ap (λ e. one_if (is_visit_of k e) + count (is_visit_of k) ms) is

    -- by the event
    by : (e : Event) → m.event ≡ e
        → ((e : Event) → occurrences k (and_visitor before e) ≤ n
        → n < occurrences k (and_visitor before e) + count (is_visit_of k) ms
        → length (filter (is_nth_visit k n) (visits_after (and_visitor before e) ms)) ≡ 1)
        → length (filter (is_nth_visit k n) (new_visit before e m.time ++ visits_after (and_visitor before e) ms)) ≡ 1
    by (visit j) is rest =
        let v : Visit = record { job = j; nth = occurrences j before; time = m.time } in
        let all : count (is_visit_of k) (m ∷ ms) ≡ one_if (same_job k j) + count (is_visit_of k) ms =
        more (visit j) is in
        let among : occurrences k (j ∷ before) ≡ occurrences k before + one_if (same_job k j) =
        occurrences-visitor k before (visit j) in
        elim (cases_job j k) [
          | inl same ↦
              let itself : one_if (same_job k j) ≡ 1 =
              ap one_if (subst (λ i. same_job k i ≡ true) (sym same) (same_job-itself k)) in
              let at : occurrences j before ≡ occurrences k before = ap (λ i. occurrences i before) same in
              elim (cases_eq (occurrences k before) n) [
                | inl here ↦
                    let c = length_filter-cons (is_nth_visit k n) v (visits_after (j ∷ before) ms) true
                    (is_nth_visit-itself k n v same (at ∙ here)) in
                    let h = nth_visits-none k n (j ∷ before) ms (omega (arith, among, itself, here)) in
                    omega (arith, h, c)
                | inr further ↦
                    let c = length_filter-cons (is_nth_visit k n) v (visits_after (j ∷ before) ms) false
                    (is_nth_visit-other_number k n v (λ e. further (sym at ∙ e))) in
                    let h = rest (visit j) (omega (arith, among, itself, low, further))
                    (omega (arith, among, all, high)) in
                    omega (arith, h, c)
              ]
          | inr differ ↦
              let none : one_if (same_job k j) ≡ 0 = ap one_if differ.other in
              let c = length_filter-cons (is_nth_visit k n) v (visits_after (j ∷ before) ms) false
              (is_nth_visit-other_job k n v differ.one) in
              let h = rest (visit j) (omega (arith, among, none, low)) (omega (arith, among, all, high)) in
              omega (arith, h, c)
        ]
    by loss is rest = let all = more loss is in rest loss low (omega (arith, high, all))
    by (departure j) is rest = let all = more (departure j) is in rest (departure j) low (omega (arith, high, all))
    by change is rest = let all = more change is in rest change low (omega (arith, high, all))
    by other is rest = let all = more other is in rest other low (omega (arith, high, all))

-- ---- visit_end, with one moment more

-- if the job of a visit does not depart, the end of the visit stays the same
visit_end-same : (h : ℕ) (ms : List Moment) (m : Moment) (v : Visit) → is_departure_of v.job m.event ≡ false
    → visit_end h (ms ++ m ∷ []) v ≡ visit_end h ms v
visit_end-same h ms m v stays = ap (λ ts. get_or ts v.nth h)
    (times-push (is_departure_of v.job) ms m
    ∙ ap (λ b. times (is_departure_of v.job) ms ++ cond b (m.time ∷ []) []) stays
    ∙ append-nil (times (is_departure_of v.job) ms))

-- a departure changes the end of one visit
module _ (h : ℕ) (ms : List Moment) (m : Moment) (k : JobOf) (is : m.event ≡ departure k) (early : m.time ≤ h) where
  -- the number of departures of the job before
  abbrev departures_before : ℕ
  departures_before = count (is_departure_of k) ms

  -- the end of another job's visit stays the same
  visit_end-other : (v : Visit) → same_job v.job k ≡ false → visit_end h (ms ++ m ∷ []) v ≡ visit_end h ms v
  visit_end-other v apart = visit_end-same h ms m v (ap (is_departure_of v.job) is ∙ apart)

  -- the departure times of the job
  times-here : times (is_departure_of k) (ms ++ m ∷ []) ≡ times (is_departure_of k) ms ++ m.time ∷ []
  times-here = times-push (is_departure_of k) ms m
      ∙ ap (λ b. times (is_departure_of k) ms ++ cond b (m.time ∷ []) []) (ap (is_departure_of k) is
      ∙ same_job-itself k)

  -- a visit that arrived by then gets shorter by the time from then to h if it is the one that ends, else it stays the
  -- same
  shorter : (v : Visit) → v.time ≤ m.time
      → (visit_end h (ms ++ m ∷ []) v - v.time) + one_if (is_nth_visit k departures_before v) * (h - m.time)
      ≡ visit_end h ms v - v.time
  shorter v came = elim (cases_job v.job k) [
    | inl same ↦ elim (cases_eq v.nth departures_before) [
      | inl nth ↦
          let long = times-length (is_departure_of k) ms in
          let now : visit_end h (ms ++ m ∷ []) v ≡ m.time =
          ap (λ j. get_or (times (is_departure_of j) (ms ++ m ∷ [])) v.nth h) same
          ∙ ap (λ ts. get_or ts v.nth h) times-here
          ∙ get_or_push (times (is_departure_of k) ms) m.time h v.nth (omega (arith, nth, long)) in
          let still : visit_end h ms v ≡ h =
          ap (λ j. get_or (times (is_departure_of j) ms) v.nth h) same
          ∙ get_or_past (times (is_departure_of k) ms) v.nth h (omega (arith, nth, long)) in
          let nth_one = ap one_if (is_nth_visit-itself k departures_before v same nth) in
          let one : one_if (is_nth_visit k departures_before v) * (h - m.time) ≡ h - m.time =
          ap (λ n. n * (h - m.time)) nth_one ∙ omega arith in
          omega (arith, now, still, one, came, early)
      | inr apart ↦
          let long = times-length (is_departure_of k) ms in
          let ends : visit_end h (ms ++ m ∷ []) v ≡ visit_end h ms v =
          ap (λ j. get_or (times (is_departure_of j) (ms ++ m ∷ [])) v.nth h) same
          ∙ ap (λ ts. get_or ts v.nth h) times-here
          ∙ get_or-push (times (is_departure_of k) ms) m.time v.nth h (λ e. apart (e ∙ long))
          ∙ sym (ap (λ j. get_or (times (is_departure_of j) ms) v.nth h) same) in
          let nth_one = ap one_if (is_nth_visit-other_number k departures_before v apart) in
          let none : one_if (is_nth_visit k departures_before v) * (h - m.time) ≡ 0 =
          ap (λ n. n * (h - m.time)) nth_one ∙ omega arith in
          omega (arith, ends, none)
    ]
    | inr differ ↦
        let ends = visit_end-other v differ.one in
        let nth_one = ap one_if (is_nth_visit-other_job k departures_before v differ.one) in
        let none : one_if (is_nth_visit k departures_before v) * (h - m.time) ≡ 0 =
        ap (λ n. n * (h - m.time)) nth_one ∙ omega arith in
        omega (arith, ends, none)
  ]

-- ---- arrival times of visits

-- if no moment is later than a time, no visit arrives later
visits_after-until : (t : ℕ) (before : List JobOf) (ms : List Moment) → AllByRecursion (λ x. x.time ≤ t) ms
    → AllByRecursion (λ v. v.time ≤ t) (visits_after before ms)
visits_after-until t before [] all = tt
visits_after-until t before (m ∷ ms) all = by m.event (λ e. visits_after-until t (and_visitor before e) ms all.1)
  where
    by : (e : Event) → ((e : Event) → AllByRecursion (λ v. v.time ≤ t) (visits_after (and_visitor before e) ms))
        → AllByRecursion (λ v. v.time ≤ t) (new_visit before e m.time ++ visits_after (and_visitor before e) ms)
    by (visit j) rest = (all.0, rest (visit j))
    by loss rest = rest loss
    by (departure j) rest = rest (departure j)
    by change rest = rest change
    by other rest = rest other

-- ---- time_in_system, with one moment more

module _ (h : ℕ) (ms : List Moment) (m : Moment) where
  -- the time in the system of a visit, with one moment more
  abbrev time_now : Visit → ℕ
  time_now v = visit_end h (ms ++ m ∷ []) v - v.time

  -- the time in the system of a visit, without it
  abbrev time_before : Visit → ℕ
  time_before v = visit_end h ms v - v.time

  -- the visit that begins, if any
  abbrev begins : List Visit
  begins = new_visit (visitors_after [] ms) m.event m.time

  -- the times in the system are those of the earlier visits and that of the visit that begins, if any
  time_in_system-push : time_in_system h (ms ++ m ∷ []) ≡ total (map time_now (visits ms)) + total (map time_now begins)
  time_in_system-push =
      ap (λ vs. total (map time_now vs)) (visits_after-push [] ms m) ∙ total-append time_now (visits ms) begins

  -- a property of each visit holds of all
  all_of : (P : Visit → Type 0) (vs : List Visit) → ((v : Visit) → P v) → AllByRecursion P vs
  all_of P [] f = tt
  all_of P (v ∷ vs) f = (f v, all_of P vs f)

  -- if no job departs, the earlier visits keep their times
  time_in_system-stay : ((j : JobOf) → is_departure_of j m.event ≡ false)
      → total (map time_now (visits ms)) ≡ time_in_system h ms
  time_in_system-stay nobody =
      total-same time_now time_before (visits ms) (all_of (λ v. time_now v ≡ time_before v) (visits ms)
      (λ v. ap (λ n. n - v.time) (visit_end-same h ms m v (nobody v.job))))

  -- if no job visits or departs, nothing changes
  time_in_system-idle : (e : Event) → m.event ≡ e → ((j : JobOf) → is_departure_of j e ≡ false)
      → new_visit (visitors_after [] ms) e m.time ≡ [] → time_in_system h (ms ++ m ∷ []) ≡ time_in_system h ms
  time_in_system-idle e is nobody none =
      let push = time_in_system-push in
      let old = time_in_system-stay (λ j. ap (is_departure_of j) is ∙ nobody j) in
      let new : total (map time_now begins) ≡ 0 =
      ap (λ vs. total (map time_now vs)) (ap (λ e. new_visit (visitors_after [] ms) e m.time) is ∙ none) in
      omega (arith, push, old, new)

  -- if a visit begins, it lasts from then to h
  time_in_system-visit : (j : JobOf) → m.event ≡ visit j → count (is_departure_of j) ms ≤ count (is_visit_of j) ms
      → time_in_system h (ms ++ m ∷ []) ≡ time_in_system h ms + (h - m.time)
  time_in_system-visit j is matched =
      let push = time_in_system-push in
      let nobody : (k : JobOf) → is_departure_of k m.event ≡ false = λ k. ap (is_departure_of k) is in
      let old = time_in_system-stay nobody in
      let v : Visit = record { job = j; nth = occurrences j (visitors_after [] ms); time = m.time } in
      let nth : v.nth ≡ count (is_visit_of j) ms = occurrences-after j [] ms ∙ omega arith in
      let long = times-length (is_departure_of j) ms in
      let ends : visit_end h (ms ++ m ∷ []) v ≡ h = visit_end-same h ms m v (nobody j)
      ∙ get_or_past (times (is_departure_of j) ms) v.nth h (omega (arith, nth, long, matched)) in
      let new : total (map time_now begins) ≡ h - m.time =
      ap (λ vs. total (map time_now vs)) (ap (λ e. new_visit (visitors_after [] ms) e m.time) is)
      ∙ ap (λ n. (n - m.time) + 0) ends ∙ omega arith in
      omega (arith, push, old, new)

  -- if a job departs, one visit ends then instead of at h
  time_in_system-departure : (k : JobOf) → m.event ≡ departure k
      → count (is_departure_of k) ms < count (is_visit_of k) ms
      → AllByRecursion (λ x. x.time ≤ m.time) ms → m.time ≤ h
      → time_in_system h (ms ++ m ∷ []) + (h - m.time) ≡ time_in_system h ms
  time_in_system-departure k is before later early =
      let push = time_in_system-push in
      let n : ℕ = count (is_departure_of k) ms in
      let less = total-less time_before time_now (is_nth_visit k n) (h - m.time) (visits ms)
      (all_weaker (λ v. v.time ≤ m.time)
      (λ v. time_now v + one_if (is_nth_visit k n v) * (h - m.time) ≡ time_before v) (visits ms)
      (λ v came. shorter h ms m k is early v came) (visits_after-until m.time [] ms later)) in
      let nth_one = nth_visits-one k n [] ms (omega arith) (omega (arith, before)) in
      let one : length (filter (is_nth_visit k n) (visits ms)) * (h - m.time) ≡ h - m.time =
      ap (λ i. i * (h - m.time)) nth_one ∙ omega arith in
      let new : total (map time_now begins) ≡ 0 =
      ap (λ vs. total (map time_now vs)) (ap (λ e. new_visit (visitors_after [] ms) e m.time) is) in
      omega (arith, push, less, one, new)

-- ---- the rules of a queue

module _ {servers : ℕ} where
  -- each visitor has departed or is in the system
  pub conserved : {ms : List Moment} → IsQueue servers ms → departure_count ms + last_in_system 0 ms ≡ visit_count ms
  conserved opened = refl
  conserved (goes_on {before = ms} m q is f) =
      subst (λ l. departure_count l + last_in_system 0 l ≡ visit_count l) (sym is)
      (ap (λ n. departure_count (ms ++ m ∷ []) + n) (last_in_system-push 0 ms m) ∙ f.conserved)

  -- no job departed more often than it visited
  matched : {ms : List Moment} → IsQueue servers ms → (j : JobOf)
      → count (is_departure_of j) ms ≤ count (is_visit_of j) ms
  matched opened j = omega arith
  matched (goes_on {before = ms} m q is f) j =
      subst (λ l. count (is_departure_of j) l ≤ count (is_visit_of j) l) (sym is) (f.matched j)

-- a queue without moments has no job in the system
present-none : (h : ℕ) → present h [] ≡ 0
present-none zero = refl
present-none (suc h) = let rest = present-none h in omega (arith, rest)

module _ {servers : ℕ} (h : ℕ) (ms : List Moment) (m : Moment) (q : IsQueue servers ms) (f : Follows servers ms m)
    (early : m.time ≤ h) (before : present h ms ≡ time_in_system h ms) where
  -- one moment more keeps the law, by its event: from then to h the number in the system changes by 1 or stays
  little-push_by : (e : Event) → m.event ≡ e → (d : ℕ) → d ≡ h - m.time
      → present h (ms ++ m ∷ []) ≡ present m.time ms + d * in_system m
      → present h ms ≡ present m.time ms + d * last_in_system 0 ms
      → in_system m + one_if (is_departure e) ≡ last_in_system 0 ms + one_if (is_visit e)
      → present h (ms ++ m ∷ []) ≡ time_in_system h (ms ++ m ∷ [])
  little-push_by (visit j) is d to now still balance =
      let longer = time_in_system-visit h ms m j is (matched q j) in
      let more : d * in_system m ≡ d * last_in_system 0 ms + d =
      ap (λ n. d * n) (let one : in_system m ≡ suc (last_in_system 0 ms) = omega (arith, balance) in one)
      ∙ mul-suc d (last_in_system 0 ms) in
      omega (arith, longer, more, now, still, before, to)
  little-push_by (departure k) is d to now still balance =
      let gone = count-push (is_departure_of k) ms m
      ∙ ap (λ b. count (is_departure_of k) ms + one_if b) (ap (is_departure_of k) is ∙ same_job-itself k) in
      let come = count-push (is_visit_of k) ms m
      ∙ ap (λ b. count (is_visit_of k) ms + one_if b) (ap (is_visit_of k) is) in
      let both = f.matched k in
      let shorter = time_in_system-departure h ms m k is (omega (arith, gone, come, both)) f.later early in
      let less : d * last_in_system 0 ms ≡ d * in_system m + d =
      ap (λ n. d * n) (let one : last_in_system 0 ms ≡ suc (in_system m) = omega (arith, balance) in one)
      ∙ mul-suc d (in_system m) in
      omega (arith, shorter, less, now, still, before, to)
  little-push_by loss is d to now still balance =
      let same = time_in_system-idle h ms m loss is (λ j. refl) refl in
      let product : d * in_system m ≡ d * last_in_system 0 ms = ap (λ n. d * n) (omega (arith, balance)) in
      omega (arith, same, product, now, still, before)
  little-push_by change is d to now still balance =
      let same = time_in_system-idle h ms m change is (λ j. refl) refl in
      let product : d * in_system m ≡ d * last_in_system 0 ms = ap (λ n. d * n) (omega (arith, balance)) in
      omega (arith, same, product, now, still, before)
  little-push_by other is d to now still balance =
      let same = time_in_system-idle h ms m other is (λ j. refl) refl in
      let product : d * in_system m ≡ d * last_in_system 0 ms = ap (λ n. d * n) (omega (arith, balance)) in
      omega (arith, same, product, now, still, before)

  -- one moment more keeps the law
  little-push : present h (ms ++ m ∷ []) ≡ time_in_system h (ms ++ m ∷ [])
  little-push =
      let d : ℕ = h - m.time in
      let whole : m.time + d ≡ h = omega (arith, early) in
      let old = conserved q in
      let new = f.conserved in
      let gone = count-push is_departure ms m in
      let come = count-push is_visit ms m in
      little-push_by m.event refl d refl
      (ap (λ n. present n (ms ++ m ∷ [])) (sym whole) ∙ present-push ms m d)
      (ap (λ n. present n ms) (sym whole) ∙ present-later ms m.time d f.later)
      (omega (arith, old, new, gone, come))

-- Little's law: the number in the system, summed over time, is the time in the system, summed over all visits
pub little : {servers : ℕ} {ms : List Moment} (h : ℕ) → IsQueue servers ms → AllByRecursion (λ x. x.time ≤ h) ms
    → present h ms ≡ time_in_system h ms
little h opened all = present-none h
little h (goes_on {before = ms} m q is f) all =
    let parts = all_pop (λ x. x.time ≤ h) ms m (subst (AllByRecursion (λ x. x.time ≤ h)) is all) in
    subst (λ l. present h l ≡ time_in_system h l) (sym is) (little-push h ms m q f parts.1 (little h q parts.0))
