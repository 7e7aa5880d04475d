-- The sums of a walk along a log are the figures of its moments.
use Rattle.std.proofs.Common.{◌≡◌, ℕ, zero, suc, ◌+◌, ◌-◌, ◌*◌, ◌<◌, ◌≤◌, List, [], ◌∷◌, Bool, true, false}
use Rattle.std.proofs.Common.{if◌then◌else◌, cond, nat_lt, nat_le, refl, sym, ap, ◌∙◌, subst, arith, ◌||◌, ◌&&◌, max}
use Rattle.std.specs.List.{AllByRecursion, filter}
use Rattle.std.proofs.lemmas.Bool.{le-leb, lt-leb}
use Rattle.std.proofs.Math.Nat.{suc-mul, add-mul}
use Rattle.sim_base.proofs.ListLaws.{all_weaker}
use Rattle.sim_base.specs.declared.entry.Entry.{Entry}
use Rattle.sim_base.specs.declared.entry.Line.{Line}
use Rattle.sim_base.specs.declared.message.Msg.{Msg}
use Rattle.sim_base.specs.declared.message.Payload.{Payload}
use Rattle.sim_base.specs.declared.message.Payload.TheVariants.{Tick, Job, Done, Set}
use Rattle.queue_stats.specs.declared.tally.Tally.{Tally}
use Rattle.queue_stats.specs.Moments.{visit, loss, Moment, in_system, event_of, moment_of, moments_after, moments}
use Rattle.queue_stats.specs.Moments.{lost_in, is_visit, is_loss, is_departure, is_change}
use Rattle.queue_stats.specs.Figures.{one_if, count, arrival_count, loss_count, departure_count, most_waiting}
use Rattle.queue_stats.specs.Figures.{last_in_system, sum_below, present}
use Rattle.queue_stats.specs.Tallies.{is_job, is_done, is_set, with_entry, tally_along, empty_tally, IsWithinLimits}
use Rattle.queue_stats.proofs.Pushes.{count-cons}

-- ---- the events of messages

-- a job that arrives is a visit or a loss
is_job-is : (p : Payload) (before now : ℕ)
    → is_job p ≡ (is_visit (event_of p before now) || is_loss (event_of p before now))
is_job-is (Job j) before now = by (nat_lt before now)
  where
    by : (b : Bool) → true ≡ (is_visit (if b then loss else visit j) || is_loss (if b then loss else visit j))
    by true = refl
    by false = refl
is_job-is (Done j) before now = refl
is_job-is (Set c) before now = refl
is_job-is Tick before now = refl

-- a job that arrives as the count of lost jobs rises is a loss
is_loss-is : (p : Payload) (before now : ℕ) → (is_job p && nat_lt before now) ≡ is_loss (event_of p before now)
is_loss-is (Job j) before now = by (nat_lt before now)
  where
    by : (b : Bool) → (true && b) ≡ is_loss (if b then loss else visit j)
    by true = refl
    by false = refl
is_loss-is (Done j) before now = refl
is_loss-is (Set c) before now = refl
is_loss-is Tick before now = refl

-- the end of a service is a departure
is_done-is : (p : Payload) (before now : ℕ) → is_done p ≡ is_departure (event_of p before now)
is_done-is (Job j) before now = by (nat_lt before now)
  where
    by : (b : Bool) → false ≡ is_departure (if b then loss else visit j)
    by true = refl
    by false = refl
is_done-is (Done j) before now = refl
is_done-is (Set c) before now = refl
is_done-is Tick before now = refl

-- a set is a change of a parameter
is_set-is : (p : Payload) (before now : ℕ) → is_set p ≡ is_change (event_of p before now)
is_set-is (Job j) before now = by (nat_lt before now)
  where
    by : (b : Bool) → false ≡ is_change (if b then loss else visit j)
    by true = refl
    by false = refl
is_set-is (Done j) before now = refl
is_set-is (Set c) before now = refl
is_set-is Tick before now = refl

-- ---- counts

-- the number of arrivals
pub tally_along-arrived : (t : Tally) (es : List (Entry Msg Line))
    → (tally_along t es).arrived ≡ t.arrived + arrival_count (moments_after t.last_lost es)
tally_along-arrived t [] = omega arith
tally_along-arrived t (e ∷ es) =
    let rest = tally_along-arrived (with_entry t e) es in
    let one = count-cons (λ e. is_visit e || is_loss e) (moment_of t.last_lost e) (moments_after (lost_in e.line) es) in
    let same = ap one_if (is_job-is e.msg.payload t.last_lost (lost_in e.line)) in
    omega (arith, rest, one, same)

-- the number of losses
pub tally_along-lost : (t : Tally) (es : List (Entry Msg Line))
    → (tally_along t es).lost ≡ t.lost + loss_count (moments_after t.last_lost es)
tally_along-lost t [] = omega arith
tally_along-lost t (e ∷ es) =
    let rest = tally_along-lost (with_entry t e) es in
    let one = count-cons is_loss (moment_of t.last_lost e) (moments_after (lost_in e.line) es) in
    let same = ap one_if (is_loss-is e.msg.payload t.last_lost (lost_in e.line)) in
    omega (arith, rest, one, same)

-- the number of departures
pub tally_along-done : (t : Tally) (es : List (Entry Msg Line))
    → (tally_along t es).done ≡ t.done + departure_count (moments_after t.last_lost es)
tally_along-done t [] = omega arith
tally_along-done t (e ∷ es) =
    let rest = tally_along-done (with_entry t e) es in
    let one = count-cons is_departure (moment_of t.last_lost e) (moments_after (lost_in e.line) es) in
    let same = ap one_if (is_done-is e.msg.payload t.last_lost (lost_in e.line)) in
    omega (arith, rest, one, same)

-- the number of changes of parameters
pub tally_along-changes : (t : Tally) (es : List (Entry Msg Line))
    → (tally_along t es).changes ≡ t.changes + count is_change (moments_after t.last_lost es)
tally_along-changes t [] = omega arith
tally_along-changes t (e ∷ es) =
    let rest = tally_along-changes (with_entry t e) es in
    let one = count-cons is_change (moment_of t.last_lost e) (moments_after (lost_in e.line) es) in
    let same = ap one_if (is_set-is e.msg.payload t.last_lost (lost_in e.line)) in
    omega (arith, rest, one, same)

-- the greatest number of jobs that waited
pub tally_along-most : (t : Tally) (es : List (Entry Msg Line))
    → (tally_along t es).most ≡ max t.most (most_waiting (moments_after t.last_lost es))
tally_along-most t [] = omega arith
tally_along-most t (e ∷ es) = let rest = tally_along-most (with_entry t e) es in omega (arith, rest)

-- ---- the area

-- the sum of a function that is constant
sum_below-const : (f : ℕ → ℕ) (t n : ℕ) → ((u : ℕ) → u < t → f u ≡ n) → sum_below f t ≡ t * n
sum_below-const f zero n same = omega arith
sum_below-const f (suc t) n same =
    let rest = sum_below-const f t n (λ u l. same u (omega arith)) in
    let last = same t (omega arith) in
    let product = suc-mul t n in
    omega (arith, rest, last, product)

-- functions that are equal from a time on add the same from then on
sum_below-from : (f g : ℕ → ℕ) (t d : ℕ) → ((u : ℕ) → t ≤ u → f u ≡ g u)
    → sum_below f (t + d) + sum_below g t ≡ sum_below g (t + d) + sum_below f t
sum_below-from f g t zero same =
    let h : t + 0 ≡ t = omega arith in
    let a = ap (sum_below f) h in
    let b = ap (sum_below g) h in
    omega (arith, a, b)
sum_below-from f g t (suc d) same =
    let h : t + suc d ≡ suc (t + d) = omega arith in
    let a = ap (sum_below f) h in
    let b = ap (sum_below g) h in
    let rest = sum_below-from f g t d same in
    let last = same (t + d) (omega arith) in
    omega (arith, a, b, rest, last)

-- if all moments are at t or later, none is before t
filter-later : (ms : List Moment) (t u : ℕ) → AllByRecursion (λ x. t ≤ x.time) ms → u < t
    → filter (λ x. nat_le x.time u) ms ≡ []
filter-later [] t u all low = refl
filter-later (m ∷ ms) t u all low =
    ap (λ b. cond b (m ∷ filter (λ x. nat_le x.time u) ms) (filter (λ x. nat_le x.time u) ms))
    (lt-leb m.time u (let h = all.0 in omega (arith, h, low)))
    ∙ filter-later ms t u all.1 low

-- entries within the limits from a time on have no earlier moment
within_limits-from : (t before : ℕ) (es : List (Entry Msg Line)) → IsWithinLimits t es
    → AllByRecursion (λ x. t ≤ x.time) (moments_after before es)
within_limits-from t before [] within = tt
within_limits-from t before (e ∷ es) within = (
  within.0,
  all_weaker (λ x. e.msg.key.time ≤ x.time) (λ x. t ≤ x.time) (moments_after (lost_in e.line) es)
      (λ x l. let h = within.0 in omega (arith, h, l)) (within_limits-from e.msg.key.time (lost_in e.line) es within.3),
)

-- the number of jobs in the system at a time, if it is n at first
abbrev in_system_from : ℕ → List Moment → ℕ → ℕ
in_system_from n ms u = last_in_system n (filter (λ x. nat_le x.time u) ms)

-- one moment more in front changes the sum up to its time
in_system_from-cons : (n : ℕ) (m : Moment) (ms : List Moment) (d : ℕ) → AllByRecursion (λ x. m.time ≤ x.time) ms
    → sum_below (in_system_from n (m ∷ ms)) (m.time + d) + m.time * in_system m
    ≡ sum_below (in_system_from (in_system m) ms) (m.time + d) + m.time * n
in_system_from-cons n m ms d all =
    let before = sum_below-const (in_system_from n (m ∷ ms)) m.time n
    (λ u l. ap (last_in_system n) (filter-later (m ∷ ms) m.time u (omega arith, all) l)) in
    let after = sum_below-const (in_system_from (in_system m) ms) m.time (in_system m)
    (λ u l. ap (last_in_system (in_system m)) (filter-later ms m.time u all l)) in
    let same = sum_below-from (in_system_from n (m ∷ ms)) (in_system_from (in_system m) ms) m.time d
    (λ u l. ap (λ b. last_in_system n
    (cond b (m ∷ filter (λ x. nat_le x.time u) ms) (filter (λ x. nat_le x.time u) ms))) (le-leb m.time u l)) in
    omega (arith, before, after, same)

-- the area of a walk, with the time from the last entry to h
abbrev pub area_until : ℕ → Tally → ℕ
area_until h t = t.area + (h - t.last_time) * t.in_system

-- the area along some entries is the sum over the times
area_until-along : (h : ℕ) (t : Tally) (es : List (Entry Msg Line)) → IsWithinLimits t.last_time es
    → AllByRecursion (λ x. x.time ≤ h) (moments_after t.last_lost es) → t.last_time ≤ h
    → area_until h (tally_along t es) + t.last_time * t.in_system
    ≡ t.area + sum_below (in_system_from t.in_system (moments_after t.last_lost es)) h
area_until-along h t [] within all early =
    let flat = sum_below-const (in_system_from t.in_system []) h t.in_system (λ u l. refl) in
    let d : ℕ = h - t.last_time in
    let whole : t.last_time + d ≡ h = omega (arith, early) in
    let product : h * t.in_system ≡ t.last_time * t.in_system + d * t.in_system =
    ap (λ n. n * t.in_system) (sym whole) ∙ add-mul t.last_time d t.in_system in
    omega (arith, flat, product)
area_until-along h t (e ∷ es) within all early =
    let m : Moment = moment_of t.last_lost e in
    let now : ℕ = e.msg.key.time in
    let ms : List Moment = moments_after (lost_in e.line) es in
    let low = within.0 in
    let high = all.0 in
    let rest = area_until-along h (with_entry t e) es within.3 all.1 high in
    let whole : now + (h - now) ≡ h = omega (arith, high) in
    let cons = subst (λ k. sum_below (in_system_from t.in_system (m ∷ ms)) k + now * in_system m
    ≡ sum_below (in_system_from (in_system m) ms) k + now * t.in_system) whole
    (in_system_from-cons t.in_system m ms (h - now) (within_limits-from now (lost_in e.line) es within.3)) in
    let d : ℕ = now - t.last_time in
    let until : t.last_time + d ≡ now = omega (arith, low) in
    let product : now * t.in_system ≡ t.last_time * t.in_system + d * t.in_system =
    ap (λ n. n * t.in_system) (sym until) ∙ add-mul t.last_time d t.in_system in
    omega (arith, rest, cons, product)

-- the area of a whole log is the number in the system, summed over all times below h
pub area_until-present : (h : ℕ) (log : List (Entry Msg Line)) → IsWithinLimits 0 log
    → AllByRecursion (λ x. x.time ≤ h) (moments log)
    → area_until h (tally_along empty_tally log) ≡ present h (moments log)
area_until-present h log within all =
    let area = area_until-along h empty_tally log within all (omega arith) in omega (arith, area)
