-- The figures of a queue with one more moment at the end.
use Rattle.std.proofs.Common.{◌≡◌, ℕ, zero, suc, ◌+◌, ◌*◌, ◌<◌, ◌≤◌, List, [], ◌∷◌, ◌++◌, Bool, true, false, cond}
use Rattle.std.proofs.Common.{nat_le, length, map, refl, ap, ◌∙◌, arith, append-nil}
use Rattle.std.specs.List.{AllByRecursion, filter}
use Rattle.std.proofs.lemmas.List.Elements.{filter-append}
use Rattle.std.proofs.lemmas.List.{length-map, map-append}
use Rattle.std.proofs.lemmas.Bool.{le-leb, lt-leb}
use Rattle.std.proofs.Math.Nat.{suc-mul}
use Rattle.sim_base.proofs.ListLaws.{all_weaker}
use Rattle.queue_stats.specs.Moments.{Event, Moment, in_system}
use Rattle.queue_stats.specs.Figures.{one_if, count, times, last_in_system, in_system_at, sum_below, present}
use Rattle.queue_stats.proofs.Lists.{filter-push, filter-cons}

-- ---- count, times

-- one moment more counts if its event passes the test
pub count-push : (p : Event → Bool) (ms : List Moment) (m : Moment)
    → count p (ms ++ m ∷ []) ≡ count p ms + one_if (p m.event)
count-push p ms m = filter-push (λ m. p m.event) ms m

-- the same for one moment more in front
pub count-cons : (p : Event → Bool) (m : Moment) (ms : List Moment)
    → count p (m ∷ ms) ≡ one_if (p m.event) + count p ms
count-cons p m ms = filter-cons (λ m. p m.event) m ms

-- the times of a list of at most one moment
times-if : (b : Bool) (m : Moment) → map (λ m. m.time) (cond b (m ∷ []) []) ≡ cond b (m.time ∷ []) []
times-if true m = refl
times-if false m = refl

-- one moment more adds its time if its event passes the test
pub times-push : (p : Event → Bool) (ms : List Moment) (m : Moment)
    → times p (ms ++ m ∷ []) ≡ times p ms ++ cond (p m.event) (m.time ∷ []) []
times-push p ms m =
    ap (map (λ m. m.time)) (filter-append (λ m. p m.event) ms (m ∷ []))
    ∙ map-append (λ m. m.time) (filter (λ m. p m.event) ms) (cond (p m.event) (m ∷ []) [])
    ∙ ap (λ l. times p ms ++ l) (times-if (p m.event) m)

-- the same for one moment more in front
pub times-cons : (p : Event → Bool) (m : Moment) (ms : List Moment)
    → times p (m ∷ ms) ≡ cond (p m.event) (m.time ∷ []) [] ++ times p ms
times-cons p m ms = by (p m.event)
  where
    by : (b : Bool) → map (λ m. m.time) (cond b (m ∷ filter (λ m. p m.event) ms) (filter (λ m. p m.event) ms))
        ≡ cond b (m.time ∷ []) [] ++ times p ms
    by true = refl
    by false = refl

-- there is one time for each moment that counts
pub times-length : (p : Event → Bool) (ms : List Moment) → length (times p ms) ≡ count p ms
times-length p ms = length-map (filter (λ m. p m.event) ms) (λ m. m.time)

-- ---- last_wait, last_in_system

-- the number of jobs that wait after the last moment, or n if there is no moment
abbrev pub last_wait : ℕ → List Moment → ℕ
last_wait n [] = n
last_wait n (m ∷ ms) = last_wait m.wait ms

-- the number waiting after one moment more
pub last_wait-push : (n : ℕ) (ms : List Moment) (m : Moment) → last_wait n (ms ++ m ∷ []) ≡ m.wait
last_wait-push n [] m = refl
last_wait-push n (x ∷ xs) m = last_wait-push x.wait xs m

-- the number in the system after one moment more
pub last_in_system-push : (n : ℕ) (ms : List Moment) (m : Moment) → last_in_system n (ms ++ m ∷ []) ≡ in_system m
last_in_system-push n [] m = refl
last_in_system-push n (x ∷ xs) m = last_in_system-push (in_system x) xs m

-- ---- in_system_at, present

-- from its time on, one moment more decides the number in the system
in_system_at-push_from : (ms : List Moment) (m : Moment) (u : ℕ) → m.time ≤ u
    → in_system_at (ms ++ m ∷ []) u ≡ in_system m
in_system_at-push_from ms m u le =
    ap (last_in_system 0) (filter-append (λ x. nat_le x.time u) ms (m ∷ []))
    ∙ ap (λ b. last_in_system 0 (filter (λ x. nat_le x.time u) ms ++ cond b (m ∷ []) [])) (le-leb m.time u le)
    ∙ last_in_system-push 0 (filter (λ x. nat_le x.time u) ms) m

-- before its time, one moment more changes nothing
in_system_at-push_before : (ms : List Moment) (m : Moment) (u : ℕ) → u < m.time
    → in_system_at (ms ++ m ∷ []) u ≡ in_system_at ms u
in_system_at-push_before ms m u lt =
    ap (last_in_system 0) (filter-append (λ x. nat_le x.time u) ms (m ∷ []))
    ∙ ap (λ b. last_in_system 0 (filter (λ x. nat_le x.time u) ms ++ cond b (m ∷ []) [])) (lt-leb m.time u lt)
    ∙ ap (last_in_system 0) (append-nil (filter (λ x. nat_le x.time u) ms))

-- if no moment is later than a time, the last moment decides the number then
in_system_at-last : (n : ℕ) (ms : List Moment) (u : ℕ) → AllByRecursion (λ x. x.time ≤ u) ms
    → last_in_system n (filter (λ x. nat_le x.time u) ms) ≡ last_in_system n ms
in_system_at-last n [] u all = refl
in_system_at-last n (m ∷ ms) u all =
    ap (λ b. last_in_system n (cond b (m ∷ filter (λ x. nat_le x.time u) ms) (filter (λ x. nat_le x.time u) ms)))
    (le-leb m.time u all.0)
    ∙ in_system_at-last (in_system m) ms u all.1

-- functions that are equal below a time have equal sums
sum_below-same : (f g : ℕ → ℕ) (t : ℕ) → ((u : ℕ) → u < t → f u ≡ g u) → sum_below f t ≡ sum_below g t
sum_below-same f g zero same = refl
sum_below-same f g (suc t) same =
    let rest = sum_below-same f g t (λ u l. same u (omega arith)) in
    let last = same t (omega arith) in
    omega (arith, rest, last)

-- a function that is constant from a time on adds a product
sum_below-flat : (f : ℕ → ℕ) (t d n : ℕ) → ((u : ℕ) → t ≤ u → f u ≡ n) → sum_below f (t + d) ≡ sum_below f t + d * n
sum_below-flat f t zero n flat = let same : t + 0 ≡ t = omega arith in ap (sum_below f) same ∙ omega arith
sum_below-flat f t (suc d) n flat =
    let same : t + suc d ≡ suc (t + d) = omega arith in
    let rest = sum_below-flat f t d n flat in
    let last = flat (t + d) (omega arith) in
    let product = suc-mul d n in
    ap (sum_below f) same ∙ omega (arith, rest, last, product)

-- the number in the system summed over time, until d time units after one moment more
pub present-push : (ms : List Moment) (m : Moment) (d : ℕ) →
    present (m.time + d) (ms ++ m ∷ []) ≡ present m.time ms + d * in_system m
present-push ms m d =
    let flat = sum_below-flat (in_system_at (ms ++ m ∷ [])) m.time d (in_system m) (in_system_at-push_from ms m) in
    let same = sum_below-same (in_system_at (ms ++ m ∷ [])) (in_system_at ms) m.time (in_system_at-push_before ms m) in
    omega (arith, flat, same)

-- after the last moment the number in the system stays the same
pub present-later : (ms : List Moment) (t d : ℕ) → AllByRecursion (λ x. x.time ≤ t) ms →
    present (t + d) ms ≡ present t ms + d * last_in_system 0 ms
present-later ms t d all = sum_below-flat (in_system_at ms) t d (last_in_system 0 ms)
    (λ u le. in_system_at-last 0 ms u (all_weaker (λ x. x.time ≤ t) (λ x. x.time ≤ u) ms (λ x b. omega arith) all))
