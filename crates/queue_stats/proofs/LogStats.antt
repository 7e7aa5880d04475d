-- A queue's log meets the conditions of the walks along it, and their results are the statistics of the log.
use Rattle.std.proofs.Common.{◌≡◌, ℕ, suc, ◌<◌, ◌≤◌, List, [], ◌∷◌, ◌++◌, Bool, true, false, length, refl, sym, ap, ◌∙◌}
use Rattle.std.proofs.Common.{subst, arith, length-append, cond, ◌&&◌, ◌==◌, if◌then◌else◌, Option, Some, None}
use Rattle.std.proofs.Common.{eqb-true, IsSome}
use Rattle.std.specs.List.{AllByRecursion, filter}
use Rattle.std.proofs.lemmas.Bool.{and_parts, false≢true}
use Rattle.sim_base.specs.declared.limits.TheConstants.{MAX_HANDLED}
use Rattle.sim_base.specs.declared.entry.Entry.{Entry}
use Rattle.sim_base.specs.declared.entry.Line.{Line}
use Rattle.sim_base.specs.declared.message.Msg.{Msg}
use Rattle.sim_base.proofs.ListLaws.{all_weaker, all_pop}
use Rattle.net_model.specs.declared.limits.TheConstants.{MAX_HORIZON}
use Rattle.queue_stats.specs.declared.tally.Tally.{Tally}
use Rattle.queue_stats.specs.declared.waits.Waits.{Waits}
use Rattle.queue_stats.specs.declared.stats.Stats.{Stats}
use Rattle.queue_stats.specs.Moments.{Event, Moment, in_system, moments_after, moments, lost_in, is_visit, is_change}
use Rattle.queue_stats.specs.Figures.{count, present, waits, total, time_in_system, loss_count, arrival_count}
use Rattle.queue_stats.specs.Figures.{departure_count, most_waiting}
use Rattle.queue_stats.specs.Queues.{IsQueue, opened, goes_on, IsServerQueue}
use Rattle.queue_stats.specs.Lindley.{IsLindley}
use Rattle.queue_stats.specs.Tallies.{IsWithinLimits, tally_along, with_entry, empty_tally}
use Rattle.queue_stats.specs.Trails.{waits_along_log}
use Rattle.queue_stats.specs.Stats.{stats, reports_waits, waits_summary}
use Rattle.queue_stats.proofs.Little.{little}
use Rattle.queue_stats.proofs.Lindley.{lindley}
use Rattle.queue_stats.proofs.TallyLimits.{MayAddAll, may_add_all-rest}
use Rattle.queue_stats.proofs.TallyFigures.{tally_along-arrived, tally_along-lost, tally_along-done}
use Rattle.queue_stats.proofs.TallyFigures.{tally_along-changes, tally_along-most, area_until, area_until-present}
use Rattle.queue_stats.proofs.WaitTrails.{waits_along-all}

-- ---- the limits of a queue's log

-- at most all moments count
count-le : (p : Event → Bool) (ms : List Moment) → count p ms ≤ length ms
count-le p [] = omega arith
count-le p (m ∷ ms) = by (p m.event) (count-le p ms)
  where
    by : (b : Bool) → count p ms ≤ length ms
        → length (cond b (m ∷ filter (λ m. p m.event) ms) (filter (λ m. p m.event) ms)) ≤ suc (length ms)
    by true rest = omega (arith, rest)
    by false rest = omega (arith, rest)

-- the moments are at time t or later, in order of time, and their times and numbers in the system are within the limits
abbrev AreWithinLimits : ℕ → List Moment → Type 0
AreWithinLimits t [] = Unit {0}
AreWithinLimits t (m ∷ ms) = (t ≤ m.time) × (m.time ≤ MAX_HORIZON) × (in_system m ≤ MAX_HANDLED)
    × AreWithinLimits m.time ms

-- one moment more
within_limits-push : (t : ℕ) (ms : List Moment) (m : Moment) → AreWithinLimits t ms → t ≤ m.time
    → AllByRecursion (λ x. x.time ≤ m.time) ms → m.time ≤ MAX_HORIZON → in_system m ≤ MAX_HANDLED
    → AreWithinLimits t (ms ++ m ∷ [])
within_limits-push t [] m within low all early number = (low, early, number, tt)
within_limits-push t (x ∷ xs) m within low all early number = (
  within.0,
  within.1,
  within.2,
  within_limits-push x.time xs m within.3 all.0 all.1 early number,
)

-- the moments of a queue are within the limits
queue-within_limits : {servers : ℕ} {ms : List Moment} → IsQueue servers ms
    → AllByRecursion (λ x. x.time ≤ MAX_HORIZON) ms → length ms ≤ MAX_HANDLED → AreWithinLimits 0 ms
queue-within_limits opened early short = tt
queue-within_limits {servers} (goes_on {before = ms} m q is f) early short =
    let parts = all_pop (λ x. x.time ≤ MAX_HORIZON) ms m
    (subst (AllByRecursion (λ x. x.time ≤ MAX_HORIZON)) is early) in
    let long : length (ms ++ m ∷ []) ≤ MAX_HANDLED = subst (λ l. length l ≤ MAX_HANDLED) is short in
    let more = length-append ms (m ∷ []) in
    let kept = f.conserved in
    let visits = count-le is_visit (ms ++ m ∷ []) in
    subst (AreWithinLimits 0) (sym is)
    (within_limits-push 0 ms m (queue-within_limits q parts.0 (omega (arith, long, more))) (omega arith) f.later
    parts.1 (omega (arith, kept, visits, long)))

-- the entries are within the limits if their moments are
entries-within_limits : (t before : ℕ) (es : List (Entry Msg Line)) → AreWithinLimits t (moments_after before es)
    → IsWithinLimits t es
entries-within_limits t before [] within = tt
entries-within_limits t before (e ∷ es) within = (
  within.0,
  within.1,
  within.2,
  entries-within_limits e.msg.key.time (lost_in e.line) es within.3,
)

-- there is one moment for each entry
moments-length : (before : ℕ) (es : List (Entry Msg Line)) → length (moments_after before es) ≡ length es
moments-length before [] = refl
moments-length before (e ∷ es) = ap suc (moments-length (lost_in e.line) es)

module _ (single : Bool) (h : ℕ) (log : List (Entry Msg Line)) (q : IsServerQueue single h log)
    (early : h ≤ MAX_HORIZON) (short : length log ≤ MAX_HANDLED) where
  -- the log is within the limits
  pub log-within_limits : IsWithinLimits 0 log
  log-within_limits =
      let long = moments-length 0 log in
      entries-within_limits 0 0 log (queue-within_limits q.queue
      (all_weaker (λ x. x.time < h) (λ x. x.time ≤ MAX_HORIZON) (moments log) (λ x l. omega (arith, l, early))
      q.time_max) (omega (arith, long, short)))

  -- no moment is after h
  pub all-until_end : AllByRecursion (λ x. x.time ≤ h) (moments log)
  all-until_end =
      all_weaker (λ x. x.time < h) (λ x. x.time ≤ h) (moments log) (λ x l. omega (arith, l)) q.time_max

  -- ---- the sums of the log

  -- the limits hold along a walk
  may_add_all-along : (t : Tally) (es : List (Entry Msg Line)) → MayAddAll t es → MayAddAll (tally_along t es) []
  may_add_all-along t [] may = may
  may_add_all-along t (e ∷ es) may = may_add_all-along (with_entry t e) es (may_add_all-rest t e es may)

  -- they hold of the whole log
  pub may_add_all-log : MayAddAll (tally_along empty_tally log) []
  may_add_all-log = may_add_all-along empty_tally log (record {
    arrived = omega (arith, short);
    lost = omega (arith, short);
    done = omega (arith, short);
    changes = omega (arith, short);
    in_system = omega arith;
    area = omega arith;
    within_limits = log-within_limits;
  })

  -- the last entry of a walk is at h or earlier
  last_time-along : (t : Tally) (es : List (Entry Msg Line)) → t.last_time ≤ h
      → AllByRecursion (λ x. x.time ≤ h) (moments_after t.last_lost es) → (tally_along t es).last_time ≤ h
  last_time-along t [] low all = low
  last_time-along t (e ∷ es) low all = last_time-along (with_entry t e) es all.0 all.1

  -- the last entry of the log is at h or earlier
  pub last_time-log : (tally_along empty_tally log).last_time ≤ h
  last_time-log = last_time-along empty_tally log (omega arith) all-until_end

  -- ---- the laws

  -- Little's law
  pub little-log : present h (moments log) ≡ time_in_system h (moments log)
  little-log = little h q.queue all-until_end

  -- the queue of one server in which no parameter changed and no job was lost
  record IsSingle : Type 0 where
    queue : IsQueue 1 (moments log)
    unchanged : count is_change (moments log) ≡ 0
    none : loss_count (moments log) ≡ 0

  -- if waits are reported, the queue is such a queue
  single-reported : reports_waits single (moments log) ≡ true → IsSingle
  single-reported is =
      let a = and_parts single (count is_change (moments log) == 0 && loss_count (moments log) == 0) is in
      let b = and_parts (count is_change (moments log) == 0) (loss_count (moments log) == 0) a.1 in
      record {
        queue = subst (λ n. IsQueue n (moments log)) (q.one a.0) q.queue;
        unchanged = eqb-true (count is_change (moments log)) 0 b.0;
        none = eqb-true (loss_count (moments log)) 0 b.1;
      }

  -- Lindley's equation
  pub lindley-log : IsSome (stats single h log).waits → IsLindley (moments log)
  lindley-log = by (reports_waits single (moments log)) refl
    where
      by : (b : Bool) → reports_waits single (moments log) ≡ b
          → IsSome (if b then Some (waits_summary (waits (moments log))) else None) → IsLindley (moments log)
      by true is some = let a = single-reported is in lindley a.queue a.unchanged
      by false is some = absurd (false≢true some)

  -- ---- the statistics

  -- waits with these figures
  abbrev waits_with : ℕ → ℕ → Waits
  waits_with waited longest = record { waited = waited; longest = longest }

  -- if waits are reported, the second walk finds them
  waits-reported : (b : Bool) → reports_waits single (moments log) ≡ b
      → (if b then Some (waits_along_log log) else None)
      ≡ (if b then Some (waits_summary (waits (moments log))) else None)
  waits-reported true is =
      let a = single-reported is in
      let s = waits_along-all log a.queue a.unchanged a.none in
      ap Some (ap (λ n. waits_with n (waits_along_log log).longest) s.waited
      ∙ ap (λ n. waits_with (total (waits (moments log))) n) s.longest)
  waits-reported false is = refl

  -- statistics with these figures
  abbrev stats_with : ℕ → ℕ → ℕ → ℕ → ℕ → Option Waits → Stats
  stats_with a l d m p w = record { arrived = a; lost = l; done = d; most = m; present = p; waits = w }

  -- the statistics that a tally, an area and waits make
  abbrev pub stats_from : Tally → ℕ → Option Waits → Stats
  stats_from t present waits = stats_with t.arrived t.lost t.done t.most present waits

  -- the results of the walks are the statistics of the log
  pub stats_from-is : (t : Tally) (p : ℕ) (w : Option Waits) → t ≡ tally_along empty_tally log → p ≡ area_until h t
      → w ≡ (if single && (t.changes == 0 && t.lost == 0) then Some (waits_along_log log) else None)
      → stats_from t p w ≡ stats single h log
  stats_from-is t p w is area ws =
      let ms : List Moment = moments log in
      let a : t.arrived ≡ arrival_count ms =
      ap (λ (t : Tally). t.arrived) is ∙ tally_along-arrived empty_tally log ∙ omega arith in
      let l : t.lost ≡ loss_count ms = ap (λ (t : Tally). t.lost) is ∙ tally_along-lost empty_tally log ∙ omega arith in
      let d : t.done ≡ departure_count ms =
      ap (λ (t : Tally). t.done) is ∙ tally_along-done empty_tally log ∙ omega arith in
      let g : t.changes ≡ count is_change ms =
      ap (λ (t : Tally). t.changes) is ∙ tally_along-changes empty_tally log ∙ omega arith in
      let m : t.most ≡ most_waiting ms =
      ap (λ (t : Tally). t.most) is ∙ tally_along-most empty_tally log ∙ omega arith in
      let pr : p ≡ present h ms =
      area ∙ ap (area_until h) is ∙ area_until-present h log log-within_limits all-until_end in
      let wt : w ≡ (stats single h log).waits = ws
      ∙ ap (λ n. if single && (n == 0 && t.lost == 0) then Some (waits_along_log log) else None) g
      ∙ ap (λ n. if single && (count is_change ms == 0 && n == 0) then Some (waits_along_log log) else None) l
      ∙ waits-reported (reports_waits single ms) refl in
      ap (λ n. stats_with n t.lost t.done t.most p w) a
      ∙ ap (λ n. stats_with (arrival_count ms) n t.done t.most p w) l
      ∙ ap (λ n. stats_with (arrival_count ms) (loss_count ms) n t.most p w) d
      ∙ ap (λ n. stats_with (arrival_count ms) (loss_count ms) (departure_count ms) n p w) m
      ∙ ap (λ n. stats_with (arrival_count ms) (loss_count ms) (departure_count ms) (most_waiting ms) n w) pr
      ∙ ap (λ o. stats_with (arrival_count ms) (loss_count ms) (departure_count ms) (most_waiting ms) (present h ms) o)
      wt
