-- The statistics of a log until another time.
use Rattle.std.proofs.Common.{◌≡◌, ℕ, ◌+◌, ◌-◌, ◌*◌, ◌<◌, ◌≤◌, ◌||◌, List, [], ◌∷◌, length, refl, sym, ap, ◌∙◌}
use Rattle.std.proofs.Common.{subst, arith, ◌⊎◌, inl, inr, Bool}
use Rattle.std.specs.List.{AllByRecursion}
use Rattle.std.proofs.Math.Nat.{add-mul, mul_comm}
use Rattle.std.proofs.lemmas.Nat.{mul-le}
use Rattle.std.proofs.lemmas.Bool.{cases_lt}
use Rattle.sim_base.specs.declared.limits.TheConstants.{MAX_HANDLED}
use Rattle.sim_base.specs.declared.entry.Entry.{Entry}
use Rattle.sim_base.specs.declared.entry.Line.{Line}
use Rattle.sim_base.specs.declared.message.Msg.{Msg}
use Rattle.net_model.specs.declared.limits.TheConstants.{MAX_HORIZON}
use Rattle.net_model.specs.Net.{site_of}
use Rattle.queue_stats.specs.declared.tally.Tally.{Tally}
use Rattle.queue_stats.specs.declared.stats.Stats.{Stats}
use Rattle.queue_stats.specs.Moments.{Event, visit, loss, departure, change, other, Moment, moments, is_visit, is_loss}
use Rattle.queue_stats.specs.Figures.{one_if, visit_count, loss_count, arrival_count, departure_count, present}
use Rattle.queue_stats.specs.Figures.{last_in_system}
use Rattle.queue_stats.specs.Queues.{IsServerQueue}
use Rattle.queue_stats.specs.Tallies.{tally_along, empty_tally}
use Rattle.queue_stats.specs.Laws.{is_single_by_arrival}
use Rattle.queue_stats.specs.Stats.{server_stats}
use Rattle.queue_stats.specs.CommonLogs.{HaveCommonLog}
use Rattle.queue_stats.proofs.Pushes.{count-cons, present-later}
use Rattle.queue_stats.proofs.Little.{conserved}
use Rattle.queue_stats.proofs.TallyFigures.{area_until-present}
use Rattle.queue_stats.proofs.LogStats.{log-within_limits, all-until_end, may_add_all-log, last_time-log}
use Rattle.queue_stats.proofs.ServerLogs.{server_queue, until-le}

-- ---- the number in the system after the last moment

-- an arrival is a visit or a loss
arrival_if : (e : Event) → one_if (is_visit e || is_loss e) ≡ one_if (is_visit e) + one_if (is_loss e)
arrival_if (visit j) = refl
arrival_if loss = refl
arrival_if (departure j) = refl
arrival_if change = refl
arrival_if other = refl

-- arrivals are visits and losses
arrival_count-is : (ms : List Moment) → arrival_count ms ≡ visit_count ms + loss_count ms
arrival_count-is [] = refl
arrival_count-is (m ∷ ms) =
    let rest = arrival_count-is ms in
    let here = arrival_if m.event in
    let arrivals = count-cons (λ e. is_visit e || is_loss e) m ms in
    let visits = count-cons is_visit m ms in
    let losses = count-cons is_loss m ms in
    omega (arith, rest, here, arrivals, visits, losses)

-- ---- the number in the system summed over time

-- from one time to a later one, both after the last moment
present-between : (ms : List Moment) (t u : ℕ) → t ≤ u → AllByRecursion (λ x. x.time ≤ t) ms
    → present u ms ≡ present t ms + (u - t) * last_in_system 0 ms
present-between ms t u le all =
    let is : u ≡ t + (u - t) = omega (arith, le) in
    ap (λ n. present n ms) is ∙ present-later ms t (u - t) all

-- an area is at most a product
area-max : (m a l h n b : ℕ) → a ≤ m * l → l ≤ h → n ≤ m → h ≤ b → a + (h - l) * n ≤ m * b
area-max m a l h n b area low number early =
    let rows = mul-le (h - l) n (h - l) m (omega arith) number in
    let is : l + (h - l) ≡ h = omega (arith, low) in
    let whole : h * m ≡ l * m + (h - l) * m =
    subst (λ x. x * m ≡ l * m + (h - l) * m) is (add-mul l (h - l) m) in
    let top = mul-le h m b m early (omega arith) in
    let left = mul_comm m l in
    let right = mul_comm m b in
    omega (arith, area, rows, whole, top, left, right)

-- the sum is within the limits
present-max : (single : Bool) (h : ℕ) (log : List (Entry Msg Line)) → IsServerQueue single h log → h ≤ MAX_HORIZON
    → length log ≤ MAX_HANDLED → present h (moments log) ≤ MAX_HANDLED * MAX_HORIZON
present-max single h log q early short =
    let t : Tally = tally_along empty_tally log in
    let may = may_add_all-log single h log q early short in
    subst (λ n. n ≤ MAX_HANDLED * MAX_HORIZON)
    (area_until-present h log (log-within_limits single h log q early short)
    (all-until_end single h log q early short))
    (area-max MAX_HANDLED t.area t.last_time h t.in_system MAX_HORIZON may.area
    (last_time-log single h log q early short) may.in_system early)

-- ---- statistics until another time

module _ (stats : Stats) (from until : ℕ) (c : HaveCommonLog stats from until) where
  -- the number in the system after the last of them
  abbrev pub last : ℕ
  last = (stats.arrived - stats.lost) - stats.done

  -- the log is that of a queue until the one time
  from-queue : IsServerQueue (is_single_by_arrival (site_of c.net c.station).kind) from c.log
  from-queue = server_queue c.net c.valid c.station from c.log c.is_station c.of_from c.server

  -- and until the other
  until-queue : IsServerQueue (is_single_by_arrival (site_of c.net c.station).kind) until c.log
  until-queue = server_queue c.net c.valid c.station until c.log c.is_station c.of_until c.server

  -- the one time is within the limits
  from-le : from ≤ MAX_HORIZON
  from-le = until-le c.net c.valid c.station from c.log c.is_station c.of_from

  -- and the other
  until_time-le : until ≤ MAX_HORIZON
  until_time-le = until-le c.net c.valid c.station until c.log c.is_station c.of_until

  -- the log is within the limits
  short : length c.log ≤ MAX_HANDLED
  short = let entries = c.entries_max in let limit = c.valid.limit_max in omega (arith, entries, limit)

  -- the figures are those of the log
  arrived-is : stats.arrived ≡ arrival_count (moments c.log)
  arrived-is = ap (λ (s : Stats). s.arrived) c.is

  lost-is : stats.lost ≡ loss_count (moments c.log)
  lost-is = ap (λ (s : Stats). s.lost) c.is

  done-is : stats.done ≡ departure_count (moments c.log)
  done-is = ap (λ (s : Stats). s.done) c.is

  present-is : stats.present ≡ present from (moments c.log)
  present-is = ap (λ (s : Stats). s.present) c.is

  -- losses are arrivals
  pub lost-le : stats.lost ≤ stats.arrived
  lost-le =
      let a = arrived-is in
      let l = lost-is in
      let all = arrival_count-is (moments c.log) in
      omega (arith, a, l, all)

  -- departures are of arrivals that stayed
  pub done-le : stats.done ≤ stats.arrived - stats.lost
  done-le =
      let a = arrived-is in
      let l = lost-is in
      let d = done-is in
      let all = arrival_count-is (moments c.log) in
      let kept = conserved from-queue.queue in
      omega (arith, a, l, d, all, kept)

  -- the figures have the number in the system
  last-is : last_in_system 0 (moments c.log) ≡ last
  last-is =
      let a = arrived-is in
      let l = lost-is in
      let d = done-is in
      let all = arrival_count-is (moments c.log) in
      let kept = conserved from-queue.queue in
      omega (arith, a, l, d, all, kept)

  -- the sum until a later time
  present-later_is : from ≤ until → present until (moments c.log) ≡ stats.present + (until - from) * last
  present-later_is le =
      present-between (moments c.log) from until le
      (all-until_end (is_single_by_arrival (site_of c.net c.station).kind) from c.log from-queue from-le short)
      ∙ ap (λ n. n + (until - from) * last_in_system 0 (moments c.log)) (sym present-is)
      ∙ ap (λ n. stats.present + (until - from) * n) last-is

  -- the sum until an earlier time
  present-earlier_is : until < from → present until (moments c.log) + (from - until) * last ≡ stats.present
  present-earlier_is lt =
      ap (λ n. present until (moments c.log) + (from - until) * n) (sym last-is)
      ∙ sym (present-between (moments c.log) until from (omega (arith, lt))
      (all-until_end (is_single_by_arrival (site_of c.net c.station).kind) until c.log until-queue until_time-le short))
      ∙ sym present-is

  -- both are within the limits
  pub later-max : from ≤ until → stats.present + (until - from) * last ≤ MAX_HANDLED * MAX_HORIZON
  later-max le = subst (λ n. n ≤ MAX_HANDLED * MAX_HORIZON) (present-later_is le)
      (present-max (is_single_by_arrival (site_of c.net c.station).kind) until c.log until-queue until_time-le short)

  pub earlier-max : until < from → (from - until) * last ≤ stats.present
  earlier-max lt = let is = present-earlier_is lt in omega (arith, is)

  -- these statistics with another sum
  abbrev pub with_present : Stats → ℕ → Stats
  with_present s n = record {
    arrived = s.arrived;
    lost = s.lost;
    done = s.done;
    most = s.most;
    present = n;
    waits = s.waits;
  }

  -- with the sum until the other time they are those until it
  pub with_present-is : (p : ℕ) → (from ≤ until → p ≡ stats.present + (until - from) * last)
      → (until < from → p + (from - until) * last ≡ stats.present)
      → with_present stats p ≡ server_stats c.net c.station until c.log
  with_present-is p later earlier =
      ap (λ n. with_present stats n) sum ∙ ap (λ s. with_present s (present until (moments c.log))) c.is
    where
      sum : p ≡ present until (moments c.log)
      sum = by (cases_lt until from)
        where
          by : (until < from) ⊎ (from ≤ until) → p ≡ present until (moments c.log)
          by (inr le) = later le ∙ sym (present-later_is le)
          by (inl lt) =
              let one = earlier lt in
              let two = present-earlier_is lt in
              omega (arith, one, two)
