-- A watch that needs more waiting jobs than there are is not due.
use Rattle.std.proofs.Common.{◌≡◌, ℕ, zero, suc, ◌+◌, ◌<◌, ◌≤◌, ◌&&◌, List, [], ◌∷◌, false, cond, Some, None}
use Rattle.std.proofs.Common.{inl, inr}
use Rattle.std.proofs.Common.{refl, sym, ap, ◌∙◌, subst, arith, drop, length, slice_set}
use Rattle.std.specs.Prelude.{nat_le, slice_get}
use Rattle.std.proofs.Math.Bool.{and-false}
use Rattle.std.proofs.lemmas.Bool.{cases_lt, lt-leb}
use Rattle.std.specs.Cmp.{nat_cmp_is}
use Rattle.std.specs.Ordering.{is_lt, nat_cmp, ord_max}
use Rattle.std.specs.declared.cmp.Ordering.TheVariants.{Equal, Greater, Less}
use Rattle.sim_base.specs.Clones.{clone_at}
use Rattle.sim_base.specs.declared.entry.Entry.{Entry}
use Rattle.sim_base.specs.declared.entry.Line.{Line}
use Rattle.sim_base.specs.declared.entry.Line.TheVariants.{Server, Source, Passed, Sink}
use Rattle.sim_base.specs.declared.message.Msg.{Msg}
use Rattle.stations.specs.Runs.{log_at}
use Rattle.watch_points.specs.Due.{due_in}
use Rattle.world_core.specs.Worlds.{WorldView}
use Rattle.watch_points.specs.Progress.{source_place}
use Rattle.watch_points.specs.Peaks.{IsPeak, IsPeakFrom, NoMoreWait, waiting_jobs}
use Rattle.watch_points.specs.Triggers.{enough_wait, time_of}
use Rattle.watch_points.specs.Watchers.{IsPassing, WatcherView, progress_of}
use Rattle.watch_points.specs.declared.peak.Peak.{Peak}
use Rattle.watch_points.specs.declared.watcher.ActiveWatch.{ActiveWatch}
use Rattle.watch_points.specs.declared.watcher.Progress.TheVariants.{Waiting}
use Rattle.watch_points.proofs.MadeBranch.{waiting-passing}

-- ---- NoMoreWait

-- nor in the entries that are left after some
NoMoreWait-drop_all : (most n : ℕ) (es : List (Entry Msg Line)) → NoMoreWait most es → NoMoreWait most (drop n es)
NoMoreWait-drop_all most zero es h = h
NoMoreWait-drop_all most (suc n) [] h = h
NoMoreWait-drop_all most (suc n) (e ∷ es) h = NoMoreWait-drop_all most n es h.1

-- nor from a later place on
NoMoreWait-drop : (most from seen : ℕ) (es : List (Entry Msg Line)) → from ≤ seen →
    NoMoreWait most (drop from es) → NoMoreWait most (drop seen es)
NoMoreWait-drop most zero seen es l h = NoMoreWait-drop_all most seen es h
NoMoreWait-drop most (suc from) zero es l h = absurd (omega (arith, l))
NoMoreWait-drop most (suc from) (suc seen) [] l h = h
NoMoreWait-drop most (suc from) (suc seen) (e ∷ es) l h = NoMoreWait-drop most from seen es (omega (arith, l)) h

-- ---- ord_max

-- a bound of the greater one is a bound of both
pub ord_max-both : (a b m : ℕ) → ord_max nat_cmp a b ≤ m → (a ≤ m) × (b ≤ m)
ord_max-both a b m h = elim (cases_lt b a) [
  | inl l ↦ (let is : ord_max nat_cmp a b ≡ a = ap (λ o. cond (is_lt o) a b) (sym (nat_cmp_is b a Less l)) in
      (omega (arith, h, is), omega (arith, h, is, l)))
  | inr l ↦ elim (cases_lt a b) [
    | inl k ↦ (let is : ord_max nat_cmp a b ≡ b = ap (λ o. cond (is_lt o) a b) (sym (nat_cmp_is b a Greater k)) in
        (omega (arith, h, is, k), omega (arith, h, is)))
    | inr k ↦ (let same : b ≡ a = omega (arith, l, k) in
        let is : ord_max nat_cmp a b ≡ b = ap (λ o. cond (is_lt o) a b) (sym (nat_cmp_is b a Equal same)) in
        (omega (arith, h, is, l), omega (arith, h, is)))
  ]
]

-- ---- slice_set

-- an element is replaced by itself
slice_set-same : {X : Type 0} (xs : List X) (i : ℕ) (x : X) → slice_get xs i ≡ Some x → slice_set xs i x ≡ xs
slice_set-same [] i x e = refl
slice_set-same (y ∷ xs) zero x e = let is : y ≡ x = cc in ap (λ z. z ∷ xs) (sym is)
slice_set-same (y ∷ xs) (suc i) x e = ap (λ ys. y ∷ ys) (slice_set-same xs i x e)

-- ---- due_in

-- fewer jobs than the least number are not enough
enough_wait-no : (least most : ℕ) (n : Line) → most < least → waiting_jobs n ≤ most → enough_wait least n ≡ false
enough_wait-no least most (Server busy wait done lost) l m = lt-leb least wait (omega (arith, l, m))
enough_wait-no least most (Source sent) l m = refl
enough_wait-no least most (Passed passed) l m = refl
enough_wait-no least most (Sink got stay) l m = refl

-- if no more jobs wait, nothing is due
due_in-no_more : (least most start : ℕ) (es : List (Entry Msg Line)) → most < least → NoMoreWait most es →
    due_in time_of (enough_wait least) start es ≡ None
due_in-no_more least most start [] l h = refl
due_in-no_more least most start (e ∷ es) l h =
    ap (λ b. cond b (Some (time_of e.msg)) (due_in time_of (enough_wait least) start es))
    (ap (λ b. nat_le start (time_of e.msg) && b) (enough_wait-no least most e.line l h.0)
    ∙ and-false (nat_le start (time_of e.msg)))
    ∙ due_in-no_more least most start es l h.1

-- ---- a watch that still waits

module _ (w : WatcherView) (world : WorldView) (i : ℕ) (p : IsPassing w world i) (a : ActiveWatch)
    (here : slice_get w.active i ≡ Some a) (seen : ℕ) (waits : a.progress ≡ Waiting seen) (k start : ℕ)
    (at : source_place (progress_of w.active) a.source ≡ Some (k, start)) (peak : Peak) (is : IsPeak world peak)
    (from : IsPeakFrom k a.station seen peak) (few : peak.most < a.watch.least) where
  -- the log of its clone and its station
  abbrev its_log : List (Entry Msg Line)
  its_log = log_at world.net (clone_at world.clones k) a.station world.front

  peak_log : log_at world.net (clone_at world.clones peak.clone) peak.station world.front ≡ its_log
  peak_log = ap (λ c. log_at world.net (clone_at world.clones c) peak.station world.front) from.clone_is
      ∙ ap (λ s. log_at world.net (clone_at world.clones k) s world.front) from.station_is

  -- no entry that it has not seen makes it due
  not_due : due_in time_of (enough_wait a.watch.least) start (drop seen its_log) ≡ None
  not_due = due_in-no_more a.watch.least peak.most start (drop seen its_log) few
      (NoMoreWait-drop peak.most peak.from seen its_log from.from_max
      (subst (λ l. NoMoreWait peak.most (drop peak.from l)) peak_log is.most))

  -- it has seen all entries now
  pub still_waits-passing : (new : WatcherView) →
      new ≡ record w { active = slice_set w.active i (record a { progress = Waiting peak.len }) } →
      IsPassing new world (i + 1)
  still_waits-passing new changed = waiting-passing w world i p a here new peak.len changed seen waits k start at
      its_log refl not_due (is.len ∙ ap length peak_log)

  -- it had seen all entries before
  pub still_waits-same : seen ≡ peak.len → IsPassing w world (i + 1)
  still_waits-same all =
      let same : record a { progress = Waiting peak.len } ≡ a =
      ap (λ q. record a { progress = q }) (ap Waiting (sym all) ∙ sym waits) in
      still_waits-passing w (sym (ap (λ l. record w { active = l })
      (ap (slice_set w.active i) same ∙ slice_set-same w.active i a here)))
