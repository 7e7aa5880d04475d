-- The worlds and watchers that the steps of a pass leave, as the code makes them.
use Rattle.std.proofs.Common.{◌≡◌, ℕ, ◌+◌, ◌<◌, ◌≤◌, List, Some, None, refl, sym, ap, ◌∙◌, subst, length}
use Rattle.std.proofs.Common.{drop}
use Rattle.std.proofs.Common.{slice_set}
use Rattle.std.specs.Prelude.{slice_get}
use Rattle.sim_base.specs.Clones.{Clone, clone_at, clones_with_fork, clones_with_plan}
use Rattle.sim_base.specs.declared.entry.Entry.{Entry}
use Rattle.sim_base.specs.declared.entry.Line.{Line}
use Rattle.sim_base.specs.declared.message.Msg.{Msg}
use Rattle.stations.specs.Runs.{log_at}
use Rattle.watch_points.specs.Due.{due_in}
use Rattle.world_core.specs.Worlds.{WorldView}
use Rattle.watch_points.specs.Progress.{source_place}
use Rattle.watch_points.specs.Triggers.{enough_wait, time_of}
use Rattle.watch_points.specs.Watchers.{IsDueInPass, IsPassing, IsStep, WatcherView, progress_of}
use Rattle.watch_points.specs.declared.watcher.ActiveWatch.{ActiveWatch}
use Rattle.watch_points.specs.declared.watcher.Progress.TheVariants.{Made, PastHorizon, Waiting}
use Rattle.watch_points.proofs.PassingWatcher.{changed-watches, due-handled, due-late, due-made, due-script}
use Rattle.watch_points.proofs.PassingWatcher.{watch_waits}
use Rattle.watch_points.proofs.WholePass.{IsStep-of}

-- ---- a watch that waits

module _ (w : WatcherView) (world : WorldView) (i : ℕ) (p : IsPassing w world i) (a : ActiveWatch)
    (here : slice_get w.active i ≡ Some a) (new : WatcherView) (n : ℕ)
    (is : new ≡ record w { active = slice_set w.active i (record a { progress = Waiting n }) }) where
  -- it has read all entries, and is not due
  pub waiting-passing : (seen : ℕ) → a.progress ≡ Waiting seen → (k start : ℕ) →
      source_place (progress_of w.active) a.source ≡ Some (k, start) → (log : List (Entry Msg Line)) →
      log ≡ log_at world.net (clone_at world.clones k) a.station world.front →
      due_in time_of (enough_wait a.watch.least) start (drop seen log) ≡ None → n ≡ length log →
      IsPassing new world (i + 1)
  waiting-passing seen waits k start at log is_log none all =
      subst (λ v. IsPassing v world (i + 1)) (sym (is ∙ ap (λ m. record w {
        active = slice_set w.active i
            (record a { progress = Waiting m });
      }) (all ∙ ap length is_log)))
      (watch_waits w world i p a here seen waits k start at
      (ap (λ l. due_in time_of (enough_wait a.watch.least) start (drop seen l)) (sym is_log) ∙ none))

  pub waiting-step : IsStep w new world world
  waiting-step = IsStep-of w new world world (slice_set w.active i (record a { progress = Waiting n })) is
      (changed-watches w world i p a here (Waiting n) world.clones) refl refl refl

-- ---- a watch that is due

module _ (w : WatcherView) (world : WorldView) (i : ℕ) (a : ActiveWatch) (k due : ℕ)
    (d : IsDueInPass w world i a k due) (new : WatcherView) where
  -- its change would come too late
  module _ (is : new ≡ record w { active = slice_set w.active i (record a { progress = PastHorizon }) }) where
    pub late-passing : world.net.horizon ≤ due + world.net.lookahead → IsPassing new world (i + 1)
    late-passing late = subst (λ v. IsPassing v world (i + 1)) (sym is) (due-late w world i a k due d late)

    pub late-step : IsStep w new world world
    late-step = IsStep-of w new world world (slice_set w.active i (record a { progress = PastHorizon })) is
        (changed-watches w world i d.passing a d.is_watch PastHorizon world.clones) refl refl refl

  -- its branch is made: a fork, and then a set
  module _ (lookahead place : ℕ) (one two : WorldView) (ahead : lookahead ≡ world.net.lookahead)
      (last : place ≡ length world.clones)
      (is : new ≡ record w {
        active = slice_set w.active i
            (record a { progress = Made place (due + lookahead) });
      })
      (forked : one ≡ record world { clones = clones_with_fork world.clones a.watch.new k })
      (set : two ≡ record one {
        clones = clones_with_plan one.clones place
            (record { at = due + lookahead; station = a.target; change = a.watch.change });
      })
      (in_time : due + world.net.lookahead < world.net.horizon) where
    -- the clones with the branch
    abbrev branched : List Clone
    branched = clones_with_plan (clones_with_fork world.clones a.watch.new k) (length world.clones)
        (record { at = due + world.net.lookahead; station = a.target; change = a.watch.change })

    -- the watches with the branch's place
    abbrev with_place : List ActiveWatch
    with_place = slice_set w.active i
        (record a { progress = Made (length world.clones) (due + world.net.lookahead) })

    world-made : two ≡ record world { clones = branched }
    world-made =
        set ∙ ap (λ (o : WorldView). record o {
          clones = clones_with_plan o.clones place
              (record { at = due + lookahead; station = a.target; change = a.watch.change });
        }) forked
        ∙ ap (λ n. record world {
          clones = clones_with_plan
              (clones_with_fork world.clones a.watch.new k) n
              (record { at = due + lookahead; station = a.target; change = a.watch.change });
        }) last
        ∙ ap (λ l. record world {
          clones = clones_with_plan
              (clones_with_fork world.clones a.watch.new k) (length world.clones)
              (record { at = due + l; station = a.target; change = a.watch.change });
        }) ahead

    watcher-made : new ≡ record w { active = with_place }
    watcher-made =
        is ∙ ap (λ n. record w {
          active = slice_set w.active i
              (record a { progress = Made n (due + lookahead) });
        }) last
        ∙ ap (λ l. record w {
          active = slice_set w.active i
              (record a { progress = Made (length world.clones) (due + l) });
        }) ahead

    pub made-passing : IsPassing new two (i + 1)
    made-passing = subst (λ v. IsPassing v two (i + 1)) (sym watcher-made)
        (subst (λ v. IsPassing (record w { active = with_place }) v (i + 1)) (sym world-made)
        (due-made w world i a k due d in_time))

    pub made-step : IsStep w new world two
    made-step = subst (λ v. IsStep w new world v) (sym world-made)
        (IsStep-of w new world (record world { clones = branched }) with_place watcher-made
        (changed-watches w world i d.passing a d.is_watch
        (Made (length world.clones) (due + world.net.lookahead)) world.clones) refl
        (due-script w world i a k due d in_time) (due-handled w world i a k due d in_time))
