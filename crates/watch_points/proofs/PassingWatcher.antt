-- A watcher in a pass at a window's end: the steps of one watch.
use Rattle.std.proofs.Common.{◌≡◌, ℕ, zero, suc, ◌+◌, ◌<◌, ◌≤◌, List, Some, None, inl, inr, refl, sym}
use Rattle.std.proofs.Common.{ap, ◌∙◌, subst, arith}
use Rattle.std.proofs.Common.{length, take, drop, slice_set}
use Rattle.std.specs.Prelude.{slice_get}
use Rattle.std.proofs.lemmas.Bool.{cases_eq}
use Rattle.std.proofs.lemmas.List.{length-map, length-take-le, map-set}
use Rattle.std.proofs.lemmas.Option.{slice_get_within}
use Rattle.sim_base.specs.Clones.{Clone, clone_at, clones_with_fork, clones_with_plan, place_of}
use Rattle.sim_base.specs.Same.{same_entry}
use Rattle.sim_base.specs.declared.decision.Planned.{Planned}
use Rattle.sim_base.specs.declared.entry.Entry.{Entry}
use Rattle.sim_base.specs.declared.entry.Line.{Line}
use Rattle.sim_base.specs.declared.lists.TheConstants.{MAX_CLONES}
use Rattle.sim_base.specs.declared.message.Msg.{Msg}
use Rattle.sim_base.proofs.ListLaws.{slice_get-map_some}
use Rattle.sim_base.proofs.SameEntry.{same_entry-Decides}
use Rattle.net_model.specs.Net.{HasStation, Net}
use Rattle.net_model.specs.Rules.{IsNet}
use Rattle.run_laws.specs.Handlers.{HandlesLawfully}
use Rattle.run_laws.specs.SharedTexts.{station_sum}
use Rattle.run_laws.proofs.Lists.{slice_get-set_other, slice_get-set_same}
use Rattle.stations.specs.Good.{IsGood}
use Rattle.stations.specs.Runs.{handled_once, log_at, simulation}
use Rattle.stations.proofs.GoodLaws.{fresh-stations, lawful-stations, stations-to_stations}
use Rattle.watch_points.specs.Branches.{Branch, Trigger, due_time}
use Rattle.watch_points.specs.Due.{due_in}
use Rattle.watch_points.specs.BranchLaws.{DueAtFront, DueIsNotLate}
use Rattle.watch_points.proofs.BranchWindows.{due_at_front, due_is_not_late}
use Rattle.world_core.specs.Worlds.{WorldView, total_handled}
use Rattle.watch_points.specs.Passes.{CanBeFollowed, HavePassed, IsFound, IsWindowWith}
use Rattle.watch_points.specs.Progress.{IsInRange, IsSource, source_place}
use Rattle.watch_points.specs.Triggers.{enough_wait, time_of, trigger_of, triggers_of}
use Rattle.watch_points.specs.Watchers.{HasStations, HaveStations, IsDueInPass, IsPassing, WatcherView}
use Rattle.watch_points.specs.Watchers.{active_triggers, progress_of, sources_of, watches_of}
use Rattle.watch_points.specs.declared.watcher.ActiveWatch.{ActiveWatch}
use Rattle.watch_points.specs.declared.watcher.Progress.{Progress}
use Rattle.watch_points.specs.declared.watcher.Progress.TheVariants.{Made, PastHorizon, Waiting}
use Rattle.watch_points.specs.declared.watcher.Source.{Source}
use Rattle.watch_points.specs.declared.watcher.Source.TheVariants.{OfScript, OfWatch}
use Rattle.watch_points.proofs.Elements.{length-slice_set, map-slice_set_same}
use Rattle.watch_points.proofs.Following.{handled-branch, length-branch, take-branch}
use Rattle.watch_points.proofs.Passing.{IsPass, due_below, found, makes-not_late, makes-room}
use Rattle.watch_points.proofs.Passing.{makes-unused}
use Rattle.watch_points.proofs.Passing.{step_absent, step_late, step_made, step_makes, step_past, step_waits}
use Rattle.watch_points.proofs.Passing.{unseen_decide}
use Rattle.watch_points.proofs.StartedWatches.{station_number-found, station_named-within}

-- ---- the laws of networks

module _ (net : Net) (valid : IsNet net) where
  -- a due time is known at a front
  pub net_known : DueAtFront (simulation net)
  net_known = due_at_front (lawful-stations net valid) (stations-to_stations net valid) (fresh-stations net valid)

  -- and its change is not late
  pub net_not_late : DueIsNotLate (simulation net)
  net_not_late = due_is_not_late (lawful-stations net valid) (stations-to_stations net valid) (fresh-stations net valid)

-- ---- station_sum

-- the sum of the same figures
pub station_sum-same : (f g : ℕ → ℕ) (n : ℕ) → ((s : ℕ) → f s ≡ g s) → station_sum f n ≡ station_sum g n
station_sum-same f g zero h = refl
station_sum-same f g (suc n) h = ap (λ m. m + f (suc n)) (station_sum-same f g n h)
    ∙ ap (λ m. station_sum g n + m) (h (suc n))

module _ (w : WatcherView) (world : WorldView) (i : ℕ) (p : IsPassing w world i) where
  -- the watches as triggers
  abbrev ts : List (Trigger Line)
  ts = active_triggers world.net w.active

  -- the stations are lawful
  law : HandlesLawfully (simulation world.net) (IsGood world.net)
  law = lawful-stations world.net p.valid

  -- the pass
  pass : IsPass (simulation world.net) p.script ts (sources_of w.active) p.window_clones w.front world.front
  pass = record {
    known = net_known world.net p.valid;
    not_late = net_not_late world.net p.valid;
    may = p.can_be_followed;
    with_window = p.with_window;
  }

  module _ (a : ActiveWatch) (here : slice_get w.active i ≡ Some a) where
    -- the watch as a trigger, with its source and its progress
    trigger_here : slice_get ts i ≡ Some (trigger_of world.net a.watch)
    trigger_here = slice_get-map_some (trigger_of world.net) (watches_of w.active) i a.watch
        (slice_get-map_some (λ (a : ActiveWatch). a.watch) w.active i a here)

    source_here : slice_get (sources_of w.active) i ≡ Some a.source
    source_here = slice_get-map_some (λ (a : ActiveWatch). a.source) w.active i a here

    progress_here : slice_get (progress_of w.active) i ≡ Some a.progress
    progress_here = slice_get-map_some (λ (a : ActiveWatch). a.progress) w.active i a here

    -- its stations
    pub station_here : (trigger_of world.net a.watch).station ≡ a.station
    station_here = station_number-found world.net a.watch.station a.station (p.stations i a here).station

    pub target_here : (trigger_of world.net a.watch).target ≡ a.target
    target_here = station_number-found world.net a.watch.target a.target (p.stations i a here).target

    pub station_is : HasStation world.net a.station
    station_is = station_named-within a.watch.station world.net a.station (p.stations i a here).station

    pub target_is : HasStation world.net a.target
    target_is = station_named-within a.watch.target world.net a.target (p.stations i a here).target

    -- its earlier watch is there
    pub source_in_range : IsInRange (length w.active) a.source
    source_in_range = by a.source (p.can_be_followed.have_sources i (trigger_of world.net a.watch) a.source
        trigger_here source_here)
      where
        by : (s : Source) → IsSource p.script ts i a.watch.who s → IsInRange (length w.active) s
        by (OfScript c) h = tt
        by (OfWatch j) h = let l = h.0 in let m = slice_get_within w.active i a here in omega (arith, l, m)

    -- ---- IsPassing

    -- the watch changes nothing
    keep : HavePassed (simulation world.net) p.script ts w.front world.front (i + 1) (progress_of w.active)
        world.clones → IsPassing w world (i + 1)
    keep h = record {
      valid = p.valid;
      same_net = p.same_net;
      clones_max = p.clones_max;
      stations = p.stations;
      script = p.script;
      is_script = p.is_script;
      script_max = p.script_max;
      can_be_followed = p.can_be_followed;
      window_clones = p.window_clones;
      with_window = p.with_window;
      have_passed = h;
    }

    -- the watch has another progress, and the world these clones
    module _ (q : Progress) (cs : List Clone) where
      abbrev pub changed : List ActiveWatch
      changed = slice_set w.active i (record a { progress = q })

      pub changed-watches : watches_of changed ≡ watches_of w.active
      changed-watches = map-slice_set_same (λ (a : ActiveWatch). a.watch) w.active i a (record a { progress = q }) here
          refl

      changed-sources : sources_of changed ≡ sources_of w.active
      changed-sources = map-slice_set_same (λ (a : ActiveWatch). a.source) w.active i a (record a { progress = q }) here
          refl

      changed-progress : progress_of changed ≡ slice_set (progress_of w.active) i q
      changed-progress = map-set (λ (a : ActiveWatch). a.progress) w.active i (record a { progress = q })

      -- the stations stay
      changed-stations : HaveStations world.net changed
      changed-stations j b e = elim (cases_eq j i) [
        | inl is ↦ (let at : slice_get changed j ≡ Some (record a { progress = q }) =
            ap (slice_get changed) is
            ∙ slice_get-set_same w.active i (record a { progress = q }) (slice_get_within w.active i a here) in
            let same : record a { progress = q } ≡ b = cc in
            subst (HasStations world.net) same
            (record { station = (p.stations i a here).station; target = (p.stations i a here).target }))
        | inr n ↦ p.stations j b (sym (slice_get-set_other w.active j i (record a { progress = q }) n) ∙ e)
      ]

      change : take w.script_len cs ≡ p.script → w.script_len ≤ length cs →
          HavePassed (simulation world.net) p.script ts w.front world.front (i + 1)
          (slice_set (progress_of w.active) i q) cs →
          IsPassing (record w { active = changed }) (record world { clones = cs }) (i + 1)
      change script many h =
          let same : active_triggers world.net changed ≡ ts = ap (triggers_of world.net) changed-watches in
          let len : length changed ≡ length w.active = length-slice_set w.active i (record a { progress = q }) in
          record {
            valid = p.valid;
            same_net = p.same_net;
            clones_max = λ l. let m = p.clones_max (omega (arith, l, len)) in omega (arith, m, len);
            stations = changed-stations;
            script = p.script;
            is_script = script;
            script_max = many;
            can_be_followed = subst (λ l. CanBeFollowed (simulation world.net) p.script l (sources_of changed))
                (sym same)
                (subst (CanBeFollowed (simulation world.net) p.script ts) (sym changed-sources) p.can_be_followed);
            window_clones = p.window_clones;
            with_window = subst (λ l. IsWindowWith (simulation world.net) p.script l w.front world.front
                p.window_clones)
                (sym same) p.with_window;
            have_passed = subst (λ l. HavePassed (simulation world.net) p.script l w.front world.front (i + 1)
                (progress_of changed) cs) (sym same)
                (subst (λ l. HavePassed (simulation world.net) p.script ts w.front world.front (i + 1) l cs)
                (sym changed-progress) h);
          }

    -- ---- the steps

    -- the watch as a trigger
    abbrev t : Trigger Line
    t = trigger_of world.net a.watch

    -- it has made its branch
    pub watch_made : (k u : ℕ) → a.progress ≡ Made k u → IsPassing w world (i + 1)
    watch_made k u e = keep (step_made law pass p.have_passed t trigger_here k u (progress_here ∙ ap Some e))

    -- its change comes too late
    pub watch_past : a.progress ≡ PastHorizon → IsPassing w world (i + 1)
    watch_past e = keep (step_past law pass p.have_passed t trigger_here source_here (progress_here ∙ ap Some e))

    -- it does not wait
    pub watch_not_waiting : ((seen : ℕ) → a.progress ≡ Waiting seen → ⊥) → IsPassing w world (i + 1)
    watch_not_waiting never = by a.progress refl
      where
        by : (q : Progress) → a.progress ≡ q → IsPassing w world (i + 1)
        by (Made k u) e = watch_made k u e
        by PastHorizon e = watch_past e
        by (Waiting seen) e = absurd (never seen e)

    module _ (seen : ℕ) (waits : a.progress ≡ Waiting seen) where
      -- it waits for its clone
      pub watch_absent : source_place (progress_of w.active) a.source ≡ None → IsPassing w world (i + 1)
      watch_absent e = keep (step_absent law pass p.have_passed t trigger_here source_here
          (progress_here ∙ ap Some waits) e)

      module _ (k start : ℕ) (at : source_place (progress_of w.active) a.source ≡ Some (k, start)) where
        -- the branch that it watches
        watch_found : (b : Branch) × IsFound (simulation world.net) p.script ts world.front i t world.clones k start b
        watch_found = found law pass p.have_passed t trigger_here source_here k start at

        -- its clone is there
        pub watch-in_range : k < length world.clones
        watch-in_range = watch_found.1.in_range

        -- the log of its station
        abbrev log : List (Entry Msg Line)
        log = log_at world.net (clone_at world.clones k) a.station world.front

        -- its due time, from the entries that it has not seen
        watch_due : due_in time_of (enough_wait a.watch.least) start (drop seen log)
            ≡ due_time (simulation world.net) world.front t watch_found.0
        watch_due = subst (λ s. due_in time_of (enough_wait a.watch.least) start
            (drop seen (log_at world.net (clone_at world.clones k) s world.front))
            ≡ due_time (simulation world.net) world.front t watch_found.0) station_here
            (unseen_decide law pass p.have_passed t trigger_here source_here (progress_here ∙ ap Some waits)
            watch_found.1)

        -- it is due
        pub watch_is_due : (due : ℕ) → due_in time_of (enough_wait a.watch.least) start (drop seen log) ≡ Some due →
            IsDueInPass w world i a k due
        watch_is_due due e = record {
          passing = p;
          is_watch = here;
          seen = seen;
          waits = waits;
          start = start;
          branch = watch_found.0;
          is_found = watch_found.1;
          is_due = sym watch_due ∙ e;
        }

        -- it is not due, and has seen all entries
        pub watch_waits : due_in time_of (enough_wait a.watch.least) start (drop seen log) ≡ None →
            IsPassing (record w { active = changed (Waiting (length log)) world.clones }) world (i + 1)
        watch_waits e = change (Waiting (length log)) world.clones p.is_script p.script_max
            (step_waits law pass p.have_passed t trigger_here source_here (progress_here ∙ ap Some waits)
            watch_found.1 (sym watch_due ∙ e) (length log)
            (subst (λ s. length log ≤ length (log_at world.net (clone_at world.clones k) s world.front))
            (sym station_here) (omega arith)))

-- ---- a watch that is due

module _ (w : WatcherView) (world : WorldView) (i : ℕ) (a : ActiveWatch) (k due : ℕ)
    (d : IsDueInPass w world i a k due) where
  -- the watch as a trigger
  abbrev due_trigger : Trigger Line
  due_trigger = trigger_of world.net a.watch

  -- it is the trigger at its place, with its source and its progress
  at_place : slice_get (active_triggers world.net w.active) i ≡ Some due_trigger
  at_place = trigger_here w world i d.passing a d.is_watch

  its_source : slice_get (sources_of w.active) i ≡ Some a.source
  its_source = source_here w world i d.passing a d.is_watch

  its_progress : slice_get (progress_of w.active) i ≡ Some (Waiting d.seen)
  its_progress = progress_here w world i d.passing a d.is_watch ∙ ap Some d.waits

  due_law : HandlesLawfully (simulation world.net) (IsGood world.net)
  due_law = lawful-stations world.net d.passing.valid

  due_pass : IsPass (simulation world.net) d.passing.script (active_triggers world.net w.active) (sources_of w.active)
      d.passing.window_clones w.front world.front
  due_pass = pass w world i d.passing

  -- it is due before the window's end
  pub due-below : due < world.front
  due-below = due_below due_law due_pass d.passing.have_passed due_trigger at_place its_source its_progress d.is_found
      due
      d.is_due

  -- the fork: its clone is there and has no end, the name is unused, and there is room
  pub due-in_range : k < length world.clones
  due-in_range = d.is_found.in_range

  pub due-no_end : (clone_at world.clones k).end ≡ None
  due-no_end = ap (λ (c : Clone). c.end) d.is_found.is_clone ∙ d.is_found.no_end

  pub due-unused : place_of a.watch.new world.clones ≡ None
  due-unused = makes-unused due_law due_pass d.passing.have_passed due_trigger at_place its_source its_progress
      d.is_found

  pub due-room : length world.clones < MAX_CLONES
  due-room =
      let below = slice_get_within w.active i a d.is_watch in
      let fits = d.passing.clones_max (omega (arith, below)) in
      let many = d.passing.script_max in
      let room = makes-room due_law due_pass d.passing.have_passed due_trigger at_place its_source its_progress
      d.is_found in
      let script : length d.passing.script ≡ w.script_len =
      ap length (sym d.passing.is_script) ∙ length-take-le w.script_len world.clones many in
      let same = length-map w.active (λ (b : ActiveWatch). b.progress) in
      omega (arith, fits, room, script, same)

  -- its change comes too late
  pub due-late : world.net.horizon ≤ due + world.net.lookahead →
      IsPassing (record w { active = slice_set w.active i (record a { progress = PastHorizon }) }) world (i + 1)
  due-late late = change w world i d.passing a d.is_watch PastHorizon world.clones d.passing.is_script
      d.passing.script_max
      (step_late due_law due_pass d.passing.have_passed due_trigger at_place its_source its_progress d.is_found
      d.is_due late)

  -- its change comes before the horizon
  module _ (in_time : due + world.net.lookahead < world.net.horizon) where
    -- the change is a decision
    abbrev plan : Planned
    plan = record {
      at = due + world.net.lookahead;
      station = a.target;
      change = a.watch.change;
    }

    -- the clones with the branch
    abbrev with_branch : List Clone
    with_branch = clones_with_plan (clones_with_fork world.clones a.watch.new k) (length world.clones) plan

    -- the set: it is not late, and for a station
    pub due-not_late : world.front ≤ due + world.net.lookahead
    due-not_late = makes-not_late due_law due_pass d.passing.have_passed due_trigger at_place its_source its_progress
        d.is_found
        d.is_due in_time

    pub due-is_station : HasStation world.net a.target
    due-is_station = target_is w world i d.passing a d.is_watch

    -- the branch is made
    pub due-made : IsPassing
        (record w {
          active = slice_set w.active i
              (record a { progress = Made (length world.clones) (due + world.net.lookahead) });
        })
        (record world { clones = with_branch }) (i + 1)
    due-made = change w world i d.passing a d.is_watch (Made (length world.clones) (due + world.net.lookahead))
        with_branch
        (take-branch w.script_len world.clones k a.watch.new plan d.passing.script_max ∙ d.passing.is_script)
        (let l = length-branch world.clones k a.watch.new plan in let m = d.passing.script_max in
        omega (arith, l, m))
        (subst (λ s. HavePassed (simulation world.net) d.passing.script (active_triggers world.net w.active) w.front
        world.front (i + 1)
        (slice_set (progress_of w.active) i (Made (length world.clones) (due + world.net.lookahead)))
        (clones_with_plan (clones_with_fork world.clones a.watch.new k) (length world.clones)
        (record { at = due + world.net.lookahead; station = s; change = a.watch.change })))
        (target_here w world i d.passing a d.is_watch)
        (step_makes due_law due_pass d.passing.have_passed due_trigger at_place its_source its_progress d.is_found
        d.is_due
        in_time))

    -- and the script's clones and what was handled are the same
    pub due-script : take w.script_len with_branch ≡ take w.script_len world.clones
    due-script = take-branch w.script_len world.clones k a.watch.new plan d.passing.script_max

    pub due-handled : total_handled world.net with_branch world.front
        ≡ total_handled world.net world.clones world.front
    due-handled = station_sum-same (λ s. handled_once world.net with_branch s world.front)
        (λ s. handled_once world.net world.clones s world.front) (length world.net.sites)
        (λ s. handled-branch due_law same_entry same_entry-Decides (λ k p. refl) world.clones k a.watch.new plan s
        world.front (record { in_range = due-in_range; going = due-no_end }) due-not_late)
