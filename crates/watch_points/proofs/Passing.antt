-- A pass through the triggers at a window's end: from trigger to trigger.
use Rattle.std.proofs.Common.{◌≡◌, ℕ, zero, suc, ◌+◌, ◌<◌, ◌≤◌, List, [], ◌∷◌, cond, Option}
use Rattle.std.proofs.Common.{Some}
use Rattle.std.proofs.Common.{None, inl, inr, refl, sym, ap, ◌∙◌, subst, arith, map, length, take, drop, nat_lt}
use Rattle.std.proofs.Common.{slice_set}
use Rattle.std.specs.Prelude.{slice_get, option_and_then}
use Rattle.std.proofs.lemmas.Bool.{cases_lt, cases_eq, lt-ltb, le-ltb}
use Rattle.std.proofs.lemmas.Option.{slice_get_within}
use Rattle.std.specs.Str.{bytes_eq}
use Rattle.std.proofs.Common.{unwrap_or}
use Rattle.std.proofs.lemmas.List.{length-map}
use Rattle.std.proofs.lemmas.List.Quantifiers.{position-Some}
use Rattle.sim_base.specs.Clones.{Clone, clone_at, clones_with_fork, clones_with_plan, nobody, place_of}
use Rattle.run_laws.specs.Queue.{In}
use Rattle.run_laws.specs.Simulation.{Simulation}
use Rattle.run_laws.specs.Runs.{log_at}
use Rattle.run_laws.specs.Handlers.{AllAreForStations, AreForStations, HandlesLawfully, IsStation}
use Rattle.run_laws.proofs.Lists.{slice_get-set_same, slice_get-set_other}
use Rattle.watch_points.specs.Due.{due_in}
use Rattle.watch_points.specs.Branches.{Branch, Trigger, initial_branch, branches_at, due_time, branch_from}
use Rattle.watch_points.specs.Branches.{branch_if_due, branch_of}
use Rattle.watch_points.specs.Keeping.{HoldsAfter, IsPlaced, option_at, outcome_after, outcome_at}
use Rattle.watch_points.specs.BranchLaws.{AreValidTriggers, DueAtFront, DueIsNotLate}
use Rattle.watch_points.specs.PassLaws.{Fires, StepHolds, source_at}
use Rattle.watch_points.proofs.Keeping.{clones-at_least}
use Rattle.watch_points.proofs.BranchBodies.{pass_goes_on}
use Rattle.watch_points.proofs.BranchSteps.{outcome_at-same_or_late, outcome_at-made, outcomes-at}
use Rattle.watch_points.proofs.BranchSources.{branch_by-no_end}
use Rattle.watch_points.specs.Passes.{CanBeFollowed, HavePassed, IsFound, IsWindowWith}
use Rattle.watch_points.specs.Progress.{HasProgress, HaveProgress, IsPastHorizon, IsWaiting, made_branch, made_place}
use Rattle.watch_points.specs.Progress.{IsSource, places_of, source_place}
use Rattle.watch_points.specs.declared.watcher.Progress.{Progress}
use Rattle.watch_points.specs.declared.watcher.Progress.TheVariants.{Waiting, PastHorizon, Made}
use Rattle.watch_points.specs.declared.watcher.Source.{Source}
use Rattle.watch_points.specs.declared.watcher.Source.TheVariants.{OfScript, OfWatch}
use Rattle.watch_points.proofs.Found.{due_time-below, due_time-stays, initial_branch-name, outcome-stays}
use Rattle.watch_points.proofs.Found.{source_at-earlier, source_at-script}
use Rattle.watch_points.proofs.Seen.{due_in-unseen}

-- ---- places_of

-- the place of a trigger's branch, by its progress
pub places_of-at : (progress : List Progress) (i : ℕ) (p : Progress) → slice_get progress i ≡ Some p →
    option_at (places_of progress) i ≡ made_place p
places_of-at [] i p e = absurd (cc)
places_of-at (q ∷ progress) zero p e = let same : q ≡ p = cc in ap made_place same
places_of-at (q ∷ progress) (suc i) p e = places_of-at progress i p e

-- past the last trigger there is none
places_of-none : (progress : List Progress) (i : ℕ) → slice_get progress i ≡ None →
    option_at (places_of progress) i ≡ None
places_of-none [] i e = refl
places_of-none (q ∷ progress) zero e = absurd (cc)
places_of-none (q ∷ progress) (suc i) e = places_of-none progress i e

-- one trigger has come further
places_of-set : (progress : List Progress) (i : ℕ) (p : Progress) →
    places_of (slice_set progress i p) ≡ slice_set (places_of progress) i (made_place p)
places_of-set [] i p = refl
places_of-set (q ∷ progress) zero p = refl
places_of-set (q ∷ progress) (suc i) p = ap (λ l. made_place q ∷ l) (places_of-set progress i p)

-- a trigger without a branch still has none
places_of-same : (progress : List Progress) (i : ℕ) (p q : Progress) → slice_get progress i ≡ Some p →
    made_place p ≡ made_place q → places_of (slice_set progress i q) ≡ places_of progress
places_of-same [] i p q e f = absurd (cc)
places_of-same (r ∷ progress) zero p q e f = let same : r ≡ p = cc in
    ap (λ o. o ∷ places_of progress) (sym f ∙ ap made_place (sym same))
places_of-same (r ∷ progress) (suc i) p q e f = ap (λ l. made_place r ∷ l) (places_of-same progress i p q e f)

-- ---- pairs

-- a place and a start
abbrev pub some_pair : ℕ → ℕ → Option (ℕ × ℕ)
some_pair a b = Some (a, b)

pub pair_is : (a b c d : ℕ) → some_pair a b ≡ some_pair c d → (a ≡ c) × (b ≡ d)
pair_is a b c d e =
    let origin : ℕ × ℕ = (0, 0) in
    (ap (λ (o : Option (ℕ × ℕ)). (unwrap_or o origin).0) e, ap (λ (o : Option (ℕ × ℕ)). (unwrap_or o origin).1) e)

-- ---- initial_branch

module _ {S M N : Type 0} (sim : Simulation S M N) where
  -- a clone of the script has decisions for stations
  pub initial-for_stations : (cs : List Clone) → AllAreForStations sim cs → (x : Branch) →
      In x (map initial_branch cs) →
      AreForStations sim x.clone.plans
  initial-for_stations [] f x i = absurd i
  initial-for_stations (c ∷ cs) f x (inl e) =
      subst (λ (b : Branch). AreForStations sim b.clone.plans) (sym e) (f zero (omega arith))
  initial-for_stations (c ∷ cs) f x (inr i) = initial-for_stations cs (λ k l. f (suc k) (omega (arith, l))) x i

-- ---- the pass

-- the laws of due times, triggers that may be followed, and a window
pub record IsPass {S M N : Type 0} (sim : Simulation S M N) (script : List Clone) (ts : List (Trigger N))
    (sources : List Source) (window_clones : List Clone) (front bound : ℕ) : Type 0 where
  pub known : DueAtFront sim
  pub not_late : DueIsNotLate sim
  pub may : CanBeFollowed sim script ts sources
  pub with_window : IsWindowWith sim script ts front bound window_clones

module _ {S M N : Type 0} {sim : Simulation S M N} {Good : ℕ → S → Type 0} (law : HandlesLawfully sim Good)
    {script : List Clone} {ts : List (Trigger N)} {sources : List Source} {window_clones : List Clone}
    {front bound : ℕ} (pass : IsPass sim script ts sources window_clones front bound) where
  -- the names of the script's clones
  abbrev names : List (List ℕ)
  names = map (λ (c : Clone). c.name) script

  valid : AreValidTriggers sim names (map initial_branch script) ts
  valid = record {
    clones = λ x i. (initial-for_stations sim script pass.with_window.for_stations x i, initial_branch-name script x i);
    new_names = pass.may.new_names;
    targets = pass.may.targets;
  }

  module _ {i : ℕ} {progress : List Progress} {cs : List Clone}
      (so_far : HavePassed sim script ts front bound i progress cs) (t : Trigger N) (here : slice_get ts i ≡ Some t)
    where
      -- what branch_laws says of this step
      step : StepHolds sim front bound script ts i t cs (places_of progress)
      step = pass_goes_on pass.known pass.not_late window_clones front bound script ts i t cs (places_of progress)
          (record {
            names = names;
            valid = valid;
            window = pass.with_window.window;
            held = pass.with_window.held;
            trigger = here;
            so_far = so_far.holds;
          })

      -- the fronts of the other triggers stay
      fronts-other : (j : ℕ) → (j ≡ i → ⊥) →
          cond (nat_lt j (i + 1)) bound front ≡ cond (nat_lt j i) bound front
      fronts-other j n = elim (cases_lt j i) [
        | inl l ↦ ap (λ b. cond b bound front) (lt-ltb j (i + 1) (omega (arith, l)))
            ∙ ap (λ b. cond b bound front) (sym (lt-ltb j i l))
        | inr l ↦ ap (λ b. cond b bound front) (le-ltb j (i + 1) (omega (arith, l, n)))
            ∙ ap (λ b. cond b bound front) (sym (le-ltb j i l))
      ]

      -- the front of this trigger is the bound now
      front-here : cond (nat_lt i (i + 1)) bound front ≡ bound
      front-here = ap (λ b. cond b bound front) (lt-ltb i (i + 1) (omega arith))

      -- and was the window's front before
      front-before : cond (nat_lt i i) bound front ≡ front
      front-before = ap (λ b. cond b bound front) (le-ltb i i (omega arith))

      module _ (p : Progress) (at : slice_get progress i ≡ Some p) where
        -- this trigger's progress at the window's front
        progress_before : HasProgress sim script ts front i t p
        progress_before = subst (λ f. HasProgress sim script ts f i t p) front-before
            (so_far.have_progress i t p here at)

        -- the others keep theirs
        progress-kept : HasProgress sim script ts bound i t p →
            HaveProgress sim script ts (λ j. cond (nat_lt j (i + 1)) bound front) progress
        progress-kept now j u q e f = elim (cases_eq j i) [
          | inl is ↦ (let same_trigger : u ≡ t = cc in let same_progress : q ≡ p = cc in
              subst (λ k. HasProgress sim script ts (cond (nat_lt k (i + 1)) bound front) k u q) (sym is)
              (subst (λ f. HasProgress sim script ts f i u q) (sym front-here)
              (subst (λ v. HasProgress sim script ts bound i v q) (sym same_trigger)
              (subst (λ r. HasProgress sim script ts bound i t r) (sym same_progress) now))))
          | inr n ↦ subst (λ f. HasProgress sim script ts f j u q) (sym (fronts-other j n))
              (so_far.have_progress j u q e f)
        ]

        -- nothing is made
        stays : HoldsAfter sim front bound script ts (i + 1) cs (places_of progress) →
            HasProgress sim script ts bound i t p →
            HavePassed sim script ts front bound (i + 1) progress cs
        stays holds now = record { holds = holds; have_progress = progress-kept now }

        -- the trigger's progress is another now
        progress-changed : (q : Progress) → HasProgress sim script ts bound i t q →
            HaveProgress sim script ts (λ j. cond (nat_lt j (i + 1)) bound front) (slice_set progress i q)
        progress-changed q now j u r e f = elim (cases_eq j i) [
          | inl is ↦ (let same_trigger : u ≡ t = cc in
              let changed : slice_get (slice_set progress i q) j ≡ Some q =
              ap (slice_get (slice_set progress i q)) is
              ∙ slice_get-set_same progress i q (slice_get_within progress i p at) in
              let same_progress : r ≡ q = cc in
              subst (λ k. HasProgress sim script ts (cond (nat_lt k (i + 1)) bound front) k u r) (sym is)
              (subst (λ f. HasProgress sim script ts f i u r) (sym front-here)
              (subst (λ v. HasProgress sim script ts bound i v r) (sym same_trigger)
              (subst (λ s. HasProgress sim script ts bound i t s) (sym same_progress) now))))
          | inr n ↦ subst (λ f. HasProgress sim script ts f j u r) (sym (fronts-other j n))
              (so_far.have_progress j u r e (sym (slice_get-set_other progress j i q n) ∙ f))
        ]

        -- nothing is made, and the progress is another now
        changes : (q : Progress) → HoldsAfter sim front bound script ts (i + 1) cs (places_of progress) →
            made_place p ≡ made_place q → HasProgress sim script ts bound i t q →
            HavePassed sim script ts front bound (i + 1) (slice_set progress i q) cs
        changes q holds same now = record {
          holds = subst (λ l. HoldsAfter sim front bound script ts (i + 1) cs l)
              (sym (places_of-same progress i p q at same)) holds;
          have_progress = progress-changed q now;
        }

      -- ---- source_at

      module _ {s : Source} (its : slice_get sources i ≡ Some s) where
        -- the source, at the window's front and at its bound
        source_is : IsSource script ts i t.who s
        source_is = pass.may.have_sources i t s here its

        -- the outcome of an earlier trigger
        earlier_outcome : (j : ℕ) → j < i → outcome_after sim front bound script ts i j ≡ outcome_at sim bound script
            ts j
        earlier_outcome j l =
            ap (λ b. cond b (outcome_at sim bound script ts j) (outcome_at sim front script ts j)) (lt-ltb j i l)

        -- a source at the front is the source at the bound
        source-stays : (b : Branch) → source_at sim front script ts i t ≡ Some b →
            source_at sim bound script ts i t ≡ Some b
        source-stays b e = by s source_is
          where
            by : (s : Source) → IsSource script ts i t.who s → source_at sim bound script ts i t ≡ Some b
            by (OfScript c) is = source_at-script sim script ts bound i c t is.0
                ∙ sym (source_at-script sim script ts front i c t is.0) ∙ e
            by (OfWatch j) is =
                let v = is.1 in
                source_at-earlier sim script ts bound i j t v.0 pass.may.new_names is.0 v.1 v.2
                ∙ outcome-stays (λ t. bound ≤ t) (outcome_at sim front script ts j) (outcome_at sim bound script ts j) b
                (outcome_at-same_or_late pass.known pass.not_late names script ts valid window_clones front bound
                pass.with_window.window pass.with_window.held j v.0 v.1)
                (sym (source_at-earlier sim script ts front i j t v.0 pass.may.new_names is.0 v.1 v.2) ∙ e)

        -- a source has decisions for stations
        source-for_stations : (b : Branch) → source_at sim bound script ts i t ≡ Some b →
            AreForStations sim b.clone.plans
        source-for_stations b e = by s source_is
          where
            by : (s : Source) → IsSource script ts i t.who s → AreForStations sim b.clone.plans
            by (OfScript c) is =
                let same : Some (initial_branch (clone_at script c)) ≡ Some b =
                sym (source_at-script sim script ts bound i c t is.0) ∙ e in
                let same_branch : initial_branch (clone_at script c) ≡ b = cc in
                subst (λ (x : Branch). AreForStations sim x.clone.plans) same_branch
                (pass.with_window.for_stations c (position-Some (λ (c : Clone). bytes_eq c.name t.who) script c nobody
                is.0).0)
            by (OfWatch j) is =
                let v = is.1 in
                (outcome_at-made pass.known pass.not_late names script ts valid window_clones front bound
                pass.with_window.window
                pass.with_window.held j v.0 b v.1
                (sym (source_at-earlier sim script ts bound i j t v.0 pass.may.new_names is.0 v.1 v.2) ∙ e)).1

        -- the place of the source is that of its branch
        pub found : (k start : ℕ) → source_place progress s ≡ some_pair k start →
            (b : Branch) × IsFound sim script ts bound i t cs k start b
        found k start e = by s source_is e
          where
            by : (s : Source) → IsSource script ts i t.who s → source_place progress s ≡ some_pair k start →
                (b : Branch) × IsFound sim script ts bound i t cs k start b
            by (OfScript c) is e =
                let place = pair_is c 0 k start e in
                let below = (position-Some (λ (c : Clone). bytes_eq c.name t.who) script c nobody is.0).0 in
                let many = clones-at_least (length script) cs (places_of progress) so_far.holds.order in
                let source = source_at-script sim script ts bound i c t is.0 in (
                  initial_branch (clone_at script c),
                  record {
                    source = source;
                    in_range = omega (arith, place.0, below, many);
                    is_clone = ap (clone_at cs) (sym place.0) ∙ so_far.holds.script c below;
                    start_is = place.1;
                    no_end = is.1;
                    for_stations = pass.with_window.for_stations c below;
                  },
                )
            by (OfWatch j) is e = of_progress (slice_get progress j) refl e
              where
                v : Trigger N
                v = is.1.0

                of_made : (q : Progress) → slice_get progress j ≡ Some q → made_branch q ≡ some_pair k start →
                    (b : Branch) × IsFound sim script ts bound i t cs k start b
                of_made (Waiting seen) at f = absurd (cc)
                of_made PastHorizon at f = absurd (cc)
                of_made (Made place u) at f =
                    let same = pair_is place u k start f in
                    let come : HasProgress sim script ts bound j v (Made place u) =
                    subst (λ f. HasProgress sim script ts f j v (Made place u))
                    (ap (λ b. cond b bound front) (lt-ltb j i is.0))
                    (so_far.have_progress j v (Made place u) is.1.1 at) in
                    let b : Branch = come.0 in
                    let placed : IsPlaced cs (Some come.0) (Some place) =
                    subst (λ o. IsPlaced cs o (Some place)) (earlier_outcome j is.0 ∙ come.1)
                    (subst (IsPlaced cs (outcome_after sim front bound script ts i j))
                    (places_of-at progress j (Made place u) at) (so_far.holds.placed j)) in (
                      come.0,
                      record {
                        source = source_at-earlier sim script ts bound i j t v pass.may.new_names is.0 is.1.1 is.1.2
                            ∙ come.1;
                        in_range = subst (λ n. n < length cs) same.0 placed.0;
                        is_clone = ap (clone_at cs) (sym same.0) ∙ placed.1;
                        start_is = come.2 ∙ same.1;
                        no_end = branch_by-no_end sim bound (branches_at sim bound (map initial_branch script)
                            (take j ts)) v
                            come.0 (sym (outcomes-at sim bound (map initial_branch script) ts j v is.1.1) ∙ come.1);
                        for_stations = (outcome_at-made pass.known pass.not_late names script ts valid window_clones
                            front bound
                            pass.with_window.window pass.with_window.held j v come.0 is.1.1 come.1).1;
                      },
                    )

                of_progress : (o : Option Progress) → slice_get progress j ≡ o →
                    option_and_then made_branch o ≡ some_pair k start →
                    (b : Branch) × IsFound sim script ts bound i t cs k start b
                of_progress None at f = absurd (cc)
                of_progress (Some q) at f = of_made q at f

        -- without a place there is no source
        pub not_found : source_place progress s ≡ None → source_at sim bound script ts i t ≡ None
        not_found e = by s source_is e
          where
            by : (s : Source) → IsSource script ts i t.who s → source_place progress s ≡ None →
                source_at sim bound script ts i t ≡ None
            by (OfScript c) is e = absurd (cc)
            by (OfWatch j) is e =
                source_at-earlier sim script ts bound i j t is.1.0 pass.may.new_names is.0 is.1.1 is.1.2
                ∙ none_placed (outcome_at sim bound script ts j)
                (subst (λ o. IsPlaced cs o None) (earlier_outcome j is.0)
                (subst (IsPlaced cs (outcome_after sim front bound script ts i j))
                (no_place (slice_get progress j) refl e)
                (so_far.holds.placed j)))
              where
                none_placed : (o : Option Branch) → IsPlaced cs o None → o ≡ None
                none_placed None h = refl
                none_placed (Some b) h = absurd h

                of_none : (q : Progress) → made_branch q ≡ None → made_place q ≡ None
                of_none (Waiting seen) f = refl
                of_none PastHorizon f = refl
                of_none (Made place u) f = absurd (cc)

                no_place : (o : Option Progress) → slice_get progress j ≡ o → option_and_then made_branch o ≡ None →
                    option_at (places_of progress) j ≡ None
                no_place None at f = places_of-none progress j at
                no_place (Some q) at f = places_of-at progress j q at ∙ of_none q f

      -- ---- the steps

      -- a trigger that has made its branch
      pub step_made : (k u : ℕ) → slice_get progress i ≡ Some (Made k u) →
          HavePassed sim script ts front bound (i + 1) progress cs
      step_made k u at =
          let before = progress_before (Made k u) at in
          stays (Made k u) at (step.made k (places_of-at progress i (Made k u) at)) (
            before.0,
            outcome-stays (λ t. bound ≤ t) (outcome_at sim front script ts i) (outcome_at sim bound script ts i)
                before.0 step.outcome before.1,
            before.2,
          )

      module _ {s : Source} (its : slice_get sources i ≡ Some s) where
        -- a trigger whose change comes too late
        pub step_past : slice_get progress i ≡ Some PastHorizon →
            HavePassed sim script ts front bound (i + 1) progress cs
        step_past at = by (source_at sim front script ts i t) refl (progress_before PastHorizon at)
          where
            by : (o : Option Branch) → source_at sim front script ts i t ≡ o → IsPastHorizon sim script ts front t o →
                HavePassed sim script ts front bound (i + 1) progress cs
            by None e h = absurd h
            by (Some b) e h =
                let now = source-stays its b e in
                let due = due_time-stays sim pass.known t b (source-for_stations its b now) front bound h.0
                pass.with_window.window.later h.1 in
                stays PastHorizon at (step.past_horizon b now (places_of-at progress i PastHorizon at) h.0 due h.2)
                (subst (IsPastHorizon sim script ts bound t) (sym now) (h.0, due, h.2))

        module _ {seen : ℕ} (at : slice_get progress i ≡ Some (Waiting seen)) where
          -- a trigger that waits for its source
          pub step_absent : source_place progress s ≡ None → HavePassed sim script ts front bound (i + 1) progress cs
          step_absent e =
              let none = not_found its e in
              stays (Waiting seen) at (step.absent none (places_of-at progress i (Waiting seen) at))
              (subst (IsWaiting sim script ts bound t seen) (sym none)
              (by none (source_at sim front script ts i t) refl (progress_before (Waiting seen) at)))
            where
              by : source_at sim bound script ts i t ≡ None → (o : Option Branch) →
                  source_at sim front script ts i t ≡ o →
                  IsWaiting sim script ts front t seen o → seen ≡ 0
              by none None e h = h
              by none (Some b) e h = let now = source-stays its b e in let never : ⊥ = cc in absurd never

          module _ {k start : ℕ} {b : Branch} (f : IsFound sim script ts bound i t cs k start b) where
            -- the entries that were not seen decide when it is due
            pub unseen_decide :
                due_in sim.time t.condition start (drop seen (log_at sim (clone_at cs k) t.station bound))
                ≡ due_time sim bound t b
            unseen_decide =
                subst (λ u. due_in sim.time t.condition u (drop seen (log_at sim (clone_at cs k) t.station bound))
                ≡ due_time sim bound t b) f.start_is
                (subst (λ c. due_in sim.time t.condition b.start (drop seen (log_at sim c t.station bound))
                ≡ due_time sim bound t b) (sym f.is_clone)
                (by (source_at sim front script ts i t) refl (progress_before (Waiting seen) at)))
              where
                by : (o : Option Branch) → source_at sim front script ts i t ≡ o →
                    IsWaiting sim script ts front t seen o →
                    due_in sim.time t.condition b.start (drop seen (log_at sim b.clone t.station bound))
                    ≡ due_time sim bound t b
                by None e h = subst (λ n. due_in sim.time t.condition b.start
                    (drop n (log_at sim b.clone t.station bound))
                    ≡ due_time sim bound t b) (sym h) refl
                by (Some d) e h =
                    let same : d ≡ b = let now = source-stays its d e in let is = f.source in cc in
                    let before : IsWaiting sim script ts front t seen (Some b) =
                    subst (λ x. IsWaiting sim script ts front t seen (Some x)) same h in
                    due_in-unseen law t.condition b.clone t.station b.start front bound seen
                    pass.with_window.window.later
                    before.0 before.1

            -- a due time is before the bound
            pub due_below : (due : ℕ) → due_time sim bound t b ≡ Some due → due < bound
            due_below due e = due_time-below sim pass.known t b f.for_stations bound due e

            -- a trigger that is not due has now seen all entries
            pub step_waits : due_time sim bound t b ≡ None → (n : ℕ) →
                n ≤ length (log_at sim (clone_at cs k) t.station bound) →
                HavePassed sim script ts front bound (i + 1) (slice_set progress i (Waiting n)) cs
            step_waits e n few = changes (Waiting seen) at (Waiting n)
                (step.not_due b f.source (places_of-at progress i (Waiting seen) at) e) refl
                (subst (IsWaiting sim script ts bound t n) (sym f.source)
                (e, subst (λ c. n ≤ length (log_at sim c t.station bound)) f.is_clone few))

            module _ {due : ℕ} (is_due : due_time sim bound t b ≡ Some due) where
              -- a trigger whose change comes too late
              pub step_late : sim.horizon ≤ due + sim.lookahead →
                  HavePassed sim script ts front bound (i + 1) (slice_set progress i PastHorizon) cs
              step_late late = changes (Waiting seen) at PastHorizon
                  (step.past_horizon b f.source (places_of-at progress i (Waiting seen) at) due is_due late) refl
                  (subst (IsPastHorizon sim script ts bound t) (sym f.source) (due, is_due, late))

              -- a trigger that fires
              fires : due + sim.lookahead < sim.horizon → Fires sim bound script ts i t (places_of progress) b due
              fires l = record {
                is_source = f.source;
                no_place = places_of-at progress i (Waiting seen) at;
                is_due = is_due;
                in_time = l;
              }

              -- makes its branch
              pub step_makes : due + sim.lookahead < sim.horizon →
                  HavePassed sim script ts front bound (i + 1)
                  (slice_set progress i (Made (length cs) (due + sim.lookahead)))
                  (clones_with_plan (clones_with_fork cs t.new k) (length cs)
                  (record { at = due + sim.lookahead; station = t.target; change = t.change }))
              step_makes l =
                  let after : List Clone = clones_with_plan (clones_with_fork cs t.new k) (length cs)
                  (record { at = due + sim.lookahead; station = t.target; change = t.change }) in
                  record {
                    holds = subst (λ ps. HoldsAfter sim front bound script ts (i + 1) after ps)
                        (sym (places_of-set progress i (Made (length cs) (due + sim.lookahead))))
                        (step.fires b due (fires l) k f.is_clone);
                    have_progress = progress-changed (Waiting seen) at (Made (length cs) (due + sim.lookahead))
                        (branch_of sim t b.clone due, outcome-made l, refl);
                  }
                where
                  -- the outcome is this branch
                  outcome-made : due + sim.lookahead < sim.horizon →
                      outcome_at sim bound script ts i ≡ Some (branch_of sim t b.clone due)
                  outcome-made l = outcomes-at sim bound (map initial_branch script) ts i t here
                      ∙ ap (branch_from sim bound t) f.source ∙ ap (branch_if_due sim t b.clone) is_due
                      ∙ ap (λ c. cond c (Some (branch_of sim t b.clone due)) None)
                      (lt-ltb (due + sim.lookahead) sim.horizon l)

              -- the set is not late
              pub makes-not_late : due + sim.lookahead < sim.horizon → bound ≤ due + sim.lookahead
              makes-not_late l = step.not_late b due (fires l)

            -- the set is for a station
            pub makes-is_station : IsStation sim t.target
            makes-is_station = step.is_station

            -- the fork has room, and its name is no clone's
            pub makes-room : length cs < length script + length progress
            makes-room = let e = length-map progress made_place in
                let r = step.room (places_of-at progress i (Waiting seen) at) in omega (arith, e, r)

            pub makes-unused : place_of t.new cs ≡ None
            makes-unused = step.unused (places_of-at progress i (Waiting seen) at)
