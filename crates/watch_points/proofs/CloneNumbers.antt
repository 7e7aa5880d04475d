-- The clones of a followed world by their numbers.
use Rattle.std.proofs.Common.{◌≡◌, ℕ, zero, suc, ◌+◌, ◌-◌, ◌<◌, ◌≤◌, true, cond, List, [], ◌∷◌, Option}
use Rattle.std.proofs.Common.{Some}
use Rattle.std.proofs.Common.{None, inl, inr, refl, sym, ap, ◌∙◌, subst, arith, length, map, take, unwrap_or}
use Rattle.std.specs.Prelude.{slice_get}
use Rattle.std.specs.List.{range_with_len}
use Rattle.std.proofs.lemmas.Bool.{cases_lt, lt-ltb, le-ltb, eq-eqb, eqb-true}
use Rattle.std.proofs.lemmas.List.{length-take-le}
use Rattle.std.proofs.lemmas.Option.{slice_get_within}
use Rattle.sim_base.specs.Clones.{Clone, clone_at}
use Rattle.sim_base.specs.declared.entry.Line.{Line}
use Rattle.sim_base.specs.declared.lists.TheConstants.{MAX_CLONES}
use Rattle.sim_base.proofs.ListLaws.{slice_get-map_some}
use Rattle.net_model.specs.Net.{Net}
use Rattle.run_laws.proofs.Lists.{in_append}
use Rattle.stations.specs.Runs.{simulation}
use Rattle.watch_points.specs.Branches.{Branch, Trigger, branches_at, initial_branch, present}
use Rattle.watch_points.specs.Keeping.{IsPlaced, option_at, outcome_at, trigger_order}
use Rattle.watch_points.proofs.Keeping.{present-at, range-below, range-has}
use Rattle.run_laws.proofs.Orders.{in_permuted}
use Rattle.watch_points.proofs.BranchSources.{branch_by-name}
use Rattle.watch_points.proofs.BranchSteps.{outcomes-at}
use Rattle.watch_points.specs.CloneNumbers.{IsPlaceOf, NamesClone, NumbersNameClones, clone_number, is_made_at}
use Rattle.watch_points.specs.CloneNumbers.{maker_of, new_name}
use Rattle.watch_points.specs.CloneNumbers.{numbered_name}
use Rattle.watch_points.specs.Progress.{made_place, places_of}
use Rattle.watch_points.specs.Triggers.{trigger_of}
use Rattle.watch_points.specs.Watchers.{Follows, WatcherView, active_triggers, progress_of, watches_of}
use Rattle.watch_points.specs.declared.watch.Watch.{Watch}
use Rattle.watch_points.specs.declared.watcher.ActiveWatch.{ActiveWatch}
use Rattle.watch_points.specs.declared.watcher.Progress.{Progress}
use Rattle.watch_points.specs.declared.watcher.Progress.TheVariants.{Made, PastHorizon, Waiting}
use Rattle.watch_points.proofs.ClonePlaces.{position-there}
use Rattle.watch_points.proofs.FollowedClones.{clone_at-take}
use Rattle.watch_points.proofs.Passing.{places_of-at}
use Rattle.watch_points.proofs.StartedWatches.{slice_get-position}

-- ---- is_made_at

-- a branch with this place was made there
made_at-true : (k : ℕ) (p : Progress) → made_place p ≡ Some k → is_made_at k p ≡ true
made_at-true k (Waiting seen) e = absurd (cc)
made_at-true k PastHorizon e = absurd (cc)
made_at-true k (Made place start) e = let same : place ≡ k = cc in eq-eqb place k same

-- and the other way round
made_at-place : (k : ℕ) (p : Progress) → is_made_at k p ≡ true → made_place p ≡ Some k
made_at-place k (Waiting seen) e = absurd (cc)
made_at-place k PastHorizon e = absurd (cc)
made_at-place k (Made place start) e = ap Some (eqb-true place k e)

-- ---- places_of

-- the watch with a place
place-watch : (active : List ActiveWatch) (j k : ℕ) → option_at (places_of (progress_of active)) j ≡ Some k →
    (a : ActiveWatch) × (slice_get active j ≡ Some a) × (made_place a.progress ≡ Some k)
place-watch [] j k e = absurd (cc)
place-watch (b ∷ active) zero k e = (b, refl, e)
place-watch (b ∷ active) (suc j) k e = place-watch active j k e

-- the first watch with a place
first-watch : (active : List ActiveWatch) (j k : ℕ) → option_at (places_of (progress_of active)) j ≡ Some k →
    (i : ℕ) × (maker_of k active ≡ Some i) × ((a : ActiveWatch) × (slice_get active i ≡ Some a)
    × (made_place a.progress ≡ Some k))
first-watch active j k e = by (maker_of k active) refl
  where
    by : (o : Option ℕ) → maker_of k active ≡ o → (i : ℕ) × (maker_of k active ≡ Some i)
        × ((a : ActiveWatch) × (slice_get active i ≡ Some a) × (made_place a.progress ≡ Some k))
    by None none = let a = place-watch active j k e in
        absurd (position-there (λ (b : ActiveWatch). is_made_at k b.progress) active j a.0 a.1
        (made_at-true k a.0.progress a.2) none)
    by (Some i) some = let a = slice_get-position (λ (b : ActiveWatch). is_made_at k b.progress) active i some in
        (i, some, (a.0, a.1, made_at-place k a.0.progress a.2))

-- ---- numbered_name

-- the name of the number of a watch
pub watch_name : (cs : List Clone) (ws : List Watch) (n i : ℕ) (w : Watch) → n ≡ length cs + i →
    slice_get ws i ≡ Some w → numbered_name cs ws n ≡ w.new
watch_name cs ws n i w e f =
    let later : length cs ≤ n = omega (arith, e) in
    let left : n - length cs ≡ i = omega (arith, e) in
    ap (λ b. cond b (clone_at cs n).name (new_name (slice_get ws (n - length cs)))) (le-ltb n (length cs) later)
    ∙ ap (λ j. new_name (slice_get ws j)) left ∙ ap new_name f

-- and that of a clone of the script
pub script_name : (cs : List Clone) (ws : List Watch) (n : ℕ) → n < length cs →
    numbered_name cs ws n ≡ (clone_at cs n).name
script_name cs ws n l =
    ap (λ b. cond b (clone_at cs n).name (new_name (slice_get ws (n - length cs)))) (lt-ltb n (length cs) l)

-- ---- clone_number

-- the number of a clone of the script is its place
pub script_number : (w : WatcherView) (k : ℕ) → k < w.script_len → clone_number w k ≡ k
script_number w k below =
    ap (λ b. cond b k (w.script_len + unwrap_or (maker_of k w.active) 0)) (lt-ltb k w.script_len below)

-- and that of another clone is made of its watch's place
pub watch_number : (w : WatcherView) (k i : ℕ) → w.script_len ≤ k → maker_of k w.active ≡ Some i →
    clone_number w k ≡ w.script_len + i
watch_number w k i above is =
    ap (λ b. cond b k (w.script_len + unwrap_or (maker_of k w.active) 0)) (le-ltb k w.script_len above)
    ∙ ap (λ o. w.script_len + unwrap_or o 0) is

module _ (w : WatcherView) (net : Net) (cs : List Clone) (front k : ℕ) (f : Follows w net cs front) (l : k < length cs)
  where
    abbrev script : List Clone
    script = take w.script_len cs

    many : length script ≡ w.script_len
    many = length-take-le w.script_len cs f.script_max

    -- a clone of the script
    of-script : k < w.script_len → NamesClone w cs k
    of-script below =
        let is = script_number w k below in
        record {
          in_range = omega (arith, is, below);
          name = ap (λ (c : Clone). c.name) (sym (clone_at-take w.script_len cs k below f.script_max))
              ∙ sym (script_name script (watches_of w.active) k (omega (arith, below, many)))
              ∙ ap (numbered_name script (watches_of w.active)) (sym is);
        }

    -- another clone has a watch
    its-place : w.script_len ≤ k → (j : ℕ) × (option_at (places_of (progress_of w.active)) j ≡ Some k)
    its-place above = elim (in_append (range_with_len 0 (length script)) (present (places_of (progress_of w.active))) k
        (in_permuted (range_with_len 0 (length cs)) (trigger_order (length script) (places_of (progress_of w.active))) k
        f.are_followed.holds.order (range-has 0 (length cs) k (omega arith) (omega (arith, l))))) [
          | inl i ↦ (let b = range-below 0 (length script) k i in absurd (omega (arith, b, above, many)))
          | inr i ↦ present-at (places_of (progress_of w.active)) k i
        ]

    -- whose branch it is
    of-watch : w.script_len ≤ k → NamesClone w cs k
    of-watch above =
        let j = its-place above in
        let first = first-watch w.active j.0 k j.1 in
        let i : ℕ = first.0 in
        let a : ActiveWatch = first.2.0 in
        let ts : List (Trigger Line) = active_triggers net w.active in
        let number = watch_number w k i above first.1 in
        let below = slice_get_within w.active i a first.2.1 in
        let watch : slice_get (watches_of w.active) i ≡ Some a.watch =
        slice_get-map_some (λ (a : ActiveWatch). a.watch) w.active i a first.2.1 in
        let trigger : slice_get ts i ≡ Some (trigger_of net a.watch) =
        slice_get-map_some (trigger_of net) (watches_of w.active) i a.watch watch in
        let place : option_at (places_of (progress_of w.active)) i ≡ Some k =
        places_of-at (progress_of w.active) i a.progress
        (slice_get-map_some (λ (a : ActiveWatch). a.progress) w.active i a first.2.1) ∙ first.2.2 in
        record {
          in_range = omega (arith, number, below);
          name = by i (trigger_of net a.watch) (outcome_at (simulation net) front script ts i) refl
              (subst (IsPlaced cs (outcome_at (simulation net) front script ts i)) place
              (f.are_followed.holds.placed i))
              trigger
              ∙ sym (watch_name script (watches_of w.active) (clone_number w k) i a.watch
              (omega (arith, number, many)) watch);
        }
      where
        by : (i : ℕ) (v : Trigger Line) (o : Option Branch) →
            outcome_at (simulation net) front script (active_triggers net w.active) i ≡ o → IsPlaced cs o (Some k) →
            slice_get (active_triggers net w.active) i ≡ Some v → (clone_at cs k).name ≡ v.new
        by i v None e h g = absurd h
        by i v (Some b) e h g = ap (λ (c : Clone). c.name) h.1
            ∙ branch_by-name (simulation net) front
            (branches_at (simulation net) front (map initial_branch script) (take i (active_triggers net w.active))) v b
            (sym (outcomes-at (simulation net) front (map initial_branch script) (active_triggers net w.active) i v g)
            ∙ e)

-- the number of a clone of a followed world represents the clone's name
pub numbers_name_clones : NumbersNameClones
numbers_name_clones w net cs front k f l = elim (cases_lt k w.script_len) [
  | inl below ↦ of-script w net cs front k f l below
  | inr above ↦ of-watch w net cs front k f l above
]

-- ---- IsPlaceOf

-- a clone after the script's has a watch
pub maker_there : (w : WatcherView) (k : ℕ) → IsPlaceOf w k → w.script_len ≤ k → maker_of k w.active ≡ None → ⊥
maker_there w k p above none =
    let j = its-place w p.net p.clones p.front k p.follows p.in_range above in
    let first = first-watch w.active j.0 k j.1 in
    let some : maker_of k w.active ≡ Some first.0 = first.1 in
    let never : ⊥ = cc in never

-- its number is small
pub number_fits : (w : WatcherView) (k i : ℕ) → IsPlaceOf w k → i < length w.active → w.script_len + i < MAX_CLONES
number_fits w k i p l =
    let fits = p.follows.clones_max (omega (arith, l)) in omega (arith, fits, l)
