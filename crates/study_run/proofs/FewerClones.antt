-- A run never has more clones than at its end.
use Rattle.std.proofs.Common.{◌≡◌, ℕ, ◌≤◌, List, [], ◌∷◌, Option, Some, None, inl, inr, sym, ap}
use Rattle.std.proofs.Common.{subst, arith, length, length-append, map, take}
use Rattle.std.specs.List.{range_with_len}
use Rattle.std.proofs.lemmas.List.{length-map}
use Rattle.std.proofs.lemmas.List.FromFn.{length-range_with_len}
use Rattle.std.proofs.lemmas.List.Sorted.{length_permutation}
use Rattle.sim_base.specs.Clones.{Clone, clone_at}
use Rattle.sim_base.specs.declared.entry.Line.{Line}
use Rattle.net_model.specs.Net.{Net}
use Rattle.run_laws.specs.Handlers.{AllAreForStations}
use Rattle.run_laws.specs.Simulation.{Simulation}
use Rattle.stations.specs.Runs.{simulation}
use Rattle.watch_points.specs.Branches.{Branch, HaveNewNames, TargetsAreStations, Trigger, branch_by, branches_at}
use Rattle.watch_points.specs.Branches.{initial_branch, with_branch}
use Rattle.watch_points.specs.Keeping.{trigger_order}
use Rattle.watch_points.specs.BranchLaws.{DueAtFront}
use Rattle.watch_points.specs.PassLaws.{SameOrLate}
use Rattle.watch_points.proofs.Branches.{AgreeSoFar, FrontPair, agree-initial, agree-next, branch_by-same_or_late}
use Rattle.watch_points.proofs.Keeping.{clones_in_trigger_order}
use Rattle.watch_points.specs.Progress.{places_of}
use Rattle.watch_points.specs.Triggers.{clones_with_branches}
use Rattle.watch_points.specs.Watchers.{Follows, WatcherView, active_triggers, progress_of, watches_of}
use Rattle.watch_points.proofs.FollowedClones.{for_stations-take}
use Rattle.watch_points.proofs.Found.{initial_branch-name}
use Rattle.watch_points.proofs.Passing.{initial-for_stations}
use Rattle.watch_points.proofs.PassingWatcher.{net_known}

-- the branches after two triggers, if the second branch is the first one or a new one
with_branch-longer : (Late : ℕ → Type 0) (olds news : List Branch) (o p : Option Branch) → SameOrLate Late o p →
    length olds ≤ length news → length (with_branch olds o) ≤ length (with_branch news p)
with_branch-longer Late olds news o p (inl same) h =
    subst (λ q. length (with_branch olds o) ≤ length (with_branch news q)) same (both o)
  where
    both : (q : Option Branch) → length (with_branch olds q) ≤ length (with_branch news q)
    both None = h
    both (Some b) =
        let x = length-append olds (b ∷ []) in let y = length-append news (b ∷ []) in omega (arith, h, x, y)
with_branch-longer Late olds news o p (inr late) h =
    subst (λ q. length (with_branch olds q) ≤ length (with_branch news p)) (sym late.0) (longer p)
  where
    longer : (q : Option Branch) → length olds ≤ length (with_branch news q)
    longer None = h
    longer (Some b) = let y = length-append news (b ∷ []) in omega (arith, h, y)

module _ {S M N : Type 0} (sim : Simulation S M N) (known : DueAtFront sim) (front bound : ℕ) (l : front ≤ bound) where
  -- two fronts in order
  fronts : FrontPair sim front bound (λ c. Unit {0}) (λ t. Unit {0})
  fronts = record { order = l; later = λ s t h k. tt; due = λ w b t there k e f. tt }

  -- there are no fewer branches at the later front
  branches-longer : (names : List (List ℕ)) (olds news : List Branch) (ws : List (Trigger N)) →
      AgreeSoFar sim front bound (λ c. Unit {0}) (λ t. Unit {0}) names olds news → HaveNewNames names ws →
      TargetsAreStations sim.stations ws → length olds ≤ length news →
      length (branches_at sim front olds ws) ≤ length (branches_at sim bound news ws)
  branches-longer names olds news [] p fresh targets h = h
  branches-longer names olds news (w ∷ ws) p fresh targets h =
      let same = branch_by-same_or_late sim known fronts w names olds news p (λ x j. tt) in
      branches-longer (w.new ∷ names) (with_branch olds (branch_by sim front olds w))
      (with_branch news (branch_by sim bound news w)) ws
      (agree-next sim known fronts w names olds news p fresh.0 targets.0 same) fresh.1 targets.1
      (with_branch-longer (λ t. Unit {0}) olds news (branch_by sim front olds w) (branch_by sim bound news w) same h)

module _ (w : WatcherView) (net : Net) (cs : List Clone) (front : ℕ) (f : Follows w net cs front) where
  abbrev script : List Clone
  script = take w.script_len cs

  abbrev ts : List (Trigger Line)
  ts = active_triggers net w.active

  abbrev order : List ℕ
  order = trigger_order (length script) (places_of (progress_of w.active))

  -- there are no more clones than branches at the front
  length-held : length cs ≡ length (branches_at (simulation net) front (map initial_branch script) ts)
  length-held =
      let all = length_permutation (range_with_len 0 (length cs)) order f.are_followed.holds.order in
      let range = length-range_with_len 0 (length cs) in
      let ordered = length-map order (clone_at cs) in
      let same = ap length (clones_in_trigger_order (simulation net) front script ts cs
      (places_of (progress_of w.active))
      f.are_followed.holds) in
      let made = length-map (branches_at (simulation net) front (map initial_branch script) ts)
      (λ (b : Branch). b.clone) in
      omega (arith, all, range, ordered, same, made)

  -- there are no more clones than in the whole run
  pub fewer_clones : front ≤ net.horizon → AllAreForStations (simulation net) cs →
      length cs ≤ length (clones_with_branches net script (watches_of w.active))
  fewer_clones l all =
      let known = net_known net f.valid in
      let more = branches-longer (simulation net) known front net.horizon l (map (λ (c : Clone). c.name) script)
      (map initial_branch script) (map initial_branch script) ts
      (agree-initial (simulation net) known (fronts (simulation net) known front net.horizon l)
      (map (λ (c : Clone). c.name) script) (map initial_branch script)
      (λ x j. (
        initial-for_stations (simulation net) script (for_stations-take net w.script_len cs f.script_max all) x j,
        initial_branch-name script x j,
      )))
      f.can_be_followed.new_names f.can_be_followed.targets (omega arith) in
      let here = length-held in
      let made = length-map (branches_at (simulation net) net.horizon (map initial_branch script) ts)
      (λ (b : Branch). b.clone) in
      omega (arith, more, here, made)
