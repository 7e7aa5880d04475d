-- The result of a run with watches.
use Rattle.std.proofs.Common.{◌≡◌, ◌<◌, ◌≤◌, ℕ, zero, suc, ◌+◌, Bool, true, false, cond, nat_lt, arith, refl, sym}
use Rattle.std.proofs.Common.{◌⊎◌, ap, subst, ◌∙◌, inl, inr, List, [], ◌∷◌, length, length-append, map, Option}
use Rattle.std.proofs.Common.{Some}
use Rattle.std.proofs.Common.{None, Ok}
use Rattle.std.specs.Prelude.{IsPermutation}
use Rattle.std.proofs.lemmas.List.{length-map}
use Rattle.std.proofs.lemmas.List.Sorted.{IsPermutation-sym}
use Rattle.sim_base.specs.Clones.{Clone, clone_at}
use Rattle.sim_base.specs.declared.message.TheConstants.{WORD_NUMBERS}
use Rattle.sim_base.specs.declared.lists.TheConstants.{MAX_CLONES, MAX_DECISIONS}
use Rattle.net_model.specs.Net.{Net}
use Rattle.run_laws.specs.Queue.{In}
use Rattle.run_laws.specs.Sharing.{IsWithinLimit}
use Rattle.run_laws.specs.Simulation.{Simulation}
use Rattle.run_laws.proofs.Counts.{in_map}
use Rattle.run_laws.proofs.Queue.{all_in}
use Rattle.run_laws.proofs.Stands.{clone_in}
use Rattle.stations.specs.Runs.{IsBeyond, simulation}
use Rattle.decision_book.specs.Plans.{ArePlanned, IsPlanned}
use Rattle.watch_points.specs.Branches.{Branch, Trigger, branch_by, branch_from, branch_if_due, branch_named, branch_of}
use Rattle.watch_points.specs.Branches.{branches_at}
use Rattle.watch_points.specs.Branches.{due_time, initial_branch, with_branch}
use Rattle.run_laws.specs.Orders.{IsPlaceOrder, in_order}
use Rattle.watch_points.proofs.Branches.{branch_named-in, in-with_branch}
use Rattle.run_laws.proofs.Orders.{in_order-permutation, in_permuted}
use Rattle.trace_report.specs.Outputs.{figures_to, report}
use Rattle.world_core.specs.Overs.{most_handled}
use Rattle.world_core.specs.Worlds.{total_handled}
use Rattle.trace_writer.specs.WorldTraces.{AreShort}
use Rattle.study_run.specs.Limits.{AreWithin}
use Rattle.watch_points.specs.Checking.{fit}
use Rattle.watch_points.specs.CloneNumbers.{numbered_name}
use Rattle.watch_points.specs.Triggers.{clones_with_branches, trigger_of, triggers_of}
use Rattle.watch_points.proofs.AcceptedWatches.{accepted_watches_fit}
use Rattle.watch_points.proofs.FollowedClones.{figures_are_the_same}
use Rattle.watch_points.specs.declared.watch.Watch.{Watch}
use Rattle.study_run.specs.Stops.{StopsWatched}
use Rattle.study_run.specs.Watching.{IsWatchedRun}
use Rattle.study_run.specs.declared.watched_study.WatchedWorld.{WatchedWorld}
use Rattle.cloner_top.specs.declared.excess.Excess.{Excess}
use Rattle.cloner_top.specs.Endings.{HasWritten, IsExcessOf, MayRunWatched, limit_met_at, over, run_texts, within}
use Rattle.cloner_top.specs.RunTexts.{MayPutRun}

-- ---- In, clone_at

-- a clone of a list has a place in it
place_of_one : (cs : List Clone) (c : Clone) → In c cs → (k : ℕ) × ((k < length cs) × (clone_at cs k ≡ c))
place_of_one [] c i = absurd i
place_of_one (x ∷ xs) c (inl e) = (0, (omega arith, sym e))
place_of_one (x ∷ xs) c (inr i) =
    let p = place_of_one xs c i in let l = p.1.0 in (suc p.0, (omega (arith, l), p.1.1))

-- a property of the clones at all places of a list holds for those of a permutation
permuted : (P : Clone → Type 0) (cs ds : List Clone) → IsPermutation cs ds
    → ((k : ℕ) → k < length cs → P (clone_at cs k)) → (k : ℕ) → k < length ds → P (clone_at ds k)
permuted P cs ds p each k there =
    let is_one = in_permuted ds cs (clone_at ds k) (IsPermutation-sym cs ds p) (clone_in ds k there) in
    let place = place_of_one cs (clone_at ds k) is_one in
    subst P place.1.1 (each place.0 place.1.0)

-- ---- AreWithin, AreShort, report, in another order

module _ (net : Net) (cs : List Clone) (order : List ℕ) (is : IsPlaceOrder (length cs) order) where
  -- the clones in another order are a permutation
  ordered : IsPermutation cs (in_order cs order)
  ordered = in_order-permutation cs order is

  -- none of their logs is beyond the limit either
  within_ordered : AreWithin net cs → AreWithin net (in_order cs order)
  within_ordered = permuted (λ c. IsWithinLimit (simulation net) net.horizon c) cs (in_order cs order) ordered

  -- they are short if the ordered ones are
  short_ordered : AreShort (in_order cs order) → AreShort cs
  short_ordered = permuted (λ c. length c.plans ≤ WORD_NUMBERS) (in_order cs order) cs
      (IsPermutation-sym cs (in_order cs order) ordered)

  -- their figures are the same
  figures_ordered : (n : ℕ) → figures_to net (in_order cs order) n ≡ figures_to net cs n
  unfolding figures_to
  figures_ordered zero = refl
  figures_ordered (suc n) =
      let same = figures_are_the_same net cs order (n + 1) net.horizon is in
      rw (figures_ordered n, same.copies_same, same.once_same, same.alone_same) refl

  -- and so is their report
  pub report_ordered : report net (in_order cs order) ≡ report net cs
  unfolding report
  report_ordered = rw (figures_ordered (length net.sites)) refl

-- ---- clones_with_branches

-- no branch of these has more decisions than this number
abbrev HaveFewPlans : ℕ → List Branch → Type 0
HaveFewPlans n bs = (b : Branch) → In b bs → length b.clone.plans ≤ n

module _ {S M N : Type 0} (sim : Simulation S M N) (front : ℕ) where
  -- a branch has one more decision than its clone
  due_plans : (w : Trigger N) (b x : Branch) (n : ℕ) (due : Option ℕ) → length b.clone.plans ≤ n
      → branch_if_due sim w b.clone due ≡ Some x → length x.clone.plans ≤ n + 1
  due_plans w b x n None few e = cc
  due_plans w b x n (Some t) few e = by (nat_lt (t + sim.lookahead) sim.horizon) e
    where
      by : (early : Bool) → cond early (Some (branch_of sim w b.clone t)) None ≡ Some x
          → length x.clone.plans ≤ n + 1
      by true is =
          let same : branch_of sim w b.clone t ≡ x = cc in
          subst (λ y. length y.clone.plans ≤ n + 1) same
          (let l = length-append b.clone.plans
          (record { at = t + sim.lookahead; station = w.target; change = w.change } ∷ []) in omega (arith, few, l))
      by false is = cc

  -- the branch that a trigger makes
  made_plans : (w : Trigger N) (bs : List Branch) (x : Branch) (n : ℕ) → HaveFewPlans n bs
      → branch_by sim front bs w ≡ Some x → length x.clone.plans ≤ n + 1
  made_plans w bs x n few = by (branch_named w.who bs) refl
    where
      by : (source : Option Branch) → branch_named w.who bs ≡ source → branch_from sim front w source ≡ Some x
          → length x.clone.plans ≤ n + 1
      by None named e = cc
      by (Some b) named e =
          due_plans w b x n (due_time sim front w b) (few b (branch_named-in w.who bs b named).0) e

  -- all branches have at most one more decision for each trigger
  branches_plans : (bs : List Branch) (ws : List (Trigger N)) (n : ℕ) → HaveFewPlans n bs
      → HaveFewPlans (n + length ws) (branches_at sim front bs ws)
  branches_plans bs [] n few b i = let l = few b i in omega (arith, l)
  branches_plans bs (w ∷ ws) n few b i =
      let l = branches_plans (with_branch bs (branch_by sim front bs w)) ws (n + 1) more b i in omega (arith, l)
    where
      more : HaveFewPlans (n + 1) (with_branch bs (branch_by sim front bs w))
      more x j = by (in-with_branch bs (branch_by sim front bs w) x j)
        where
          by : In x bs ⊎ (branch_by sim front bs w ≡ Some x) → length x.clone.plans ≤ n + 1
          by (inl old) = let l = few x old in omega (arith, l)
          by (inr new) = made_plans w bs x n few new

-- the clones of a run with fitting watches are short if the script's are planned
pub branches_short : (net planned : Net) (cs : List Clone) (ws : List Watch) → ArePlanned planned cs
    → fit net cs ws ≡ Ok tt → AreShort (clones_with_branches net cs ws)
branches_short net planned cs ws plans fits k there =
    let made = in_map (λ (b : Branch). b.clone) (branches_at (simulation net) net.horizon (map initial_branch cs)
    (triggers_of net ws)) (clone_at (clones_with_branches net cs ws) k)
    (clone_in (clones_with_branches net cs ws) k there) in
    let few = branches_plans (simulation net) net.horizon (map initial_branch cs) (triggers_of net ws) MAX_DECISIONS
    initial made.0 made.1 in
    let same = ap (λ (c : Clone). length c.plans) made.2 in
    let watches = watches_max ws (accepted_watches_fit net cs ws fits).clones_max in
    let count = length-map ws (trigger_of net) in
    omega (arith, few, same, watches, count)
  where
    initial : HaveFewPlans MAX_DECISIONS (map initial_branch cs)
    initial b i =
        let from = in_map initial_branch cs b i in
        subst (λ (x : Branch). length x.clone.plans ≤ MAX_DECISIONS) (sym from.2)
        (all_in (IsPlanned planned) cs from.0 plans.each from.1).length_max

    watches_max : (xs : List Watch) → (0 < length xs → length cs + length xs ≤ MAX_CLONES)
        → length xs ≤ MAX_CLONES
    watches_max [] h = omega arith
    watches_max (x ∷ xs) h = let l = h (omega arith) in omega (arith, l)

-- ---- a run with watches

module _ (net : Net) (cs : List Clone) (ws : List Watch) (old_steps new_steps : ℕ) (r : WatchedWorld)
    (run : IsWatchedRun net cs ws old_steps new_steps (Ok r)) where
  -- the clones of its world, in the order of the watches
  abbrev pub in_file_order : List Clone
  in_file_order = in_order r.world.clones r.order.items

  -- its texts are those of an ending
  pub watched_wrote : HasWritten (MayRunWatched net cs ws) old_steps new_steps (run_texts net in_file_order)
  watched_wrote = subst (λ l. HasWritten (MayRunWatched net cs ws) old_steps new_steps (run_texts net l)) (sym
      run.clones)
      (record {
        work = total_handled net (clones_with_branches net cs ws) net.horizon;
        may = within (subst (AreWithin net) run.clones
            (within_ordered net r.world.clones r.order.items run.order run.within));
        steps = run.steps;
      })

  -- its texts may be put
  pub watched_may_put : (planned : Net) → ArePlanned planned cs → fit net cs ws ≡ Ok tt → MayPutRun net r.world
  watched_may_put planned plans fits = record {
    may_report = record { net = run.net_is; ended = run.front };
    length_max = short_ordered net r.world.clones r.order.items run.order
        (subst AreShort (sym run.clones) (branches_short net planned cs ws plans fits));
  }

-- the limit is met in a run with watches
pub watched_exceeds : (net told : Net) (cs made : List Clone) (ws : List Watch)
    (station number old_steps new_steps : ℕ) (name : List ℕ) (excess : Excess) → made ≡ cs
    → StopsWatched net cs ws old_steps new_steps station number → told ≡ net → name ≡ numbered_name made ws number
    → excess ≡ limit_met_at told station name
    → IsExcessOf (MayRunWatched net cs ws) old_steps new_steps [] excess
watched_exceeds net told cs made ws station number old_steps new_steps name excess same stops same_net same_name is =
    let all = clones_with_branches net cs ws in
    let place = place_of_one all stops.clone stops.is_one in
    let name_is : name ≡ (clone_at all place.0).name =
    same_name ∙ (ap (λ l. numbered_name l ws number) same ∙ (sym stops.name
    ∙ sym (ap (λ (c : Clone). c.name) place.1.1))) in
    let excess_is : limit_met_at net station (clone_at all place.0).name ≡ excess =
    sym (is ∙ (ap (λ (n : Net). limit_met_at n station name) same_net ∙ ap (limit_met_at net station) name_is)) in
    subst (IsExcessOf (MayRunWatched net cs ws) old_steps new_steps []) excess_is (record {
      most = most_handled net (length all);
      may = over station place.0 (record {
        is_station = stops.is_station;
        clone = place.1.0;
        beyond = subst (IsBeyond net station net.horizon) (sym place.1.1) stops.beyond;
      });
      steps = stops.at_most;
    })
