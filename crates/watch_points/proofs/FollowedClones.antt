-- The clones of a followed world: their order, and those of the whole run.
use Rattle.std.proofs.Common.{◌≡◌, ℕ, zero, suc, ◌<◌, ◌≤◌, List, [], ◌∷◌, refl, sym, ap, ◌∙◌, subst, arith, map, length}
use Rattle.std.proofs.Common.{take}
use Rattle.std.proofs.lemmas.List.{length-take-le}
use Rattle.sim_base.specs.Clones.{Clone, clone_at}
use Rattle.sim_base.specs.Same.{same_entry}
use Rattle.sim_base.proofs.SameEntry.{same_entry-Decides}
use Rattle.net_model.specs.Net.{Net}
use Rattle.run_laws.specs.Handlers.{AllAreForStations, AreForStations}
use Rattle.stations.specs.Runs.{handled_once, simulation}
use Rattle.watch_points.specs.Branches.{initial_branch}
use Rattle.watch_points.specs.Keeping.{trigger_order}
use Rattle.watch_points.specs.BranchLaws.{AreValidTriggers}
use Rattle.run_laws.specs.Orders.{IsPlaceOrder, in_order}
use Rattle.watch_points.proofs.Keeping.{clones_in_trigger_order}
use Rattle.watch_points.proofs.BranchLimits.{held_clones_stay}
use Rattle.run_laws.proofs.Orders.{figures_ignore_order}
use Rattle.watch_points.specs.Laws.{FiguresAreTheSame, FollowedClonesAreInOrder, FollowedClonesStay, OrderHasAllClones}
use Rattle.watch_points.specs.Laws.{TotalIsTheSame, watch_order}
use Rattle.watch_points.specs.Progress.{places_of}
use Rattle.watch_points.specs.Watchers.{Follows, WatcherView, active_triggers, progress_of}
use Rattle.watch_points.proofs.Found.{initial_branch-name}
use Rattle.watch_points.proofs.Passing.{initial-for_stations}
use Rattle.watch_points.proofs.PassingWatcher.{net_known, station_sum-same}

-- ---- take

-- the first n clones are the same clones
pub clone_at-take : (n : ℕ) (cs : List Clone) (k : ℕ) → k < n → n ≤ length cs → clone_at (take n cs) k ≡ clone_at cs k
clone_at-take zero cs k l m = absurd (omega (arith, l))
clone_at-take (suc n) [] k l m = absurd (omega (arith, m))
clone_at-take (suc n) (c ∷ cs) zero l m = refl
clone_at-take (suc n) (c ∷ cs) (suc k) l m = clone_at-take n cs k (omega (arith, l)) (omega (arith, m))

-- so their decisions are for stations
pub for_stations-take : (net : Net) (n : ℕ) (cs : List Clone) → n ≤ length cs → AllAreForStations (simulation net) cs →
    AllAreForStations (simulation net) (take n cs)
for_stations-take net n cs m all k l =
    let len = length-take-le n cs m in
    subst (λ (c : Clone). AreForStations (simulation net) c.plans)
    (sym (clone_at-take n cs k (omega (arith, l, len)) m)) (all k (omega (arith, l, len, m)))

module _ (w : WatcherView) (net : Net) (cs : List Clone) (front : ℕ) (f : Follows w net cs front) where
  -- there are as many clones of the script as the watcher says
  script-length : length (take w.script_len cs) ≡ w.script_len
  script-length = length-take-le w.script_len cs f.script_max

  -- the order has the places of all clones
  order-all : IsPlaceOrder (length cs) (watch_order w)
  order-all = subst (λ n. IsPlaceOrder (length cs) (trigger_order n (places_of (progress_of w.active)))) script-length
      f.are_followed.holds.order

-- the order has the places of all clones
pub order_has_all_clones : OrderHasAllClones
order_has_all_clones w net cs front f = order-all w net cs front f

-- in that order the clones are those of the whole run
pub followed_clones_are_in_order : FollowedClonesAreInOrder
followed_clones_are_in_order w net cs f =
    ap (λ n. in_order cs (trigger_order n (places_of (progress_of w.active))))
    (sym (script-length w net cs net.horizon f))
    ∙ clones_in_trigger_order (simulation net) net.horizon (take w.script_len cs) (active_triggers net w.active) cs
    (places_of (progress_of w.active)) f.are_followed.holds

-- a clone on the way is one of the whole run
pub followed_clones_stay : FollowedClonesStay
followed_clones_stay w net cs front f l all c i =
    held_clones_stay (simulation net) (net_known net f.valid) (map (λ (c : Clone). c.name) (take w.script_len cs)) front
    (take w.script_len cs) (active_triggers net w.active) cs (places_of (progress_of w.active)) valid l
    f.are_followed.holds c i
  where
    valid : AreValidTriggers (simulation net) (map (λ (c : Clone). c.name) (take w.script_len cs))
        (map initial_branch (take w.script_len cs)) (active_triggers net w.active)
    valid = record {
      clones = λ x j. (
        initial-for_stations (simulation net) (take w.script_len cs)
            (for_stations-take net w.script_len cs f.script_max all) x j,
        initial_branch-name (take w.script_len cs) x j,
      );
      new_names = f.can_be_followed.new_names;
      targets = f.can_be_followed.targets;
    }

-- ---- figures

pub figures_are_the_same : FiguresAreTheSame
figures_are_the_same net cs order s front is =
    figures_ignore_order (simulation net) same_entry cs order s front same_entry-Decides is

pub total_is_the_same : TotalIsTheSame
total_is_the_same net cs order front is =
    station_sum-same (λ s. handled_once net (in_order cs order) s front) (λ s. handled_once net cs s front)
    (length net.sites) (λ s. (figures_are_the_same net cs order s front is).once_same)
