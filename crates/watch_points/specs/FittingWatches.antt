-- What holds of watches that fit.
use Rattle.std.specs.Prelude.{◌≡◌, ◌⊎◌, ℕ, ◌+◌, ◌<◌, ◌≤◌, List, length, map, take, Some, None, Ok, slice_get, true}
use Rattle.sim_base.specs.Clones.{Clone, clone_at, place_of}
use Rattle.sim_base.specs.declared.lists.TheConstants.{MAX_CLONES}
use Rattle.net_model.specs.Net.{Net, site_of, station_named}
use Rattle.stations.specs.Changes.{accepts}
use Rattle.watch_points.specs.Branches.{HaveNewNames}
use Rattle.watch_points.specs.Checking.{fit, is_server}
use Rattle.watch_points.specs.Triggers.{triggers_of}
use Rattle.watch_points.specs.declared.watch.Watch.{Watch}

-- a name is that of a clone of the script without an end, or of the branch of an earlier watch
abbrev pub IsWatchable : List Clone → List Watch → List ℕ → Type 0
IsWatchable cs earlier name = ((c : ℕ) × (place_of name cs ≡ Some c) × ((clone_at cs c).end ≡ None))
    ⊎ ((i : ℕ) × ((w : Watch) × (slice_get earlier i ≡ Some w) × (w.new ≡ name)))

-- a watch fits after earlier ones, which are in the order of their lines
pub record FitsAfter (net : Net) (cs : List Clone) (earlier : List Watch) (w : Watch) : Type 0 where
  pub source : IsWatchable cs earlier w.who
  pub station : (s : ℕ) × (station_named w.station net ≡ Some s) × (is_server (site_of net s).kind ≡ true)
  pub target : (s : ℕ) × (station_named w.target net ≡ Some s) × (accepts (site_of net s) w.change ≡ Ok tt)

-- watches fit: the branches have new names, there is room for all, and each watch fits after the earlier ones
pub record AreFitting (net : Net) (cs : List Clone) (ws : List Watch) : Type 0 where
  pub new_names : HaveNewNames (map (λ (c : Clone). c.name) cs) (triggers_of net ws)
  pub clones_max : 0 < length ws → length cs + length ws ≤ MAX_CLONES
  pub each : (j : ℕ) (w : Watch) → slice_get ws j ≡ Some w → FitsAfter net cs (take j ws) w

-- watches that the table of refusals accepts fit
abbrev pub AcceptedWatchesFit : Type 0
AcceptedWatchesFit = (net : Net) (cs : List Clone) (ws : List Watch) → fit net cs ws ≡ Ok tt → AreFitting net cs ws
