-- What is proved of watches over a network, in words that contracts cite.
use Rattle.std.specs.Prelude.{◌≡◌, ℕ, ◌≤◌, List, length, take}
use Rattle.sim_base.specs.Clones.{Clone}
use Rattle.sim_base.specs.Same.{same_entry}
use Rattle.net_model.specs.Net.{Net}
use Rattle.run_laws.specs.Handlers.{AllAreForStations}
use Rattle.run_laws.specs.Queue.{In}
use Rattle.stations.specs.Runs.{simulation}
use Rattle.watch_points.specs.Keeping.{trigger_order}
use Rattle.run_laws.specs.Orders.{HaveSameFigures, IsPlaceOrder, in_order}
use Rattle.world_core.specs.Worlds.{total_handled}
use Rattle.watch_points.specs.Progress.{places_of}
use Rattle.watch_points.specs.Triggers.{clones_with_branches}
use Rattle.watch_points.specs.Watchers.{Follows, WatcherView, progress_of, watches_of}

-- the places of the clones in the order of the watches: those of the script, then those of the branches
abbrev pub watch_order : WatcherView → List ℕ
watch_order w = trigger_order w.script_len (places_of (progress_of w.active))

-- they are the places of all clones
abbrev pub OrderHasAllClones : Type 0
OrderHasAllClones = (w : WatcherView) (net : Net) (cs : List Clone) (front : ℕ) → Follows w net cs front →
    IsPlaceOrder (length cs) (watch_order w)

-- at the horizon the clones in that order are those of the whole run
abbrev pub FollowedClonesAreInOrder : Type 0
FollowedClonesAreInOrder = (w : WatcherView) (net : Net) (cs : List Clone) → Follows w net cs net.horizon →
    in_order cs (watch_order w) ≡ clones_with_branches net (take w.script_len cs) (watches_of w.active)

-- before it each clone is one of the whole run
abbrev pub FollowedClonesStay : Type 0
FollowedClonesStay = (w : WatcherView) (net : Net) (cs : List Clone) (front : ℕ) → Follows w net cs front →
    front ≤ net.horizon → AllAreForStations (simulation net) cs → (c : Clone) → In c cs →
    In c (clones_with_branches net (take w.script_len cs) (watches_of w.active))

-- the figures of a report do not depend on the order of the clones
abbrev pub FiguresAreTheSame : Type 0
FiguresAreTheSame = (net : Net) (cs : List Clone) (order : List ℕ) (s front : ℕ) → IsPlaceOrder (length cs) order →
    HaveSameFigures (simulation net) same_entry cs (in_order cs order) s front

-- nor does their total
abbrev pub TotalIsTheSame : Type 0
TotalIsTheSame = (net : Net) (cs : List Clone) (order : List ℕ) (front : ℕ) → IsPlaceOrder (length cs) order →
    total_handled net (in_order cs order) front ≡ total_handled net cs front
