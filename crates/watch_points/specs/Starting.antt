-- Watches before the simulation begins.
use Rattle.std.specs.Prelude.{◌≡◌, ℕ, List, take, Option, Some, option_map, position, slice_get}
use Rattle.std.specs.Option.{option_or}
use Rattle.std.specs.Str.{bytes_eq}
use Rattle.sim_base.specs.Clones.{Clone, place_of}
use Rattle.net_model.specs.Net.{Net, station_named}
use Rattle.watch_points.specs.Watchers.{watches_of}
use Rattle.watch_points.specs.declared.watch.Watch.{Watch}
use Rattle.watch_points.specs.declared.watcher.ActiveWatch.{ActiveWatch}
use Rattle.watch_points.specs.declared.watcher.Progress.TheVariants.{Waiting}
use Rattle.watch_points.specs.declared.watcher.Source.{Source}
use Rattle.watch_points.specs.declared.watcher.Source.TheVariants.{OfScript, OfWatch}

-- the clone of this name: a clone of the script, or else the branch of the first earlier watch that has the name
abbrev pub source_named : List Clone → List Watch → List ℕ → Option Source
source_named cs earlier name = option_or (option_map OfScript (place_of name cs))
    (option_map OfWatch (position (λ (w : Watch). bytes_eq w.new name) earlier))

-- a watch after earlier ones, with its stations and its clone; it has looked at nothing so far
pub record IsStarted (net : Net) (cs : List Clone) (earlier : List Watch) (a : ActiveWatch) : Type 0 where
  pub station : station_named a.watch.station net ≡ Some a.station
  pub target : station_named a.watch.target net ≡ Some a.target
  pub source : source_named cs earlier a.watch.who ≡ Some a.source
  pub progress : a.progress ≡ Waiting 0

-- these watches have started, each after the earlier ones
pub record AreStarted (net : Net) (cs : List Clone) (ws : List Watch) (active : List ActiveWatch) : Type 0 where
  pub watches : watches_of active ≡ ws
  pub each : (j : ℕ) (a : ActiveWatch) → slice_get active j ≡ Some a → IsStarted net cs (take j ws) a
