use Rattle.std.proofs.Common.{◌≡◌, length, map, drop}
use Rattle.toml.specs.View.{view}
use Rattle.net_model.specs.NamedLinks.{each_link}
use Rattle.net_model.proofs.ElementByElement.{after}
use Rattle.net_model.proofs.links.read_each.Given as goal

abbrev pub invariant-links : goal.invariant-links
invariant-links l =
    record {
      so_far : each_link l.station (map view l.fn.tables) ≡ after l.links.items
          (each_link l.station (map view (drop l.table-index l.fn.tables)));
      count : length l.links.items ≡ l.table-index;
    }
