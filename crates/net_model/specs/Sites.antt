-- A model's stations as plain data, and their network.
use Rattle.std.specs.Prelude.{List, map}
use Rattle.net_model.specs.declared.station.Station.{Station}
use Rattle.net_model.specs.declared.top.Top.{Top}
use Rattle.net_model.specs.Net.{Net, Site}

-- a station as plain data
abbrev pub as_site : Station → Site
as_site s = record { name = s.name; kind = s.kind; stream = s.stream; links = s.links.items }

-- the network of a top and its stations
abbrev pub with_sites : Top → List Site → Net
with_sites top sites = record {
  format = top.format;
  lookahead = top.lookahead;
  horizon = top.horizon;
  seed = top.seed;
  limit = top.limit;
  sites = sites;
}

-- the network of a top and a model's stations
abbrev pub net_of : Top → List Station → Net
net_of top stations = with_sites top (map as_site stations)
