-- Networks whose clocks the checker computes.
use Rattle.std.specs.Prelude.{ℕ, List, [], ◌∷◌, codes, false}
use Rattle.net_model.specs.declared.station.Kind.TheVariants.{Delay, Router, Sink}
use Rattle.net_model.specs.declared.limits.TheConstants.{USUAL_LIMIT}
use Rattle.net_model.specs.Net.{Net, Site, link}
use Rattle.link_clocks.specs.NetClocks.{clock}

-- the clocks of the stations 1 and 2 after k rounds
abbrev pub two_clocks : Net → ℕ → List ℕ
two_clocks net k = clock net k 1 ∷ clock net k 2 ∷ []

-- the clocks of the stations 1, 2 and 3 after k rounds
abbrev pub three_clocks : Net → ℕ → List ℕ
three_clocks net k = clock net k 1 ∷ clock net k 2 ∷ clock net k 3 ∷ []

-- a network of these stations, with a lookahead of 3 and the horizon 10
abbrev pub net_of : List Site → Net
net_of sites = record {
  format = 1;
  lookahead = 3;
  horizon = 10;
  seed = 0;
  limit = USUAL_LIMIT;
  sites = sites;
}

-- a sink alone
abbrev pub sink_alone : Net
sink_alone = net_of (record { name = codes "out"; kind = Sink; stream = 1; links = [] } ∷ [])

-- two stations in a ring: a delay of 3 one way, of 5 the other
abbrev pub ring : Net
ring = net_of
    (record { name = codes "there"; kind = Delay 1 1; stream = 1; links = link 2 3 ∷ [] }
    ∷ record { name = codes "back"; kind = Delay 1 1; stream = 2; links = link 1 5 ∷ [] } ∷ [])

-- a router that leads back to itself and on to a sink
abbrev pub loop : Net
loop = net_of
    (record { name = codes "again"; kind = Router false; stream = 1; links = link 1 3 ∷ link 2 4 ∷ [] }
    ∷ record { name = codes "out"; kind = Sink; stream = 2; links = [] } ∷ [])
