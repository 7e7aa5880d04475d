-- The network of a model, as plain data.
use Rattle.std.specs.Prelude.{ℕ, zero, suc, ◌+◌, ◌≤◌, List, [], length, Bool, true}
use Rattle.std.specs.Prelude.{false, Option, None, slice_get, unwrap_or, position, option_map}
use Rattle.std.specs.Str.{bytes_eq}
use Rattle.net_model.specs.declared.station.Kind.{Kind}
use Rattle.net_model.specs.declared.station.Kind.TheVariants.{Source, Server, Router, Sink}
use Rattle.net_model.specs.declared.station.Link.{Link}

-- a station: its name, its kind, the stream of its draws, and its links in order
pub record Site : Type 0 where
  pub name : List ℕ
  pub kind : Kind
  pub stream : ℕ
  pub links : List Link

-- the network; its stations have the numbers from 1 on, in order
pub record Net : Type 0 where
  pub format : ℕ
  pub lookahead : ℕ
  pub horizon : ℕ
  pub seed : ℕ
  pub limit : ℕ
  pub sites : List Site

-- a link to a station, with this delay and the weight 1
abbrev pub link : ℕ → ℕ → Link
link station delay = record { to = station; delay = delay; weight = 1 }

-- the network has a station with this number
pub record HasStation (net : Net) (s : ℕ) : Type 0 where
  pub low : 1 ≤ s
  pub high : s ≤ length net.sites

-- the station with this number
abbrev pub site_at : Net → ℕ → Option Site
site_at net zero = None
site_at net (suc i) = slice_get net.sites i

-- a station for unused numbers: it takes jobs, and sends nothing
abbrev pub no_site : Site
no_site = record { name = []; kind = Sink; stream = 0; links = [] }

-- the station with this number, or no_site if there is none
abbrev pub site_of : Net → ℕ → Site
site_of net s = unwrap_or (site_at net s) no_site

-- a station of this kind makes jobs
abbrev pub is_source : Kind → Bool
is_source (Source lo hi jobs class) = true
is_source _ = false

-- jobs leave the network at a station of this kind
abbrev pub is_sink : Kind → Bool
is_sink Sink = true
is_sink _ = false

-- a station of this kind sends each job on at once, over a link that it chooses
abbrev pub is_router : Kind → Bool
is_router (Router turn) = true
is_router _ = false

-- the class of a source's jobs; 1 if a station is not a source
abbrev pub class_of_kind : Kind → ℕ
class_of_kind (Source lo hi jobs class) = class
class_of_kind _ = 1

-- the class of a job made by this station; 1 if it is not a source of the network
abbrev pub class_from : Net → ℕ → ℕ
class_from net source = class_of_kind (site_of net source).kind

-- whether a server serves waiting jobs by class
abbrev pub serves_by_class : Kind → Bool
serves_by_class (Server servers room lo hi by_class) = by_class
serves_by_class _ = false

-- whether a router takes its links in turn
abbrev pub routes_by_turn : Kind → Bool
routes_by_turn (Router turn) = turn
routes_by_turn _ = false

-- the number of the first station with this name
abbrev pub station_named : List ℕ → Net → Option ℕ
station_named name net = option_map (λ i. i + 1) (position (λ site. bytes_eq site.name name) net.sites)
