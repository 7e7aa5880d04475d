-- The rules that every model meets.
use Rattle.std.specs.Prelude.{◌≡◌, ◌≢◌, ℕ, ◌≤◌, ◌&&◌, nat_le, Bool, List, length, map, codes, true, false, ◌⊎◌}
use Rattle.std.specs.List.{AllByRecursion}
use Rattle.sim_base.specs.Names.{is_name, AreDistinct}
use Rattle.sim_base.specs.Weights.{IsWeight}
use Rattle.net_model.specs.declared.station.Kind.{Kind}
use Rattle.net_model.specs.declared.station.Kind.TheVariants.{Source, Server, Delay, Router, Sink}
use Rattle.net_model.specs.declared.station.Link.{Link}
use Rattle.net_model.specs.Net.{Net, Site, HasStation, site_of, is_source}
use Rattle.net_model.specs.declared.limits.TheConstants.{MAX_TIME, MAX_HORIZON, MAX_SEED, MAX_LIMIT}
use Rattle.net_model.specs.declared.limits.TheConstants.{MAX_STATIONS, MAX_LINKS, MAX_JOBS, MAX_CLASS}
use Rattle.net_model.specs.declared.limits.TheConstants.{MAX_SERVERS, MAX_ROOM}

-- whether n is from low to high
abbrev pub is_within : ℕ → ℕ → ℕ → Bool
is_within low high n = nat_le low n && nat_le n high

-- whether the times from lo to hi are a range: no less than low, in order, and at most MAX_TIME
abbrev pub is_range : ℕ → ℕ → ℕ → Bool
is_range low lo hi = (nat_le low lo && nat_le lo hi) && nat_le hi MAX_TIME

-- they are such a range
pub record IsRange (low lo hi : ℕ) : Type 0 where
  pub above : low ≤ lo
  pub ordered : lo ≤ hi
  pub small : hi ≤ MAX_TIME

-- a source has a range of times from 1 on, at most MAX_JOBS jobs, and an existing class
pub record IsSource (lo hi jobs class : ℕ) : Type 0 where
  pub every : IsRange 1 lo hi
  pub at_most : jobs ≤ MAX_JOBS
  pub first : 1 ≤ class
  pub last : class ≤ MAX_CLASS

-- a server has at least 1 server, at most MAX_SERVERS, at most MAX_ROOM room, and a range of times from 1 on
pub record IsServer (servers room lo hi : ℕ) : Type 0 where
  pub at_least : 1 ≤ servers
  pub at_most : servers ≤ MAX_SERVERS
  pub small : room ≤ MAX_ROOM
  pub service : IsRange 1 lo hi

-- a station keeps the rules of its kind
abbrev pub IsKind : Kind → Type 0
IsKind (Source lo hi jobs class) = IsSource lo hi jobs class
IsKind (Server servers room lo hi by_class) = IsServer servers room lo hi
IsKind (Delay lo hi) = IsRange 0 lo hi
IsKind (Router turn) = Unit {0}
IsKind Sink = Unit {0}

-- format 1 has no classes
abbrev pub IsOfFormat1 : Kind → Type 0
IsOfFormat1 (Source lo hi jobs class) = class ≡ 1
IsOfFormat1 (Server servers room lo hi by_class) = by_class ≡ false
IsOfFormat1 _ = Unit {0}

-- a link leads to a station that takes jobs, and its delay is at least the lookahead
pub record IsLink (net : Net) (link : Link) : Type 0 where
  pub is_station : HasStation net link.to
  pub receives : is_source (site_of net link.to).kind ≡ false
  pub slow : net.lookahead ≤ link.delay
  pub small : link.delay ≤ MAX_TIME
  pub weight : IsWeight link.weight

-- every station except a sink has a link; at a sink jobs leave the network
abbrev pub HasWayOut : Kind → List Link → Type 0
HasWayOut Sink links = length links ≡ 0
HasWayOut _ links = 1 ≤ length links

-- a station keeps the rules of a network: its name, its stream, its kind, and its links
pub record IsSite (net : Net) (site : Site) : Type 0 where
  pub named : is_name site.name ≡ true
  pub no_analyst : site.name ≢ codes "analyst"
  pub stream : site.stream ≤ MAX_SEED
  pub kind : IsKind site.kind
  pub format : net.format ≡ 1 → IsOfFormat1 site.kind
  pub at_most : length site.links ≤ MAX_LINKS
  pub links : AllByRecursion (IsLink net) site.links
  pub way : HasWayOut site.kind site.links

-- a network keeps the rules: its numbers are within bounds, and its stations have different names and keep theirs
pub record IsNet (net : Net) : Type 0 where
  pub format : (net.format ≡ 1) ⊎ (net.format ≡ 2)
  pub lookahead_min : 1 ≤ net.lookahead
  pub lookahead_max : net.lookahead ≤ MAX_TIME
  pub horizon : 1 ≤ net.horizon
  pub horizon_max : net.horizon ≤ MAX_HORIZON
  pub seed : net.seed ≤ MAX_SEED
  pub limit : 1 ≤ net.limit
  pub limit_max : net.limit ≤ MAX_LIMIT
  pub nonempty : 1 ≤ length net.sites
  pub at_most : length net.sites ≤ MAX_STATIONS
  pub distinct : AreDistinct (map (λ site. site.name) net.sites)
  pub sites : AllByRecursion (IsSite net) net.sites
