-- Stations by number and name, in the model and in its network.
use Rattle.std.proofs.Common.{◌≡◌, ℕ, zero, suc, ◌+◌, ◌-◌, ◌≤◌, List, map}
use Rattle.std.proofs.Common.{Some, slice_get, option_map, position, ap, ◌∙◌, arith}
use Rattle.std.specs.Str.{bytes_eq}
use Rattle.std.proofs.lemmas.Option.{slice_get-map}
use Rattle.sim_base.proofs.ListLaws.{position-map}
use Rattle.net_model.specs.declared.station.Station.{Station}
use Rattle.net_model.specs.Net.{Net, site_at, station_named}
use Rattle.net_model.specs.Sites.{as_site}

-- ---- site_at

module _ (net : Net) (stations : List Station) (seen : net.sites ≡ map as_site stations) where
  -- the station of a number is the model's station before it, counted from 0
  pub seen_site : (s : ℕ) (st : Station) → 1 ≤ s → slice_get stations (s - 1) ≡ Some st
      → site_at net s ≡ Some (as_site st)
  seen_site zero st low is = absurd (omega arith)
  seen_site (suc i) st low is =
      let same : suc i - 1 ≡ i = omega arith in
      ap (λ sites. slice_get sites i) seen
      ∙ (slice_get-map as_site stations i ∙ ap (option_map as_site) (rw same at is))

-- ---- station_named

-- the first station of a name has the same place in the model and in the network
seen_place : (name : List ℕ) (stations : List Station)
    → position (λ site. bytes_eq site.name name) (map as_site stations) ≡ position
    (λ station. bytes_eq station.name name) stations
seen_place name stations = position-map (λ site. bytes_eq site.name name) as_site stations

-- and so its number is that place, counted from 1
pub seen_number : (net : Net) (stations : List Station) (name : List ℕ) → net.sites ≡ map as_site stations
    → station_named name net ≡ option_map (λ i. i + 1) (position (λ station. bytes_eq station.name name) stations)
seen_number net stations name seen =
    ap (λ sites. option_map (λ i. i + 1) (position (λ site. bytes_eq site.name name) sites)) seen
    ∙ ap (option_map (λ i. i + 1)) (seen_place name stations)
