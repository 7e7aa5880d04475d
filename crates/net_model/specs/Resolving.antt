-- The stations of the network: each link leads to the station that it names.
use Rattle.std.specs.Prelude.{◌==◌, ◌||◌, ℕ, ◌+◌, not, nat_lt, if◌then◌else◌, List, [], ◌∷◌, length}
use Rattle.std.specs.Prelude.{Option, Some, None, option_map, position, slice_get, unwrap_or, Result, Ok, Err}
use Rattle.std.specs.Str.{bytes_eq}
use Rattle.net_model.specs.declared.fault.ModelFault.{ModelFault}
use Rattle.net_model.specs.declared.fault.ModelFault.TheVariants.{UnknownStation, IntoSource, ShortDelay, NoWayOut}
use Rattle.net_model.specs.declared.links.NamedLink.{NamedLink}
use Rattle.net_model.specs.declared.station.Kind.{Kind}
use Rattle.net_model.specs.declared.station.Kind.TheVariants.{Sink}
use Rattle.net_model.specs.declared.station.Link.{Link}
use Rattle.sim_base.specs.Chain.{◌>>=◌}
use Rattle.net_model.specs.Drafts.{DraftSite}
use Rattle.net_model.specs.Net.{Site, is_source, is_sink}

-- the kind of the station after `i` others
abbrev pub kind_after : ℕ → List DraftSite → Kind
kind_after i drafts = unwrap_or (option_map (λ draft. draft.kind) (slice_get drafts i)) Sink

-- a link to the station after i others, of a kind
abbrev pub link_to : ℕ → ℕ → NamedLink → ℕ → Kind → Result Link ModelFault
link_to lookahead station link i kind =
    if is_source kind then Err (IntoSource station)
    else (if nat_lt link.delay lookahead then Err (ShortDelay station)
    else Ok (record { to = i + 1; delay = link.delay; weight = link.weight }))

-- a link to the station at the place that was found, refused if there was none
abbrev pub link_along : ℕ → List DraftSite → ℕ → NamedLink → Option ℕ → Result Link ModelFault
link_along lookahead drafts station link None = Err (UnknownStation station)
link_along lookahead drafts station link (Some i) = link_to lookahead station link i (kind_after i drafts)

-- a link to the first station with the name of its receiver
abbrev pub link_of_named : ℕ → List DraftSite → ℕ → NamedLink → Result Link ModelFault
link_of_named lookahead drafts station link =
    link_along lookahead drafts station link (position (λ draft. bytes_eq draft.name link.to) drafts)

-- the links of a station one after another
abbrev pub links_of_named : ℕ → List DraftSite → ℕ → List NamedLink → Result (List Link) ModelFault
links_of_named lookahead drafts station [] = Ok []
links_of_named lookahead drafts station (link ∷ links) =
    link_of_named lookahead drafts station link >>= (λ first.
    links_of_named lookahead drafts station links >>= (λ others.
    Ok (first ∷ others)))

-- a station needs a link unless it is a sink
abbrev pub with_way_out : ℕ → Kind → List Link → Result (List Link) ModelFault
with_way_out station kind links = if is_sink kind || not (length links == 0) then Ok links else Err (NoWayOut station)

-- a station with its links resolved; it needs one unless it is a sink
abbrev pub site_of_draft : ℕ → List DraftSite → ℕ → DraftSite → Result Site ModelFault
site_of_draft lookahead drafts station draft =
    links_of_named lookahead drafts station draft.links >>= with_way_out station draft.kind >>= (λ links.
    Ok (record { name = draft.name; kind = draft.kind; stream = draft.stream; links = links }))

-- the stations one after another, each among all of them
abbrev pub sites_of : ℕ → List DraftSite → ℕ → List DraftSite → Result (List Site) ModelFault
sites_of lookahead drafts station [] = Ok []
sites_of lookahead drafts station (draft ∷ others) =
    site_of_draft lookahead drafts station draft >>= (λ site.
    sites_of lookahead drafts (station + 1) others >>= (λ sites.
    Ok (site ∷ sites)))
