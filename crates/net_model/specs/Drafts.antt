-- The stations as in the file, before their links are resolved.
use Rattle.std.specs.Prelude.{ℕ, ◌+◌, Bool, codes, if◌then◌else◌, List, [], ◌∷◌, ◌++◌, Some, Result, Ok, Err}
use Rattle.std.specs.List.{list_any}
use Rattle.std.specs.Str.{bytes_eq}
use Rattle.toml.specs.Data.{Data}
use Rattle.net_model.specs.declared.draft.Draft.{Draft}
use Rattle.net_model.specs.declared.fault.ModelFault.{ModelFault}
use Rattle.net_model.specs.declared.fault.ModelFault.TheVariants.{BadName, NameTwice}
use Rattle.net_model.specs.declared.field.Field.TheVariants.{Name, Stream}
use Rattle.net_model.specs.declared.links.NamedLink.{NamedLink}
use Rattle.net_model.specs.declared.station.Kind.{Kind}
use Rattle.sim_base.specs.Chain.{◌>>=◌}
use Rattle.net_model.specs.Keys.{only_known, station_keys}
use Rattle.net_model.specs.Kinds.{kind_of, kind_word_at}
use Rattle.net_model.specs.NamedLinks.{links_of}
use Rattle.net_model.specs.Reading.{integer_at, name_at}
use Rattle.net_model.specs.declared.limits.TheConstants.{MAX_SEED}

-- a station whose links name their receivers
pub record DraftSite : Type 0 where
  pub name : List ℕ
  pub kind : Kind
  pub stream : ℕ
  pub links : List NamedLink

-- a draft as plain data
abbrev pub as_draft : Draft → DraftSite
as_draft d = record { name = d.name; kind = d.kind; stream = d.stream; links = d.links.items }

-- the analyst is no station
abbrev pub no_analyst : ℕ → List ℕ → Result (List ℕ) ModelFault
no_analyst station name = if bytes_eq name (codes "analyst") then Err (BadName station) else Ok name

-- one of these stations has this name
abbrev pub has_name : List ℕ → List DraftSite → Bool
has_name name drafts = list_any (λ draft. bytes_eq draft.name name) drafts

-- no earlier station has this name
abbrev pub new_name : ℕ → List DraftSite → List ℕ → Result (List ℕ) ModelFault
new_name station earlier name = if has_name name earlier then Err (NameTwice station) else Ok name

-- the name of a station, which is neither `analyst` nor that of an earlier station
abbrev pub station_name_at : ℕ → List DraftSite → Data → Result (List ℕ) ModelFault
station_name_at station earlier d = name_at station Name d >>= no_analyst station >>= new_name station earlier

-- a station: its name, its kind, its keys, and last its links; its default stream is its number
abbrev pub draft_of : ℕ → List DraftSite → ℕ → Data → Result DraftSite ModelFault
draft_of format earlier station d =
    station_name_at station earlier d >>= (λ name.
    kind_word_at station d >>= (λ word.
    only_known station (station_keys format word) d >>= (λ _.
    integer_at station Stream 0 MAX_SEED (Some station) d >>= (λ stream.
    kind_of format station word d >>= (λ kind.
    links_of station word d >>= (λ links.
    Ok (record { name = name; kind = kind; stream = stream; links = links })))))))

-- the stations one after another, each with the earlier ones and its number
abbrev pub drafts_of : ℕ → List DraftSite → ℕ → List Data → Result (List DraftSite) ModelFault
drafts_of format earlier station [] = Ok []
drafts_of format earlier station (d ∷ ds) =
    draft_of format earlier station d >>= (λ draft.
    drafts_of format (earlier ++ draft ∷ []) (station + 1) ds >>= (λ drafts.
    Ok (draft ∷ drafts)))
