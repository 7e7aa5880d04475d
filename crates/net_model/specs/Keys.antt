-- The keys that a table may have.
use Rattle.std.specs.Prelude.{◌==◌, ℕ, Bool, List, [], ◌∷◌, Option, Some, None, if◌then◌else◌, Result, Ok, Err}
use Rattle.std.specs.List.{list_any}
use Rattle.std.specs.Cmp.Lexicographic.{slice_cmp}
use Rattle.std.specs.Ordering.{match_ordering, nat_cmp}
use Rattle.std.specs.Str.{bytes_eq}
use Rattle.toml.specs.Data.{Data, table, Members, no_members, member}
use Rattle.net_model.specs.declared.fault.ModelFault.{ModelFault}
use Rattle.net_model.specs.declared.fault.ModelFault.TheVariants.{UnknownKey}
use Rattle.net_model.specs.declared.field.Field.{Field}
use Rattle.net_model.specs.declared.field.Field.TheVariants.{Format, Lookahead, Horizon, Seed, Limit, Station, Name}
use Rattle.net_model.specs.declared.field.Field.TheVariants.{Kind, Stream, Every, Jobs, Class, Servers, Room, Service}
use Rattle.net_model.specs.declared.field.Field.TheVariants.{Order, Hold, By, Link, To, Delay, Weight}
use Rattle.net_model.specs.declared.keys.KindWord.{KindWord}
use Rattle.net_model.specs.declared.keys.KindWord.TheVariants.{Source as SourceWord, Server as ServerWord}
use Rattle.net_model.specs.declared.keys.KindWord.TheVariants.{Delay as DelayWord, Router as RouterWord}
use Rattle.net_model.specs.declared.keys.KindWord.TheVariants.{Sink as SinkWord}
use Rattle.net_model.specs.Fields.{key_of}
use Rattle.net_model.specs.KeyTexts.{key_text}

-- the key is one of the fields
abbrev pub is_known : List Field → List ℕ → Bool
is_known fields key = list_any (λ field. bytes_eq key (key_of field)) fields

-- the lesser of a key and another, if there is one, in byte order, in which toml's tables keep their keys
abbrev pub lesser_key : List ℕ → Option (List ℕ) → List ℕ
lesser_key key None = key
lesser_key key (Some other) = match_ordering (slice_cmp nat_cmp key other) key key other

-- the least key that is not among the fields
abbrev pub least_unknown : List Field → Members → Option (List ℕ)
least_unknown fields no_members = None
least_unknown fields (member key d ms) = if is_known fields key then least_unknown fields ms else Some
    (lesser_key key (least_unknown fields ms))

-- no unknown key was found; a found one is refused
abbrev pub none_unknown : ℕ → Option (List ℕ) → Result (Unit {0}) ModelFault
none_unknown station None = Ok tt
none_unknown station (Some key) = Err (UnknownKey station (key_text key))

-- no key of a table is unknown
abbrev pub only_known : ℕ → List Field → Data → Result (Unit {0}) ModelFault
only_known station fields (table ms) = none_unknown station (least_unknown fields ms)
only_known station fields _ = Ok tt

-- the keys of the top
abbrev pub top_keys : List Field
top_keys = Format ∷ Lookahead ∷ Horizon ∷ Seed ∷ Limit ∷ Station ∷ []

-- format 1 has neither classes nor orders
abbrev pub station_keys : ℕ → KindWord → List Field
station_keys format SourceWord =
    if format == 1 then Name ∷ Kind ∷ Stream ∷ Every ∷ Jobs ∷ Link ∷ [] else
    Name ∷ Kind ∷ Stream ∷ Every ∷ Jobs ∷ Class ∷ Link ∷ []
station_keys format ServerWord =
    if format == 1 then Name ∷ Kind ∷ Stream ∷ Servers ∷ Room ∷ Service ∷ Link ∷ [] else
    Name ∷ Kind ∷ Stream ∷ Servers ∷ Room ∷ Service ∷ Order ∷ Link ∷ []
station_keys format DelayWord = Name ∷ Kind ∷ Stream ∷ Hold ∷ Link ∷ []
station_keys format RouterWord = Name ∷ Kind ∷ Stream ∷ By ∷ Link ∷ []
station_keys format SinkWord = Name ∷ Kind ∷ Stream ∷ []

-- the keys of a link
abbrev pub link_keys : List Field
link_keys = To ∷ Delay ∷ Weight ∷ []
