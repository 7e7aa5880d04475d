-- The links of a station as in the file, with the names of their receivers.
use Rattle.std.specs.Prelude.{ℕ, nat_lt, if◌then◌else◌, List, [], ◌∷◌, length, Option, Some, None, Result, Ok, Err}
use Rattle.toml.specs.Data.{Data, get}
use Rattle.net_model.specs.declared.fault.ModelFault.{ModelFault}
use Rattle.net_model.specs.declared.fault.ModelFault.TheVariants.{TooMany}
use Rattle.net_model.specs.declared.field.Field.TheVariants.{Link, To, Delay, Weight}
use Rattle.net_model.specs.declared.keys.KindWord.{KindWord}
use Rattle.net_model.specs.declared.keys.KindWord.TheVariants.{Sink as SinkWord}
use Rattle.net_model.specs.declared.links.NamedLink.{NamedLink}
use Rattle.sim_base.specs.Chain.{◌>>=◌}
use Rattle.net_model.specs.Fields.{key_of}
use Rattle.net_model.specs.Keys.{only_known, link_keys}
use Rattle.net_model.specs.Reading.{integer_at, name_at, tables_of}
use Rattle.net_model.specs.declared.limits.TheConstants.{MAX_TIME, MAX_WEIGHT, MAX_LINKS}

-- a link: the name of its receiver, its delay, and its weight, by default 1
abbrev pub link_of : ℕ → Data → Result NamedLink ModelFault
link_of station d =
    only_known station link_keys d >>= (λ _.
    name_at station To d >>= (λ to.
    integer_at station Delay 1 MAX_TIME None d >>= (λ delay.
    integer_at station Weight 1 MAX_WEIGHT (Some 1) d >>= (λ weight.
    Ok (record { to = to; delay = delay; weight = weight })))))

-- the links one after another
abbrev pub each_link : ℕ → List Data → Result (List NamedLink) ModelFault
each_link station [] = Ok []
each_link station (d ∷ ds) = link_of station d >>= (λ link. each_link station ds >>= (λ links. Ok (link ∷ links)))

-- no more links than a station may have
abbrev pub few_enough : ℕ → List Data → Result (List Data) ModelFault
few_enough station ds = if nat_lt MAX_LINKS (length ds) then Err (TooMany station) else Ok ds

-- without the key there are no links
abbrev pub link_tables : ℕ → Option Data → Result (List Data) ModelFault
link_tables station None = Ok []
link_tables station (Some d) = tables_of station Link d >>= few_enough station

-- a sink has no links, and no key for them
abbrev pub links_of : ℕ → KindWord → Data → Result (List NamedLink) ModelFault
links_of station SinkWord d = Ok []
links_of station _ d = link_tables station (get (key_of Link) d) >>= each_link station
