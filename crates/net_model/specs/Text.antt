-- The model of a text, or the first rule that it breaks.
use Rattle.std.specs.Prelude.{ℕ, nat_lt, if◌then◌else◌, List, [], length, Option, Some, None, Result, Ok, Err}
use Rattle.std.specs.Str.{is_utf8}
use Rattle.toml.specs.Data.{Data, Members, table}
use Rattle.toml.specs.Parse.{parse_document}
use Rattle.net_model.specs.declared.fault.ModelFault.{ModelFault}
use Rattle.net_model.specs.declared.fault.ModelFault.TheVariants.{TooLong, NotToml}
use Rattle.net_model.specs.declared.top.Top.{Top}
use Rattle.sim_base.specs.Chain.{◌>>=◌}
use Rattle.net_model.specs.Drafts.{drafts_of}
use Rattle.net_model.specs.Keys.{only_known, top_keys}
use Rattle.net_model.specs.Net.{Net, Site}
use Rattle.net_model.specs.Resolving.{sites_of}
use Rattle.net_model.specs.Sites.{with_sites}
use Rattle.net_model.specs.Top.{stations_at, top_of}
use Rattle.sim_base.specs.declared.limits.TheConstants.{MAX_FILE_BYTES}

-- the tree of a text, as `toml` reads it
abbrev pub tree : List ℕ → Option Members
tree text = if is_utf8 text then parse_document text else None

-- the stations of some tables
abbrev pub sites_of_tables : Top → List Data → Result (List Site) ModelFault
sites_of_tables top ds = drafts_of top.format [] 1 ds >>= (λ drafts. sites_of top.lookahead drafts 1 drafts)

-- the model of a tree
unfoldable pub model_of : Data → Result Net ModelFault
model_of root =
    only_known 0 top_keys root >>= (λ _.
    top_of root >>= (λ top.
    stations_at root >>= (λ ds.
    sites_of_tables top ds >>= (λ sites.
    Ok (with_sites top sites)))))

-- the model of a tree, refused if there is no tree
abbrev pub model_of_tree : Option Members → Result Net ModelFault
model_of_tree None = Err NotToml
model_of_tree (Some ms) = model_of (table ms)

-- the model of a text
abbrev pub model : List ℕ → Result Net ModelFault
model text = if nat_lt MAX_FILE_BYTES (length text) then Err TooLong else model_of_tree (tree text)
