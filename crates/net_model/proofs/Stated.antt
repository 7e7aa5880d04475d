-- The model of a tree, by the results of each step.
use Rattle.std.proofs.Common.{◌≡◌, ap, ◌∙◌, List, Result, Ok, Err}
use Rattle.toml.specs.Data.{Data}
use Rattle.net_model.specs.declared.fault.ModelFault.{ModelFault}
use Rattle.net_model.specs.declared.top.Top.{Top}
use Rattle.sim_base.specs.Chain.{◌>>=◌}
use Rattle.net_model.specs.Keys.{only_known, top_keys}
use Rattle.net_model.specs.Net.{Net, Site}
use Rattle.net_model.specs.Sites.{with_sites}
use Rattle.net_model.specs.Text.{model_of, sites_of_tables}
use Rattle.net_model.specs.Top.{stations_at, top_of}

-- the network of a top and of stations that were read
abbrev with_sites_read : Top → Result (List Site) ModelFault → Result Net ModelFault
with_sites_read top sites = sites >>= (λ sites. Ok (with_sites top sites))

-- the model from the results of each step: the test of the keys, the top, and the tables of the stations
abbrev from_parts : Result (Unit {0}) ModelFault → Result Top ModelFault → Result (List Data) ModelFault
    → Result Net ModelFault
from_parts known top tables = known >>=
    (λ _. top >>= (λ top. tables >>= (λ ds. with_sites_read top (sites_of_tables top ds))))

-- ---- model_of

module _ (root : Data) where
  -- the model of a tree is that of its parts
  model_of-parts : model_of root ≡ from_parts (only_known 0 top_keys root) (top_of root) (stations_at root)
  unfolding model_of
  model_of-parts i = from_parts (only_known 0 top_keys root) (top_of root) (stations_at root)

  -- an unknown key at the top is the fault of the model
  pub model_of-unknown_key : (e : ModelFault) → only_known 0 top_keys root ≡ Err e → model_of root ≡ Err e
  model_of-unknown_key e known = model_of-parts ∙ ap (λ k. from_parts k (top_of root) (stations_at root)) known

  module _ (known : only_known 0 top_keys root ≡ Ok tt) where
    -- the model, if the keys are known
    model_of-known_keys : model_of root ≡ from_parts (Ok tt) (top_of root) (stations_at root)
    model_of-known_keys = model_of-parts ∙ ap (λ k. from_parts k (top_of root) (stations_at root)) known

    -- if the keys are known, a fault of the numbers at the top is that of the model
    pub model_of-top_refused : (e : ModelFault) → top_of root ≡ Err e → model_of root ≡ Err e
    model_of-top_refused e top = model_of-known_keys ∙ ap (λ t. from_parts (Ok tt) t (stations_at root)) top

    module _ (top : Top) (read : top_of root ≡ Ok top) where
      -- and if the top is read
      model_of-with_top : model_of root ≡ from_parts (Ok tt) (Ok top) (stations_at root)
      model_of-with_top = model_of-known_keys ∙ ap (λ t. from_parts (Ok tt) t (stations_at root)) read

      -- if those are read too, a fault of the tables of stations is that of the model
      pub model_of-tables_refused : (e : ModelFault) → stations_at root ≡ Err e → model_of root ≡ Err e
      model_of-tables_refused e tables = model_of-with_top ∙ ap (from_parts (Ok tt) (Ok top)) tables

      module _ (ds : List Data) (found : stations_at root ≡ Ok ds) where
        -- and if the tables are found
        model_of-with_tables : model_of root ≡ with_sites_read top (sites_of_tables top ds)
        model_of-with_tables = model_of-with_top ∙ ap (from_parts (Ok tt) (Ok top)) found

        -- if the tables are found too, a fault of the stations in them is that of the model
        pub model_of-sites_refused : (e : ModelFault) → sites_of_tables top ds ≡ Err e → model_of root ≡ Err e
        model_of-sites_refused e sites = model_of-with_tables ∙ ap (with_sites_read top) sites

        -- and if these are read as well, the model is the network of this top and these stations
        pub model_of-Ok : (sites : List Site) → sites_of_tables top ds ≡ Ok sites
            → model_of root ≡ Ok (with_sites top sites)
        model_of-Ok sites found = model_of-with_tables ∙ ap (with_sites_read top) found
