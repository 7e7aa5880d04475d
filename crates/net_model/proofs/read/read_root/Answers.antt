use Rattle.std.proofs.Common.{◌≡◌, ap, sym, ◌∙◌, map, Ok}
use Rattle.toml.specs.View.{view}
use Rattle.net_model.specs.Keys.{only_known, top_keys}
use Rattle.net_model.specs.Sites.{as_site}
use Rattle.net_model.proofs.Stated.{model_of-unknown_key, model_of-top_refused, model_of-tables_refused}
use Rattle.net_model.proofs.Stated.{model_of-sites_refused, model_of-Ok}
use Rattle.net_model.proofs.Validity.{model_of-IsNet}
use Rattle.net_model.proofs.read.read_root.Goals as goal

pub returns-in-Err-clause-refused : goal.returns-in-Err-clause-refused
returns-in-Err-clause-refused c other =
    model_of-unknown_key (view c.args.root.now) c.in-Err.fault
    (sym (c.in-Err.ensures ∙ ap (λ fields. only_known 0 fields (view c.args.root.now)) c.top_fields.ensures))

pub returns-in-Err-top_numbers-clause-refused : goal.returns-in-Err-top_numbers-clause-refused
returns-in-Err-top_numbers-clause-refused c other =
    let known : only_known 0 top_keys (view c.args.root.now) ≡ Ok tt =
    sym (c.in_default.ensures ∙ ap (λ fields. only_known 0 fields (view c.args.root.now)) c.top_fields.ensures) in
    model_of-top_refused (view c.args.root.now) known c.in-Err-top_numbers.fault (sym c.in-Err-top_numbers.ensures)

pub returns-in-Err-station_tables-clause-refused : goal.returns-in-Err-station_tables-clause-refused
returns-in-Err-station_tables-clause-refused c other =
    let known : only_known 0 top_keys (view c.args.root.now) ≡ Ok tt =
    sym (c.in_default.ensures ∙ ap (λ fields. only_known 0 fields (view c.args.root.now)) c.top_fields.ensures) in
    model_of-tables_refused (view c.args.root.now) known c.in-Ok.top (sym c.in-Ok.ensures) c.in-Err-station_tables.fault
    (sym c.in-Err-station_tables.ensures.value)

pub returns-in-Ok-read_stations-clause-ok : goal.returns-in-Ok-read_stations-clause-ok
returns-in-Ok-read_stations-clause-ok c =
    let known : only_known 0 top_keys (view c.args.root.now) ≡ Ok tt =
    sym (c.in_default.ensures ∙ ap (λ fields. only_known 0 fields (view c.args.root.now)) c.top_fields.ensures) in
    model_of-Ok (view c.args.root.now) known c.in-Ok.top (sym c.in-Ok.ensures)
    (map view c.in-Ok-station_tables.tables.now) (sym c.in-Ok-station_tables.ensures.value)
    (map as_site c.in-Ok-read_stations.stations.items) c.in-Ok-read_stations.ensures.ok

pub returns-in-Err-read_stations-clause-refused : goal.returns-in-Err-read_stations-clause-refused
returns-in-Err-read_stations-clause-refused c other =
    let known : only_known 0 top_keys (view c.args.root.now) ≡ Ok tt =
    sym (c.in_default.ensures ∙ ap (λ fields. only_known 0 fields (view c.args.root.now)) c.top_fields.ensures) in
    model_of-sites_refused (view c.args.root.now) known c.in-Ok.top (sym c.in-Ok.ensures)
    (map view c.in-Ok-station_tables.tables.now) (sym c.in-Ok-station_tables.ensures.value)
    c.in-Err-read_stations.fault (c.in-Err-read_stations.ensures.refused other)

pub invariant_of-result : goal.invariant_of-result
invariant_of-result c =
    let known : only_known 0 top_keys (view c.args.root.now) ≡ Ok tt =
    sym (c.in_default.ensures ∙ ap (λ fields. only_known 0 fields (view c.args.root.now)) c.top_fields.ensures) in
    model_of-IsNet (view c.args.root.now) _ (model_of-Ok (view c.args.root.now) known c.in-Ok.top (sym c.in-Ok.ensures)
    (map view c.in-Ok-station_tables.tables.now) (sym c.in-Ok-station_tables.ensures.value)
    (map as_site c.in-Ok-read_stations.stations.items) c.in-Ok-read_stations.ensures.ok)
