use Rattle.std.proofs.Common.{◌≡◌, ap, sym, ◌∙◌, map, Ok, Err, is_some, true, false}
use Rattle.std.specs.List.{list_all}
use Rattle.toml.specs.Data.{as_table}
use Rattle.toml.specs.View.{view}
use Rattle.net_model.proofs.Trees.{tables_of-Ok, tables_of-Err}
use Rattle.net_model.proofs.reading.read_tables.Goals as goal

pub returns-then-are_tables : goal.returns-then-are_tables
returns-then-are_tables c =
    let all : list_all (λ v. is_some (as_table (view v))) c.in-Some.values.now.items ≡ true =
    ap (list_all (λ v. is_some (as_table (view v)))) (sym c.as_slice.ensures.value)
    ∙ (sym c.are_tables.ensures ∙ c.if-are_tables.true) in
    ap (λ vs. Ok (map view vs)) c.as_slice-then-are_tables.ensures.value
    ∙ tables_of-Ok c.args.spot.station c.args.spot.field (view c.args.value.now) c.in-Some.values.now.items
    c.in-Some.ensures all

pub returns-else-are_tables : goal.returns-else-are_tables
returns-else-are_tables c =
    let all : list_all (λ v. is_some (as_table (view v))) c.in-Some.values.now.items ≡ false =
    ap (list_all (λ v. is_some (as_table (view v)))) (sym c.as_slice.ensures.value)
    ∙ (sym c.are_tables.ensures ∙ c.if-are_tables.false) in
    ap Err c.wrong_type.ensures ∙ tables_of-Err c.args.spot.station c.args.spot.field
    (view c.args.value.now) c.in-Some.values.now.items c.in-Some.ensures all
