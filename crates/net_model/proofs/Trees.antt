-- The tree of a text, and the lists in it.
use Rattle.std.proofs.Common.{◌≡◌, refl, ap, sym, ◌∙◌, ℕ, true, false, is_some, if◌then◌else◌}
use Rattle.std.proofs.Common.{List, [], ◌∷◌, map, Some, None, Ok, Err, inl, inr}
use Rattle.std.specs.List.{list_all}
use Rattle.std.specs.Str.{IsUtf8, is_utf8}
use Rattle.std.proofs.lemmas.Bool.{cases_Bool}
use Rattle.std.proofs.lemmas.List.Folds.{list_all-map}
use Rattle.std.proofs.lemmas.Option.{same_Some}
use Rattle.std.proofs.lemmas.Str.{is_utf8-from_IsUtf8, IsUtf8-from_is_utf8}
use Rattle.toml.specs.Data.{Data, Items, Members, string, integer, float}
use Rattle.toml.specs.Data.{boolean, datetime, array, table, as_array, as_table}
use Rattle.toml.specs.Parse.{parse_document}
use Rattle.toml.specs.View.{view, items_view}
use Rattle.toml.specs.declared.value.Value.{Value}
use Rattle.net_model.specs.declared.fault.ModelFault.TheVariants.{WrongType}
use Rattle.net_model.specs.declared.field.Field.{Field}
use Rattle.net_model.specs.Reading.{list_of, all_tables, tables_of}
use Rattle.net_model.specs.Text.{tree}

-- ---- tree

-- the tree of a UTF-8 text is the parser's result
pub tree-Some : (text : List ℕ) (ms : Members) → IsUtf8 text → parse_document text ≡ Some ms → tree text ≡ Some ms
tree-Some text ms u p = rw (is_utf8-from_IsUtf8 text u) p

-- a text has no tree if the parser finds nothing in it as UTF-8
pub tree-None : (text : List ℕ) → (IsUtf8 text → parse_document text ≡ None) → tree text ≡ None
tree-None text p =
    elim (cases_Bool (is_utf8 text)) [
      | inl is ↦ rw is (p (IsUtf8-from_is_utf8 text is))
      | inr is ↦ rw is
    ]

-- ---- list_of, as_array

-- the items of an array are the views of its values, in order
list_of-items_view : (vs : List Value) → list_of (items_view vs) ≡ map view vs
list_of-items_view [] = refl
list_of-items_view (v ∷ vs) = ap (λ ds. view v ∷ ds) (list_of-items_view vs)

-- the value of an array, by the result of `as_array`
as_array-Some : (d : Data) (ds : Items) → Some ds ≡ as_array d → d ≡ array ds
as_array-Some (array es) ds h = ap array (same_Some _ _ (sym h))
as_array-Some (string s) ds h = absurd (cc)
as_array-Some (integer z) ds h = absurd (cc)
as_array-Some (float x) ds h = absurd (cc)
as_array-Some (boolean b) ds h = absurd (cc)
as_array-Some (datetime t) ds h = absurd (cc)
as_array-Some (table ms) ds h = absurd (cc)

-- ---- tables_of

-- the elements of an array are read if all of them are tables, otherwise its type is wrong
tables_of-array : (station : ℕ) (field : Field) (d : Data) (vs : List Value) → Some (items_view vs) ≡ as_array d
    → tables_of station field d ≡ (if list_all (λ v. is_some (as_table (view v))) vs then Ok (map view vs) else Err
    (WrongType station field))
tables_of-array station field d vs h =
    ap (tables_of station field) (as_array-Some d (items_view vs) h)
    ∙ (ap (all_tables station field) (list_of-items_view vs)
    ∙ rw (list_all-map (λ d. is_some (as_table d)) view vs) refl)

-- if all elements of an array are tables, they are read
pub tables_of-Ok : (station : ℕ) (field : Field) (d : Data) (vs : List Value) → Some (items_view vs) ≡ as_array d
    → list_all (λ v. is_some (as_table (view v))) vs ≡ true → Ok (map view vs) ≡ tables_of station field d
tables_of-Ok station field d vs h all = sym (tables_of-array station field d vs h ∙ rw all refl)

-- if one of them is not a table, the array has the wrong type
pub tables_of-Err : (station : ℕ) (field : Field) (d : Data) (vs : List Value) → Some (items_view vs) ≡ as_array d
    → list_all (λ v. is_some (as_table (view v))) vs ≡ false → Err (WrongType station field) ≡ tables_of station field d
tables_of-Err station field d vs h all = sym (tables_of-array station field d vs h ∙ rw all refl)
