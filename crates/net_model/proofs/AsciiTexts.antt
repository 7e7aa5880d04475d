-- The model of an ASCII text, which is UTF-8.
use Rattle.std.proofs.Common.{◌≡◌, refl, ap, ℕ, ◌<◌, nat_lt, Bool, true, if◌then◌else◌, List, [], ◌∷◌, length}
use Rattle.std.proofs.Common.{Result, Err}
use Rattle.std.specs.List.{list_all}
use Rattle.std.specs.Str.{IsAscii}
use Rattle.std.proofs.lemmas.Bool.{and_parts, ltb-true}
use Rattle.std.proofs.lemmas.Str.{IsUtf8-from_ascii, is_utf8-from_IsUtf8}
use Rattle.std.proofs.lemmas.Str.Ascii.{IsAscii-cons, IsAscii-nil}
use Rattle.toml.specs.Parse.{parse_document}
use Rattle.net_model.specs.declared.fault.ModelFault.{ModelFault}
use Rattle.net_model.specs.declared.fault.ModelFault.TheVariants.{TooLong}
use Rattle.net_model.specs.Net.{Net}
use Rattle.net_model.specs.Text.{model, model_of_tree, tree}
use Rattle.sim_base.specs.declared.limits.TheConstants.{MAX_FILE_BYTES}

-- ---- IsAscii

-- bytes that pass a test that none of 128 or more passes are ASCII
pub IsAscii-list_all : (p : ℕ → Bool) → ((b : ℕ) → p b ≡ true → b < 128) → (bs : List ℕ) → list_all p bs ≡ true
    → IsAscii bs
IsAscii-list_all p small [] h = IsAscii-nil
IsAscii-list_all p small (b ∷ bs) h =
    let (first, rest) = and_parts (p b) (list_all p bs) h in
    IsAscii-cons b bs (small b first) (IsAscii-list_all p small bs rest)

-- ---- tree, model

-- the tree of an ASCII text is the parser's result
tree-ascii : (text : List ℕ) → list_all (λ b. nat_lt b 128) text ≡ true → tree text ≡ parse_document text
tree-ascii text h =
    let ascii = IsAscii-list_all (λ b. nat_lt b 128) (λ b below. ltb-true b 128 below) text h in
    rw (is_utf8-from_IsUtf8 text (IsUtf8-from_ascii text ascii)) refl

-- the model of a text, if it is parsed without the test for UTF-8
abbrev pub model_parsed : List ℕ → Result Net ModelFault
model_parsed text = if nat_lt MAX_FILE_BYTES (length text) then Err TooLong else model_of_tree (parse_document text)

-- the model of an ASCII text, without the test that it is UTF-8
pub ascii_model : (text : List ℕ) → list_all (λ b. nat_lt b 128) text ≡ true → model text ≡ model_parsed text
ascii_model text h = ap (λ t. if nat_lt MAX_FILE_BYTES (length text) then Err TooLong else model_of_tree t)
    (tree-ascii text h)
