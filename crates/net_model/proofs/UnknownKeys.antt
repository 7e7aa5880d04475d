-- The keys of a table rise, so its first unknown key is the least.
use Rattle.std.proofs.Common.{◌≡◌, refl, ap, ◌∙◌, ℕ, Bool, true, false, if◌then◌else◌, List}
use Rattle.std.proofs.Common.{[], ◌∷◌, Option, Some, None, String, Global, Less, string_bytes}
use Rattle.std.specs.List.{AllByRecursion}
use Rattle.std.specs.List.Sorted.{IsStrictlySortedBy}
use Rattle.std.specs.Map.{keys_of}
use Rattle.std.specs.String.{string_cmp}
use Rattle.toml.specs.Data.{Members, no_members, member}
use Rattle.toml.specs.View.{members_view}
use Rattle.toml.specs.declared.value.Value.{Value}
use Rattle.net_model.specs.declared.field.Field.{Field}
use Rattle.net_model.specs.Keys.{is_known, least_unknown, lesser_key}

-- ---- least_unknown

-- the first key that is none of the fields
abbrev pub first_unknown : List Field → Members → Option (List ℕ)
first_unknown fields no_members = None
first_unknown fields (member key d ms) = if is_known fields key then first_unknown fields ms else Some key

module _ (fields : List Field) where
  -- a key below all others is the lesser one
  lesser_key-above : (k : String Global) (es : List (String Global × Value))
      → AllByRecursion (λ l. string_cmp k l ≡ Less) (keys_of es)
      → lesser_key (string_bytes k) (first_unknown fields (members_view es)) ≡ string_bytes k
  lesser_key-above k [] above = refl
  lesser_key-above k (e ∷ es) above = by (is_known fields (string_bytes e.0)) (lesser_key-above k es above.1)
    where
      by : (b : Bool) → lesser_key (string_bytes k) (first_unknown fields (members_view es)) ≡ string_bytes k
          → lesser_key (string_bytes k) (if b then first_unknown fields (members_view es) else Some
          (string_bytes e.0)) ≡ string_bytes k
      by true later = later
      by false later = rw above.0 refl

  -- among keys that rise the first unknown one is the least
  pub least_unknown-first : (es : List (String Global × Value)) → IsStrictlySortedBy string_cmp (keys_of es)
      → least_unknown fields (members_view es) ≡ first_unknown fields (members_view es)
  unfolding IsStrictlySortedBy
  least_unknown-first [] rises = refl
  least_unknown-first (e ∷ es) rises = by (is_known fields (string_bytes e.0)) (least_unknown-first es rises.1)
    where
      by : (b : Bool) → least_unknown fields (members_view es) ≡ first_unknown fields (members_view es)
          → (if b then least_unknown fields (members_view es) else Some
          (lesser_key (string_bytes e.0) (least_unknown fields (members_view es))))
          ≡ (if b then first_unknown fields (members_view es) else Some (string_bytes e.0))
      by true later = later
      by false later =
          ap (λ o. Some (lesser_key (string_bytes e.0) o)) later ∙ ap Some (lesser_key-above e.0 es rises.0)
