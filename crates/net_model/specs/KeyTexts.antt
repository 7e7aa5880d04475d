-- The display of an unknown key: its first MAX_KEY_TEXT_LEN bytes, with `?` for each byte that no key has.
use Rattle.std.specs.Prelude.{◌≡◌, ◌||◌, ◌==◌, ℕ, ◌-◌, ◌++◌, Bool}
use Rattle.std.specs.Prelude.{true, if◌then◌else◌, List, length, map, take, replicate}
use Rattle.std.specs.List.{list_all}
use Rattle.sim_base.specs.Names.{is_name_byte}
use Rattle.sim_base.specs.Padding.{HasZerosBehind, zeros_back}
use Rattle.net_model.specs.declared.key_text.TheConstants.{MAX_KEY_TEXT_LEN}

-- a byte as it is shown: itself if a key may have it, otherwise `?`
abbrev pub shown_byte : ℕ → ℕ
shown_byte b = if is_name_byte b then b else 63

-- the part of a key that is shown
abbrev pub key_text : List ℕ → List ℕ
key_text key = map shown_byte (take MAX_KEY_TEXT_LEN key)

-- a byte that a key may have, or `?`
abbrev pub is_shown : ℕ → Bool
is_shown b = is_name_byte b || (b == 63)

-- the shown bytes, padded with zeros
pub record IsKeyText (bytes : List ℕ) (len : ℕ) : Type 0 where
  pub behind : HasZerosBehind MAX_KEY_TEXT_LEN bytes len
  pub shown : list_all is_shown (take len bytes) ≡ true

-- a key text's bytes are the shown ones padded with zeros, and its length is the number of those shown
pub key_text_back : (bytes : List ℕ) (len : ℕ) → IsKeyText bytes len
    → (take len bytes ++ replicate (MAX_KEY_TEXT_LEN - length (take len bytes)) 0 ≡ bytes)
    × (length (take len bytes) ≡ len)
key_text_back bytes len h = zeros_back MAX_KEY_TEXT_LEN bytes len h.behind
