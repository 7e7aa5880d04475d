-- The bytes of a key text: they are padded with zeros, and they are text.
use Rattle.std.proofs.Common.{◌≡◌, ℕ, ◌-◌, ◌<◌, ◌≤◌, min, refl, ap, sym, ◌∙◌, List}
use Rattle.std.proofs.Common.{[], ◌∷◌, ◌++◌, length, map, take, drop, replicate, true, inl, inr, arith, length-take-le}
use Rattle.std.specs.List.{list_all}
use Rattle.std.specs.Str.{IsUtf8}
use Rattle.std.proofs.lemmas.Bool.{cases_Bool}
use Rattle.std.proofs.lemmas.Bool.Decides.{nat_tests}
use Rattle.std.proofs.lemmas.List.{take_min, length-map, drop-replicate, length-replicate, length-append}
use Rattle.std.proofs.lemmas.Str.{IsUtf8-from_ascii}
use Rattle.std.proofs.Math.Seq.{drop-append_seam}
use Rattle.sim_base.specs.Names.{is_name_byte}
use Rattle.sim_base.proofs.ListLaws.{take-append}
use Rattle.net_model.specs.KeyTexts.{shown_byte, is_shown, key_text, IsKeyText}
use Rattle.net_model.specs.declared.key_text.TheConstants.{MAX_KEY_TEXT_LEN}
use Rattle.net_model.proofs.AsciiTexts.{IsAscii-list_all}

-- ---- is_shown

-- the shown form of a byte is a byte that may be shown
is_shown-shown_byte : (b : ℕ) → is_shown (shown_byte b) ≡ true
is_shown-shown_byte b =
    elim (cases_Bool (is_name_byte b)) [
      | inl is ↦ rw (is, is) refl
      | inr is ↦ rw is refl
    ]

-- so is each byte of a shown key
list_all-is_shown : (bs : List ℕ) → list_all is_shown (map shown_byte bs) ≡ true
list_all-is_shown [] = refl
list_all-is_shown (b ∷ bs) = rw (is_shown-shown_byte b) (list_all-is_shown bs)

-- a shown byte is ASCII
is_shown-small : (b : ℕ) → is_shown b ≡ true → b < 128
is_shown-small b h = grind (arith, nat_tests)

-- the shown form of a key is text
pub is_shown-IsUtf8 : (bs : List ℕ) → list_all is_shown bs ≡ true → IsUtf8 bs
is_shown-IsUtf8 bs h = IsUtf8-from_ascii bs (IsAscii-list_all is_shown is_shown-small bs h)

-- ---- drop

-- the bytes after a prefix of this length
drop-append : (xs ys : List ℕ) (n : ℕ) → length xs ≡ n → drop n (xs ++ ys) ≡ ys
drop-append xs ys n h = ap (λ k. drop k (xs ++ ys)) (sym h) ∙ drop-append_seam xs ys

-- ---- key_text

-- the first bytes of a key, copied before zeros and shown there
module _ (key : List ℕ) (len : ℕ) (copied prefix : List ℕ)
    (size : len ≡ min (length key) MAX_KEY_TEXT_LEN)
    (copy : copied ≡ take len key)
    (show : prefix ≡ map shown_byte (take len (copied ++ drop len (replicate MAX_KEY_TEXT_LEN 0)))) where
  -- they are not too many
  len-bounds : len ≤ MAX_KEY_TEXT_LEN
  len-bounds = omega (arith, size)

  -- as many are copied
  copied_len : length copied ≡ len
  copied_len = ap length copy ∙ length-take-le len key (omega (arith, size))

  -- the shown prefix is the shown form of the copied bytes
  prefix-shown : prefix ≡ map shown_byte copied
  prefix-shown =
      show ∙ ap (map shown_byte) (take-append copied (drop len (replicate MAX_KEY_TEXT_LEN 0)) len copied_len)

  -- and is as long
  prefix-length : length prefix ≡ len
  prefix-length = ap length prefix-shown ∙ (length-map copied shown_byte ∙ copied_len)

  -- zeros follow the copied bytes
  drop-copied : drop len (copied ++ drop len (replicate MAX_KEY_TEXT_LEN 0)) ≡ replicate (MAX_KEY_TEXT_LEN - len) 0
  drop-copied =
      drop-append copied (drop len (replicate MAX_KEY_TEXT_LEN 0)) len copied_len
      ∙ drop-replicate len MAX_KEY_TEXT_LEN 0

  -- the bytes up to that length are the text of the key
  pub key_text_bytes : take len (prefix ++ drop len (copied ++ drop len (replicate MAX_KEY_TEXT_LEN 0))) ≡ key_text key
  key_text_bytes =
      let first : take len key ≡ take MAX_KEY_TEXT_LEN key =
      ap (λ n. take n key) (size ∙ omega arith) ∙ take_min MAX_KEY_TEXT_LEN key in
      take-append prefix (drop len (copied ++ drop len (replicate MAX_KEY_TEXT_LEN 0))) len prefix-length
      ∙ (prefix-shown ∙ ap (map shown_byte) (copy ∙ first))

  -- and all the bytes are a key text, padded with zeros
  pub key_text_padded : IsKeyText (prefix ++ drop len (copied ++ drop len (replicate MAX_KEY_TEXT_LEN 0))) len
  key_text_padded = record {
    behind = record {
      length_max = len-bounds;
      size = length-append prefix _ ∙ rw (prefix-length, drop-copied, length-replicate) (omega (arith, len-bounds));
      zeros = drop-append prefix _ len prefix-length ∙ drop-copied;
    };
    shown = ap (list_all is_shown) (take-append prefix _ len prefix-length ∙ prefix-shown) ∙ list_all-is_shown copied;
  }
