-- The bytes of a name: they are padded with zeros, and they are text.
use Rattle.std.proofs.Common.{◌≡◌, ℕ, ◌≤◌, ◌&&◌, refl, ◌∙◌, List, [], ◌∷◌, ◌++◌}
use Rattle.std.proofs.Common.{length, drop, replicate, true, nat_lt, zero, suc, ◌<◌, arith, length-append}
use Rattle.std.specs.List.{list_all}
use Rattle.std.proofs.lemmas.List.{drop-replicate, length-replicate}
use Rattle.std.proofs.Math.Seq.{drop-append_seam, take-append_seam}
use Rattle.std.proofs.lemmas.Bool.{and_parts, false≢true}
use Rattle.std.proofs.lemmas.Bool.Decides.{nat_tests}
use Rattle.sim_base.specs.Names.{is_name, is_lower, is_name_byte}
use Rattle.sim_base.specs.declared.name.TheConstants.{MAX_NAME_LEN}
use Rattle.std.specs.Str.{IsAscii, IsUtf8}
use Rattle.std.proofs.lemmas.Str.{IsUtf8-from_ascii}
use Rattle.sim_base.specs.Padding.{IsPadded}

-- ---- is_name

-- a name is not too long
pub short_name : (text : List ℕ) → is_name text ≡ true → length text ≤ MAX_NAME_LEN
short_name [] h = omega arith
short_name (b ∷ bs) h =
    let (bytes, short) = and_parts (is_lower b && list_all is_name_byte bs) (nat_lt (length bs) MAX_NAME_LEN) h in
    grind (arith, nat_tests)

-- ---- IsPadded

-- a name followed by zeros is padded
pub padded_name : (text : List ℕ) → is_name text ≡ true
    → IsPadded (text ++ drop (length text) (replicate MAX_NAME_LEN 0)) (length text)
padded_name text h =
    let short = short_name text h in
    record {
      behind = record {
        length_max = short;
        size = simp (length-append, drop-replicate, length-replicate) (omega arith);
        zeros = drop-append_seam text (drop (length text) (replicate MAX_NAME_LEN 0))
            ∙ drop-replicate (length text) MAX_NAME_LEN 0;
      };
      named = rw (take-append_seam text (drop (length text) (replicate MAX_NAME_LEN 0))) h;
    }

-- ---- is_name_byte

-- a byte of a name is below 128
name_byte_small : (b : ℕ) → is_name_byte b ≡ true → b < 128
name_byte_small b h = grind (arith, nat_tests)

-- a name may contain a to z
lower_is_name_byte : (b : ℕ) → is_lower b ≡ true → is_name_byte b ≡ true
lower_is_name_byte b h = rw h refl

-- ---- IsAscii and IsUtf8

-- the bytes that a name may contain are ASCII
small_bytes : (bs : List ℕ) → list_all is_name_byte bs ≡ true → IsAscii bs
small_bytes [] h = λ i. grind arith
small_bytes (b ∷ bs) h =
    let (first, rest) = and_parts (is_name_byte b) (list_all is_name_byte bs) h in
    at b bs (name_byte_small b first) (small_bytes bs rest)
  where
    at : (b : ℕ) (bs : List ℕ) → b < 128 → IsAscii bs → IsAscii (b ∷ bs)
    at b bs small rest zero = small
    at b bs small rest (suc i) = rest i

-- a name is text
pub name_is_text : (text : List ℕ) → is_name text ≡ true → IsUtf8 text
name_is_text [] h = absurd (false≢true h)
name_is_text (b ∷ bs) h =
    let (bytes, short) = and_parts (is_lower b && list_all is_name_byte bs) (nat_lt (length bs) MAX_NAME_LEN) h in
    let (first, rest) = and_parts (is_lower b) (list_all is_name_byte bs) bytes in
    IsUtf8-from_ascii (b ∷ bs) (small_bytes (b ∷ bs) (rw (lower_is_name_byte b first, rest) refl))
