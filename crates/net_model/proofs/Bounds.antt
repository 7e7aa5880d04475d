-- Properties of the values that are read.
use Rattle.std.proofs.Common.{◌≡◌, refl, ap, sym, ◌∙◌, ℕ, ℤ, pos, negsuc, ◌≤◌, ◌&&◌, nat_le, Bool, true, false}
use Rattle.std.proofs.Common.{List, [], ◌∷◌, Option, Some, None, Result, Ok, Err, if◌then◌else◌, subst}
use Rattle.std.proofs.lemmas.Bool.{and_parts, leb-true}
use Rattle.toml.specs.Data.{Data, string, integer, float, boolean, datetime, array, table, get, as_integer}
use Rattle.sim_base.specs.Names.{is_name}
use Rattle.net_model.specs.declared.fault.ModelFault.{ModelFault}
use Rattle.net_model.specs.declared.fault.ModelFault.TheVariants.{Missing, WrongType, OutOfRange, BadName}
use Rattle.net_model.specs.declared.field.Field.{Field}
use Rattle.net_model.specs.declared.reading.Span.{Span}
use Rattle.sim_base.proofs.Chain.{bind-Ok}
use Rattle.net_model.specs.Fields.{key_of}
use Rattle.net_model.specs.Reading.{in_range, integer_of, found_integer, integer_at, as_name, name_at, text_at}
use Rattle.net_model.specs.Reading.{span, span_of_two, span_of_list, span_of_value, span_at, value_at, list_of}
use Rattle.net_model.specs.Rules.{IsRange, is_range, is_within}
use Rattle.net_model.specs.declared.limits.TheConstants.{MAX_TIME}

-- ---- Ok, Err

-- values that give equal Ok results are equal
pub Ok-injective : {A : Type 0} (x y : A) → ◌≡◌ {A = Result A ModelFault} (Ok x) (Ok y) → x ≡ y
Ok-injective {A} x y h = ap value h
  where
    value : Result A ModelFault → A
    value (Ok z) = z
    value (Err e) = x

-- a fault is not an Ok result
pub Err-not-Ok : {A : Type 0} (e : ModelFault) (y : A) → ◌≡◌ {A = Result A ModelFault} (Err e) (Ok y) → ⊥
Err-not-Ok e y h = cc

-- ---- if

-- if a test decides between Ok and a fault, an Ok result passed the test and has the value of Ok
pub if-Ok : {A : Type 0} (b : Bool) (x y : A) (e : ModelFault)
    → ◌≡◌ {A = Result A ModelFault} (if b then Ok x else Err e) (Ok y) → (b ≡ true) × (x ≡ y)
if-Ok true x y e h = (refl, Ok-injective x y h)
if-Ok false x y e h = absurd (Err-not-Ok e y h)

-- if a passed test means a fault, an Ok result failed the test and is the result of the other case
pub if-Err : {A : Type 0} (b : Bool) (r : Result A ModelFault) (y : A) (e : ModelFault)
    → ◌≡◌ {A = Result A ModelFault} (if b then Err e else r) (Ok y) → (b ≡ false) × (r ≡ Ok y)
if-Err true r y e h = absurd (Err-not-Ok e y h)
if-Err false r y e h = (refl, h)

-- ---- is_within, is_range

-- a number that is found within two bounds is from the low one to the high one
pub is_within-bounds : (low high n : ℕ) → is_within low high n ≡ true → (low ≤ n) × (n ≤ high)
is_within-bounds low high n h = let parts = and_parts (nat_le low n) (nat_le n high) h in
    (leb-true low n parts.0, leb-true n high parts.1)

-- and a range of times that was found is one
pub is_range-bounds : (low lo hi : ℕ) → is_range low lo hi ≡ true → IsRange low lo hi
is_range-bounds low lo hi h =
    let parts = and_parts (nat_le low lo && nat_le lo hi) (nat_le hi MAX_TIME) h in
    let first = and_parts (nat_le low lo) (nat_le lo hi) parts.0 in
    record { above = leb-true low lo first.0; ordered = leb-true lo hi first.1; small = leb-true hi MAX_TIME parts.1 }

module _ (station : ℕ) (field : Field) where
  -- ---- in_range, integer_of, found_integer, integer_at

  -- a number of a range is within its bounds
  in_range-bounds : (low high : ℕ) (z : ℤ) (n : ℕ)
      → in_range station field low high z ≡ Ok n → (low ≤ n) × (n ≤ high)
  in_range-bounds low high (pos m) n h =
      let (is, same) = if-Ok (is_within low high m) m n (OutOfRange station field) h in
      let (above, below) = is_within-bounds low high m is in
      (subst (λ k. low ≤ k) same above, subst (λ k. k ≤ high) same below)
  in_range-bounds low high (negsuc m) n h = absurd (Err-not-Ok (OutOfRange station field) n h)

  -- so is an integer
  integer_of-bounds : (low high : ℕ) (d : Data) (n : ℕ)
      → integer_of station field low high d ≡ Ok n → (low ≤ n) × (n ≤ high)
  integer_of-bounds low high (integer z) n h = in_range-bounds low high z n h
  integer_of-bounds low high (string s) n h = absurd (Err-not-Ok (WrongType station field) n h)
  integer_of-bounds low high (float x) n h = absurd (Err-not-Ok (WrongType station field) n h)
  integer_of-bounds low high (boolean b) n h = absurd (Err-not-Ok (WrongType station field) n h)
  integer_of-bounds low high (datetime t) n h = absurd (Err-not-Ok (WrongType station field) n h)
  integer_of-bounds low high (array ds) n h = absurd (Err-not-Ok (WrongType station field) n h)
  integer_of-bounds low high (table ms) n h = absurd (Err-not-Ok (WrongType station field) n h)

  -- one without a default, by the value found
  found_integer-required : (low high : ℕ) (found : Option Data) (n : ℕ)
      → found_integer station field low high None found ≡ Ok n → (low ≤ n) × (n ≤ high)
  found_integer-required low high None n h = absurd (Err-not-Ok (Missing station field) n h)
  found_integer-required low high (Some d) n h = integer_of-bounds low high d n h

  -- and one with a default of the range
  found_integer-usual : (low high usual : ℕ) (found : Option Data) (n : ℕ) → low ≤ usual
      → usual ≤ high → found_integer station field low high (Some usual) found ≡ Ok n → (low ≤ n) × (n ≤ high)
  found_integer-usual low high usual None n a b h = let same = Ok-injective usual n h in
      (subst (λ k. low ≤ k) same a, subst (λ k. k ≤ high) same b)
  found_integer-usual low high usual (Some d) n a b h = integer_of-bounds low high d n h

  -- an integer that has to be there is in its range
  pub integer_at-required : (low high : ℕ) (t : Data) (n : ℕ)
      → integer_at station field low high None t ≡ Ok n → (low ≤ n) × (n ≤ high)
  integer_at-required low high t n h = found_integer-required low high (get (key_of field) t) n h

  -- so is one with a default, if the default is in the range
  pub integer_at-usual : (low high usual : ℕ) (t : Data) (n : ℕ) → low ≤ usual → usual ≤ high
      → integer_at station field low high (Some usual) t ≡ Ok n → (low ≤ n) × (n ≤ high)
  integer_at-usual low high usual t n a b h =
      found_integer-usual low high usual (get (key_of field) t) n a b h

  -- ---- span, span_of_two, span_of_list, span_of_value, span_at

  -- times that are found to be a range are one
  span-IsRange : (low lo hi : ℕ) (s : Span) → span station field low lo hi ≡ Ok s
      → IsRange low s.lo s.hi
  span-IsRange low lo hi s h =
      let (is, same) = if-Ok (is_range low lo hi) (record { lo = lo; hi = hi }) s (OutOfRange station field) h in
      subst (λ (x : Span). IsRange low x.lo x.hi) same (is_range-bounds low lo hi is)

  -- so are two values
  span_of_two-IsRange : (low : ℕ) (lo hi : Option ℤ) (s : Span)
      → span_of_two station field low lo hi ≡ Ok s → IsRange low s.lo s.hi
  span_of_two-IsRange low (Some (pos lo)) (Some (pos hi)) s h = span-IsRange low lo hi s h
  span_of_two-IsRange low (Some (pos lo)) (Some (negsuc hi)) s h = absurd (Err-not-Ok (OutOfRange station field) s h)
  span_of_two-IsRange low (Some (negsuc lo)) (Some hi) s h = absurd (Err-not-Ok (OutOfRange station field) s h)
  span_of_two-IsRange low (Some lo) None s h = absurd (Err-not-Ok (WrongType station field) s h)
  span_of_two-IsRange low None hi s h = absurd (Err-not-Ok (WrongType station field) s h)

  -- a list of two
  span_of_list-IsRange : (low : ℕ) (ds : List Data) (s : Span) → span_of_list station field low ds ≡ Ok s
      → IsRange low s.lo s.hi
  span_of_list-IsRange low (a ∷ (b ∷ [])) s h = span_of_two-IsRange low (as_integer a) (as_integer b) s h
  span_of_list-IsRange low [] s h = absurd (Err-not-Ok (WrongType station field) s h)
  span_of_list-IsRange low (a ∷ []) s h = absurd (Err-not-Ok (WrongType station field) s h)
  span_of_list-IsRange low (a ∷ (b ∷ (c ∷ ds))) s h = absurd (Err-not-Ok (WrongType station field) s h)

  -- and an array of two
  span_of_value-IsRange : (low : ℕ) (d : Data) (s : Span) → span_of_value station field low d ≡ Ok s
      → IsRange low s.lo s.hi
  span_of_value-IsRange low (array ds) s h = span_of_list-IsRange low (list_of ds) s h
  span_of_value-IsRange low (integer z) s h = absurd (Err-not-Ok (WrongType station field) s h)
  span_of_value-IsRange low (string t) s h = absurd (Err-not-Ok (WrongType station field) s h)
  span_of_value-IsRange low (float x) s h = absurd (Err-not-Ok (WrongType station field) s h)
  span_of_value-IsRange low (boolean b) s h = absurd (Err-not-Ok (WrongType station field) s h)
  span_of_value-IsRange low (datetime t) s h = absurd (Err-not-Ok (WrongType station field) s h)
  span_of_value-IsRange low (table ms) s h = absurd (Err-not-Ok (WrongType station field) s h)

  -- the times of a range that a key states are in order, not below the lower bound and not above MAX_TIME
  pub span_at-IsRange : (low : ℕ) (t : Data) (s : Span) → span_at station field low t ≡ Ok s
      → IsRange low s.lo s.hi
  span_at-IsRange low t s h =
      let (d, found, read) = bind-Ok (value_at station field t) (span_of_value station field low) s h in
      span_of_value-IsRange low d s read

  -- ---- name_at

  -- a text that is read as a name is one
  pub name_at-is_name : (t : Data) (name : List ℕ) → name_at station field t ≡ Ok name
      → is_name name ≡ true
  name_at-is_name t name h =
      let (text, found, read) = bind-Ok (text_at station field t) (as_name station) name h in
      let (is, same) = if-Ok (is_name text) text name (BadName station) read in
      ap is_name (sym same) ∙ is
