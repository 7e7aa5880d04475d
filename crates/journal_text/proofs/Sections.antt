-- The names of analysts while sections are read: each is either known already, or the next.
use Rattle.std.proofs.Common.{◌≡◌, ℕ, ◌+◌, ◌-◌, ◌<◌, ◌≤◌, ◌||◌, Bool, true, false, cond}
use Rattle.std.proofs.Common.{nat_lt, zero, suc, List, [], ◌∷◌, ◌++◌, length, get_or, Option, Some}
use Rattle.std.proofs.Common.{None, Result, Ok, refl, sym, ap, ◌∙◌, arith, length-append, append-nil}
use Rattle.std.specs.List.{join_with_byte, list_any}
use Rattle.std.specs.Str.{bytes_eq}
use Rattle.std.proofs.Math.Seq.{get_or-append_seam}
use Rattle.std.proofs.lemmas.Bool.Decides.{nat_tests}
use Rattle.std.proofs.lemmas.List.{get_or_append_left}
use Rattle.std.proofs.lemmas.List.Folds.{list_any-append, list_any_none}
use Rattle.std.proofs.lemmas.List.Quantifiers.{position-Some}
use Rattle.std.proofs.lemmas.Option.{unwrap_or-slice_get}
use Rattle.std.proofs.lemmas.Slice.Eq.{bytes_eq-Decides}
use Rattle.sim_base.proofs.ListLaws.{none_passes}
use Rattle.decision_script.specs.declared.fault.ScriptFault.{ScriptFault}
use Rattle.decision_script.specs.declared.script.TheConstants.{MAX_ANALYSTS}
use Rattle.decision_script.specs.Stating.{IsAnalyst, IsName, analyst_name}
use Rattle.decision_script.specs.Reading.{ReaderView, after_line, in_section, analyst_place}
use Rattle.decision_script.specs.Printing.{words_of_section}
use Rattle.decision_script.proofs.ItemsReadAgain.{after_section}
use Rattle.decision_book.proofs.ClonesByName.{name_itself}

-- ---- missing
-- the name is one of these names
abbrev is_among : List ℕ → List (List ℕ) → Bool
is_among name names = list_any (λ other. bytes_eq other name) names

-- 1 if the name is not there, and otherwise 0
abbrev lack : Bool → ℕ
lack there = cond there 0 1

-- the number of analysts without a section, if these have one
abbrev pub missing : List (List ℕ) → List (List ℕ) → ℕ
missing names [] = 0
missing names (a ∷ more) = lack (is_among a names) + missing names more

-- it is at most the number of analysts
few_missing : (names analysts : List (List ℕ)) → missing names analysts ≤ length analysts
few_missing names [] = omega arith
few_missing names (a ∷ more) = let one = at_most (is_among a names) in omega (arith, one, few_missing names more)
  where
    at_most : (b : Bool) → lack b ≤ 1
    at_most true = omega arith
    at_most false = omega arith

-- an `or` of two tests leaves no more missing than the first test
lack-or : (b c : Bool) → lack (b || c) ≤ lack b
lack-or true c = omega arith
lack-or false true = omega arith
lack-or false false = omega arith

-- one more name does not make another name missing
lack-push : (names : List (List ℕ)) (name a : List ℕ) → lack (is_among a (names ++ name ∷ [])) ≤ lack (is_among a names)
lack-push names name a = rw (list_any-append (λ other. bytes_eq other a) names (name ∷ []))
    (lack-or (is_among a names) (bytes_eq name a || false))

-- nor more analysts
missing-push : (names : List (List ℕ)) (name : List ℕ) (analysts : List (List ℕ))
    → missing (names ++ name ∷ []) analysts ≤ missing names analysts
missing-push names name [] = omega arith
missing-push names name (a ∷ more) = omega (arith, lack-push names name a, missing-push names name more)

-- a name is among the names with it
is_among-push : (names : List (List ℕ)) (name : List ℕ) → is_among name names ≡ false
    → is_among name (names ++ name ∷ []) ≡ true
is_among-push names name h = list_any-append (λ other. bytes_eq other name) names (name ∷ [])
    ∙ rw (h, name_itself name) refl

-- a new name of an analyst: one less is missing
missing-push_new : (names : List (List ℕ)) (name : List ℕ) (analysts : List (List ℕ)) (i : ℕ)
    → i < length analysts → get_or analysts i [] ≡ name → is_among name names ≡ false
    → missing (names ++ name ∷ []) analysts + 1 ≤ missing names analysts
missing-push_new names name [] i lt is new = absurd (omega arith)
missing-push_new names name (a ∷ more) zero lt is new =
    let gone : lack (is_among a (names ++ name ∷ [])) ≡ 0 = ap (λ x. lack (is_among x (names ++ name ∷ []))) is
    ∙ ap lack (is_among-push names name new) in
    let was : lack (is_among a names) ≡ 1 = ap (λ x. lack (is_among x names)) is ∙ ap lack new in
    omega (arith, gone, was, missing-push names name more)
missing-push_new names name (a ∷ more) (suc i) lt is new =
    omega (arith, lack-push names name a, missing-push_new names name more i (omega arith) is new)

-- a name without a place is not among them
is_among-none : (name : List ℕ) (names : List (List ℕ)) → analyst_place name names ≡ None
    → is_among name names ≡ false
is_among-none name names none = list_any_none (λ other. bytes_eq other name) names
    (none_passes (λ other. bytes_eq other name) names none)

-- main is not missing
pub main_is_there : (main : List ℕ) (more : List (List ℕ))
    → 1 + missing (main ∷ []) (main ∷ more) ≤ length (main ∷ more)
main_is_there main more =
    let there : lack (is_among main (main ∷ [])) ≡ 0 = rw (name_itself main) refl in
    omega (arith, there, few_missing (main ∷ []) more)

-- ---- analyst_name
-- adding names leaves the numbers of the first ones unchanged
pub analyst_name-append : (names more : List (List ℕ)) (a : ℕ) → IsAnalyst (length names) a
    → analyst_name (names ++ more) a ≡ analyst_name names a
analyst_name-append names more a is =
    unwrap_or-slice_get (names ++ more) (a - 1) [] ∙ get_or_append_left names more [] (a - 1)
    (omega (arith, is.low, is.high))
    ∙ sym (unwrap_or-slice_get names (a - 1) [])

-- ---- after_line
-- a section was read: its analyst is in force
pub record IsInForce (analysts : List (List ℕ)) (r : ReaderView) (name : List ℕ)
    (given : Result ReaderView ScriptFault) : Type 0 where
  pub next : ReaderView
  pub names : List (List ℕ)
  pub read : given ≡ Ok next
  pub analysts_are : next.analysts ≡ r.analysts ++ names
  pub items : next.items ≡ r.items
  pub current : IsAnalyst (length next.analysts) next.current
  pub name_is : analyst_name next.analysts next.current ≡ name
  pub fits : length next.analysts + missing next.analysts analysts ≤ length analysts

-- the section of an analyst who has a place, or has none
IsInForce-place : (analysts : List (List ℕ)) (line : ℕ) (r : ReaderView) (name : List ℕ) (i : ℕ) → IsName name
    → i < length analysts → get_or analysts i [] ≡ name → length analysts ≤ MAX_ANALYSTS
    → length r.analysts + missing r.analysts analysts ≤ length analysts
    → (o : Option ℕ) → analyst_place name r.analysts ≡ o
    → IsInForce analysts r name (after_line line r (join_with_byte 32 (words_of_section name)))
IsInForce-place analysts line r name i named lt is few fits (Some k) at =
    let (within, same, first) = position-Some (λ other. bytes_eq other name) r.analysts k [] at in
    let back : k + 1 - 1 ≡ k = omega arith in
    record {
      next = record r { current = k + 1 };
      names = [];
      read = after_section line r name named ∙ ap (in_section line r name) at;
      analysts_are = sym (append-nil r.analysts);
      items = refl;
      current = record { low = omega arith; high = omega (arith, within) };
      name_is = unwrap_or-slice_get r.analysts (k + 1 - 1) [] ∙ ap (λ n. get_or r.analysts n []) back
          ∙ (bytes_eq-Decides (get_or r.analysts k []) name).0 same;
      fits = fits;
    }
IsInForce-place analysts line r name i named lt is few fits None at =
    let gone = missing-push_new r.analysts name analysts i lt is (is_among-none name r.analysts at) in
    let longer = length-append r.analysts (name ∷ []) in
    let free : nat_lt (length r.analysts) MAX_ANALYSTS ≡ true =
    (let below : length r.analysts < MAX_ANALYSTS = omega (arith, gone, fits, few) in grind (arith, nat_tests)) in
    let back : length r.analysts + 1 - 1 ≡ length r.analysts = omega arith in
    record {
      next = record { analysts = r.analysts ++ name ∷ []; current = length r.analysts + 1; items = r.items };
      names = name ∷ [];
      read = after_section line r name named ∙ ap (in_section line r name) at ∙ rw free refl;
      analysts_are = refl;
      items = refl;
      current = record { low = omega arith; high = omega (arith, longer) };
      name_is = unwrap_or-slice_get (r.analysts ++ name ∷ []) (length r.analysts + 1 - 1) []
          ∙ ap (λ n. get_or (r.analysts ++ name ∷ []) n []) back ∙ get_or-append_seam r.analysts name [] [];
      fits = omega (arith, longer, gone, fits);
    }

-- the section of an analyst is read
pub section_read : (analysts : List (List ℕ)) (line : ℕ) (r : ReaderView) (a : ℕ)
    → IsAnalyst (length analysts) a → IsName (analyst_name analysts a) → length analysts ≤ MAX_ANALYSTS
    → length r.analysts + missing r.analysts analysts ≤ length analysts
    → IsInForce analysts r (analyst_name analysts a)
    (after_line line r (join_with_byte 32 (words_of_section (analyst_name analysts a))))
section_read analysts line r a is named few fits =
    IsInForce-place analysts line r (analyst_name analysts a) (a - 1) named
    (omega (arith, is.low, is.high))
    (sym (unwrap_or-slice_get analysts (a - 1) [])) few fits (analyst_place (analyst_name analysts a) r.analysts) refl
