-- The lines of a text that has one line more.
use Rattle.std.proofs.Common.{◌≡◌, ℕ, suc, ◌+◌, List, [], ◌∷◌, ◌++◌, length, take, true, false, not, refl, sym}
use Rattle.std.proofs.Common.{ap}
use Rattle.std.proofs.Common.{◌∙◌, arith, append-nil, append_assoc, length-append}
use Rattle.std.specs.List.{All, count_by, list_all, slice_split}
use Rattle.std.proofs.lemmas.Bool.{and_parts, not-true}
use Rattle.std.proofs.lemmas.Grind.{flat_map-append}
use Rattle.std.proofs.lemmas.List.Elements.{All-weaker}
use Rattle.std.proofs.lemmas.List.Folds.{list_all-append}
use Rattle.std.proofs.lemmas.List.Splits.{length-slice_split, slice_split_at}
use Rattle.std.proofs.lemmas.List.Sums.{AllPass-from_list_all}
use Rattle.decision_script.specs.Lines.{is_newline}
use Rattle.checkpoint.specs.TraceLines.{IsLinesText, ended, is_one_line, lines_in, lines_text}

-- ---- lines_in

-- none of a line's bytes is a line feed
no_newline : (line : List ℕ) → is_one_line line ≡ true → All (λ b. is_newline b ≡ false) line
no_newline line one = All-weaker (λ b. not (is_newline b) ≡ true) (λ b. is_newline b ≡ false)
    (λ b h. not-true (is_newline b) h) line (AllPass-from_list_all (λ b. not (is_newline b)) line one)

-- the first line of a text, and the others
lines_in-cons : (line rest : List ℕ) → is_one_line line ≡ true →
    lines_in (line ++ 10 ∷ rest) ≡ line ∷ lines_in rest
lines_in-cons line rest one =
    let split : slice_split is_newline (line ++ 10 ∷ rest) ≡ line ∷ slice_split is_newline rest =
    slice_split_at is_newline line 10 rest (no_newline line one) refl in
    let all = length-slice_split is_newline (line ++ 10 ∷ rest) in
    let others = length-slice_split is_newline rest in
    let parts = ap (λ (l : List (List ℕ)). length l) split in
    let more : count_by is_newline (line ++ 10 ∷ rest) ≡ suc (count_by is_newline rest) =
    omega (arith, all, others, parts) in
    ap (λ (n : ℕ). take n (slice_split is_newline (line ++ 10 ∷ rest))) more
    ∙ ap (λ (l : List (List ℕ)). take (suc (count_by is_newline rest)) l) split

-- the lines of the text of lines
pub lines_in-lines_text : (lines : List (List ℕ)) → list_all is_one_line lines ≡ true →
    lines_in (lines_text lines) ≡ lines
lines_in-lines_text [] all = refl
lines_in-lines_text (line ∷ lines) all =
    let parts = and_parts (is_one_line line) (list_all is_one_line lines) all in
    ap lines_in (append_assoc line (10 ∷ []) (lines_text lines))
    ∙ (lines_in-cons line (lines_text lines) parts.0 ∙ ap (λ l. line ∷ l) (lines_in-lines_text lines parts.1))

-- ---- IsLinesText

module _ (text line new : List ℕ) (count : ℕ) (is : IsLinesText text count) (one : is_one_line line ≡ true)
    (pushed : new ≡ text ++ (line ++ 10 ∷ [])) where
  -- the lines with one more
  abbrev more : List (List ℕ)
  more = lines_in text ++ line ∷ []

  separate : list_all is_one_line more ≡ true
  separate = list_all-append is_one_line (lines_in text) (line ∷ []) ∙ rw is.separate (rw one refl)

  whole : new ≡ lines_text more
  whole = pushed ∙ ap (λ t. t ++ (line ++ 10 ∷ [])) is.whole
      ∙ ap (λ t. lines_text (lines_in text) ++ t) (sym (append-nil (ended line)))
      ∙ sym (flat_map-append ended (lines_in text) (line ∷ []))

  -- a text with one line more
  pub lines_in-pushed : lines_in new ≡ lines_in text ++ line ∷ []
  lines_in-pushed = ap lines_in whole ∙ lines_in-lines_text more separate

  pub IsLinesText-pushed : IsLinesText new (count + 1)
  IsLinesText-pushed = record {
    whole = whole ∙ ap lines_text (sym lines_in-pushed);
    separate = ap (list_all is_one_line) lines_in-pushed ∙ separate;
    number =
        let n = is.number in
        let all = ap (λ (l : List (List ℕ)). length l) lines_in-pushed in
        let parts = length-append (lines_in text) (line ∷ []) in
        omega (arith, n, all, parts);
  }
