-- One part of a text more.
use Rattle.std.proofs.Common.{◌≡◌, ℕ, ◌+◌, ◌==◌, Bool, List, [], ◌∷◌, length, sym, ap, ◌∙◌}
use Rattle.std.proofs.Common.{Option, Some, None, Ok, Err}
use Rattle.std.specs.Prelude.{◌&&◌, if◌then◌else◌, option_map}
use Rattle.std.specs.List.{slice_split}
use Rattle.snapshot_lines.specs.Texts.{is_newline, or_line, read_parts}
use Rattle.snapshot_lines.proofs.ExactTexts.{first-part}

module _ {S : Type 0} (step : S → List ℕ → Option S) (ends : S → Bool) where
  parts-line : (n : ℕ) (s : S) (rest first more : List ℕ)
      → slice_split is_newline rest ≡ first ∷ slice_split is_newline more
      → read_parts step ends n s (slice_split is_newline rest)
      ≡ or_line n (option_map (λ t. read_parts step ends (n + 1) t (slice_split is_newline more)) (step s first))
  parts-line n s rest first more cut =
      let f = first-part more in
      ap (read_parts step ends n s) (cut ∙ ap (λ (t : List (List ℕ)). first ∷ t) f.2)
      ∙ ap (λ (ps : List (List ℕ)). or_line n (option_map (λ t. read_parts step ends (n + 1) t ps) (step s first)))
      (sym f.2)

  pub line-taken : (n : ℕ) (s : S) (rest first more : List ℕ) (t : S)
      → slice_split is_newline rest ≡ first ∷ slice_split is_newline more → step s first ≡ Some t
      → read_parts step ends n s (slice_split is_newline rest)
      ≡ read_parts step ends (n + 1) t (slice_split is_newline more)
  line-taken n s rest first more t cut taken =
      parts-line n s rest first more cut
      ∙ ap (λ (o : Option S). or_line n
      (option_map (λ u. read_parts step ends (n + 1) u (slice_split is_newline more)) o)) taken

  pub line-refused : (n : ℕ) (s : S) (rest first more : List ℕ)
      → slice_split is_newline rest ≡ first ∷ slice_split is_newline more → step s first ≡ None
      → read_parts step ends n s (slice_split is_newline rest) ≡ Err n
  line-refused n s rest first more cut refused =
      parts-line n s rest first more cut
      ∙ ap (λ (o : Option S). or_line n
      (option_map (λ u. read_parts step ends (n + 1) u (slice_split is_newline more)) o)) refused

  pub last-part : (n : ℕ) (s : S) (rest : List ℕ) → slice_split is_newline rest ≡ rest ∷ []
      → read_parts step ends n s (slice_split is_newline rest) ≡ (if ends s && (length rest == 0) then Ok s else Err n)
  last-part n s rest cut = ap (read_parts step ends n s) cut
