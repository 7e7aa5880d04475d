-- The printed lines of a trace, and their text.
use Rattle.std.specs.Prelude.{◌≡◌, ℕ, ◌&&◌, nat_le, Bool, true, not, List, [], ◌∷◌, ◌++◌, length, take}
use Rattle.std.specs.List.{count_by, flat_map, list_all, slice_split}
use Rattle.decision_script.specs.Lines.{is_newline}
use Rattle.checkpoint.specs.declared.trace_lines.TheConstants.{MAX_TRACE_LINE}

-- whether a byte is printed: a space, or a visible character of ASCII
abbrev pub is_printed : ℕ → Bool
is_printed b = nat_le 32 b && nat_le b 126

-- whether bytes may be a trace line of a snapshot: 1 to `MAX_TRACE_LINE` printed bytes
abbrev pub is_trace_line : List ℕ → Bool
is_trace_line line = (nat_le 1 (length line) && nat_le (length line) MAX_TRACE_LINE) && list_all is_printed line

-- whether bytes have no line feed
abbrev pub is_one_line : List ℕ → Bool
is_one_line line = list_all (λ b. not (is_newline b)) line

-- a line with its line feed
abbrev pub ended : List ℕ → List ℕ
ended line = line ++ 10 ∷ []

-- the text of lines, each with its line feed
abbrev pub lines_text : List (List ℕ) → List ℕ
lines_text lines = flat_map ended lines

-- the lines of a text in which each line ends with a line feed
abbrev pub lines_in : List ℕ → List (List ℕ)
lines_in text = take (count_by is_newline text) (slice_split is_newline text)

-- a text is this number of lines, each with its line feed
pub record IsLinesText (text : List ℕ) (count : ℕ) : Type 0 where
  pub whole : text ≡ lines_text (lines_in text)
  pub separate : list_all is_one_line (lines_in text) ≡ true
  pub number : count ≡ length (lines_in text)
