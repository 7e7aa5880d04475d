-- Texts of lines, read by a machine: each line leads from one state to the next, or it is the first bad line.
use Rattle.std.specs.Prelude.{◌≡◌, ℕ, ◌+◌, ◌==◌, ◌&&◌, Bool, true, false, List, [], ◌∷◌, ◌++◌, length}
use Rattle.std.specs.Prelude.{Option, Some, None, option_map, Result, Ok, Err, if◌then◌else◌}
use Rattle.std.specs.List.{AllByRecursion, flat_map, slice_split}

abbrev pub is_newline : ℕ → Bool
is_newline b = b == 10

-- a line with its line feed
abbrev pub ended : List ℕ → List ℕ
ended line = line ++ 10 ∷ []

-- a line of a text has no line feed
abbrev pub IsOneLine : List ℕ → Type 0
IsOneLine line = AllByRecursion (λ b. is_newline b ≡ false) line

-- the result after a line, or the number of the line, if there is none
abbrev pub or_line : {S : Type 0} → ℕ → Option (Result S ℕ) → Result S ℕ
or_line n None = Err n
or_line n (Some r) = r

module _ {S : Type 0} (step : S → List ℕ → Option S) (ends : S → Bool) where
  -- the state after these parts of a text, of which the first is line n, or the number of the first bad line. The last
  -- part is what follows the last line feed: nothing, if each line is ended
  abbrev pub read_parts : ℕ → S → List (List ℕ) → Result S ℕ
  read_parts n s [] = Err n
  read_parts n s (l ∷ []) = if ends s && (length l == 0) then Ok s else Err n
  read_parts n s (l ∷ m ∷ ls) = or_line n (option_map (λ t. read_parts (n + 1) t (m ∷ ls)) (step s l))

  -- the state after a text
  abbrev pub read_text : S → List ℕ → Result S ℕ
  read_text s text = read_parts 1 s (slice_split is_newline text)

  -- the lines lead from s to t
  abbrev pub Leads : S → List (List ℕ) → S → Type 0
  Leads s [] t = s ≡ t
  Leads s (l ∷ ls) t = (u : S) × (step s l ≡ Some u) × Leads u ls t

  -- the text is lines that lead from s to t, where a text may end
  pub record IsWhole (s : S) (text : List ℕ) (t : S) : Type 0 where
    pub lines : List (List ℕ)
    pub text_is : text ≡ flat_map ended lines
    pub leads : Leads s lines t
    pub ends_there : ends t ≡ true

  -- a part at which reading stops: a line that leads nowhere, or a last part that is not the end of a text
  abbrev pub IsNotExpected : S → List ℕ → List (List ℕ) → Type 0
  IsNotExpected u part [] = (ends u && (length part == 0)) ≡ false
  IsNotExpected u part (p ∷ ps) = step u part ≡ None

  -- the first bad line: the lines before it lead to a state where it is not expected
  pub record StopsAt (s : S) (parts : List (List ℕ)) (n line : ℕ) : Type 0 where
    pub before : List (List ℕ)
    pub state : S
    pub part : List ℕ
    pub rest : List (List ℕ)
    pub parts_are : parts ≡ before ++ part ∷ rest
    pub leads : Leads s before state
    pub bad : IsNotExpected state part rest
    pub number : line ≡ n + length before

  -- lines that lead to an end are read
  abbrev pub LinesAreRead : Type 0
  LinesAreRead = (lines : List (List ℕ)) (s t : S) → AllByRecursion IsOneLine lines → Leads s lines t → ends t ≡ true
      → read_text s (flat_map ended lines) ≡ Ok t

  -- a text that is read is such lines
  abbrev pub TextIsOfLines : Type 0
  TextIsOfLines = (s : S) (text : List ℕ) (t : S) → read_text s text ≡ Ok t → IsWhole s text t

  -- a text that is not read is refused at its first bad line
  abbrev pub FirstBadLine : Type 0
  FirstBadLine = (s : S) (text : List ℕ) (line : ℕ) → read_text s text ≡ Err line
      → StopsAt s (slice_split is_newline text) 1 line
