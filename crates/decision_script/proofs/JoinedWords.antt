-- Words that are joined by spaces are read as these words, and lines written one after another as these lines.
use Rattle.std.proofs.Common.{◌≡◌, ℕ, ◌&&◌, Bool, true, false, nat_le, List, [], ◌∷◌, ◌++◌, length, map, filter, refl}
use Rattle.std.proofs.Common.{ap, ◌∙◌, arith, cond, nat_lt, nat_eq, slice_index, zero, suc, append_assoc, ◌-◌}
use Rattle.std.specs.List.{slice_split, onto_first, join_with_byte, list_all, AllByRecursion, flat_map}
use Rattle.std.proofs.lemmas.List.Folds.{list_all-append}
use Rattle.std.specs.Str.Lines.{strip_carriage_return}
use Rattle.std.proofs.lemmas.List.Splits.{slice_split-cons_yes, slice_split-cons_no}
use Rattle.std.proofs.lemmas.Bool.{and_parts}
use Rattle.std.proofs.lemmas.Bool.Decides.{nat_tests}
use Rattle.sim_base.specs.declared.name.TheConstants.{MAX_NAME_LEN}
use Rattle.sim_base.proofs.ListLaws.{list_all-weaker}
use Rattle.decision_script.specs.Lines.{is_blank, is_newline, has_bytes, words, lines, is_ascii}
use Rattle.decision_script.specs.Sentences.{saying, line_saying}
use Rattle.decision_script.specs.Printing.{line_text}

-- ---- words and bytes

-- ASCII above the space
abbrev pub is_letter : ℕ → Bool
is_letter b = nat_le 33 b && nat_le b 126

-- text that is written as a word
pub record IsWord (word : List ℕ) : Type 0 where
  pub nonempty : has_bytes word ≡ true
  pub letters : list_all is_letter word ≡ true
  pub length_max : nat_le (length word) MAX_NAME_LEN ≡ true

-- a letter or a space
abbrev pub is_printed : ℕ → Bool
is_printed b = nat_le 32 b && nat_le b 126

-- if q holds, p does not
abbrev pub Excludes : (ℕ → Bool) → (ℕ → Bool) → Type 0
Excludes q p = (b : ℕ) → q b ≡ true → p b ≡ false

-- ---- slice_split

-- a split cuts off the bytes before the first separator as a part, and continues after it
pub split_at : (q p : ℕ → Bool) (word rest : List ℕ) (y : ℕ) → Excludes q p → list_all q word ≡ true → p y ≡ true
    → slice_split p (word ++ (y ∷ rest)) ≡ word ∷ slice_split p rest
split_at q p [] rest y passes h stop = slice_split-cons_yes p y rest stop
split_at q p (b ∷ bs) rest y passes h stop =
    let (letter, letters) = and_parts (q b) (list_all q bs) h in
    slice_split-cons_no p b (bs ++ (y ∷ rest)) (passes b letter)
    ∙ ap (onto_first b) (split_at q p bs rest y passes letters stop)

-- and bytes without a separator are the only part
split_none : (q p : ℕ → Bool) (word : List ℕ) → Excludes q p → list_all q word ≡ true
    → slice_split p word ≡ word ∷ []
split_none q p [] passes h = refl
split_none q p (b ∷ bs) passes h =
    let (letter, letters) = and_parts (q b) (list_all q bs) h in
    slice_split-cons_no p b bs (passes b letter) ∙ ap (onto_first b) (split_none q p bs passes letters)

-- a letter is no blank
blank_passes : Excludes is_letter is_blank
blank_passes b h = grind (arith, nat_tests)

-- and a letter or a space is no line feed
pub newline_passes : Excludes is_printed is_newline
newline_passes b h = grind (arith, nat_tests)

-- ---- words

-- a part with bytes in it stays when the empty ones are left out
filter_yes : (word : List ℕ) (rest : List (List ℕ)) → has_bytes word ≡ true
    → filter has_bytes (word ∷ rest) ≡ word ∷ filter has_bytes rest
filter_yes word rest h = ap (λ b. cond b (word ∷ filter has_bytes rest) (filter has_bytes rest)) h

-- words that are joined by spaces are these words again
words-join : (ws : List (List ℕ)) → AllByRecursion IsWord ws → words (join_with_byte 32 ws) ≡ ws
words-join [] h = refl
words-join (w ∷ []) h = ap (filter has_bytes) (split_none is_letter is_blank w blank_passes h.0.letters)
    ∙ filter_yes w [] h.0.nonempty
words-join (w ∷ v ∷ ws) h =
    ap (filter has_bytes) (split_at is_letter is_blank w (join_with_byte 32 (v ∷ ws)) 32 blank_passes h.0.letters refl)
    ∙ filter_yes w (slice_split is_blank (join_with_byte 32 (v ∷ ws))) h.0.nonempty
    ∙ ap (λ rest. w ∷ rest) (words-join (v ∷ ws) h.1)

-- ---- list_all

-- a letter is a letter or a space
letter_is_printed : (b : ℕ) → is_letter b ≡ true → is_printed b ≡ true
letter_is_printed b h = grind (arith, nat_tests)

-- so are the letters of a word
is_printed-letters : (bs : List ℕ) → list_all is_letter bs ≡ true → list_all is_printed bs ≡ true
is_printed-letters bs h = list_all-weaker is_letter is_printed letter_is_printed bs h

-- words that are joined by spaces are letters and spaces
pub printed_join : (ws : List (List ℕ)) → AllByRecursion IsWord ws → list_all is_printed (join_with_byte 32 ws) ≡ true
printed_join [] h = refl
printed_join (w ∷ []) h = is_printed-letters w h.0.letters
printed_join (w ∷ v ∷ ws) h = list_all-append is_printed w (32 ∷ join_with_byte 32 (v ∷ ws))
    ∙ rw (is_printed-letters w h.0.letters, printed_join (v ∷ ws) h.1) refl

-- a letter or a space is ASCII
printed_below : (b : ℕ) → is_printed b ≡ true → nat_lt b 128 ≡ true
printed_below b h = grind (arith, nat_tests)

-- so are letters and spaces
printed_is_ascii : (bs : List ℕ) → list_all is_printed bs ≡ true → is_ascii bs ≡ true
printed_is_ascii bs h = list_all-weaker is_printed (λ b. nat_lt b 128) printed_below bs h

-- ---- strip_carriage_return

-- no letter or space is a carriage return
printed_at : (bs : List ℕ) (i : ℕ) → list_all is_printed bs ≡ true → nat_eq (slice_index bs i) 13 ≡ false
printed_at [] i h = refl
printed_at (b ∷ bs) zero h =
    let (here, rest) = and_parts (is_printed b) (list_all is_printed bs) h in
    grind (arith, nat_tests)
printed_at (b ∷ bs) (suc i) h = printed_at bs i (and_parts (is_printed b) (list_all is_printed bs) h).1

-- and no carriage return is taken off their end
strip-printed : (bs : List ℕ) → list_all is_printed bs ≡ true → strip_carriage_return bs ≡ bs
strip-printed bs h = rw (printed_at bs (length bs - 1) h) refl

-- ---- line_saying and lines

-- a line of words that are joined by spaces has the meaning of the words
pub line_saying-join : (ws : List (List ℕ)) → AllByRecursion IsWord ws → line_saying (join_with_byte 32 ws) ≡ saying ws
line_saying-join ws h = rw (printed_is_ascii (join_with_byte 32 ws) (printed_join ws h), words-join ws h) refl

-- the lines of a text that is written line by line
pub lines-text : (ls : List (List (List ℕ))) → AllByRecursion (AllByRecursion IsWord) ls
    → lines (flat_map line_text ls) ≡ map (join_with_byte 32) ls ++ ([] ∷ [])
lines-text [] h = refl
lines-text (ws ∷ ls) h =
    ap lines (append_assoc (join_with_byte 32 ws) (10 ∷ []) (flat_map line_text ls))
    ∙ ap (map strip_carriage_return)
    (split_at is_printed is_newline (join_with_byte 32 ws) (flat_map line_text ls) 10 newline_passes
    (printed_join ws h.0) refl)
    ∙ ap (λ l. l ∷ lines (flat_map line_text ls)) (strip-printed (join_with_byte 32 ws) (printed_join ws h.0))
    ∙ ap (λ rest. join_with_byte 32 ws ∷ rest) (lines-text ls h.1)
