-- The lines of a journal's text, and those that are not comments.
use Rattle.std.proofs.Common.{◌≡◌, ◌⊎◌, inl, inr, ⊎_elim, ℕ, Bool, true, not, List, [], ◌∷◌, ◌++◌, map}
use Rattle.std.proofs.Common.{filter, refl, sym, ap, ◌∙◌, subst, arith, append_assoc, append-nil, codes, decimal}
use Rattle.std.specs.List.{AllByRecursion, flat_map, join_with_byte, list_all, slice_split}
use Rattle.std.proofs.lemmas.List.Folds.{list_all-append}
use Rattle.sim_base.specs.declared.decision.Decision.{Decision}
use Rattle.sim_base.specs.declared.decision.Decision.TheVariants.{Fork, Set, End}
use Rattle.decision_script.specs.declared.item.Act.TheVariants.{Decide}
use Rattle.decision_script.specs.Lines.{is_newline}
use Rattle.decision_script.specs.Sentences.{begins_comment}
use Rattle.decision_script.specs.Stating.{Fits32, IsDecision, IsName, analyst_name}
use Rattle.decision_script.specs.Printing.{line_text, words_of_decision, words_of_section}
use Rattle.decision_script.proofs.Numbers.{decimal_is_word}
use Rattle.decision_script.proofs.Saying.{act_words, section_words}
use Rattle.decision_script.proofs.JoinedWords.{is_printed, newline_passes, printed_join, split_at}
use Rattle.decision_book.specs.declared.call.Call.{Call}
use Rattle.decision_book.specs.declared.call.Reply.{Reply}
use Rattle.decision_book.specs.declared.call.Reply.TheVariants.{Accepted, Full, Closed, UnknownClone, Ended, NameTaken}
use Rattle.decision_book.specs.declared.call.Reply.TheVariants.{TooManyClones, UnknownStation, WrongParameter}
use Rattle.decision_book.specs.declared.call.Reply.TheVariants.{OutOfRange, ListFull, PastHorizon, Late}
use Rattle.decision_book.specs.Journal.{Event, NewFront, NewCall}
use Rattle.decision_book.specs.Scripts.{accepted_onto}
use Rattle.journal_text.specs.JournalText.{call_line, decision_text, events_text, refusal_text}
use Rattle.journal_text.specs.Laws.{without_comments}

-- a line with its line feed
abbrev end_line : List ℕ → List ℕ
end_line l = l ++ 10 ∷ []

-- each byte is printed: from 32 to 126
abbrev IsPrinted : List ℕ → Type 0
IsPrinted l = list_all is_printed l ≡ true

-- ---- slice_split
-- splitting joined lines returns these lines, and an empty part after the last
split-lines : (ls : List (List ℕ)) → AllByRecursion IsPrinted ls
    → slice_split is_newline (flat_map end_line ls) ≡ ls ++ ([] ∷ [])
split-lines [] h = refl
split-lines (l ∷ ls) h =
    ap (slice_split is_newline) (append_assoc l (10 ∷ []) (flat_map end_line ls))
    ∙ split_at is_printed is_newline l (flat_map end_line ls) 10 newline_passes h.0 refl
    ∙ ap (λ rest. l ∷ rest) (split-lines ls h.1)

-- ---- join_with_byte
-- these lines and that part, joined by line feeds, are the lines with a line feed each
join-lines : (ls : List (List ℕ)) → join_with_byte 10 (ls ++ ([] ∷ [])) ≡ flat_map end_line ls
join-lines [] = refl
join-lines (l ∷ []) = sym (append-nil (l ++ 10 ∷ []))
join-lines (l ∷ m ∷ ls) = ap (λ rest. l ++ (10 ∷ rest)) (join-lines (m ∷ ls))
    ∙ sym (append_assoc l (10 ∷ []) (flat_map end_line (m ∷ ls)))

-- ---- the lines of events
-- the lines of an event: a front's, or the analyst's section and the call
abbrev event_lines : List (List ℕ) → Event → List (List ℕ)
event_lines analysts (NewFront front) = (codes "# front " ++ decimal front) ∷ []
event_lines analysts (NewCall call) =
    (codes "analyst " ++ analyst_name analysts call.caller) ∷ call_line call.reply call.decision ∷ []

-- the text of events is their lines, each with its line feed
events_text-lines : (analysts : List (List ℕ)) (es : List Event)
    → events_text analysts es ≡ flat_map end_line (flat_map (event_lines analysts) es)
events_text-lines analysts [] = refl
events_text-lines analysts (NewFront front ∷ es) = ap (λ rest. codes "# front " ++ decimal front ++ codes "\n" ++ rest)
    (events_text-lines analysts es)
events_text-lines analysts (NewCall c ∷ es) =
    let head : List ℕ = codes "analyst " ++ analyst_name analysts c.caller ++ codes "\n" in
    let call : List ℕ = call_line c.reply c.decision in
    ap (λ text. text ++ events_text analysts es) (append_assoc head call (10 ∷ []))
    ∙ append_assoc head (call ++ 10 ∷ []) (events_text analysts es)
    ∙ ap (λ rest. head ++ ((call ++ 10 ∷ []) ++ rest)) (events_text-lines analysts es)

-- ---- comments and other lines
-- a line that is not a comment
abbrev is_said : List ℕ → Bool
is_said line = not (begins_comment line)

-- a refusal is written as a comment, and adds no call to the script
pub record IsRefused (r : Reply) : Type 0 where
  pub line : (d : Decision) → call_line r d ≡ codes "# refused " ++ refusal_text r ++ codes ": " ++ decision_text d
  pub taken : (c : Call) (cs : List Call) → accepted_onto r c cs ≡ cs

-- each reply is Accepted, or a refusal
pub accepted_or_refused : (r : Reply) → (r ≡ Accepted) ⊎ IsRefused r
accepted_or_refused Accepted = inl refl
accepted_or_refused r = inr (record { line = λ d. refl; taken = λ c cs. refl })

-- the words of the lines without comments, for a call with this reply
abbrev pub said_onto : Reply → Decision → List (List (List ℕ)) → List (List (List ℕ))
said_onto Accepted d lines = words_of_decision d ∷ lines
said_onto refusal d lines = lines

-- the words of the lines without comments, for events: a section for each call, and its decision if it was accepted
abbrev pub said_lines : List (List ℕ) → List Event → List (List (List ℕ))
said_lines analysts [] = []
said_lines analysts (NewFront front ∷ es) = said_lines analysts es
said_lines analysts (NewCall c ∷ es) = words_of_section (analyst_name analysts c.caller) ∷ said_onto c.reply c.decision
    (said_lines analysts es)

-- a refused call has no line for its decision
pub said_onto-refused : (r : Reply) → IsRefused r → (d : Decision) (lines : List (List (List ℕ)))
    → said_onto r d lines ≡ lines
said_onto-refused Accepted h d lines =
    absurd (let e = h.taken (record { caller = 0; fronts = 0; decision = d; reply = Accepted }) [] in cc)
said_onto-refused r h d lines = refl

-- the line of a decision is not a comment
filter-decision_text : (d : Decision) (rest : List (List ℕ))
    → filter is_said (decision_text d ∷ rest) ≡ decision_text d ∷ filter is_said rest
filter-decision_text (Fork new old) rest = refl
filter-decision_text (Set who at station change) rest = refl
filter-decision_text (End who at) rest = refl

-- lines of these words, and an empty part after the last
abbrev pub joined : List (List (List ℕ)) → List (List ℕ)
joined ls = map (join_with_byte 32) ls ++ ([] ∷ [])

-- the line of a call, and the lines after it
filter-call_line : (r : Reply) (d : Decision) (rest : List (List ℕ)) (said : List (List (List ℕ)))
    → filter is_said rest ≡ joined said
    → filter is_said (call_line r d ∷ rest) ≡ joined (said_onto r d said)
filter-call_line r d rest said same =
    ⊎_elim
    (λ (h : r ≡ Accepted). subst (λ x. filter is_said (call_line x d ∷ rest) ≡ joined (said_onto x d said)) (sym h)
    (filter-decision_text d rest ∙ ap (λ more. decision_text d ∷ more) same))
    (λ (h : IsRefused r). ap (λ line. filter is_said (line ∷ rest)) (h.line d) ∙ same
    ∙ ap joined (sym (said_onto-refused r h d said)))
    (accepted_or_refused r)

-- the lines of events that are not comments
filter-event_lines : (analysts : List (List ℕ)) (es : List Event)
    → filter is_said (flat_map (event_lines analysts) es ++ ([] ∷ [])) ≡ joined (said_lines analysts es)
filter-event_lines analysts [] = refl
filter-event_lines analysts (NewFront front ∷ es) = filter-event_lines analysts es
filter-event_lines analysts (NewCall c ∷ es) =
    ap (λ rest. (codes "analyst " ++ analyst_name analysts c.caller) ∷ rest)
    (filter-call_line c.reply c.decision (flat_map (event_lines analysts) es ++ ([] ∷ [])) (said_lines analysts es)
    (filter-event_lines analysts es))

-- ---- IsPrinted
-- two printed texts together
IsPrinted-append : (xs ys : List ℕ) → IsPrinted xs → IsPrinted ys → IsPrinted (xs ++ ys)
IsPrinted-append xs ys h k = list_all-append is_printed xs ys ∙ rw (h, k) refl

-- a number
IsPrinted-decimal : (n : ℕ) → Fits32 n → IsPrinted (decimal n)
IsPrinted-decimal n h = printed_join (decimal n ∷ []) (decimal_is_word n (omega (arith, h)), tt)

-- a decision
IsPrinted-decision_text : (d : Decision) → IsDecision d → IsPrinted (decision_text d)
IsPrinted-decision_text d h = printed_join (words_of_decision d) (act_words (Decide d) h)

-- fronts that fit 32 bits
abbrev pub HasSmallFront : Reply → Type 0
HasSmallFront (Late front) = Fits32 front
HasSmallFront reply = Unit {0}

-- a refusal
IsPrinted-refusal_text : (r : Reply) → HasSmallFront r → IsPrinted (refusal_text r)
IsPrinted-refusal_text Accepted h = IsPrinted-decimal 0 (omega arith)
IsPrinted-refusal_text Full h = IsPrinted-decimal 1 (omega arith)
IsPrinted-refusal_text Closed h = IsPrinted-decimal 2 (omega arith)
IsPrinted-refusal_text UnknownClone h = IsPrinted-decimal 3 (omega arith)
IsPrinted-refusal_text NameTaken h = IsPrinted-decimal 4 (omega arith)
IsPrinted-refusal_text TooManyClones h = IsPrinted-decimal 5 (omega arith)
IsPrinted-refusal_text UnknownStation h = IsPrinted-decimal 6 (omega arith)
IsPrinted-refusal_text WrongParameter h = IsPrinted-decimal 7 (omega arith)
IsPrinted-refusal_text OutOfRange h = IsPrinted-decimal 8 (omega arith)
IsPrinted-refusal_text ListFull h = IsPrinted-decimal 9 (omega arith)
IsPrinted-refusal_text PastHorizon h = IsPrinted-decimal 10 (omega arith)
IsPrinted-refusal_text (Late front) h =
    IsPrinted-append (decimal 11 ++ codes " front ") (decimal front)
    (IsPrinted-append (decimal 11) (codes " front ") (IsPrinted-decimal 11 (omega arith)) refl)
    (IsPrinted-decimal front h)
IsPrinted-refusal_text (Ended at) h = IsPrinted-decimal 12 (omega arith)

-- the line of a call
IsPrinted-call_line : (r : Reply) (d : Decision) → HasSmallFront r → IsDecision d → IsPrinted (call_line r d)
IsPrinted-call_line r d small h =
    ⊎_elim
    (λ (e : r ≡ Accepted). subst (λ x. IsPrinted (call_line x d)) (sym e) (IsPrinted-decision_text d h))
    (λ (e : IsRefused r). subst IsPrinted (sym (e.line d))
    (IsPrinted-append (codes "# refused " ++ refusal_text r ++ codes ": ") (decision_text d)
    (IsPrinted-append (codes "# refused " ++ refusal_text r) (codes ": ")
    (IsPrinted-append (codes "# refused ") (refusal_text r) refl (IsPrinted-refusal_text r small)) refl)
    (IsPrinted-decision_text d h)))
    (accepted_or_refused r)

-- an event whose lines are printed
abbrev pub IsWritable : List (List ℕ) → Event → Type 0
IsWritable analysts (NewFront front) = Fits32 front
IsWritable analysts (NewCall c) = IsName (analyst_name analysts c.caller)
    × IsDecision c.decision × HasSmallFront c.reply

-- each line of such events is printed
IsPrinted-event_lines : (analysts : List (List ℕ)) (es : List Event) → AllByRecursion (IsWritable analysts) es
    → AllByRecursion IsPrinted (flat_map (event_lines analysts) es)
IsPrinted-event_lines analysts [] h = tt
IsPrinted-event_lines analysts (NewFront front ∷ es) h = (
  IsPrinted-append (codes "# front ") (decimal front) refl (IsPrinted-decimal front h.0),
  IsPrinted-event_lines analysts es h.1,
)
IsPrinted-event_lines analysts (NewCall c ∷ es) h = (
  printed_join (words_of_section (analyst_name analysts c.caller))
      (section_words (analyst_name analysts c.caller) h.0.0),
  (IsPrinted-call_line c.reply c.decision h.0.2 h.0.1, IsPrinted-event_lines analysts es h.1),
)

-- ---- line_text
-- lines of these words, with a line feed each
flat_map-end_line : (ls : List (List (List ℕ)))
    → flat_map end_line (map (join_with_byte 32) ls) ≡ flat_map line_text ls
flat_map-end_line [] = refl
flat_map-end_line (l ∷ ls) = ap (λ rest. line_text l ++ rest) (flat_map-end_line ls)

-- ---- without_comments
-- the text of events without comments has exactly those lines
pub without_comments-events_text : (analysts : List (List ℕ)) (es : List Event)
    → AllByRecursion (IsWritable analysts) es
    → without_comments (events_text analysts es) ≡ flat_map line_text (said_lines analysts es)
without_comments-events_text analysts es h =
    ap without_comments (events_text-lines analysts es)
    ∙ ap (λ ls. join_with_byte 10 (filter is_said ls))
    (split-lines (flat_map (event_lines analysts) es) (IsPrinted-event_lines analysts es h))
    ∙ ap (join_with_byte 10) (filter-event_lines analysts es)
    ∙ join-lines (map (join_with_byte 32) (said_lines analysts es))
    ∙ flat_map-end_line (said_lines analysts es)
