-- A snapshot's text is read back, and only its text is read as it.
use Rattle.std.proofs.Common.{◌≡◌, ℕ, ◌<◌, ◌≤◌, ◌^◌, Bool, true, false, nat_lt, nat_le, List, [], ◌∷◌, length}
use Rattle.std.proofs.Common.{refl, ap, ◌∙◌, subst, arith, Option, Some, None, Result, Ok, Err, suc, ◌+◌, ◌++◌}
use Rattle.std.specs.Prelude.{◌&&◌, if◌then◌else◌, map}
use Rattle.std.specs.List.{AllByRecursion, flat_map, list_all}
use Rattle.std.proofs.lemmas.Bool.{and_parts, le-leb, lt-ltb, ltb-false}
use Rattle.std.proofs.lemmas.Bool.Decides.{nat_tests}
use Rattle.sim_base.specs.declared.limits.TheConstants.{MAX_FILE_BYTES}
use Rattle.sim_base.specs.declared.message.Msg.{Msg}
use Rattle.sim_base.proofs.ListLaws.{list_all-weaker}
use Rattle.decision_script.specs.declared.number.TheConstants.{MAX_NUMBER}
use Rattle.net_model.specs.Net.{Net}
use Rattle.net_model.specs.Rules.{IsNet}
use Rattle.stations.specs.declared.saved.Saved.{Saved}
use Rattle.snapshot_lines.specs.Forms.{Form, WritesOnly, line_of}
use Rattle.snapshot_lines.specs.Texts.{IsOneLine, ended, is_newline, read_text}
use Rattle.snapshot_lines.proofs.ExactTexts.{lines-are_read, text-of_lines}
use Rattle.snapshot_lines.proofs.Written.{joined_words-only}
use Rattle.snapshot_lines.specs.Grammar.{head_line, station_line, pending_line, message_line, trace_line}
use Rattle.snapshot_lines.proofs.ExactLines.{is_visible, line-head, line-message, line-pending, line-station}
use Rattle.snapshot_lines.proofs.ExactLines.{line-trace}
use Rattle.checkpoint.specs.Accepted.{IsAccepted, first_unfit, fits_front}
use Rattle.checkpoint.specs.Due.{first_bad}
use Rattle.checkpoint.specs.Snapshots.{SnapshotView}
use Rattle.checkpoint.specs.declared.trace_lines.TheConstants.{MAX_TRACE_LINE}
use Rattle.checkpoint.specs.TraceLines.{is_one_line, is_printed, is_trace_line}
use Rattle.checkpoint.proofs.SoloSnapshots.{trace_line-one_line}
use Rattle.snapshot_text.specs.SnapshotTexts.{HaveForm, IsSayable, head_of, links_of, lines_of, station_lines, text_of}
use Rattle.snapshot_text.specs.Reading.{ReaderView, ends, if_accepted, if_fit, if_good_messages, of_lines, snapshot}
use Rattle.snapshot_text.specs.Reading.{step}
use Rattle.snapshot_text.specs.Laws.{IsTextOf}
use Rattle.snapshot_text.specs.declared.fault.SnapshotFault.{SnapshotFault}
use Rattle.snapshot_text.specs.declared.fault.SnapshotFault.TheVariants.{TooLong, BadFront}
use Rattle.snapshot_text.specs.declared.place.Place.TheVariants.{Lines}
use Rattle.snapshot_text.proofs.AcceptedForms.{accepted-sayable}
use Rattle.snapshot_text.proofs.Machine.{ended-lines}
use Rattle.snapshot_text.proofs.Sayable.{good_accepted, sayable_accepted}
use Rattle.snapshot_text.proofs.Leading.{lines-lead_to, not_less}

-- ---- lines without line feeds

-- a byte of a line: a space or more
abbrev is_in_line : ℕ → Bool
is_in_line b = nat_le 32 b

visible_in_line : (b : ℕ) → is_visible b ≡ true → is_in_line b ≡ true
visible_in_line b h = grind (arith, nat_tests)

printed_in_line : (b : ℕ) → is_printed b ≡ true → is_in_line b ≡ true
printed_in_line b h = grind (arith, nat_tests)

in_line_no_newline : (b : ℕ) → is_in_line b ≡ true → is_newline b ≡ false
in_line_no_newline b h = grind (arith, nat_tests)

one_line : (l : List ℕ) → list_all is_in_line l ≡ true → IsOneLine l
one_line [] all = tt
one_line (b ∷ bs) all =
    let parts = and_parts (is_in_line b) (list_all is_in_line bs) all in
    (in_line_no_newline b parts.0, one_line bs parts.1)

-- the line of a form
line_of-one_line : {A : Type 0} (f : Form A) → WritesOnly is_visible f → (a : A) → f.has a ≡ true
    → IsOneLine (line_of f a)
line_of-one_line f only a e = one_line (line_of f a) (joined_words-only is_in_line 32 f refl
    (λ b h. list_all-weaker (list_all is_visible) (list_all is_in_line)
    (λ w k. list_all-weaker is_visible is_in_line visible_in_line w k) (f.write b) (only b h)) a e)

trace-one_line : (l : List ℕ) → is_trace_line l ≡ true → IsOneLine l
trace-one_line l e = one_line l (list_all-weaker is_printed is_in_line printed_in_line l
    (and_parts (nat_le 1 (length l) && nat_le (length l) MAX_TRACE_LINE) (list_all is_printed l) e).1)

-- the same as a test
pub trace_line_is_one : (l : List ℕ) → is_trace_line l ≡ true → is_one_line l ≡ true
trace_line_is_one l e = trace_line-one_line l e

all-one_line : (ls : List (List ℕ)) → list_all is_trace_line ls ≡ true → AllByRecursion IsOneLine ls
all-one_line [] all = tt
all-one_line (l ∷ ls) all =
    let parts = and_parts (is_trace_line l) (list_all is_trace_line ls) all in
    (trace-one_line l parts.0, all-one_line ls parts.1)

messages-one_line : (ms : List Msg) (rest : List (List ℕ)) → list_all message_line.has ms ≡ true
    → AllByRecursion IsOneLine rest → AllByRecursion IsOneLine (map (line_of message_line) ms ++ rest)
messages-one_line [] rest all others = others
messages-one_line (m ∷ ms) rest all others =
    let parts = and_parts (message_line.has m) (list_all message_line.has ms) all in
    (line_of-one_line message_line line-message.visible m parts.0, messages-one_line ms rest parts.1 others)

module _ (net : Net) where
  stations-one_line : (s : ℕ) (xs : List Saved) (rest : List (List ℕ)) → s + length xs < 2 ^ 64 → HaveForm net s xs
      → AllByRecursion IsOneLine rest → AllByRecursion IsOneLine (station_lines net s xs ++ rest)
  stations-one_line s [] rest small form others = others
  stations-one_line s (x ∷ xs) rest small form others = (
    line_of-one_line (station_line s (links_of net s))
        (line-station s (links_of net s) (omega (arith, small))).visible x form.0,
    stations-one_line (suc s) xs rest (omega (arith, small)) form.1 others,
  )

  lines-one_line : (x : SnapshotView) → length net.sites < 2 ^ 32 → IsSayable net x
      → AllByRecursion IsOneLine (lines_of net x)
  lines-one_line x small say =
      let count = say.count in
      let trace = line_of-one_line trace_line line-trace.visible (length x.lines)
      (le-leb (length x.lines) MAX_NUMBER say.line_count) in
      let pending = line_of-one_line pending_line line-pending.visible (length x.due)
      (le-leb (length x.due) MAX_NUMBER say.message_count) in
      let traces : List (List ℕ) = line_of trace_line (length x.lines) ∷ x.lines in
      let messages : List (List ℕ) =
      line_of pending_line (length x.due) ∷ (map (line_of message_line) x.due ++ traces) in (
        line_of-one_line head_line line-head.visible (head_of x) say.head,
        stations-one_line 1 x.saved messages (omega (arith, small, count)) say.stations
            (pending, messages-one_line x.due traces say.messages (trace, all-one_line x.lines say.lines)),
      )

  -- ---- read back

  pub read_back : IsNet net → (x : SnapshotView) → IsAccepted net x → length (text_of net x) ≤ MAX_FILE_BYTES
      → snapshot net (text_of net x) ≡ Ok x
  read_back valid x ok at_most =
      let few = valid.at_most in
      let small : length net.sites < 2 ^ 32 = omega (arith, few) in
      let say = accepted-sayable net valid x ok at_most in
      let leads = lines-lead_to net small x say in
      let read = lines-are_read (step net) ends (lines_of net x) None (Some (record { place = Lines 0; snapshot = x }))
      (lines-one_line x small say) leads refl in
      let short : nat_lt MAX_FILE_BYTES (length (text_of net x)) ≡ false =
      not_less MAX_FILE_BYTES (length (text_of net x)) at_most in
      ap (λ (b : Bool). let r : Result SnapshotView SnapshotFault =
      if b then Err TooLong else of_lines net (read_text (step net) ends None (text_of net x)) in r) short
      ∙ (ap (of_lines net) read ∙ good_accepted net x ok.front ok.fit ok.due)

  -- ---- only its text

  -- what is accepted is what was read, and a run may go on from it
  accepted-same : (y x : SnapshotView) → IsSayable net y → if_accepted net y ≡ Ok x → (y ≡ x) × IsAccepted net y
  accepted-same y x say e = by (fits_front net y.front y.end) refl e
    where
      good : (o : Option ℕ) → fits_front net y.front y.end ≡ true → first_unfit net 1 y.saved ≡ None
          → first_bad net y.front y.saved [] None y.due ≡ o → if_good_messages y o ≡ Ok x → (y ≡ x) × IsAccepted net y
      good None front fit due h = (cc, sayable_accepted net y say front fit due)
      good (Some index) front fit due h = absurd (cc)

      fit : (o : Option ℕ) → fits_front net y.front y.end ≡ true → first_unfit net 1 y.saved ≡ o → if_fit net y o ≡ Ok x
          → (y ≡ x) × IsAccepted net y
      fit None front is h = good (first_bad net y.front y.saved [] None y.due) front is refl h
      fit (Some station) front is h = absurd (cc)

      by : (b : Bool) → fits_front net y.front y.end ≡ b
          → ◌≡◌ {A = Result SnapshotView SnapshotFault}
          (if b then if_fit net y (first_unfit net 1 y.saved) else Err BadFront) (Ok x) → (y ≡ x) × IsAccepted net y
      by true is h = fit (first_unfit net 1 y.saved) is refl h
      by false is h = absurd (cc)

  of_lines-Ok : (r : Result (Option ReaderView) ℕ) (x : SnapshotView) → of_lines net r ≡ Ok x
      → (v : ReaderView) × (r ≡ Ok (Some v)) × (if_accepted net v.snapshot ≡ Ok x)
  of_lines-Ok (Err line) x e = absurd (cc)
  of_lines-Ok (Ok None) x e = absurd (cc)
  of_lines-Ok (Ok (Some v)) x e = (v, refl, e)

  -- what a reader has read at the end of a text
  pub read-sayable : IsNet net → (text : List ℕ) (v : ReaderView) → read_text (step net) ends None text ≡ Ok (Some v)
      → (text ≡ text_of net v.snapshot) × IsSayable net v.snapshot
  read-sayable valid text v e =
      let few = valid.at_most in
      let small : length net.sites < 2 ^ 32 = omega (arith, few) in
      let whole = text-of_lines (step net) ends None text (Some v) e in
      let lines = ended-lines net small whole.lines v whole.leads whole.ends_there in
      (whole.text_is ∙ ap (flat_map ended) lines.0, lines.1)

  read-only : IsNet net → (x : SnapshotView) (text : List ℕ) → length text ≤ MAX_FILE_BYTES
      → of_lines net (read_text (step net) ends None text) ≡ Ok x → IsTextOf net x text
  read-only valid x text at_most e =
      let r = of_lines-Ok (read_text (step net) ends None text) x e in
      let v : ReaderView = r.0 in
      let read = read-sayable valid text v r.1 in
      let same = accepted-same v.snapshot x read.1 r.2 in
      record {
        text_is = read.0 ∙ ap (text_of net) same.0;
        accepted = subst (λ (y : SnapshotView). IsAccepted net y) same.0 same.1;
        at_most = at_most;
      }

  pub only_texts : IsNet net → (x : SnapshotView) (text : List ℕ) → snapshot net text ≡ Ok x → IsTextOf net x text
  only_texts valid x text e = by (nat_lt MAX_FILE_BYTES (length text)) refl e
    where
      by : (b : Bool) → nat_lt MAX_FILE_BYTES (length text) ≡ b
          → ◌≡◌ {A = Result SnapshotView SnapshotFault}
          (if b then Err TooLong else of_lines net (read_text (step net) ends None text)) (Ok x) → IsTextOf net x text
      by true is h = absurd (cc)
      by false is h = read-only valid x text (ltb-false MAX_FILE_BYTES (length text) is) h

  -- ---- what a reader returns

  pub too_long : (text : List ℕ) → MAX_FILE_BYTES < length text → snapshot net text ≡ Err TooLong
  too_long text long = rw (lt-ltb MAX_FILE_BYTES (length text) long) refl

  pub of_text : (text : List ℕ) (r : Result SnapshotView SnapshotFault) → length text ≤ MAX_FILE_BYTES
      → of_lines net (read_text (step net) ends None text) ≡ r → snapshot net text ≡ r
  of_text text r at_most e =
      ap (λ (b : Bool). let s : Result SnapshotView SnapshotFault =
      if b then Err TooLong else of_lines net (read_text (step net) ends None text) in s)
      (not_less MAX_FILE_BYTES (length text) at_most) ∙ e

  -- the reader at the end of a text, and what its snapshot comes to
  pub of_reader : (text : List ℕ) (v : ReaderView) (r : Result SnapshotView SnapshotFault)
      → length text ≤ MAX_FILE_BYTES → read_text (step net) ends None text ≡ Ok (Some v)
      → if_accepted net v.snapshot ≡ r → snapshot net text ≡ r
  of_reader text v r at_most read e = of_text text r at_most (ap (of_lines net) read ∙ e)
