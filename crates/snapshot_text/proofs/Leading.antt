-- The lines of a snapshot lead a reader to it.
use Rattle.std.proofs.Common.{◌≡◌, ℕ, suc, ◌+◌, ◌-◌, ◌<◌, ◌≤◌, ◌^◌, ◌==◌, Bool, true, false, nat_lt, List, [], ◌∷◌}
use Rattle.std.proofs.Common.{◌++◌}
use Rattle.std.proofs.Common.{length, refl, sym, ap, ◌∙◌, subst, arith, append_assoc, append-nil, Option, Some, None}
use Rattle.std.proofs.Common.{ltb-true}
use Rattle.std.specs.Prelude.{if◌then◌else◌, option_map, map}
use Rattle.std.specs.List.{list_all}
use Rattle.std.proofs.lemmas.Bool.{and_parts, le-leb, lt-ltb, ne_eqb}
use Rattle.std.proofs.lemmas.List.{length_push}
use Rattle.sim_base.specs.declared.message.Msg.{Msg}
use Rattle.decision_script.specs.declared.number.TheConstants.{MAX_NUMBER}
use Rattle.net_model.specs.Net.{Net}
use Rattle.stations.specs.declared.saved.Saved.{Saved}
use Rattle.snapshot_lines.specs.Forms.{line_of, line_says}
use Rattle.snapshot_lines.specs.Texts.{Leads}
use Rattle.snapshot_lines.specs.Grammar.{head_line, station_line, pending_line, message_line, trace_line}
use Rattle.snapshot_lines.specs.declared.read_lines.Head.{Head}
use Rattle.snapshot_lines.proofs.ExactLines.{line-head, line-message, line-pending, line-station, line-trace}
use Rattle.checkpoint.specs.Snapshots.{SnapshotView}
use Rattle.checkpoint.specs.TraceLines.{is_trace_line}
use Rattle.snapshot_text.specs.SnapshotTexts.{HaveForm, IsSayable, head_of, links_of, lines_of, station_lines}
use Rattle.snapshot_text.specs.Reading.{ReaderView, at_lines, at_messages, begun, ends, step}
use Rattle.snapshot_text.specs.Reading.{with_line, with_message, with_reader, with_station}
use Rattle.snapshot_text.specs.declared.place.Place.{Place}
use Rattle.snapshot_text.specs.declared.place.Place.TheVariants.{Stations, Messages, Lines}

-- a test that is not true
pub not_less : (m n : ℕ) → n ≤ m → nat_lt m n ≡ false
not_less m n le = by (nat_lt m n) refl
  where
    by : (b : Bool) → nat_lt m n ≡ b → b ≡ false
    by false is = refl
    by true is = let less = ltb-true m n is in absurd (omega (arith, less, le))

not_zero : (n : ℕ) → 0 < n → (n == 0) ≡ false
not_zero n some = ne_eqb n 0 (λ e. absurd (omega (arith, some, e)))

-- a reader at a place, with a snapshot so far
abbrev at : Place → SnapshotView → Option ReaderView
at place x = Some (record { place = place; snapshot = x })

module _ (net : Net) (small : length net.sites < 2 ^ 32) where
  -- ---- one line

  step-head : (l : List ℕ) (h : Head) → line_says head_line l ≡ Some h → step net None l ≡ Some (with_reader (begun h))
  step-head l h says = ap (option_map (λ (k : Head). with_reader (begun k))) says

  step-station : (x : SnapshotView) (l : List ℕ) (s : Saved) → nat_lt (length x.saved) (length net.sites) ≡ true
      → line_says (station_line (length x.saved + 1) (links_of net (length x.saved + 1))) l ≡ Some s
      → step net (at Stations x) l ≡ Some (with_reader (with_station x s))
  step-station x l s less says =
      ap (λ (b : Bool). option_map with_reader (if b
      then option_map (with_station x)
      (line_says (station_line (length x.saved + 1) (links_of net (length x.saved + 1))) l)
      else option_map (at_messages x) (line_says pending_line l))) less
      ∙ ap (λ (o : Option Saved). option_map with_reader (option_map (with_station x) o)) says

  step-pending : (x : SnapshotView) (l : List ℕ) (n : ℕ) → nat_lt (length x.saved) (length net.sites) ≡ false
      → line_says pending_line l ≡ Some n → step net (at Stations x) l ≡ Some (at (Messages n) x)
  step-pending x l n whole says =
      ap (λ (b : Bool). option_map with_reader (if b
      then option_map (with_station x)
      (line_says (station_line (length x.saved + 1) (links_of net (length x.saved + 1))) l)
      else option_map (at_messages x) (line_says pending_line l))) whole
      ∙ ap (λ (o : Option ℕ). option_map with_reader (option_map (at_messages x) o)) says

  step-message : (x : SnapshotView) (left : ℕ) (l : List ℕ) (m : Msg) → (left == 0) ≡ false
      → line_says message_line l ≡ Some m
      → step net (at (Messages left) x) l ≡ Some (with_reader (with_message x left m))
  step-message x left l m some says =
      ap (λ (b : Bool). option_map with_reader (if b then option_map (at_lines x) (line_says trace_line l)
      else option_map (with_message x left) (line_says message_line l))) some
      ∙ ap (λ (o : Option Msg). option_map with_reader (option_map (with_message x left) o)) says

  step-trace : (x : SnapshotView) (l : List ℕ) (n : ℕ) → line_says trace_line l ≡ Some n
      → step net (at (Messages 0) x) l ≡ Some (at (Lines n) x)
  step-trace x l n says = ap (λ (o : Option ℕ). option_map with_reader (option_map (at_lines x) o)) says

  step-line : (x : SnapshotView) (left : ℕ) (l : List ℕ) → (left == 0) ≡ false → is_trace_line l ≡ true
      → step net (at (Lines left) x) l ≡ Some (with_reader (with_line x left l))
  step-line x left l some is =
      ap (λ (b : Bool). option_map with_reader (if b then None
      else (if is_trace_line l then Some (with_line x left l) else None))) some
      ∙ ap (λ (b : Bool). option_map with_reader (if b then Some (with_line x left l) else None)) is

  -- ---- trace lines

  lines-lead : (ls : List (List ℕ)) (n : ℕ) (x : SnapshotView) (t : Option ReaderView) → n ≡ length ls
      → list_all is_trace_line ls ≡ true → at (Lines 0) (record x { lines = x.lines ++ ls }) ≡ t
      → Leads (step net) ends (at (Lines n) x) ls t
  lines-lead [] n x t count all e =
      ap (λ (m : ℕ). at (Lines m) x) count
      ∙ ap (λ (l : List (List ℕ)). at (Lines 0) (record x { lines = l })) (sym (append-nil x.lines)) ∙ e
  lines-lead (l ∷ ls) n x t count all e =
      let parts = and_parts (is_trace_line l) (list_all is_trace_line ls) all in
      let some = not_zero n (omega (arith, count)) in (
        with_reader (with_line x n l),
        step-line x n l some parts.0,
        lines-lead ls (n - 1) (record x { lines = x.lines ++ l ∷ [] }) t (omega (arith, count)) parts.1
            (ap (λ (k : List (List ℕ)). at (Lines 0) (record x { lines = k })) (append_assoc x.lines (l ∷ []) ls) ∙ e),
      )

  -- ---- messages

  messages-lead : (ms : List Msg) (n : ℕ) (x : SnapshotView) (rest : List (List ℕ)) (t : Option ReaderView)
      → n ≡ length ms → list_all message_line.has ms ≡ true
      → Leads (step net) ends (at (Messages 0) (record x { due = x.due ++ ms })) rest t
      → Leads (step net) ends (at (Messages n) x) (map (line_of message_line) ms ++ rest) t
  messages-lead [] n x rest t count all leads =
      subst (λ (m : ℕ). Leads (step net) ends (at (Messages m) x) rest t) (sym count)
      (subst (λ (d : List Msg). Leads (step net) ends (at (Messages 0) (record x { due = d })) rest t)
      (append-nil x.due)
      leads)
  messages-lead (m ∷ ms) n x rest t count all leads =
      let parts = and_parts (message_line.has m) (list_all message_line.has ms) all in
      let some = not_zero n (omega (arith, count)) in
      let says = line-message.joined.back m parts.0 in (
        with_reader (with_message x n m),
        step-message x n (line_of message_line m) m some says,
        messages-lead ms (n - 1) (record x { due = x.due ++ m ∷ [] }) rest t (omega (arith, count)) parts.1
            (subst (λ (d : List Msg). Leads (step net) ends (at (Messages 0) (record x { due = d })) rest t)
            (sym (append_assoc x.due (m ∷ []) ms)) leads),
      )

  -- ---- stations

  stations-lead : (xs : List Saved) (s : ℕ) (x : SnapshotView) (rest : List (List ℕ)) (t : Option ReaderView)
      → s ≡ length x.saved + 1 → length x.saved + length xs ≡ length net.sites → HaveForm net s xs
      → Leads (step net) ends (at Stations (record x { saved = x.saved ++ xs })) rest t
      → Leads (step net) ends (at Stations x) (station_lines net s xs ++ rest) t
  stations-lead [] s x rest t place count form leads =
      subst (λ (d : List Saved). Leads (step net) ends (at Stations (record x { saved = d })) rest t)
      (append-nil x.saved)
      leads
  stations-lead (y ∷ ys) s x rest t place count form leads =
      let within : length x.saved < length net.sites = omega (arith, count) in
      let less = lt-ltb (length x.saved) (length net.sites) within in
      let said = (line-station s (links_of net s) (omega (arith, small, within, place))).joined.back y form.0 in
      let l : List ℕ = line_of (station_line s (links_of net s)) y in
      let says = subst (λ (n : ℕ). line_says (station_line n (links_of net n)) l ≡ Some y) place said in
      let pushed = length_push x.saved y in (
        with_reader (with_station x y),
        step-station x l y less says,
        stations-lead ys (suc s) (record x { saved = x.saved ++ y ∷ [] }) rest t (omega (arith, pushed, place))
            (omega (arith, pushed, count)) form.1
            (subst (λ (d : List Saved). Leads (step net) ends (at Stations (record x { saved = d })) rest t)
            (sym (append_assoc x.saved (y ∷ []) ys)) leads),
      )

  -- ---- all lines

  -- the lines from each place on
  abbrev trace_lines : SnapshotView → List (List ℕ)
  trace_lines x = line_of trace_line (length x.lines) ∷ x.lines

  abbrev message_lines : SnapshotView → List (List ℕ)
  message_lines x = line_of pending_line (length x.due) ∷ (map (line_of message_line) x.due ++ trace_lines x)

  pub lines-lead_to : (x : SnapshotView) → IsSayable net x
      → Leads (step net) ends None (lines_of net x) (at (Lines 0) x)
  lines-lead_to x say =
      let begin : SnapshotView = record x { saved = []; due = []; lines = [] } in
      let stated : SnapshotView = record x { due = []; lines = [] } in
      let waiting : SnapshotView = record x { lines = [] } in
      let all = say.count in
      let trace_says = line-trace.joined.back (length x.lines) (le-leb (length x.lines) MAX_NUMBER say.line_count) in
      let pending_says = line-pending.joined.back (length x.due)
      (le-leb (length x.due) MAX_NUMBER say.message_count) in
      let from_trace : Leads (step net) ends (at (Messages 0) waiting) (trace_lines x) (at (Lines 0) x) = (
        at (Lines (length x.lines)) waiting,
        step-trace waiting (line_of trace_line (length x.lines)) (length x.lines) trace_says,
        lines-lead x.lines (length x.lines) waiting (at (Lines 0) x) refl say.lines refl,
      ) in
      let whole = not_less (length x.saved) (length net.sites) (omega (arith, all)) in
      let from_pending : Leads (step net) ends (at Stations stated) (message_lines x) (at (Lines 0) x) = (
        at (Messages (length x.due)) stated,
        step-pending stated (line_of pending_line (length x.due)) (length x.due) whole pending_says,
        messages-lead x.due (length x.due) stated (trace_lines x) (at (Lines 0) x) refl say.messages from_trace,
      ) in (
        with_reader (begun (head_of x)),
        step-head (line_of head_line (head_of x)) (head_of x) (line-head.joined.back (head_of x) say.head),
        stations-lead x.saved 1 begin (message_lines x) (at (Lines 0) x) (omega arith) (omega (arith, all)) say.stations
            from_pending,
      )
