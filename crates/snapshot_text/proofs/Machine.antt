-- The lines that a reader has read, and the lines that lead it to a snapshot.
use Rattle.std.proofs.Common.{◌≡◌, ℕ, suc, ◌+◌, ◌-◌, ◌<◌, ◌≤◌, ◌^◌, ◌==◌, Bool, true, false, nat_lt, List, [], ◌∷◌}
use Rattle.std.proofs.Common.{zero, ◌++◌}
use Rattle.std.proofs.Common.{length, refl, sym, ap, ◌∙◌, subst, arith, append_assoc, append-nil, Option, Some, None}
use Rattle.std.proofs.Common.{eqb-true, ltb-true}
use Rattle.std.specs.Prelude.{if◌then◌else◌, option_map, map}
use Rattle.std.specs.List.{list_all}
use Rattle.std.proofs.lemmas.Bool.{and_from, leb-true, ltb-false}
use Rattle.std.proofs.lemmas.List.Folds.{list_all-append}
use Rattle.std.proofs.lemmas.List.{length_push}
use Rattle.std.proofs.lemmas.Option.{same_Some}
use Rattle.decision_script.specs.declared.number.TheConstants.{MAX_NUMBER}
use Rattle.net_model.specs.Net.{Net}
use Rattle.stations.specs.declared.saved.Saved.{Saved}
use Rattle.snapshot_lines.specs.Forms.{line_of, line_says}
use Rattle.snapshot_lines.specs.Texts.{Leads}
use Rattle.snapshot_lines.specs.Grammar.{head_line, station_line, pending_line, message_line, trace_line}
use Rattle.snapshot_lines.specs.declared.read_lines.Head.{Head}
use Rattle.snapshot_lines.proofs.ExactLines.{line-head, line-message, line-pending, line-station, line-trace}
use Rattle.checkpoint.specs.Snapshots.{SnapshotView}
use Rattle.checkpoint.specs.TraceLines.{is_trace_line}
use Rattle.snapshot_text.specs.SnapshotTexts.{HaveForm, IsSayable, head_of, links_of, lines_of, station_lines}
use Rattle.snapshot_text.specs.Reading.{ReaderView, after_line, begun, ends, may_end, step}
use Rattle.snapshot_text.specs.Reading.{at_lines, at_messages, with_line, with_message, with_reader, with_station}
use Rattle.snapshot_text.specs.declared.place.Place.{Place}
use Rattle.snapshot_text.specs.declared.place.Place.TheVariants.{Stations, Messages, Lines}

-- ---- map and list_all

map-push : {X Y : Type 0} (f : X → Y) (xs : List X) (x : X) → map f (xs ++ x ∷ []) ≡ map f xs ++ f x ∷ []
map-push f [] x = refl
map-push f (y ∷ ys) x = ap (λ t. f y ∷ t) (map-push f ys x)

list_all-push : {X : Type 0} (p : X → Bool) (xs : List X) (x : X) → list_all p xs ≡ true → p x ≡ true
    → list_all p (xs ++ x ∷ []) ≡ true
list_all-push p xs x all one =
    list_all-append p xs (x ∷ []) ∙ and_from (list_all p xs) (list_all p (x ∷ [])) all (and_from (p x) true one refl)

-- ---- what a map of an option gives

option_map-Some : {X Y : Type 0} (f : X → Y) (o : Option X) (y : Y) → option_map f o ≡ Some y
    → (x : X) × (o ≡ Some x) × (f x ≡ y)
option_map-Some f None y e = absurd (cc)
option_map-Some f (Some x) y e = (x, refl, same_Some (f x) y e)

if-Some : {Y : Type 0} (b : Bool) (z y : Y) → ◌≡◌ {A = Option Y} (if b then Some z else None) (Some y)
    → (b ≡ true) × (z ≡ y)
if-Some true z y e = (refl, same_Some z y e)
if-Some false z y e = absurd (cc)

positive : (n : ℕ) → (n == 0) ≡ false → 0 < n
positive zero e = absurd (cc)
positive (suc n) e = omega arith

module _ (net : Net) where
  -- ---- the lines so far

  abbrev pub stations_so_far : SnapshotView → List (List ℕ)
  stations_so_far x = line_of head_line (head_of x) ∷ station_lines net 1 x.saved

  -- of which the messages are the last, of this number
  abbrev pub messages_so_far : SnapshotView → ℕ → List (List ℕ)
  messages_so_far x count = line_of pending_line count ∷ map (line_of message_line) x.due

  abbrev pub so_far : Place → SnapshotView → List (List ℕ)
  so_far Stations x = stations_so_far x
  so_far (Messages left) x = stations_so_far x ++ messages_so_far x (length x.due + left)
  so_far (Lines left) x = stations_so_far x ++ (messages_so_far x (length x.due)
      ++ (line_of trace_line (length x.lines + left) ∷ x.lines))

  -- what is known at a place
  abbrev pub AtPlace : Place → SnapshotView → Type 0
  AtPlace Stations x = (length x.saved ≤ length net.sites) × ((x.due ≡ []) × (x.lines ≡ []))
  AtPlace (Messages left) x =
      (length x.saved ≡ length net.sites) × ((length x.due + left ≤ MAX_NUMBER) × (x.lines ≡ []))
  AtPlace (Lines left) x =
      (length x.saved ≡ length net.sites)
      × ((length x.due ≤ MAX_NUMBER) × (length x.lines + left ≤ MAX_NUMBER))

  pub record HasRead (place : Place) (x : SnapshotView) (lines : List (List ℕ)) : Type 0 where
    pub lines_are : lines ≡ so_far place x
    pub head : head_line.has (head_of x) ≡ true
    pub stations : HaveForm net 1 x.saved
    pub messages : list_all message_line.has x.due ≡ true
    pub trace : list_all is_trace_line x.lines ≡ true
    pub at_place : AtPlace place x

  -- one station more
  station_lines-push : (s : ℕ) (xs : List Saved) (x : Saved) →
      station_lines net s (xs ++ x ∷ []) ≡ station_lines net s xs
      ++ line_of (station_line (s + length xs) (links_of net (s + length xs))) x ∷ []
  station_lines-push s [] x =
      let same : s ≡ s + 0 = omega arith in
      ap (λ (n : ℕ). line_of (station_line n (links_of net n)) x ∷ []) same
  station_lines-push s (y ∷ ys) x =
      let same : suc s + length ys ≡ s + length (y ∷ ys) = omega arith in
      ap (λ (t : List (List ℕ)). line_of (station_line s (links_of net s)) y ∷ t)
      (station_lines-push (suc s) ys x
      ∙ ap (λ (n : ℕ). station_lines net (suc s) ys ++ line_of (station_line n (links_of net n)) x ∷ []) same)

  HaveForm-push : (s : ℕ) (xs : List Saved) (x : Saved) → HaveForm net s xs
      → (station_line (s + length xs) (links_of net (s + length xs))).has x ≡ true → HaveForm net s (xs ++ x ∷ [])
  HaveForm-push s [] x all one =
      let same : s + 0 ≡ s = omega arith in
      (subst (λ (n : ℕ). (station_line n (links_of net n)).has x ≡ true) same one, tt)
  HaveForm-push s (y ∷ ys) x all one =
      let same : s + length (y ∷ ys) ≡ suc s + length ys = omega arith in (
        all.0,
        HaveForm-push (suc s) ys x all.1
            (subst (λ (n : ℕ). (station_line n (links_of net n)).has x ≡ true) same one),
      )

  module _ (small : length net.sites < 2 ^ 32) where
    -- ---- one line more

    station-more : (x : SnapshotView) (lines : List (List ℕ)) (l : List ℕ) (r : ReaderView) → HasRead Stations x lines
        → length x.saved < length net.sites
        → option_map (with_station x)
        (line_says (station_line (length x.saved + 1) (links_of net (length x.saved + 1))) l) ≡ Some r
        → HasRead r.place r.snapshot (lines ++ l ∷ [])
    station-more x lines l r h less e =
        let s : ℕ = length x.saved + 1 in
        let said = option_map-Some (with_station x) (line_says (station_line s (links_of net s)) l) r e in
        let read = (line-station s (links_of net s) (omega (arith, small, less))).joined.exact l said.0 said.1 in
        let place : 1 + length x.saved ≡ length x.saved + 1 = omega arith in
        let form = subst (λ (n : ℕ). (station_line n (links_of net n)).has said.0 ≡ true) (sym place) read.0 in
        let pushed = station_lines-push 1 x.saved said.0
        ∙ ap (λ (n : ℕ). station_lines net 1 x.saved ++ line_of (station_line n (links_of net n)) said.0 ∷ []) place in
        let count = length_push x.saved said.0 in
        let next : HasRead Stations (record x { saved = x.saved ++ said.0 ∷ [] }) (lines ++ l ∷ []) = record {
          lines_are = ap (λ t. t ++ l ∷ []) h.lines_are
              ∙ ap (λ (w : List ℕ). stations_so_far x ++ w ∷ []) read.1
              ∙ ap (λ t. line_of head_line (head_of x) ∷ t) (sym pushed);
          head = h.head;
          stations = HaveForm-push 1 x.saved said.0 h.stations form;
          messages = h.messages;
          trace = h.trace;
          at_place = (omega (arith, count, less), h.at_place.1);
        } in
        subst (λ (v : ReaderView). HasRead v.place v.snapshot (lines ++ l ∷ [])) said.2 next

    pending-more : (x : SnapshotView) (lines : List (List ℕ)) (l : List ℕ) (r : ReaderView) → HasRead Stations x lines
        → length net.sites ≤ length x.saved
        → option_map (at_messages x) (line_says pending_line l) ≡ Some r
        → HasRead r.place r.snapshot (lines ++ l ∷ [])
    pending-more x lines l r h all e =
        let said = option_map-Some (at_messages x) (line_says pending_line l) r e in
        let read = line-pending.joined.exact l said.0 said.1 in
        let most = leb-true said.0 MAX_NUMBER read.0 in
        let none = h.at_place.1.0 in
        let within = h.at_place.0 in
        let empty : length x.due ≡ 0 = ap length none in
        let count : said.0 ≡ length x.due + said.0 = omega (arith, empty) in
        let next : HasRead (Messages said.0) x (lines ++ l ∷ []) = record {
          lines_are = ap (λ t. t ++ l ∷ []) h.lines_are
              ∙ ap (λ (w : List ℕ). stations_so_far x ++ w ∷ []) read.1
              ∙ ap (λ (n : ℕ). stations_so_far x ++ line_of pending_line n ∷ []) count
              ∙ ap (λ (t : List (List ℕ)). stations_so_far x ++ (line_of pending_line (length x.due + said.0) ∷ t))
              (ap (map (line_of message_line)) (sym none));
          head = h.head;
          stations = h.stations;
          messages = h.messages;
          trace = h.trace;
          at_place = (omega (arith, all, within), (omega (arith, empty, most), h.at_place.1.1));
        } in
        subst (λ (v : ReaderView). HasRead v.place v.snapshot (lines ++ l ∷ [])) said.2 next

    trace-more : (x : SnapshotView) (left : ℕ) (lines : List (List ℕ)) (l : List ℕ) (r : ReaderView)
        → HasRead (Messages left) x lines → left ≡ 0
        → option_map (at_lines x) (line_says trace_line l) ≡ Some r
        → HasRead r.place r.snapshot (lines ++ l ∷ [])
    trace-more x left lines l r h none_left e =
        let said = option_map-Some (at_lines x) (line_says trace_line l) r e in
        let read = line-trace.joined.exact l said.0 said.1 in
        let most = leb-true said.0 MAX_NUMBER read.0 in
        let none = h.at_place.1.1 in
        let bound = h.at_place.1.0 in
        let empty : length x.lines ≡ 0 = ap length none in
        let count : said.0 ≡ length x.lines + said.0 = omega (arith, empty) in
        let all : length x.due + left ≡ length x.due = omega (arith, none_left) in
        let next : HasRead (Lines said.0) x (lines ++ l ∷ []) = record {
          lines_are = ap (λ t. t ++ l ∷ []) h.lines_are
              ∙ ap (λ (n : ℕ). (stations_so_far x ++ messages_so_far x n) ++ l ∷ []) all
              ∙ ap (λ (w : List ℕ). (stations_so_far x ++ messages_so_far x (length x.due)) ++ w ∷ []) read.1
              ∙ append_assoc (stations_so_far x) (messages_so_far x (length x.due)) (line_of trace_line said.0 ∷ [])
              ∙ ap (λ (n : ℕ). stations_so_far x
              ++ (messages_so_far x (length x.due) ++ line_of trace_line n ∷ [])) count
              ∙ ap (λ (t : List (List ℕ)). stations_so_far x ++ (messages_so_far x (length x.due)
              ++ (line_of trace_line (length x.lines + said.0) ∷ t))) (sym none);
          head = h.head;
          stations = h.stations;
          messages = h.messages;
          trace = h.trace;
          at_place = (h.at_place.0, (omega (arith, bound), omega (arith, empty, most)));
        } in
        subst (λ (v : ReaderView). HasRead v.place v.snapshot (lines ++ l ∷ [])) said.2 next

    message-more : (x : SnapshotView) (left : ℕ) (lines : List (List ℕ)) (l : List ℕ) (r : ReaderView)
        → HasRead (Messages left) x lines → 0 < left
        → option_map (with_message x left)
        (line_says message_line l) ≡ Some r
        → HasRead r.place r.snapshot (lines ++ l ∷ [])
    message-more x left lines l r h some e =
        let said = option_map-Some (with_message x left) (line_says message_line l) r e in
        let read = line-message.joined.exact l said.0 said.1 in
        let pushed = length_push x.due said.0 in
        let bound = h.at_place.1.0 in
        let count : length x.due + left ≡ length (x.due ++ said.0 ∷ []) + (left - 1) = omega (arith, pushed, some) in
        let next : HasRead (Messages (left - 1)) (record x { due = x.due ++ said.0 ∷ [] }) (lines ++ l ∷ []) = record {
          lines_are = ap (λ t. t ++ l ∷ []) h.lines_are
              ∙ append_assoc (stations_so_far x) (messages_so_far x (length x.due + left)) (l ∷ [])
              ∙ ap (λ (w : List ℕ). stations_so_far x ++ (messages_so_far x (length x.due + left) ++ w ∷ [])) read.1
              ∙ ap (λ (t : List (List ℕ)). stations_so_far x ++ (line_of pending_line (length x.due + left) ∷ t))
              (sym (map-push (line_of message_line) x.due said.0))
              ∙ ap (λ (n : ℕ). stations_so_far x
              ++ (line_of pending_line n ∷ map (line_of message_line) (x.due ++ said.0 ∷ []))) count;
          head = h.head;
          stations = h.stations;
          messages = list_all-push message_line.has x.due said.0 h.messages read.0;
          trace = h.trace;
          at_place = (h.at_place.0, (omega (arith, count, bound), h.at_place.1.1));
        } in
        subst (λ (v : ReaderView). HasRead v.place v.snapshot (lines ++ l ∷ [])) said.2 next

    line-more : (x : SnapshotView) (left : ℕ) (lines : List (List ℕ)) (l : List ℕ) (r : ReaderView)
        → HasRead (Lines left) x lines → 0 < left
        → ◌≡◌ {A = Option ReaderView} (if is_trace_line l then Some (with_line x left l) else None) (Some r)
        → HasRead r.place r.snapshot (lines ++ l ∷ [])
    line-more x left lines l r h some e =
        let said = if-Some (is_trace_line l) (with_line x left l) r e in
        let pushed = length_push x.lines l in
        let bound = h.at_place.1.1 in
        let count : length x.lines + left ≡ length (x.lines ++ l ∷ []) + (left - 1) = omega (arith, pushed, some) in
        let messages : List (List ℕ) = messages_so_far x (length x.due) in
        let next : HasRead (Lines (left - 1)) (record x { lines = x.lines ++ l ∷ [] }) (lines ++ l ∷ []) = record {
          lines_are = ap (λ t. t ++ l ∷ []) h.lines_are
              ∙ append_assoc (stations_so_far x)
              (messages ++ (line_of trace_line (length x.lines + left) ∷ x.lines)) (l ∷ [])
              ∙ ap (λ (t : List (List ℕ)). stations_so_far x ++ t)
              (append_assoc messages (line_of trace_line (length x.lines + left) ∷ x.lines) (l ∷ []))
              ∙ ap (λ (n : ℕ). stations_so_far x ++ (messages ++ (line_of trace_line n ∷ (x.lines ++ l ∷ [])))) count;
          head = h.head;
          stations = h.stations;
          messages = h.messages;
          trace = list_all-push is_trace_line x.lines l h.trace said.0;
          at_place = (h.at_place.0, (h.at_place.1.0, omega (arith, count, bound)));
        } in
        subst (λ (v : ReaderView). HasRead v.place v.snapshot (lines ++ l ∷ [])) said.1 next

    one-more : (place : Place) (x : SnapshotView) (lines : List (List ℕ)) (l : List ℕ) (r : ReaderView)
        → HasRead place x lines → after_line net place x l ≡ Some r → HasRead r.place r.snapshot (lines ++ l ∷ [])
    one-more Stations x lines l r h e = by (nat_lt (length x.saved) (length net.sites)) refl e
      where
        by : (b : Bool) → nat_lt (length x.saved) (length net.sites) ≡ b
            → (if b
            then option_map (with_station x)
            (line_says (station_line (length x.saved + 1) (links_of net (length x.saved + 1))) l)
            else option_map (at_messages x) (line_says pending_line l)) ≡ Some r
            → HasRead r.place r.snapshot (lines ++ l ∷ [])
        by true is k = station-more x lines l r h (ltb-true (length x.saved) (length net.sites) is) k
        by false is k = pending-more x lines l r h (ltb-false (length x.saved) (length net.sites) is) k
    one-more (Messages left) x lines l r h e = by (left == 0) refl e
      where
        by : (b : Bool) → (left == 0) ≡ b
            → (if b
            then option_map (at_lines x) (line_says trace_line l)
            else option_map (with_message x left)
            (line_says message_line l)) ≡ Some r
            → HasRead r.place r.snapshot (lines ++ l ∷ [])
        by true is k = trace-more x left lines l r h (eqb-true left 0 is) k
        by false is k = message-more x left lines l r h (positive left is) k
    one-more (Lines left) x lines l r h e = by (left == 0) refl e
      where
        by : (b : Bool) → (left == 0) ≡ b
            → ◌≡◌ {A = Option ReaderView}
            (if b then None else (if is_trace_line l then Some (with_line x left l) else None)) (Some r)
            → HasRead r.place r.snapshot (lines ++ l ∷ [])
        by true is k = absurd (cc)
        by false is k = line-more x left lines l r h (positive left is) k

    -- ---- all lines

    -- a reader that has read these lines
    pub record HasReadTo (t : Option ReaderView) (lines : List (List ℕ)) : Type 0 where
      pub reader : ReaderView
      pub is : t ≡ Some reader
      pub has_read : HasRead reader.place reader.snapshot lines

    all-more : (lines before : List (List ℕ)) (r : ReaderView) (t : Option ReaderView)
        → HasRead r.place r.snapshot before → Leads (step net) ends (Some r) lines t → HasReadTo t (before ++ lines)
    all-more [] before r t h leads = record {
      reader = r;
      is = sym leads;
      has_read = subst (λ (ls : List (List ℕ)). HasRead r.place r.snapshot ls) (sym (append-nil before)) h;
    }
    all-more (l ∷ ls) before r t h leads =
        let next = option_map-Some with_reader (after_line net r.place r.snapshot l) leads.0 leads.1 in
        let more = one-more r.place r.snapshot before l next.0 h next.1 in
        let rest : Leads (step net) ends (Some next.0) ls t =
        subst (λ (u : Option ReaderView). Leads (step net) ends u ls t) (sym next.2) leads.2 in
        subst (λ (all : List (List ℕ)). HasReadTo t all) (append_assoc before (l ∷ []) ls)
        (all-more ls (before ++ l ∷ []) next.0 t more rest)

    -- the lines that lead to a reader are those that it has read
    pub leads-has_read : (lines : List (List ℕ)) (r : ReaderView) → Leads (step net) ends None lines (Some r)
        → HasRead r.place r.snapshot lines
    leads-has_read [] r leads = absurd (cc)
    leads-has_read (l ∷ ls) r leads =
        let said = option_map-Some (λ (h : Head). with_reader (begun h)) (line_says head_line l) leads.0 leads.1 in
        let read = line-head.joined.exact l said.0 said.1 in
        let first : HasRead Stations (begun said.0).snapshot (l ∷ []) = record {
          lines_are = ap (λ (w : List ℕ). w ∷ []) read.1;
          head = read.0;
          stations = tt;
          messages = refl;
          trace = refl;
          at_place = (omega arith, (refl, refl));
        } in
        let rest : Leads (step net) ends (Some (begun said.0)) ls (Some r) =
        subst (λ (u : Option ReaderView). Leads (step net) ends u ls (Some r)) (sym said.2) leads.2 in
        let all = all-more ls (l ∷ []) (begun said.0) (Some r) first rest in
        let same : r ≡ all.reader = same_Some r all.reader all.is in
        subst (λ (v : ReaderView). HasRead v.place v.snapshot (l ∷ ls)) (sym same) all.has_read

    -- at the end they are all lines of its snapshot
    pub ended-lines : (lines : List (List ℕ)) (r : ReaderView) → Leads (step net) ends None lines (Some r)
        → may_end r.place ≡ true → (lines ≡ lines_of net r.snapshot) × IsSayable net r.snapshot
    ended-lines lines r leads end = by r.place r.snapshot (leads-has_read lines r leads) end
      where
        by : (place : Place) (x : SnapshotView) → HasRead place x lines → may_end place ≡ true
            → (lines ≡ lines_of net x) × IsSayable net x
        by Stations x h e = absurd (cc)
        by (Messages left) x h e = absurd (cc)
        by (Lines left) x h e =
            let none = eqb-true left 0 e in
            let count : length x.lines + left ≡ length x.lines = omega (arith, none) in
            let bound = h.at_place.1.1 in (
              h.lines_are ∙ ap (λ (n : ℕ). stations_so_far x ++ (messages_so_far x (length x.due)
                  ++ (line_of trace_line n ∷ x.lines))) count,
              record {
                head = h.head;
                count = h.at_place.0;
                stations = h.stations;
                message_count = h.at_place.1.0;
                messages = h.messages;
                line_count = omega (arith, bound);
                lines = h.trace;
              },
            )
