-- What a text states: a snapshot, or the first rule that it breaks.
use Rattle.std.specs.Prelude.{ℕ, ◌+◌, ◌-◌, ◌==◌, nat_lt, Bool, false, if◌then◌else◌, List, [], ◌∷◌, ◌++◌, length}
use Rattle.std.specs.Prelude.{Option, Some, None, option_map, Result, Ok, Err}
use Rattle.sim_base.specs.declared.limits.TheConstants.{MAX_FILE_BYTES}
use Rattle.sim_base.specs.declared.message.Msg.{Msg}
use Rattle.net_model.specs.Net.{Net}
use Rattle.stations.specs.declared.saved.Saved.{Saved}
use Rattle.snapshot_lines.specs.Forms.{line_says}
use Rattle.snapshot_lines.specs.Texts.{read_text}
use Rattle.snapshot_lines.specs.Grammar.{head_line, station_line, pending_line, message_line, trace_line}
use Rattle.snapshot_lines.specs.declared.read_lines.Head.{Head}
use Rattle.checkpoint.specs.Accepted.{first_unfit, fits_front}
use Rattle.checkpoint.specs.Due.{first_bad}
use Rattle.checkpoint.specs.Snapshots.{SnapshotView}
use Rattle.checkpoint.specs.TraceLines.{is_trace_line}
use Rattle.snapshot_text.specs.SnapshotTexts.{links_of}
use Rattle.snapshot_text.specs.declared.fault.SnapshotFault.{SnapshotFault}
use Rattle.snapshot_text.specs.declared.fault.SnapshotFault.TheVariants.{TooLong, BadLine, Unfit, BadPending, BadFront}
use Rattle.snapshot_text.specs.declared.place.Place.{Place}
use Rattle.snapshot_text.specs.declared.place.Place.TheVariants.{Stations, Messages, Lines}

-- a reader after the first line or later: where it is, and the snapshot so far
pub record ReaderView : Type 0 where
  pub place : Place
  pub snapshot : SnapshotView

-- after the first line
abbrev pub begun : Head → ReaderView
begun h = record {
  place = Stations;
  snapshot = record { who = h.who; front = h.front; end = h.end; saved = []; due = []; lines = [] };
}

-- after the line of a station
abbrev pub with_station : SnapshotView → Saved → ReaderView
with_station x s = record { place = Stations; snapshot = record x { saved = x.saved ++ s ∷ [] } }

-- after the line with the number of pending messages
abbrev pub at_messages : SnapshotView → ℕ → ReaderView
at_messages x count = record { place = Messages count; snapshot = x }

-- after a message, if this number of them was left
abbrev pub with_message : SnapshotView → ℕ → Msg → ReaderView
with_message x left m = record { place = Messages (left - 1); snapshot = record x { due = x.due ++ m ∷ [] } }

-- after the line with the number of trace lines
abbrev pub at_lines : SnapshotView → ℕ → ReaderView
at_lines x count = record { place = Lines count; snapshot = x }

-- after a trace line, if this number of them was left
abbrev pub with_line : SnapshotView → ℕ → List ℕ → ReaderView
with_line x left l = record { place = Lines (left - 1); snapshot = record x { lines = x.lines ++ l ∷ [] } }

-- after a line, by what it must be at this place; None if it is not
abbrev pub after_line : Net → Place → SnapshotView → List ℕ → Option ReaderView
after_line net Stations x l =
    if nat_lt (length x.saved) (length net.sites)
    then option_map (with_station x)
    (line_says (station_line (length x.saved + 1) (links_of net (length x.saved + 1))) l)
    else option_map (at_messages x) (line_says pending_line l)
after_line net (Messages left) x l =
    if left == 0
    then option_map (at_lines x) (line_says trace_line l)
    else option_map (with_message x left) (line_says message_line l)
after_line net (Lines left) x l =
    if left == 0 then None
    else (if is_trace_line l then Some (with_line x left l) else None)

-- the machine that reads a text: before the first line it has no reader
abbrev pub with_reader : ReaderView → Option ReaderView
with_reader r = Some r

abbrev pub step : Net → Option ReaderView → List ℕ → Option (Option ReaderView)
step net None l = option_map (λ h. with_reader (begun h)) (line_says head_line l)
step net (Some r) l = option_map with_reader (after_line net r.place r.snapshot l)

-- whether a text may end at this place
abbrev pub may_end : Place → Bool
may_end (Lines left) = left == 0
may_end _ = false

abbrev pub ends : Option ReaderView → Bool
ends None = false
ends (Some r) = may_end r.place

-- a snapshot that was read, if the run may go on from it
abbrev pub if_good_messages : SnapshotView → Option ℕ → Result SnapshotView SnapshotFault
if_good_messages x None = Ok x
if_good_messages x (Some index) = Err (BadPending index)

abbrev pub if_fit : Net → SnapshotView → Option ℕ → Result SnapshotView SnapshotFault
if_fit net x None = if_good_messages x (first_bad net x.front x.saved [] None x.due)
if_fit net x (Some station) = Err (Unfit station)

abbrev pub if_accepted : Net → SnapshotView → Result SnapshotView SnapshotFault
if_accepted net x = if fits_front net x.front x.end then if_fit net x (first_unfit net 1 x.saved) else Err BadFront

-- the snapshot that the lines stated, or the number of the first bad line
abbrev pub of_lines : Net → Result (Option ReaderView) ℕ → Result SnapshotView SnapshotFault
of_lines net (Err line) = Err (BadLine line)
of_lines net (Ok None) = Err (BadLine 1)
of_lines net (Ok (Some r)) = if_accepted net r.snapshot

-- the snapshot that a text states, or the first rule that it breaks
abbrev pub snapshot : Net → List ℕ → Result SnapshotView SnapshotFault
snapshot net text = if nat_lt MAX_FILE_BYTES (length text) then Err TooLong
    else of_lines net (read_text (step net) ends None text)
