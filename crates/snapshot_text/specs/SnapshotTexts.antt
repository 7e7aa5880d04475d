-- The text of a snapshot, line by line.
use Rattle.std.specs.Prelude.{◌≡◌, ℕ, suc, ◌≤◌, true, List, [], ◌∷◌, ◌++◌, length, map}
use Rattle.std.specs.List.{flat_map, list_all}
use Rattle.decision_script.specs.declared.number.TheConstants.{MAX_NUMBER}
use Rattle.net_model.specs.Net.{Net, site_of}
use Rattle.stations.specs.declared.saved.Saved.{Saved}
use Rattle.snapshot_lines.specs.Forms.{line_of}
use Rattle.snapshot_lines.specs.Texts.{ended}
use Rattle.snapshot_lines.specs.Grammar.{head_line, station_line, pending_line, message_line, trace_line}
use Rattle.snapshot_lines.specs.declared.read_lines.Head.{Head}
use Rattle.checkpoint.specs.Snapshots.{SnapshotView}
use Rattle.checkpoint.specs.TraceLines.{is_trace_line}

-- what the first line says
abbrev pub head_of : SnapshotView → Head
head_of x = record { who = x.who; front = x.front; end = x.end }

-- the number of links of a station
abbrev pub links_of : Net → ℕ → ℕ
links_of net s = length (site_of net s).links

-- the lines of the stations from s on
abbrev pub station_lines : Net → ℕ → List Saved → List (List ℕ)
station_lines net s [] = []
station_lines net s (x ∷ xs) = line_of (station_line s (links_of net s)) x ∷ station_lines net (suc s) xs

-- the lines of a snapshot
abbrev pub lines_of : Net → SnapshotView → List (List ℕ)
lines_of net x = line_of head_line (head_of x) ∷ (station_lines net 1 x.saved
    ++ (line_of pending_line (length x.due) ∷ (map (line_of message_line) x.due
    ++ (line_of trace_line (length x.lines) ∷ x.lines))))

-- its text: each line with its line feed
abbrev pub text_of : Net → SnapshotView → List ℕ
text_of net x = flat_map ended (lines_of net x)

-- the data of each station from s on has the form of its line
abbrev pub HaveForm : Net → ℕ → List Saved → Type 0
HaveForm net s [] = Unit {0}
HaveForm net s (x ∷ xs) = ((station_line s (links_of net s)).has x ≡ true) × HaveForm net (suc s) xs

-- a snapshot that lines can say
pub record IsSayable (net : Net) (x : SnapshotView) : Type 0 where
  pub head : head_line.has (head_of x) ≡ true
  pub count : length x.saved ≡ length net.sites
  pub stations : HaveForm net 1 x.saved
  pub message_count : length x.due ≤ MAX_NUMBER
  pub messages : list_all message_line.has x.due ≡ true
  pub line_count : length x.lines ≤ MAX_NUMBER
  pub lines : list_all is_trace_line x.lines ≡ true
