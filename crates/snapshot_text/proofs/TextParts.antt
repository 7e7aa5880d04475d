-- The text of a snapshot, part by part.
use Rattle.std.proofs.Common.{◌≡◌, ℕ, suc, ◌+◌, ◌<◌, ◌≤◌, List, ◌∷◌, ◌++◌, length, get_or, drop, ap}
use Rattle.std.proofs.Common.{◌∙◌, arith}
use Rattle.std.specs.Prelude.{map}
use Rattle.std.specs.List.{flat_map}
use Rattle.std.proofs.lemmas.Grind.{flat_map-append}
use Rattle.std.proofs.lemmas.List.{drop_more, length-append}
use Rattle.net_model.specs.Net.{Net}
use Rattle.stations.specs.declared.saved.Saved.{Saved}
use Rattle.snapshot_lines.specs.Forms.{line_of}
use Rattle.snapshot_lines.specs.Texts.{ended}
use Rattle.snapshot_lines.specs.Grammar.{head_line, message_line, pending_line, station_line, trace_line}
use Rattle.checkpoint.specs.Snapshots.{SnapshotView}
use Rattle.checkpoint.specs.TraceLines.{lines_text}
use Rattle.snapshot_text.specs.SnapshotTexts.{head_of, links_of, station_lines, text_of}

module _ (net : Net) where
  abbrev pub after_stations : SnapshotView → List ℕ
  after_stations x = ended (line_of pending_line (length x.due))
      ++ (flat_map ended (map (line_of message_line) x.due)
      ++ (ended (line_of trace_line (length x.lines)) ++ lines_text x.lines))

  pub text_parts : (x : SnapshotView) → text_of net x
      ≡ ended (line_of head_line (head_of x)) ++ (flat_map ended (station_lines net 1 x.saved) ++ after_stations x)
  text_parts x =
      let traces : List (List ℕ) = line_of trace_line (length x.lines) ∷ x.lines in
      let messages : List (List ℕ) = map (line_of message_line) x.due in
      let pending : List (List ℕ) = line_of pending_line (length x.due) ∷ (messages ++ traces) in
      ap (λ (t : List ℕ). ended (line_of head_line (head_of x)) ++ t)
      (flat_map-append ended (station_lines net 1 x.saved) pending
      ∙ ap (λ (t : List ℕ). flat_map ended (station_lines net 1 x.saved)
      ++ (ended (line_of pending_line (length x.due)) ++ t)) (flat_map-append ended messages traces))

  -- the trace lines are part of the text
  pub lines_of_text : (x : SnapshotView) → length (lines_text x.lines) ≤ length (text_of net x)
  lines_of_text x =
      let head : List ℕ = ended (line_of head_line (head_of x)) in
      let stations : List ℕ = flat_map ended (station_lines net 1 x.saved) in
      let pending : List ℕ = ended (line_of pending_line (length x.due)) in
      let messages : List ℕ = flat_map ended (map (line_of message_line) x.due) in
      let traces : List ℕ = ended (line_of trace_line (length x.lines)) in
      let whole = ap length (text_parts x) in
      let a = length-append head (stations ++ (pending ++ (messages ++ (traces ++ lines_text x.lines)))) in
      let b = length-append stations (pending ++ (messages ++ (traces ++ lines_text x.lines))) in
      let c = length-append pending (messages ++ (traces ++ lines_text x.lines)) in
      let d = length-append messages (traces ++ lines_text x.lines) in
      let e = length-append traces (lines_text x.lines) in
      omega (arith, whole, a, b, c, d, e)

  -- the line of one station more
  module _ (xs : List Saved) (i : ℕ) (d : Saved) (less : i < length xs) where
    pub station_next : flat_map ended (station_lines net (1 + i) (drop i xs))
        ≡ ended (line_of (station_line (i + 1) 0) (get_or xs i d))
        ++ flat_map ended (station_lines net (1 + (i + 1)) (drop (i + 1) xs))
    station_next =
        let same : 1 + i ≡ i + 1 = omega arith in
        let next : suc (1 + i) ≡ 1 + (i + 1) = omega arith in
        ap (λ (l : List Saved). flat_map ended (station_lines net (1 + i) l)) (drop_more xs i d less)
        ∙ ap (λ (s : ℕ). ended (line_of (station_line s (links_of net s)) (get_or xs i d))
        ++ flat_map ended (station_lines net (suc (1 + i)) (drop (i + 1) xs))) same
        ∙ ap (λ (s : ℕ). ended (line_of (station_line (i + 1) (links_of net (i + 1))) (get_or xs i d))
        ++ flat_map ended (station_lines net s (drop (i + 1) xs))) next
