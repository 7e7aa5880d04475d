-- The text of a resumed run is the trace text of its clone.
use Rattle.std.proofs.Common.{◌≡◌, ℕ, List, [], ◌∷◌, ◌++◌, map, codes, refl, sym, ap, ◌∙◌, append_assoc}
use Rattle.std.specs.List.{flat_map}
use Rattle.std.proofs.lemmas.Grind.{flat_map-append}
use Rattle.sim_base.specs.declared.entry.Entry.{Entry}
use Rattle.sim_base.specs.declared.entry.Line.{Line}
use Rattle.sim_base.specs.declared.message.Msg.{Msg}
use Rattle.run_laws.specs.Runs.{run}
use Rattle.net_model.specs.Net.{Net}
use Rattle.net_model.specs.Rules.{IsNet}
use Rattle.stations.specs.Runs.{simulation, trace_of}
use Rattle.trace_report.specs.TraceText.{entry_line}
use Rattle.checkpoint.specs.Laws.{ResumedTextIsWhole}
use Rattle.checkpoint.specs.RunSnapshots.{snapshot_of, trace_line}
use Rattle.checkpoint.specs.Snapshots.{onward}
use Rattle.checkpoint.specs.TraceLines.{ended, lines_text}
use Rattle.checkpoint.proofs.RunSnapshots.{resumed_run_is_unbroken}
use Rattle.checkpoint.proofs.ShortTexts.{trace_line-body}

-- texts of elements, of which the first ones come as their lines
lines_text-map : {X : Type 0} (line text : X → List ℕ) → ((x : X) → ended (line x) ≡ text x) → (xs : List X) →
    lines_text (map line xs) ≡ flat_map text xs
lines_text-map line text each [] = refl
lines_text-map line text each (x ∷ xs) =
    ap (λ (t : List ℕ). t ++ lines_text (map line xs)) (each x)
    ∙ ap (λ (t : List ℕ). text x ++ t) (lines_text-map line text each xs)

lines_text-whole : {X : Type 0} (line text : X → List ℕ) → ((x : X) → ended (line x) ≡ text x) → (head : List ℕ) →
    (before after whole : List X) → whole ≡ before ++ after →
    head ++ lines_text (map line before) ++ flat_map text after ≡ head ++ flat_map text whole
lines_text-whole line text each head before after whole is =
    ap (λ (t : List ℕ). head ++ t ++ flat_map text after) (lines_text-map line text each before)
    ∙ (append_assoc head (flat_map text before) (flat_map text after)
    ∙ ap (λ (t : List ℕ). head ++ t) (sym (flat_map-append text before after) ∙ ap (flat_map text) (sym is)))

module _ (net : Net) (valid : IsNet net) where
  -- an entry's trace line with its line feed is the entry's line
  ended-trace_line : (e : Entry Msg Line) → ended (trace_line net e) ≡ entry_line net e
  ended-trace_line e = ap (λ (l : List ℕ). l ++ 10 ∷ []) (trace_line-body net valid e)

  -- the trace lines of entries are their lines
  pub lines_text-trace_lines : (es : List (Entry Msg Line)) →
      lines_text (map (trace_line net) es) ≡ flat_map (entry_line net) es
  lines_text-trace_lines es = lines_text-map (trace_line net) (entry_line net) ended-trace_line es

  pub resumed_text_is_whole : ResumedTextIsWhole net
  resumed_text_is_whole c front at = lines_text-whole (trace_line net) (entry_line net) ended-trace_line
      (codes "clone " ++ c.name ++ codes "\n") (run (simulation net) c.plans front).at.trace
      (onward net (snapshot_of net c front)) (trace_of net c) (resumed_run_is_unbroken net valid c front at)
