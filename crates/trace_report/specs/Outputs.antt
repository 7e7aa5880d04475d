-- The texts that a run writes, from its network and its clones.
use Rattle.std.specs.Prelude.{ℕ, zero, suc, ◌+◌, List, [], ◌∷◌, ◌++◌, length}
use Rattle.std.specs.List.{flat_map}
use Rattle.sim_base.specs.Clones.{Clone}
use Rattle.sim_base.specs.declared.figures.Figures.{Figures}
use Rattle.net_model.specs.Net.{Net}
use Rattle.stations.specs.Runs.{trace_of, copies, handled_once, handled_alone}
use Rattle.trace_report.specs.TraceText.{trace_text}
use Rattle.trace_report.specs.ReportText.{report_text}

-- the trace text of a clone, simulated alone on one thread, to its end or otherwise to the horizon
abbrev pub clone_text : Net → Clone → List ℕ
clone_text net c = trace_text net c.name (trace_of net c)

-- the trace texts of all clones, in creation order
abbrev pub clone_texts : Net → List Clone → List ℕ
clone_texts net clones = flat_map (clone_text net) clones

-- what the clones shared at a station in the whole run: its copies, the messages handled once, and the messages that
-- the clones would handle alone
abbrev pub figures_of : Net → List Clone → ℕ → Figures
figures_of net clones s = record {
  copies = copies net clones s net.horizon;
  handled = handled_once net clones s net.horizon;
  alone = handled_alone net clones s net.horizon;
}

-- the same for the stations 1 to n
unfoldable pub figures_to : Net → List Clone → ℕ → List Figures
figures_to net clones zero = []
figures_to net clones (suc n) = figures_to net clones n ++ figures_of net clones (n + 1) ∷ []

-- the text of the report
unfoldable pub report : Net → List Clone → List ℕ
report net clones = report_text net (figures_to net clones (length net.sites))
