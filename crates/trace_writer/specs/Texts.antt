-- The texts of clones, and when two clones part.
use Rattle.std.specs.Prelude.{◌≡◌, ℕ, zero, suc, ◌-◌, ◌≤◌, List, [], ◌++◌, length, codes}
use Rattle.std.specs.Prelude.{map, Result, OnOk, OnErr}
use Rattle.std.specs.List.{flat_map}
use Rattle.sim_base.specs.Clones.{Clone, clone_at}
use Rattle.sim_base.specs.Decisions.{same_plan}
use Rattle.sim_base.specs.declared.entry.Entry.{Entry}
use Rattle.sim_base.specs.declared.entry.Line.{Line}
use Rattle.sim_base.specs.declared.message.Msg.{Msg}
use Rattle.net_model.specs.Net.{Net}
use Rattle.run_laws.specs.SharedTexts.{parting_of}
use Rattle.stations.specs.Runs.{simulation, trace_of}
use Rattle.trace_report.specs.TraceText.{entry_line}
use Rattle.trace_report.specs.Outputs.{clone_text, clone_texts}
use Rattle.sim_outer.specs.Bytes.{IsAppended}
use Rattle.sim_outer.specs.Counts.{AreCounted}
use Rattle.sim_outer.specs.Views.{SinkView}
use Rattle.trace_writer.specs.Puts.{AreCut}
use Rattle.trace_writer.specs.Kept.{CanPut}
use Rattle.trace_writer.specs.WorldTraces.{WorldTracesView}
use Rattle.trace_writer.specs.declared.texts.Texts.{Texts}

-- the text of a clone of this name: its name line, these bytes, and the lines of these entries
abbrev pub text_after : Net → List ℕ → List ℕ → List (Entry Msg Line) → List ℕ
text_after net name before entries =
    codes "clone " ++ name ++ codes "\n" ++ (before ++ flat_map (entry_line net) entries)

-- the lines of a clone
unfoldable pub body : Net → Clone → List ℕ
body net c = flat_map (entry_line net) (trace_of net c)

-- the time before which a clone and the previous one have the same trace
abbrev pub parting_with_last : Net → List Clone → ℕ → ℕ
parting_with_last net cs c = parting_of (simulation net) same_plan (clone_at cs (c - 1)) (clone_at cs c)

-- the time from which a clone's lines are its own: 0 if there is no clone before it
abbrev pub parting_at : Net → List Clone → ℕ → ℕ
parting_at net cs zero = 0
parting_at net cs (suc c) = parting_with_last net cs (suc c)

-- all memory for the texts of these clones is allocated
pub record AreTextsReady (net : Net) (cs : List Clone) (texts : Texts) : Type 0 where
  pub can : CanPut net texts
  pub empty : texts.marks.items ≡ []

-- the result of putting all texts: each text was put in one call, or a prefix of one in the last call, after all texts
-- before it
pub record PutsAll {E : Type 0} (traces : WorldTracesView) (old new : SinkView) (result : Result (Unit {0}) E) :
    Type 0 where
  pub ok : OnOk result (IsAppended old.bytes (clone_texts traces.net traces.clones) new.bytes)
  pub each : OnOk result (AreCounted (length traces.clones) old.calls new.calls)
  pub cut : OnErr result (AreCut (map (clone_text traces.net) traces.clones) old new)
  pub later : old.faults ≤ new.faults
