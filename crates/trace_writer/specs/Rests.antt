-- The rest of a clone's text: its lines from a word on.
use Rattle.std.specs.Prelude.{◌≡◌, ℕ, ◌%◌, ◌<◌, ◌≤◌, List, length, Result, OnOk, OnErr}
use Rattle.sim_base.specs.Clones.{clone_at}
use Rattle.sim_base.specs.declared.entry.Entry.{Entry}
use Rattle.sim_base.specs.declared.entry.Line.{Line}
use Rattle.sim_base.specs.declared.message.Msg.{Msg}
use Rattle.sim_base.specs.declared.message.TheConstants.{WORD_PLACES}
use Rattle.sim_outer.specs.Views.{SinkView}
use Rattle.stations.specs.Runs.{trace_of}
use Rattle.run_laws.specs.Beginnings.{from}
use Rattle.trace_writer.specs.Words.{entry_word}
use Rattle.trace_writer.specs.Kept.{AreMarksOf, CanPut, lines_before, lines_text}
use Rattle.trace_writer.specs.Puts.{IsCutOff, IsPartPut}
use Rattle.trace_writer.specs.WorldTraces.{WorldTracesView}
use Rattle.trace_writer.specs.declared.text_rest.TextRest.{TextRest}
use Rattle.trace_writer.specs.declared.texts.Texts.{Texts}

-- the trace of a clone
abbrev pub trace_at : WorldTracesView → ℕ → List (Entry Msg Line)
trace_at traces c = trace_of traces.net (clone_at traces.clones c)

-- the lines of a rest
abbrev pub rest_lines : WorldTracesView → TextRest → List ℕ
rest_lines traces rest = lines_text traces.net (from entry_word rest.from (trace_at traces rest.c))

-- the rest may be put: while lines are kept, the text has those before it
pub record MayPut (traces : WorldTracesView) (rest : TextRest) (texts : Texts) : Type 0 where
  pub in_range : rest.c < length traces.clones
  pub whole : rest.kept_until % WORD_PLACES ≡ 0
  pub can : CanPut traces.net texts
  pub text_is : 1 ≤ rest.kept_until → texts.text.items ≡ lines_before traces.net rest.from (trace_at traces rest.c)
  pub marks : AreMarksOf traces.net (trace_at traces rest.c) texts.text.items texts.marks.items

-- the result of putting a rest: it is put, or cut off, and the marks are right
pub record PutsRest {E : Type 0} (traces : WorldTracesView) (rest : TextRest) (texts : Texts) (old new : SinkView)
    (result : Result (Unit {0}) E) : Type 0 where
  pub ok : OnOk result (IsPartPut (rest_lines traces rest) old new)
  pub err : OnErr result (IsCutOff (rest_lines traces rest) old new)
  pub marks : OnOk result (AreMarksOf traces.net (trace_at traces rest.c) texts.text.items texts.marks.items)
  pub can : CanPut traces.net texts
