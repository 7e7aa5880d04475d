use Rattle.std.proofs.Common.{◌≡◌, ◌%◌, ◌+◌, ◌≤◌, List, length}
use Rattle.sim_base.specs.declared.message.TheConstants.{WORD_PLACES}
use Rattle.run_laws.specs.Beginnings.{Rise}
use Rattle.trace_writer.specs.Words.{entry_word}
use Rattle.trace_report.specs.declared.line.TheConstants.{MAX_LINE}
use Rattle.trace_writer.specs.Kept.{IsKept, IsPutTo, KeepsMemory}
use Rattle.trace_writer.specs.declared.pages.TheConstants.{PAGE}
use Rattle.trace_writer.proofs.Marks.{E}
use Rattle.trace_writer.proofs.line_puts.put_lines.Given as goal

abbrev pub invariant-page : goal.invariant-page
invariant-page g l = record {
  whole : l.kept_until % WORD_PLACES ≡ 0;
  page : PAGE + MAX_LINE ≤ length l.texts.page.items;
  put : IsPutTo l.model l.fn.texts.merge.left l.texts.merge.left (g.O.Sink.view l.fn.out) (g.O.Sink.view l.out);
  kept : (tr : List E) → Rise entry_word tr → IsKept l.model tr l.fn.kept_until l.fn.texts
      → IsKept l.model tr l.kept_until l.texts;
  memory : KeepsMemory l.fn.texts l.texts;
}

abbrev pub decreases-page : goal.decreases-page
decreases-page g l = length l.texts.merge.left
