use Rattle.std.proofs.Common.{◌+◌, ◌≤◌, length}
use Rattle.run_laws.specs.Beginnings.{from}
use Rattle.trace_writer.specs.Words.{entry_word}
use Rattle.trace_report.specs.declared.line.TheConstants.{MAX_LINE}
use Rattle.trace_writer.specs.Pages.{IsPage}
use Rattle.trace_writer.specs.Rests.{trace_at}
use Rattle.trace_writer.specs.declared.pages.TheConstants.{PAGE}
use Rattle.trace_writer.proofs.making.make_part.Given as goal

abbrev pub invariant-page : goal.invariant-page
invariant-page l = record {
  room : PAGE + MAX_LINE ≤ length l.page.items;
  made : IsPage l.model l.until l.bytes.items (from entry_word l.from (trace_at l.traces l.c))
      l.merge.left;
}

abbrev pub decreases-page : goal.decreases-page
decreases-page l = length l.merge.left
