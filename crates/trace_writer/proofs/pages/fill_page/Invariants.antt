use Rattle.std.proofs.Common.{◌≡◌, ◌≤◌, length, take}
use Rattle.trace_writer.specs.Pages.{IsPage}
use Rattle.trace_writer.proofs.pages.fill_page.Given as goal

abbrev pub invariant-loop-used : goal.invariant-loop-used
invariant-loop-used g l = record {
  lines : IsPage l.model l.limit (take l.used l.page) l.fn.cursor.left l.cursor.left;
  within : l.used ≤ length l.page;
  size : length l.page ≡ length l.fn.page;
  most : l.cursor.most ≡ l.fn.cursor.most;
}

abbrev pub decreases-loop-used : goal.decreases-loop-used
decreases-loop-used g l = length l.cursor.left
