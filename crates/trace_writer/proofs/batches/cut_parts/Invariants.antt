use Rattle.std.proofs.Common.{◌-◌, ◌<◌, ◌≤◌, length}
use Rattle.trace_writer.specs.Parts.{AreJoined}
use Rattle.trace_writer.proofs.batches.cut_parts.Given as goal

abbrev pub invariant-cut : goal.invariant-cut
invariant-cut l = record {
  joined : AreJoined l.rest.c l.rest.from l.parts.items l.from;
  within : l.from ≤ l.end;
  at_most : length l.parts.items ≤ l.most;
  later : l.rest.from ≤ l.from;
  further : 1 ≤ length l.parts.items → l.rest.from < l.from;
}

abbrev pub decreases-cut : goal.decreases-cut
decreases-cut l = l.end - l.from
