use Rattle.std.proofs.Common.{◌≤◌, take}
use Rattle.std.specs.List.{flat_map}
use Rattle.sim_outer.specs.Bytes.{IsAppended}
use Rattle.sim_outer.specs.Counts.{AreCounted}
use Rattle.trace_report.specs.Outputs.{clone_text}
use Rattle.trace_writer.specs.Kept.{CanPut, HasBeginning}
use Rattle.trace_writer.proofs.putting.put_all.Given as goal

abbrev pub invariant-loop-c : goal.invariant-loop-c
invariant-loop-c g l = record {
  puts_for : g.P.RestPutter.puts_for l.putter l.traces;
  can : CanPut l.traces.net l.texts;
  before : HasBeginning l.traces.net l.traces.clones l.c l.texts;
  appended : IsAppended (g.O.Sink.view l.fn.out).bytes
      (flat_map (clone_text l.traces.net) (take l.c l.traces.clones))
      (g.O.Sink.view l.out).bytes;
  later : (g.O.Sink.view l.fn.out).faults ≤ (g.O.Sink.view l.out).faults;
  counted : AreCounted l.c (g.O.Sink.view l.fn.out).calls (g.O.Sink.view l.out).calls;
}
