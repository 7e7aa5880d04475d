use Rattle.std.proofs.Common.{◌/◌, ◌^◌, ap, arith}
use Rattle.msg_heap.specs.Lines.{counts_by, line_of}
use Rattle.msg_heap.proofs.Lines.{source_at, passed_at, sink_at}
use Rattle.trace_report.proofs.packed_line.put_counts.Goals as goal

pub returns-then-kind-ge4 : goal.returns-then-kind-ge4
unfolding line_of
returns-then-kind-ge4 c =
    let w = c.args.word in
    record { written = rw (sink_at (w / 2 ^ 61) w (omega (arith, c.if-kind-ge4.true))) c.put_sink.ensures.written }

pub returns-then-kind-ge2 : goal.returns-then-kind-ge2
unfolding line_of
returns-then-kind-ge2 c =
    let w = c.args.word in
    let passed = passed_at (w / 2 ^ 61) w (omega (arith, c.if-kind-ge2.true)) (omega (arith, c.if-kind-ge4.false)) in
    record { written = rw passed c.put_passed.ensures.written }

pub returns-then-kind-eq1 : goal.returns-then-kind-eq1
unfolding line_of
returns-then-kind-eq1 c =
    let w = c.args.word in
    record { written = rw (ap (λ k. counts_by k w) c.if-kind-eq1.true) c.put_server.ensures.written }

pub returns-else-kind-eq1 : goal.returns-else-kind-eq1
unfolding line_of
returns-else-kind-eq1 c =
    let w = c.args.word in
    let source = source_at (w / 2 ^ 61) w (omega (arith, c.if-kind-ge2.false, c.if-kind-eq1.false)) in
    record { written = rw source c.put_source.ensures.written }
