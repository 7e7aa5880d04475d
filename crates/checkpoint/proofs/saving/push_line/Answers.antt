use Rattle.std.proofs.Common.{◌≡◌, ℕ, List, sym, subst, true}
use Rattle.checkpoint.specs.RunSnapshots.{trace_line}
use Rattle.checkpoint.specs.TraceLines.{is_one_line}
use Rattle.checkpoint.proofs.SoloSnapshots.{page-trace_line, trace_line-one_line}
use Rattle.checkpoint.proofs.saving.push_line.Goals as goal

pub push-requires : goal.push-requires
push-requires c = record {
  one_line = subst (λ (l : List ℕ). is_one_line l ≡ true)
      (sym (page-trace_line c.args.model.now c.args.entry.now c.write_line-end.result c.args.page.now
      c.write_line-end.new.bytes c.write_line-end.ensures.written))
      (trace_line-one_line (trace_line c.args.model.now c.args.entry.now) c.requires.line);
}
