use Rattle.std.proofs.Common.{◌∙◌, arith}
use Rattle.trace_writer.proofs.PageLines.{reached_word}
use Rattle.trace_writer.proofs.merge.LogMerge.word_reached.Goals as goal

pub returns : goal.returns
returns c = record {
  value = c.min.ensures ∙ reached_word c.args.limit c.least.result c.args.self.now.left c.least.ensures.next
      c.requires.whole (omega arith);
}
