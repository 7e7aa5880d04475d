use Rattle.std.proofs.Common.{◌≤◌, ◌∙◌, sym, subst, length}
use Rattle.trace_report.specs.declared.lengths.TheConstants.{MAX_WORD_LEN}
use Rattle.trace_report.proofs.Params.{param_word-short}
use Rattle.trace_report.proofs.line.word_of.Goals as goal

pub returns-clause-length_max : goal.returns-clause-length_max
returns-clause-length_max c = subst (λ l. length l ≤ MAX_WORD_LEN)
    (sym (c.as_bytes.ensures.value ∙ c.word.ensures.value))
    (param_word-short c.args.param)
