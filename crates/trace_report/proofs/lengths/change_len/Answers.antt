use Rattle.std.proofs.Common.{◌≡◌, ap, arith, ◌++◌, codes, length, length-append}
use Rattle.sim_base.specs.Params.{param_word}
use Rattle.trace_report.specs.TraceText.{values_text, change_text}
use Rattle.trace_report.proofs.Params.{change_in_parts}
use Rattle.trace_report.proofs.lengths.change_len.Goals as goal

pub returns-clause-value : goal.returns-clause-value
returns-clause-value c =
    let change = c.args.change.now in
    let text : length (change_text c.args.change.now)
    ≡ length (param_word c.args.change.now.param ++ (codes " " ++ values_text c.args.change.now))
    = ap length (change_in_parts change.param change.a change.b) in
    let word = ap length c.word_of.ensures.value in
    omega (arith, text, word, length-append (param_word change.param) (codes " " ++ values_text change))
