use Rattle.std.proofs.Common.{◌∙◌, sym, ap, arith, ◌++◌, append_assoc, codes, take}
use Rattle.sim_base.specs.Params.{param_word}
use Rattle.trace_report.specs.TraceText.{values_text}
use Rattle.trace_report.proofs.Params.{change_in_parts}
use Rattle.trace_report.proofs.line.put_change.Goals as goal

pub returns : goal.returns
returns c =
    let change = c.args.change.now in
    let before = take c.args.at c.args.bytes.now in
    let word = c.put-at.ensures.written in
    let space = c.put-at-2.ensures.written in
    let values = c.put_values.ensures.written in
    record {
      written = record {
        text = values.text
            ∙ ap (λ t. t ++ values_text change)
            (space.text ∙ ap (λ t. t ++ codes " ") (word.text ∙ ap (λ w. before ++ w) c.word_of.ensures.value))
            ∙ append_assoc (before ++ param_word change.param) (codes " ") (values_text change)
            ∙ append_assoc before (param_word change.param) (codes " " ++ values_text change)
            ∙ ap (λ t. before ++ t) (sym (change_in_parts change.param change.a change.b));
        size = values.size ∙ space.size ∙ word.size;
        end_max = omega (arith, values.end_max, space.place, word.place, c.word_of.ensures.length_max);
      };
    }
