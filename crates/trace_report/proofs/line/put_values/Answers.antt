use Rattle.std.proofs.Common.{◌≡◌, ◌∙◌, sym, ap, arith, ◌++◌, append_assoc, codes, decimal, take}
use Rattle.sim_base.specs.Params.{param_values}
use Rattle.trace_report.proofs.Params.{values-one, values-two}
use Rattle.trace_report.proofs.line.put_values.Goals as goal

pub returns-then-values-eq1 : goal.returns-then-values-eq1
returns-then-values-eq1 c =
    let change = c.args.change.now in
    let one : param_values c.args.change.now.param ≡ 1 = omega arith in
    let first = c.put_number-at.ensures.written in
    record {
      written = record {
        text = first.text
            ∙ ap (λ t. take c.args.at c.args.bytes.now ++ t) (sym (values-one change.param change.a change.b one));
        size = first.size;
        end_max = omega (arith, first.end_max);
      };
    }

pub returns-else-values-eq1 : goal.returns-else-values-eq1
returns-else-values-eq1 c =
    let change = c.args.change.now in
    let other : param_values c.args.change.now.param ≡ 1 → ⊥ = (λ one. omega arith) in
    let first = c.put_number-at.ensures.written in
    let second = c.put_count.ensures.written in
    record {
      written = record {
        text = second.text ∙ ap (λ t. t ++ (codes " " ++ decimal change.b)) first.text
            ∙ append_assoc (take c.args.at c.args.bytes.now) (decimal change.a) (codes " " ++ decimal change.b)
            ∙ ap (λ t. take c.args.at c.args.bytes.now ++ t) (sym (values-two change.param change.a change.b other));
        size = second.size ∙ first.size;
        end_max = omega (arith, first.end_max, second.end_max);
      };
    }
