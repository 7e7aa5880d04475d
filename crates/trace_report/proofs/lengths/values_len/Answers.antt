use Rattle.std.proofs.Common.{◌≡◌, ap, arith, ◌++◌, codes, decimal, length, length-append}
use Rattle.sim_base.specs.Params.{param_values}
use Rattle.trace_report.specs.TraceText.{values_text}
use Rattle.trace_report.proofs.Params.{values-one, values-two}
use Rattle.trace_report.proofs.lengths.values_len.Goals as goal

pub returns-then-values-eq1-clause-value : goal.returns-then-values-eq1-clause-value
returns-then-values-eq1-clause-value c =
    let change = c.args.change.now in
    let one : param_values c.args.change.now.param ≡ 1 = omega arith in
    let text : length (values_text c.args.change.now) ≡ length (decimal c.args.change.now.a)
    = ap length (values-one change.param change.a change.b one) in
    omega (arith, text)

pub returns-else-values-eq1-clause-value : goal.returns-else-values-eq1-clause-value
returns-else-values-eq1-clause-value c =
    let change = c.args.change.now in
    let other : param_values c.args.change.now.param ≡ 1 → ⊥ = (λ one. omega arith) in
    let text : length (values_text c.args.change.now)
    ≡ length (decimal c.args.change.now.a ++ (codes " " ++ decimal c.args.change.now.b))
    = ap length (values-two change.param change.a change.b other) in
    omega (arith, text, length-append (decimal change.a) (codes " " ++ decimal change.b))
