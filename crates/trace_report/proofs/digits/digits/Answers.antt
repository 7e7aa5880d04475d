use Rattle.std.proofs.Common.{◌≡◌, ◌+◌, ◌/◌, length, decimal, arith}
use Rattle.trace_report.specs.declared.digits.TheConstants.{LEAST_LONG, SHORT_NUMBER}
use Rattle.trace_report.proofs.Tenths.{ten_more}
use Rattle.trace_report.proofs.digits.digits.Goals as goal

pub returns-else-n-lt-LEAST_LONG-clause-count : goal.returns-else-n-lt-LEAST_LONG-clause-count
returns-else-n-lt-LEAST_LONG-clause-count c =
    let n = c.args.n in
    let more : length (decimal n) ≡ SHORT_NUMBER + length (decimal (n / LEAST_LONG))
    = ten_more n (omega arith) (omega arith) in
    omega (arith, more, c.few_digits-else-n-lt-LEAST_LONG.ensures.count)
