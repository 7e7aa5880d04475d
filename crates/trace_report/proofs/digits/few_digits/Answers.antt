use Rattle.std.proofs.Common.{sym, arith}
use Rattle.itoa.proofs.Decimal.{length_one, length_two}
use Rattle.trace_report.proofs.Tenths.{digits_by_power}
use Rattle.trace_report.proofs.digits.few_digits.Goals as goal

pub returns-then-n-lt10-clause-count : goal.returns-then-n-lt10-clause-count
returns-then-n-lt10-clause-count c = sym (length_one c.args.n (omega arith))

pub returns-then-n-lt100-clause-count : goal.returns-then-n-lt100-clause-count
returns-then-n-lt100-clause-count c = sym (length_two c.args.n (omega arith) (omega arith))

pub returns-then-n-lt1000-clause-count : goal.returns-then-n-lt1000-clause-count
returns-then-n-lt1000-clause-count c = sym (digits_by_power 2 c.args.n (omega arith) (omega arith) (omega arith))

pub returns-then-n-lt10000-clause-count : goal.returns-then-n-lt10000-clause-count
returns-then-n-lt10000-clause-count c = sym (digits_by_power 3 c.args.n (omega arith) (omega arith) (omega arith))

pub returns-else-n-lt10000-clause-count : goal.returns-else-n-lt10000-clause-count
returns-else-n-lt10000-clause-count c = sym (digits_by_power 4 c.args.n (omega arith) (omega arith) (omega arith))

pub returns-then-n-lt1000000-clause-count : goal.returns-then-n-lt1000000-clause-count
returns-then-n-lt1000000-clause-count c = sym (digits_by_power 5 c.args.n (omega arith) (omega arith) (omega arith))

pub returns-then-n-lt10000000-clause-count : goal.returns-then-n-lt10000000-clause-count
returns-then-n-lt10000000-clause-count c = sym (digits_by_power 6 c.args.n (omega arith) (omega arith) (omega arith))

pub returns-then-n-lt100000000-clause-count : goal.returns-then-n-lt100000000-clause-count
returns-then-n-lt100000000-clause-count c = sym (digits_by_power 7 c.args.n (omega arith) (omega arith) (omega arith))

pub returns-then-n-lt1000000000-clause-count : goal.returns-then-n-lt1000000000-clause-count
returns-then-n-lt1000000000-clause-count c = sym (digits_by_power 8 c.args.n (omega arith) (omega arith) (omega arith))

pub returns-else-n-lt1000000000-clause-count : goal.returns-else-n-lt1000000000-clause-count
returns-else-n-lt1000000000-clause-count c = sym (digits_by_power 9 c.args.n (omega arith) (omega arith) (omega arith))
