use Rattle.sim_base.proofs.Digits.{value_more}
use Rattle.snapshot_lines.proofs.numbers.value_of.Goals as goal

pub loop-digit-preserved : goal.loop-digit-preserved
loop-digit-preserved c =
    let more = value_more c.args.digits.now c.loop-digit.digit-index c.loop-digit.value c.requires.all
    c.loop-digit-test.true c.loop-digit.invariant.same c.loop-digit.invariant.fits in
    record { same = more.0; fits = more.1 }
