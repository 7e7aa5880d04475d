use Rattle.std.proofs.Common.{arith}
use Rattle.live_study.proofs.study.reserve_for.Goals as goal

pub returns : goal.returns
returns c = record {
  value = record {
    no_passes = c.in_ok-with_capacity.ensures.items;
    no_looks = c.in_ok-with_capacity-2.ensures.items;
    for_passes = omega (arith, c.in_ok-with_capacity.ensures.exact, c.analysts-many.ensures.value);
    for_looks = omega (arith, c.in_ok-with_capacity-2.ensures.exact, c.analysts-many.ensures.value);
  };
}
