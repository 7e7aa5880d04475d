use Rattle.std.proofs.Common.{rules, arith, refl}
use Rattle.sim_outer.proofs.Prefixes.{prefix_of-all, prefix_of-most}
use Rattle.sim_outer.proofs.real.read_prefix.Goals as goal

pub returns-in-Ok-eq0 : goal.returns-in-Ok-eq0
returns-in-Ok-eq0 g c =
    let (more, end) = c.in-Ok-eq0.ensures.bytes in
    record {
      value = prefix_of-all _ _ _ _ _ c.loop-buffer.invariant.taken more (rw c.in-Ok-eq0.field-0-test refl)
          (end c.in-Ok-eq0.field-0-test (search rules)) c.loop-buffer.invariant.most;
    }

pub returns : goal.returns
returns g c = record { value = prefix_of-most _ _ _ c.loop-buffer.invariant.taken (omega arith) }
