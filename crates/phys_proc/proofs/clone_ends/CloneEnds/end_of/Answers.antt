use Rattle.std.proofs.Common.{ap, arith}
use Rattle.phys_proc.specs.Ends.{ends_in}
use Rattle.phys_proc.proofs.Ends.{ends_in-bound}
use Rattle.phys_proc.proofs.clone_ends.CloneEnds.end_of.Goals as goal

pub loop-i-init : goal.loop-i-init
loop-i-init c = record {
  so_far = let s = ends_in-bound c.args.horizon c.self.inside.ended.items c.args.clone in let e =
      ap (λ l. ends_in c.args.horizon l c.args.clone) c.self.view_is in omega (arith, s, e);
  horizon_max = omega arith;
}
