use Rattle.phys_proc.proofs.CopyBounds.{bounds_of_all}
use Rattle.phys_proc.proofs.copies.Copies.lower_bound.Goals as goal

pub returns : goal.returns
returns c = record {
  lower = bounds_of_all c.least_of.result c.bounds.result.now c.args.self.now c.bounds.ensures.each
      c.least_of.ensures.least;
}
