use Rattle.std.proofs.Common.{◌≡◌, ◌+◌, drop}
use Rattle.checkpoint.specs.Accepted.{first_unfit}
use Rattle.snapshot_text.proofs.accepting.first_unfit.Given as goal

abbrev pub invariant-loop-s : goal.invariant-loop-s
invariant-loop-s l = first_unfit l.model 1 l.saved ≡ first_unfit l.model (1 + l.s) (drop l.s l.saved)
