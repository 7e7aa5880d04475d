use Rattle.std.proofs.Common.{◌≤◌, ◌-◌, length}
use Rattle.sim_outer.specs.declared.inputs.TheConstants.{MAX_FETCHED}
use Rattle.std.specs.Io.KnownBytes.{Consumes}
use Rattle.sim_outer.proofs.real.read_prefix.Given as goal

abbrev pub invariant-loop-buffer : goal.invariant-loop-buffer
invariant-loop-buffer g l = record {
  taken : Consumes (g.F.Read.remaining l.initial.file) (g.F.Read.remaining l.file) l.bytes.items;
  most : length l.bytes.items ≤ MAX_FETCHED;
}

abbrev pub decreases-loop-buffer : goal.decreases-loop-buffer
decreases-loop-buffer g l = MAX_FETCHED - length l.bytes.items
