use Rattle.std.proofs.Common.{◌≡◌}
use Rattle.phys_proc.specs.Ends.{ends_in}
use Rattle.station_steps.specs.Windows.{bound_of}
use Rattle.station_steps.specs.Stepping.{IsPlaceOfOver, SteppedTo}
use Rattle.station_steps.proofs.stepping.step_in_place.Given as goal

abbrev pub invariant-loop-i : goal.invariant-loop-i
invariant-loop-i g l = record {
  stepped : SteppedTo l.model (ends_in l.model.horizon l.ends) (bound_of l.fn.buffers.bounds.items) l.i l.fn.procs.items
      l.procs.items l.buffers.sent l.over l.fn.steps l.steps;
  bounds : l.buffers.bounds ≡ l.fn.buffers.bounds;
  at_most : IsPlaceOfOver l.over;
}
