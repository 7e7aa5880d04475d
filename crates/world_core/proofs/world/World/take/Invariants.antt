use Rattle.std.proofs.Common.{◌≡◌, drop}
use Rattle.world_core.specs.Taking.{AreAccepted, clones_after_calls}
use Rattle.world_core.proofs.world.World.take.Given as goal

abbrev pub invariant-loop-call : goal.invariant-loop-call
invariant-loop-call l = record {
  net : l.world.net ≡ l.fn.self.net;
  front : l.world.front ≡ l.fn.self.front;
  accepted : AreAccepted l.fn.self.net l.world.clones l.fn.self.front (drop l.call-index l.fresh);
  clones : clones_after_calls l.fn.self.net l.world.clones (drop l.call-index l.fresh)
      ≡ clones_after_calls l.fn.self.net l.fn.self.clones l.fresh;
}
