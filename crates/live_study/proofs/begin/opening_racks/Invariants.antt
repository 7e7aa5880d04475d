use Rattle.std.proofs.Common.{◌≡◌, ◌≤◌, length}
use Rattle.live_study.specs.Opening.{AreOpeningRacks}
use Rattle.live_study.proofs.begin.opening_racks.Given as goal

abbrev pub invariant-loop-s : goal.invariant-loop-s
invariant-loop-s l = record {
  within : l.s ≤ length l.fn.world.net.sites;
  same : l.world ≡ l.fn.world;
  opening : AreOpeningRacks l.fn.world l.s l.racks.items;
}
