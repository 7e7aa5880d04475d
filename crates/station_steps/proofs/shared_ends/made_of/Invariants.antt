use Rattle.std.proofs.Common.{◌≡◌, take}
use Rattle.station_steps.proofs.shared_ends.made_of.Given as goal

abbrev pub invariant-loop-pair : goal.invariant-loop-pair
invariant-loop-pair l = l.made ≡ take l.pair-index l.listed
