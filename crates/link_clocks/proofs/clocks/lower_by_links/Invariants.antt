use Rattle.std.proofs.Common.{take}
use Rattle.link_clocks.specs.NetClocks.{AreLowered}
use Rattle.link_clocks.proofs.clocks.lower_by_links.Given as goal

abbrev pub invariant-loop-link : goal.invariant-loop-link
invariant-loop-link l = AreLowered (take l.link-index l.links) l.x l.time l.initial.bounds l.bounds
