use Rattle.std.proofs.Common.{List, length, ap, sym, subst, arith}
use Rattle.phys_proc.specs.Racks.{RackView}
use Rattle.world_core.specs.Worlds.{WorldView}
use Rattle.shelf.specs.Racks.{HasRack, MayOpen}
use Rattle.engine_tests.specs.Seen.{AreSeenUpTo, IsRackAt}
use Rattle.engine_tests.proofs.Opening.{one_opens, one_seen, one_has}
use Rattle.engine_tests.proofs.shelf_tests.opening.Goals as goal

pub returns : goal.returns
returns c =
    let w : WorldView = c.in_ok-world.world in
    let same = c.rack.ensures.same in
    let gate : IsRackAt w.net w.front 1 c.in_ok-gate.gate = record {
      station = c.in_ok-gate.ensures.station;
      net = c.in_ok-gate.ensures.net;
      front = c.in_ok-gate.ensures.front;
    } in
    let items = c.in_ok-racks.ensures.items in
    record {
      opening = subst MayOpen (sym items) (one_opens w.net w.front c.in_ok-gate.gate gate);
      at_most = omega (arith, ap length items);
      seen = subst (λ (v : WorldView). AreSeenUpTo v.net v.front c.in_ok-racks.racks.items) (sym same)
          (subst (λ (l : List RackView). AreSeenUpTo w.net w.front l) (sym items)
          (one_seen w.net w.front c.in_ok-gate.gate gate));
      has_rack = subst (λ (l : List RackView). HasRack 1 l) (sym items)
          (one_has w.net w.front c.in_ok-gate.gate gate);
    }
