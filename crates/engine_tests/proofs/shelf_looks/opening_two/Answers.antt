use Rattle.std.proofs.Common.{length, ap, sym, subst, arith}
use Rattle.world_core.specs.Worlds.{WorldView}
use Rattle.engine_tests.specs.Seen.{AreTwoAt}
use Rattle.engine_tests.proofs.TwoRacks.{first_has, second_has, two_open}
use Rattle.engine_tests.proofs.shelf_looks.opening_two.Goals as goal

pub returns : goal.returns
returns c =
    let w : WorldView = c.in_ok-world.world in
    let is = c.in_ok-gate.ensures in
    let racks = c.in_ok-racks.racks.items in
    let items = c.in_ok-racks.ensures.items in
    let two : AreTwoAt w.net w.front racks = (c.in_ok-gate.gate, c.in_ok-gate.desk, items, is.gate, is.desk) in
    record {
      two = subst (λ (v : WorldView). AreTwoAt v.net v.front racks) (sym c.two_racks.ensures.same) two;
      opening = two_open w.net w.front racks two;
      at_most = omega (arith, ap length items);
      gate = first_has w.net w.front racks two;
      desk = second_has w.net w.front racks two;
    }
