use Rattle.std.proofs.Common.{◌∙◌, subst}
use Rattle.world_core.specs.Worlds.{WorldView}
use Rattle.engine_tests.specs.Seen.{IsRackAt}
use Rattle.engine_tests.proofs.shelf_looks.two_racks.Goals as goal

pub returns : goal.returns
returns c =
    let same = c.rack_of.ensures.same in
    record {
      gate = c.in_ok-gate.ensures.rack;
      desk = subst (λ (w : WorldView). IsRackAt w.net w.front 2 c.in_ok-desk.desk) same c.in_ok-desk.ensures.rack;
      same = c.rack_of-2.ensures.same ∙ same;
    }
