use Rattle.engine_tests.proofs.shelf_looks.rack_of.Goals as goal

pub returns : goal.returns
returns c =
    let is = c.in_ok-rack.ensures in
    record {
      rack = record { station = is.station; net = is.net; front = is.front };
      same = c.rack.ensures.same;
    }
