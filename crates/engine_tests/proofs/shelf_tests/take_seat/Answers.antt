use Rattle.std.proofs.Common.{List}
use Rattle.std.proofs.lemmas.List.Elements.{All-pop}
use Rattle.phys_proc.specs.Racks.{RackView}
use Rattle.shelf.specs.Racks.{HasRack}
use Rattle.engine_tests.proofs.shelf_tests.take_seat.Goals as goal

pub returns-clause-has_rack : goal.returns-clause-has_rack
returns-clause-has_rack g c =
    (All-pop (λ (l : List RackView). HasRack 1 l) _ _ c.pop.result c.pop.ensures.items c.requires.has_rack).0
