use Rattle.std.proofs.Common.{◌≡◌, sym, subst, List}
use Rattle.std.proofs.lemmas.List.Elements.{All-weaker}
use Rattle.phys_proc.specs.Racks.{RackView}
use Rattle.shelf.specs.Racks.{HasRack}
use Rattle.engine_tests.specs.Seen.{AreSeenUpTo}
use Rattle.engine_tests.proofs.shelf_tests.begin_shelf.Goals as goal

pub returns-clause-seen : goal.returns-clause-seen
returns-clause-seen g c =
    let w = c.in_ok-world.world in
    subst (λ (l : List RackView). AreSeenUpTo w.net w.front l) (sym c.in_ok-stocker.ensures.published)
    c.in_ok-world.ensures.seen

pub returns-clause-has_rack : goal.returns-clause-has_rack
returns-clause-has_rack g c =
    subst (λ (l : List RackView). HasRack 1 l) (sym c.in_ok-stocker.ensures.published) c.in_ok-world.ensures.has_rack

pub returns-clause-seats : goal.returns-clause-seats
returns-clause-seats g c =
    let racks = c.in_ok-world.racks.items in
    All-weaker (λ (l : List RackView). l ≡ racks) (λ (l : List RackView). HasRack 1 l)
    (λ l e. subst (λ (k : List RackView). HasRack 1 k) (sym e) c.in_ok-world.ensures.has_rack)
    c.in_ok-stocker.seats.items c.in_ok-stocker.ensures.seats
