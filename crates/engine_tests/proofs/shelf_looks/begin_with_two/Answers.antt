use Rattle.std.proofs.Common.{◌≡◌, List, Some, sym, subst}
use Rattle.std.proofs.lemmas.List.Elements.{All-pop}
use Rattle.phys_proc.specs.Racks.{RackView}
use Rattle.shelf.specs.Racks.{HasRack}
use Rattle.engine_tests.specs.Seen.{AreTwoAt}
use Rattle.engine_tests.proofs.shelf_looks.begin_with_two.Goals as goal

pub returns : goal.returns
returns g c =
    let w = c.in_ok-world.world in
    let racks = c.in_ok-world.racks.items in
    let popped = All-pop (λ (l : List RackView). l ≡ racks) _ _ (Some c.in-Some.seat) c.in-Some.ensures.items
    c.in_ok-stocker.ensures.seats in
    let seat : c.in-Some.seat ≡ racks = popped.1 in
    record {
      two = subst (λ (l : List RackView). AreTwoAt w.net w.front l) (sym c.in_ok-stocker.ensures.published)
          c.in_ok-world.ensures.two;
      gate = subst (λ (l : List RackView). HasRack 1 l) (sym seat) c.in_ok-world.ensures.gate;
      desk = subst (λ (l : List RackView). HasRack 2 l) (sym seat) c.in_ok-world.ensures.desk;
    }
