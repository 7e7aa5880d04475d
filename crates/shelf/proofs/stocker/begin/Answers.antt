use Rattle.std.proofs.Common.{◌≡◌, ◌∙◌, ap, sym, subst, map, List}
use Rattle.std.specs.Arc.{arc_value}
use Rattle.phys_proc.specs.Racks.{RackView}
use Rattle.shelf.specs.Racks.{AreShown, OneEach}
use Rattle.shelf.proofs.Legals.{AreShown-opening}
use Rattle.shelf.proofs.stocker.begin.Goals as goal

pub of-requires : goal.of-requires
of-requires g c =
    let racks : List RackView = map arc_value c.in_ok-racks.racks.items in
    let e : c.again.result ≡ racks =
    c.again.ensures.value ∙ (c.published-published.ensures.value ∙ (c.publish_opening.ensures.opening
    ∙ ap (map arc_value) c.as_slice.ensures.value)) in
    record {
      shown = subst (λ (p : List RackView). AreShown racks p) (sym e)
          (AreShown-opening racks (subst OneEach (sym c.in_ok-racks.ensures.value) c.requires.opening.each));
    }
