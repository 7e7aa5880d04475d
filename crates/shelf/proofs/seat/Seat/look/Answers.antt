use Rattle.std.proofs.Common.{◌≡◌, ◌∙◌, sym, subst, arith, Some, List}
use Rattle.phys_proc.specs.Racks.{RackView}
use Rattle.shelf.specs.Racks.{AreLegal, HasRack, latest}
use Rattle.shelf.proofs.Legals.{HasRack-later, front-later}
use Rattle.shelf.proofs.seat.Seat.look.Goals as goal

pub glance_at-requires : goal.glance_at-requires
glance_at-requires g c =
    let known = c.self.inside.newest.value in
    let now = c.refresh.new.newest.value in
    let has = subst (λ (l : List RackView). HasRack c.args.station l) (sym c.self.view_is) c.requires.has_rack in
    record {
      has_rack = subst (λ (l : List RackView). HasRack c.args.station l) (sym c.deref-2.ensures)
          (HasRack-later c.args.station known now c.refresh.ensures.begins has);
    }

pub returns-clause-front : goal.returns-clause-front
returns-clause-front g c = λ r e.
    let known = c.self.inside.newest.value in
    let now = c.refresh.new.newest.value in
    let legal : AreLegal now = subst AreLegal (c.published.ensures.value ∙ c.deref.ensures) c.len-legal.ensures.legal in
    let before = subst (λ (l : List RackView). latest c.args.station l ≡ Some r) (sym c.self.view_is) e in
    let h = c.glance_at.ensures.glance in
    let after = subst (λ (l : List RackView). latest c.args.station l ≡ Some h.0) c.deref-2.ensures h.1 in
    let f = front-later c.args.station known now r h.0 legal c.refresh.ensures.begins before after in
    omega (arith, f, h.2.front)
