use Rattle.std.proofs.Common.{◌≡◌, ◌∙◌, ap, sym, subst, arith, Some, List}
use Rattle.std.specs.Arc.{arc_value}
use Rattle.phys_proc.specs.Racks.{RackView}
use Rattle.shelf.specs.Racks.{HasRack, latest}
use Rattle.shelf.proofs.Legals.{AreShown-at, HasRack-bounds}
use Rattle.shelf.proofs.version.Version.rack.Goals as goal

pub overflow_sub-station : goal.overflow_sub-station
overflow_sub-station g c =
    let has = subst (λ (l : List RackView). HasRack c.args.station l) (sym c.self.view_is) c.requires.has_rack in
    (HasRack-bounds arc_value c.self.inside.racks.items c.self.inside.published c.args.station c.self.invariant has).0

pub index-requires : goal.index-requires
index-requires g c =
    let has = subst (λ (l : List RackView). HasRack c.args.station l) (sym c.self.view_is) c.requires.has_rack in
    let k = HasRack-bounds arc_value c.self.inside.racks.items c.self.inside.published c.args.station
    c.self.invariant has in
    omega (arith, k.0, k.1, c.self.inside.racks.ok.0)

pub returns : goal.returns
returns g c =
    let has = subst (λ (l : List RackView). HasRack c.args.station l) (sym c.self.view_is) c.requires.has_rack in
    record {
      last = subst (λ (l : List RackView). latest c.args.station l ≡ Some c.deref.result.now) c.self.view_is
          (AreShown-at arc_value c.self.inside.racks.items c.self.inside.published c.args.station c.index.result.now
          c.self.invariant has c.index.ensures ∙ ap Some (sym c.deref.ensures));
    }
