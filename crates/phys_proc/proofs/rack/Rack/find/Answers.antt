use Rattle.std.proofs.Common.{◌≡◌, ◌<◌, ℕ, false, Some, None, sym, ap, subst, ◌∙◌, length}
use Rattle.std.specs.List.{AllByRecursion}
use Rattle.sim_base.specs.Clones.{place_of}
use Rattle.clone_sets.specs.Sets.{has}
use Rattle.run_laws.specs.Queue.{In}
use Rattle.phys_proc.specs.Racks.{RackCopyView, RackView, IsSeen}
use Rattle.phys_proc.proofs.RackViews.{is_seen, not_none}
use Rattle.phys_proc.proofs.rack.Rack.find.Goals as goal

pub unreachable-requires : goal.unreachable-requires
unreachable-requires c =
    let i = c.self.inside in
    let cs = i.lists.value.clones in
    let l : c.in-Some.c < length cs =
    subst (λ k. c.in-Some.c < length k) (ap (λ u. u.clones) c.deref.ensures) c.in-Some.ensures.in_range in
    not_none i.model.value cs i.station i.front i.copies.items c.in-Some.c c.self.invariant l
    (subst (AllByRecursion (λ (h : RackCopyView). has h.set c.in-Some.c ≡ false)) c.as_slice.ensures.value
    c.in_default-find_copy.ensures.none)

pub returns-in_default : goal.returns-in_default
returns-in_default c = record {
  found = record {
    unknown = subst (λ (u : RackView). place_of c.args.who.now u.clones ≡ None) c.self.view_is
        (ap (λ u. place_of c.args.who.now u.clones) (sym c.deref.ensures) ∙ sym c.in_default.ensures.value);
    found = tt;
  };
}

pub returns : goal.returns
returns c =
    let i = c.self.inside in
    let cs = i.lists.value.clones in
    let e = c.in-Some-find_copy.ensures.some in
    let f = c.in-Some-find_copy.found in
    let place : place_of c.args.who.now cs ≡ Some c.in-Some.c =
    ap (λ u. place_of c.args.who.now u.clones) (sym c.deref.ensures) ∙ sym c.in-Some.ensures.value in
    let is = is_seen i.model.value cs i.station i.front i.copies.items c.in-Some.c f.handled f.shared e.0
    c.self.invariant (subst (In e.0) c.as_slice.ensures.value e.1) e.2 e.3 e.4 in
    record {
      found = record {
        unknown = tt;
        found = subst (λ (u : RackView). (x : ℕ) × (place_of c.args.who.now u.clones ≡ Some x)
            × IsSeen u.net u.clones u.station u.front x f.handled f.shared) c.self.view_is (c.in-Some.c, place, is);
      };
    }
