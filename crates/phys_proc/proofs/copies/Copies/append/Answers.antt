use Rattle.std.proofs.Common.{◌≡◌, ◌++◌, ◌∙◌, refl}
use Rattle.phys_proc.proofs.CopyBounds.{bounds_joined}
use Rattle.phys_proc.proofs.copies.Copies.append.Goals as goal

pub invariant_of-self-2 : goal.invariant_of-self-2
invariant_of-self-2 c =
    let i = c.self.inside in
    let copies : c.append.new.self.items ≡ i.copies.items ++ c.more.inside.copies.items =
    c.in_ok-append.ensures.items ∙ rw (c.replace-copies.ensures.value) refl in
    let bounds : c.append-2.new.self.items ≡ i.bounds.items ++ c.more.inside.bounds.items =
    c.in_ok-append-2.ensures.items ∙ rw (c.replace-bounds.ensures.value) refl in
    rw (bounds, copies) (bounds_joined i.bounds.items c.more.inside.bounds.items i.copies.items
    c.more.inside.copies.items c.self.invariant c.more.invariant)
