use Rattle.std.proofs.Common.{◌++◌, ◌∷◌, [], ◌∙◌, ap}
use Rattle.phys_proc.proofs.CopyBounds.{bounds_put}
use Rattle.phys_proc.proofs.copies.Copies.put.Goals as goal

pub invariant_of-self-2 : goal.invariant_of-self-2
invariant_of-self-2 c =
    let i = c.self.inside in
    let bounds = c.push_reserved.ensures.items ∙ ap (λ l. l ++ c.args.lower_bound ∷ []) c.in_ok-reserve.ensures.items in
    let copies = c.push_reserved-2.ensures.items ∙ ap (λ l. l ++ c.args.copy ∷ []) c.in_ok-reserve-2.ensures.items in
    bounds_put i.bounds.items c.push_reserved.new.self.items i.copies.items c.push_reserved-2.new.self.items
    c.args.lower_bound c.args.copy bounds copies c.self.invariant c.requires.lower
