use Rattle.std.proofs.Common.{Some, arith, ap, sym, ◌∙◌, length, slice_get}
use Rattle.std.proofs.lemmas.Option.{slice_get-get_or}
use Rattle.sim_base.proofs.pending.block.Block.take_message.Goals as goal

pub returns-clause-value : goal.returns-clause-value
returns-clause-value g c =
    let xs = c.self.inside.items.items in
    let x = c.index.result.now in
    let n = ap length c.self.view_is in
    let l = c.requires.nonempty in (
      x.1,
      ap (λ l. slice_get l 0) (sym c.self.view_is) ∙ slice_get-get_or xs 0 x (omega (arith, n, l))
          ∙ ap Some (sym c.index.ensures),
    )
