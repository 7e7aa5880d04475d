use Rattle.std.proofs.Common.{◌∷◌, ◌++◌, [], ap, sym, ◌∙◌, append_assoc}
use Rattle.std.proofs.lemmas.Grind.{flat_map-append}
use Rattle.std.proofs.lemmas.List.{append-nil}
use Rattle.sim_base.specs.Blocks.{of_blocks}
use Rattle.sim_base.proofs.pending.blocks.add_block.Goals as goal

pub returns-clause-all : goal.returns-clause-all
returns-clause-all g c =
    let old = c.args.later.now.items in
    ap (λ bs. c.args.first.now ++ of_blocks bs) c.in_ok-push_back.ensures.items
    ∙ ap (λ t. c.args.first.now ++ t) (flat_map-append (λ b. b) old (c.args.block ∷ [])
    ∙ ap (λ t. of_blocks old ++ t) (append-nil c.args.block))
    ∙ sym (append_assoc c.args.first.now (of_blocks old) c.args.block)
