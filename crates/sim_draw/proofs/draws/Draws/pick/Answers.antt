use Rattle.std.proofs.Common.{◌%◌, arith}
use Rattle.std.specs.Prelude.{sum}
use Rattle.sim_draw.specs.Drawing.{next_of}
use Rattle.sim_draw.proofs.Weights.{sum-heavy, index_of-first}
use Rattle.sim_draw.proofs.draws.Draws.pick.Goals as goal

pub nonzero_rem-from : goal.nonzero_rem-from
nonzero_rem-from c = rw c.total.ensures (sum-heavy c.args.weights.now c.requires.valid.nonempty c.requires.valid.all)

pub index_above-requires : goal.index_above-requires
index_above-requires c = let some = sum-heavy c.args.weights.now c.requires.valid.nonempty c.requires.valid.all in
    omega (arith, c.total.ensures)

pub returns-clause-choice : goal.returns-clause-choice
returns-clause-choice c = λ _.
    let ws = c.args.weights.now in
    let some = sum-heavy ws c.requires.valid.nonempty c.requires.valid.all in
    rw (c.index_above.ensures.value, c.from.ensures, c.total.ensures, c.word-word.ensures.value)
    (index_of-first ws (next_of c.args.self.now % sum ws) (omega arith))
