use Rattle.std.proofs.Common.{◌∙◌, arith}
use Rattle.std.proofs.lemmas.Option.{slice_get_within}
use Rattle.live_study.proofs.study.take_seats.Goals as goal

pub begin-requires-clause-at_least : goal.begin-requires-clause-at_least
begin-requires-clause-at_least g c =
    let valid = c.analysts.ensures.valid in
    omega (arith, slice_get_within c.args.script.now.analysts 0 _ valid.first, c.analysts.ensures.value)

pub begin-requires-clause-most : goal.begin-requires-clause-most
begin-requires-clause-most g c = omega (arith, c.analysts.ensures.valid.few_analysts, c.analysts.ensures.value)

pub analysts_of-requires : goal.analysts_of-requires
analysts_of-requires g c = record {
  at_most = omega (arith, c.requires.many, c.analysts.ensures.valid.few_analysts);
  seats = omega (arith, c.requires.many, c.in_ok-stocker.ensures.many, c.analysts.ensures.value);
}

pub returns-clause-published : goal.returns-clause-published
returns-clause-published g c = c.in_ok-stocker.ensures.published

pub returns-clause-passes : goal.returns-clause-passes
returns-clause-passes g c = c.in_ok-seated.ensures.passes

pub returns-clause-numbers : goal.returns-clause-numbers
returns-clause-numbers g c = c.in_ok-seated.ensures.numbers

pub returns-clause-todo : goal.returns-clause-todo
returns-clause-todo g c = c.in_ok-seated.ensures.todo

pub returns-clause-fresh : goal.returns-clause-fresh
returns-clause-fresh g c = c.in_ok-seated.ensures.fresh c.args.racks.items c.in_ok-stocker.ensures.seats

pub returns-clause-readers : goal.returns-clause-readers
returns-clause-readers g c = c.in_ok-stocker.ensures.readers ∙ c.analysts.ensures.value
