use Rattle.std.proofs.Common.{◌≡◌, ◌<◌, ◌≤◌, arith}
use Rattle.decision_book.specs.declared.call.Reply.TheVariants.{Accepted, Late}
use Rattle.decision_book.proofs.examples.wrong_journals.Goals as goal

pub returns-clause-twice : goal.returns-clause-twice
returns-clause-twice c = λ right. let rises : 5 < 5 = right.1.0.0 in omega (arith, rises)

pub returns-clause-beyond : goal.returns-clause-beyond
returns-clause-beyond c = λ right. let within : 21 ≤ 20 = right.0.1 in omega (arith, within)

pub returns-clause-late : goal.returns-clause-late
returns-clause-late c = λ right. let answer : Accepted ≡ Late 10 = right.1.0.answer in cc
