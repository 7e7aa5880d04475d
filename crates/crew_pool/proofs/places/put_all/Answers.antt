use Rattle.std.proofs.Common.{◌≡◌, ◌<◌, ◌∙◌, sym, subst, length, arith, rules, map-id, length-set}
use Rattle.std.proofs.lemmas.Iterator.Consumers.{YieldsList-end}
use Rattle.std.proofs.lemmas.Iterator.Adapters.{YieldsList-from_vec}
use Rattle.crew_pool.specs.Tasks.{AnswersTo}
use Rattle.crew_pool.specs.Deque.{EachPair}
use Rattle.crew_pool.specs.Calls.{ArePlaced}
use Rattle.crew_pool.proofs.PlaceLaws.{EachPair-split, ArePlaced-put, ArePlaced-skip}
use Rattle.crew_pool.proofs.places.put_all.Goals as goal

pub loop-i-preserved-then-i-len : goal.loop-i-preserved-then-i-len
loop-i-preserved-then-i-len g c =
    let places = c.loop-i.places.items in
    let below : c.in-Some.i < length places = omega (arith, c.if-i-len.true, c.len.ensures) in (
      length-set places c.in-Some.i _ ∙ c.loop-i.invariant.0,
      λ items all empty.
          let asks = AnswersTo (g.W.Work.answers c.args._work.now) items in
          let s = EachPair-split asks c.loop-i.yielded (c.in-Some.i, c.in-Some.out) all in
          ArePlaced-put asks places c.loop-i.yielded (c.in-Some.i, c.in-Some.out) below s.1
          (c.loop-i.invariant.1 items s.0 empty),
    )

pub loop-i-preserved-then-i-len-2 : goal.loop-i-preserved-then-i-len-2
loop-i-preserved-then-i-len-2 g c =
    let places = c.loop-i.places.items in
    let below : c.in-Some.i < length places = omega (arith, c.if-i-len.true, c.len.ensures) in (
      length-set places c.in-Some.i _ ∙ c.loop-i.invariant.0,
      λ items all empty.
          let asks = AnswersTo (g.W.Work.answers c.args._work.now) items in
          let s = EachPair-split asks c.loop-i.yielded (c.in-Some.i, c.in-Some.out) all in
          ArePlaced-put asks places c.loop-i.yielded (c.in-Some.i, c.in-Some.out) below s.1
          (c.loop-i.invariant.1 items s.0 empty),
    )

pub loop-i-preserved : goal.loop-i-preserved
loop-i-preserved g c = (
  c.loop-i.invariant.0,
  λ items all empty.
      let asks = AnswersTo (g.W.Work.answers c.args._work.now) items in
      let s = EachPair-split asks c.loop-i.yielded (c.in-Some.i, c.in-Some.out) all in
      ArePlaced-skip asks c.loop-i.places.items c.loop-i.yielded (c.in-Some.i, c.in-Some.out)
      (λ below. absurd (omega (arith, below, c.if-i-len.false, c.len.ensures)))
      (c.loop-i.invariant.1 items s.0 empty),
)

pub returns-clause-placed : goal.returns-clause-placed
returns-clause-placed g c items all empty =
    let asks = AnswersTo (g.W.Work.answers c.args._work.now) items in
    let end = YieldsList-end (YieldsList-from_vec {s = c.into_iter-i-iterator.result} c.args.pairs.items
    (search rules) (search rules)) c.loop-i.yielded _ c.loop-i.yielded_by _ c.next.new.self
    c.in-None.is c.next.ensures.steps in
    let same : c.loop-i.yielded ≡ c.args.pairs.items = sym (map-id c.loop-i.yielded) ∙ end.0 in
    subst (λ l. ArePlaced asks c.loop-i.places.items l) same
    (c.loop-i.invariant.1 items (subst (λ l. EachPair asks l) (sym same) all) empty)
