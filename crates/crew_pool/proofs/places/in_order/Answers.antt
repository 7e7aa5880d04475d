use Rattle.std.proofs.Common.{◌∙◌}
use Rattle.crew_pool.specs.Tasks.{AnswersTo}
use Rattle.crew_pool.proofs.PlaceLaws.{ArePlaced-empty, ArePlaced-full, ArePlaced-taken}
use Rattle.crew_pool.proofs.places.in_order.Goals as goal

pub take_all-requires : goal.take_all-requires
take_all-requires g c =
    let asks = AnswersTo (g.W.Work.answers c.args.work.now) c.requires.answers.0 in
    record {
      full = ArePlaced-full asks c.put_all.new.places.items c.args.pairs.items c.args.tasks
          (c.put_all.ensures.count ∙ c.in_ok-places.ensures.count) c.requires.once
          (c.put_all.ensures.placed c.requires.answers.0 c.requires.answers.1
          (ArePlaced-empty asks c.in_ok-places.places.items c.in_ok-places.ensures.empty));
    }

pub returns-clause-answers : goal.returns-clause-answers
returns-clause-answers g c items all =
    let asks = AnswersTo (g.W.Work.answers c.args.work.now) items in
    ArePlaced-taken asks c.put_all.new.places.items c.args.pairs.items c.in_ok-outs.outs.items
    (c.put_all.ensures.placed items all
    (ArePlaced-empty asks c.in_ok-places.places.items c.in_ok-places.ensures.empty)) c.in_ok-outs.ensures.value
