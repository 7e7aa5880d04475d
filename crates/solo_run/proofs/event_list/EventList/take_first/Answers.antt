use Rattle.std.proofs.Common.{◌∙◌, ap, sym, ◌∷◌, slice_get}
use Rattle.solo_run.proofs.Firsts.{MarkedMessages, merged, take-packed, take-wide, take-either, merged-none}
use Rattle.solo_run.proofs.event_list.EventList.take_first.Goals as goal

pub returns-in_err-take_least-in-Greater-clause-none : goal.returns-in_err-take_least-in-Greater-clause-none
returns-in_err-take_least-in-Greater-clause-none c =
    let heap = c.args.self.now.heap in
    let wide = c.args.self.now.wide in
    rw c.from_residual-in_err-take_least-in-Greater.ensures (merged-none heap wide
    (ap (λ (w : MarkedMessages). slice_get w 0) c.in_err-take_least-in-Greater.ensures.none.0)
    (sym c.in-Greater.ensures.value))

pub returns-in_ok-take_first-in-Less-clause-some : goal.returns-in_ok-take_first-in-Less-clause-some
returns-in_ok-take_first-in-Less-clause-some c =
    let wide = c.args.self.now.wide in
    take-packed c.args.self.now.heap c.take_first.new.self wide c.in_ok-take_first-in-Less.field-0
    c.order_of_firsts.ensures.ordered c.in_ok-take_first-in-Less.ensures.some (sym c.in-Less.ensures.value)
    ∙ ap (λ m. m ∷ merged c.take_first.new.self wide) (sym c.msg.ensures.value)

pub returns-in_ok-take_first-in-Equal-clause-some : goal.returns-in_ok-take_first-in-Equal-clause-some
returns-in_ok-take_first-in-Equal-clause-some c =
    take-either c.args.self.now.heap c.take_first-in-Equal.new.self c.args.self.now.wide c.take_least.new.self
    c.in_ok-take_first-in-Equal.field-0 c.take_least.result c.order_of_firsts.ensures.ordered
    c.in_ok-take_first-in-Equal.ensures.some c.take_least.ensures.some c.take_least.ensures.none
    (sym c.in-Equal.ensures.value)
    ∙ ap (λ m. m ∷ merged c.take_first-in-Equal.new.self c.take_least.new.self) (sym c.msg-in-Equal.ensures.value)

pub returns-in_ok-take_least-in-Greater-clause-some : goal.returns-in_ok-take_least-in-Greater-clause-some
returns-in_ok-take_least-in-Greater-clause-some c =
    take-wide c.args.self.now.heap c.args.self.now.wide c.take_least-in-Greater.new.self
    c.in_ok-take_least-in-Greater.field-0 c.order_of_firsts.ensures.ordered
    c.in_ok-take_least-in-Greater.ensures.some (sym c.in-Greater.ensures.value)
