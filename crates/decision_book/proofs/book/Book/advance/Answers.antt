use Rattle.std.proofs.Common.{ap, List}
use Rattle.decision_book.specs.Journal.{Event}
use Rattle.decision_book.proofs.Booking.{IsBook-front, journal_of-front}
use Rattle.decision_book.proofs.book.Book.advance.Goals as goal

pub invariant_of-self-2 : goal.invariant_of-self-2
invariant_of-self-2 c =
    let b = c.self.inside in
    let h = c.self.invariant in
    rw c.in_ok-push.ensures.ok (record {
      book = IsBook-front b.model.value b.lists.clones b.calls.items b.fronts.items b.front c.args.front h.book
          (rw (← c.self.view_is, h.book.situation) at c.requires.above)
          (rw (← c.self.view_is) at c.requires.within);
      lists_room = h.lists_room;
      calls_room = h.calls_room;
    })

pub returns-clause-ok : goal.returns-clause-ok
returns-clause-ok c =
    let b = c.self.inside in
    rw (c.in_ok-push.ensures.ok, ← c.self.view_is)
    (ap (λ (es : List Event). record { net = b.model.value; events = es })
    (journal_of-front b.model.value b.lists.clones b.calls.items b.fronts.items b.front c.args.front
    c.self.invariant.book))
