use Rattle.std.proofs.Common.{◌∙◌, ap, sym, List}
use Rattle.sim_base.specs.Clones.{ListsView}
use Rattle.decision_book.specs.Journal.{Event, after}
use Rattle.decision_book.specs.Books.{BookView, journal_of}
use Rattle.decision_book.proofs.Scripts.{asking_is_after_decision}
use Rattle.decision_book.proofs.Booking.{HaveRoom-clones, IsBook-call, journal_of-call}
use Rattle.decision_book.proofs.Fulls.{full_where_full, reply-of_parts, with_last_entry}
use Rattle.decision_book.proofs.book.Book.decide.Goals as goal

pub invariant_of-self : goal.invariant_of-self
invariant_of-self c =
    let b = c.self.inside in
    let h = c.self.invariant in
    let decided = c.in-Ok.ensures.reply in
    rw c.in-Ok-extend.ensures.ok (record {
      book = IsBook-call b.model.value b.lists.clones _ b.calls.items b.fronts.items b.front _ h.book
          (record {
            stamp = c.len.ensures.value;
            answer = rw (← c.len-calls.ensures.value, ← c.deref.ensures) decided.reply_is;
            not_full = sym c.if-not-is_full.ensures.value;
          })
          (rw (← c.deref.ensures) (ap (λ (l : ListsView). l.clones) decided.lists_are))
          (rw (← c.deref.ensures) decided.planned);
      lists_room = HaveRoom-clones b.lists _ _ decided.lists_are h.lists_room;
      calls_room = h.calls_room;
    })

pub returns-in-Ok-extend-clause-journal : goal.returns-in-Ok-extend-clause-journal
returns-in-Ok-extend-clause-journal c =
    let b = c.self.inside in
    rw (c.in-Ok-extend.ensures.ok, ← c.self.view_is)
    (ap (λ (es : List Event). record { net = b.model.value; events = es })
    (journal_of-call b.model.value b.lists.clones b.calls.items b.fronts.items b.front _ c.self.invariant.book
    (record {
      stamp = c.len.ensures.value;
      answer = rw (← c.len-calls.ensures.value, ← c.deref.ensures) c.in-Ok.ensures.reply.reply_is;
      not_full = sym c.if-not-is_full.ensures.value;
    })))

pub returns-in-Ok-extend-clause-next : goal.returns-in-Ok-extend-clause-next
returns-in-Ok-extend-clause-next c =
    let b = c.self.inside in
    rw (c.in-Ok-extend.ensures.ok, ← c.self.view_is)
    (ap (after b.model.value)
    (journal_of-call b.model.value b.lists.clones b.calls.items b.fronts.items b.front _ c.self.invariant.book
    (record {
      stamp = c.len.ensures.value;
      answer = rw (← c.len-calls.ensures.value, ← c.deref.ensures) c.in-Ok.ensures.reply.reply_is;
      not_full = sym c.if-not-is_full.ensures.value;
    }))
    ∙ asking_is_after_decision b.model.value (journal_of b.calls.items b.fronts.items) c.args.caller c.args.d)

pub returns-in-Ok-extend-clause-full : goal.returns-in-Ok-extend-clause-full
returns-in-Ok-extend-clause-full c =
    let b = c.self.inside in
    full_where_full c.args.self.now.net c.args.self.now.events c.args.d c.in-Ok.reply
    (reply-of_parts b.model.value b.lists.clones b.calls.items b.fronts.items b.front c.args.d c.in-Ok.reply
    c.args.self.now c.self.invariant.book c.self.view_is
    (rw (← c.len-calls.ensures.value, ← c.deref.ensures) c.in-Ok.ensures.reply.reply_is))

pub returns-else-not-is_full-clause-full : goal.returns-else-not-is_full-clause-full
returns-else-not-is_full-clause-full c =
    let b = c.self.inside in
    full_where_full c.args.self.now.net c.args.self.now.events c.args.d c.in-Ok.reply
    (reply-of_parts b.model.value b.lists.clones b.calls.items b.fronts.items b.front c.args.d c.in-Ok.reply
    c.args.self.now c.self.invariant.book c.self.view_is
    (rw (← c.len-calls.ensures.value, ← c.deref.ensures) c.in-Ok.ensures.reply.reply_is))

pub returns-in-Ok-extend-clause-entry : goal.returns-in-Ok-extend-clause-entry
returns-in-Ok-extend-clause-entry c not =
    let b = c.self.inside in
    ap (λ (v : BookView). v.events) (with_last_entry c.args.self.now _ c.args.caller c.args.d c.in-Ok.reply
    (reply-of_parts b.model.value b.lists.clones b.calls.items b.fronts.items b.front c.args.d c.in-Ok.reply
    c.args.self.now c.self.invariant.book c.self.view_is
    (rw (← c.len-calls.ensures.value, ← c.deref.ensures) c.in-Ok.ensures.reply.reply_is))
    (returns-in-Ok-extend-clause-journal c) not)
