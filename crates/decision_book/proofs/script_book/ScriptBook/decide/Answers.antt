use Rattle.std.proofs.Common.{◌≡◌, ◌∙◌, ap, sym, length, List, [], refl, rules}
use Rattle.sim_base.specs.Clones.{ListsView}
use Rattle.decision_book.specs.Journal.{Event, after}
use Rattle.decision_book.specs.Books.{BookView, journal_of}
use Rattle.decision_book.proofs.Scripts.{asking_is_after_decision}
use Rattle.decision_book.proofs.Booking.{IsBook-call, journal_of-call}
use Rattle.decision_book.proofs.Fulls.{full_where_full, reply-of_parts, with_last_entry}
use Rattle.decision_book.proofs.script_book.ScriptBook.decide.Goals as goal

pub invariant_of-self-then-not-is_full : goal.invariant_of-self-then-not-is_full
invariant_of-self-then-not-is_full c =
    let b = c.self.inside in
    let count : c.len-calls.result ≡ length b.calls.items = search rules in
    rw (c.push_reserved.ensures.items, c.in_ok-reserve.ensures.items)
    (IsBook-call b.model.value b.lists.clones _ b.calls.items [] 0 _ c.self.invariant
    (record {
      stamp = refl;
      answer = rw (← count, ← c.deref.ensures) c.in_ok-reply.ensures.reply.reply_is;
      not_full = sym c.if-not-is_full.ensures.value;
    })
    (rw (← c.deref.ensures) (ap (λ (l : ListsView). l.clones) c.in_ok-reply.ensures.reply.lists_are))
    (rw (← c.deref.ensures) c.in_ok-reply.ensures.reply.planned))

pub returns-then-not-is_full-clause-journal : goal.returns-then-not-is_full-clause-journal
returns-then-not-is_full-clause-journal c =
    let b = c.self.inside in
    let count : c.len-calls.result ≡ length b.calls.items = search rules in
    rw (c.push_reserved.ensures.items, c.in_ok-reserve.ensures.items, ← c.self.view_is)
    (ap (λ (es : List Event). record { net = b.model.value; events = es })
    (journal_of-call b.model.value b.lists.clones b.calls.items [] 0 _ c.self.invariant
    (record {
      stamp = refl;
      answer = rw (← count, ← c.deref.ensures) c.in_ok-reply.ensures.reply.reply_is;
      not_full = sym c.if-not-is_full.ensures.value;
    })))

pub returns-then-not-is_full-clause-next : goal.returns-then-not-is_full-clause-next
returns-then-not-is_full-clause-next c =
    let b = c.self.inside in
    let count : c.len-calls.result ≡ length b.calls.items = search rules in
    rw (c.push_reserved.ensures.items, c.in_ok-reserve.ensures.items, ← c.self.view_is)
    (ap (after b.model.value)
    (journal_of-call b.model.value b.lists.clones b.calls.items [] 0 _ c.self.invariant
    (record {
      stamp = refl;
      answer = rw (← count, ← c.deref.ensures) c.in_ok-reply.ensures.reply.reply_is;
      not_full = sym c.if-not-is_full.ensures.value;
    }))
    ∙ asking_is_after_decision b.model.value (journal_of b.calls.items []) c.args.caller c.args.d)

pub returns-then-not-is_full-clause-full : goal.returns-then-not-is_full-clause-full
returns-then-not-is_full-clause-full c =
    let b = c.self.inside in
    let count : c.len-calls.result ≡ length b.calls.items = search rules in
    full_where_full c.args.self.now.net c.args.self.now.events c.args.d c.in_ok-reply.reply
    (reply-of_parts b.model.value b.lists.clones b.calls.items [] 0 c.args.d c.in_ok-reply.reply
    c.args.self.now c.self.invariant c.self.view_is
    (rw (← count, ← c.deref.ensures) c.in_ok-reply.ensures.reply.reply_is))

pub returns-else-not-is_full-clause-full : goal.returns-else-not-is_full-clause-full
returns-else-not-is_full-clause-full c =
    let b = c.self.inside in
    let count : c.len-calls.result ≡ length b.calls.items = search rules in
    full_where_full c.args.self.now.net c.args.self.now.events c.args.d c.in_ok-reply.reply
    (reply-of_parts b.model.value b.lists.clones b.calls.items [] 0 c.args.d c.in_ok-reply.reply
    c.args.self.now c.self.invariant c.self.view_is
    (rw (← count, ← c.deref.ensures) c.in_ok-reply.ensures.reply.reply_is))

pub returns-then-not-is_full-clause-entry : goal.returns-then-not-is_full-clause-entry
returns-then-not-is_full-clause-entry c not =
    let b = c.self.inside in
    let count : c.len-calls.result ≡ length b.calls.items = search rules in
    ap (λ (v : BookView). v.events) (with_last_entry c.args.self.now _ c.args.caller c.args.d c.in_ok-reply.reply
    (reply-of_parts b.model.value b.lists.clones b.calls.items [] 0 c.args.d c.in_ok-reply.reply
    c.args.self.now c.self.invariant c.self.view_is
    (rw (← count, ← c.deref.ensures) c.in_ok-reply.ensures.reply.reply_is))
    (returns-then-not-is_full-clause-journal c) not)
