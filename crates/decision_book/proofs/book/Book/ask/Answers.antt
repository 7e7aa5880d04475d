use Rattle.std.proofs.Common.{◌∙◌, sym}
use Rattle.decision_book.proofs.Fulls.{call_unless_full, fronts_of-length}
use Rattle.decision_book.proofs.book.Book.ask.Goals as goal

pub returns-clause-call : goal.returns-clause-call
returns-clause-call c =
    let b = c.self.inside in
    call_unless_full c.args.self.now c.decide-reply.new.self c.args.caller c.args.d.now c.decide-reply.result
    c.len-fronts.result
    (c.len-fronts.ensures.value
    ∙ fronts_of-length b.model.value b.calls.items b.fronts.items c.args.self.now c.self.view_is)
    c.decide-reply.ensures.reply c.decide-reply.ensures.journal (sym c.if-is_full.ensures.value)
