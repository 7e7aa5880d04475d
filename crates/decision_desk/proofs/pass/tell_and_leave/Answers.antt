use Rattle.std.proofs.Common.{◌≡◌, ◌<◌, ◌∷◌, [], ap, ◌∙◌, sym, arith, refl, subst}
use Rattle.atomic_table.specs.Table.{Me}
use Rattle.decision_book.specs.Books.{BookView}
use Rattle.decision_desk.specs.declared.view.View.{View}
use Rattle.decision_desk.specs.Turns.{Slot, book_of}
use Rattle.decision_desk.proofs.pass.tell_and_leave.Goals as goal

pub raise_count-entry-requires-clause-account : goal.raise_count-entry-requires-clause-account
raise_count-entry-requires-clause-account c = (_, ap (λ m. m.0.accounts) c.requires.turn, c.requires.caller)

pub give_book-requires-clause-held : goal.give_book-requires-clause-held
give_book-requires-clause-held c =
    ap (λ m. m.1) (c.raise_count-entry.ensures.call _ (ap (λ m. m.0.accounts) c.requires.turn))
    ∙ ap (λ m. m.1) c.requires.turn

pub give_book-requires-clause-book : goal.give_book-requires-clause-book
give_book-requires-clause-book c =
    c.requires.book ∙ sym (ap {B = BookView} (λ (m : Me Slot View). record { net = m.0.net; events = m.0.seen })
    (c.raise_count-entry.ensures.call _ (ap (λ m. m.0.accounts) c.requires.turn)))

pub end_turn-requires-clause-may_end : goal.end_turn-requires-clause-may_end
end_turn-requires-clause-may_end c =
    let said = c.raise_count-entry.ensures.call _ (ap (λ m. m.0.accounts) c.requires.turn) in
    record {
      turn = ap (λ m. m.0.turn) c.give_book.ensures.seat
          ∙ (ap (λ m. m.0.turn) said ∙ ap (λ m. m.0.turn) c.requires.turn);
      part = subst (λ n. 0 < n) (sym (ap (λ m. m.0.parts) c.give_book.ensures.seat
          ∙ (ap (λ m. m.0.parts) said ∙ ap (λ m. m.0.parts) c.requires.turn))) (omega arith);
      home = subst (λ (m : Me Slot View). m.1 ≡ (0, book_of m.0.net m.0.seen) ∷ []) (sym c.give_book.ensures.seat)
          refl;
    }
