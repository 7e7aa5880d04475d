use Rattle.std.proofs.Common.{ap, ◌∙◌, sym, subst, ◌∷◌, ◌++◌, [], Some, ◌≡◌}
use Rattle.atomic_table.specs.Table.{opening}
use Rattle.net_model.specs.Net.{Net}
use Rattle.decision_book.specs.Books.{BookView}
use Rattle.decision_desk.specs.declared.desk.TheConstants.{MAX_PARTS}
use Rattle.decision_desk.specs.Turns.{IsDesk, helm_view}
use Rattle.decision_desk.proofs.Restings.{IsDesk-opening}
use Rattle.decision_desk.proofs.desk.Desk.open.Goals as goal

pub new-requires : goal.new-requires
new-requires c =
    let net = c.deref.result.now in
    let book : c.in_ok-book.book ≡ record { net = net; events = [] } = c.in_ok-book.ensures.value
    ∙ ap {B = BookView} (λ (n : Net). record { net = n; events = [] })
    (sym (c.deref.ensures ∙ c.in_ok-about.ensures)) in
    subst (λ xs. IsDesk (opening (0 ∷ 0 ∷ 0 ∷ 0 ∷ []) xs (helm_view net MAX_PARTS [] [] 0 [])))
    (sym (c.push_reserved.ensures.items ∙ (ap (λ l. l ++ Some c.in_ok-book.book ∷ []) c.in_ok-slots.ensures.items
    ∙ ap (λ (b : BookView). Some b ∷ []) book)))
    (IsDesk-opening net)
