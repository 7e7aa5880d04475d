use Rattle.std.proofs.Common.{ap, refl, ◌∙◌, sym, subst}
use Rattle.std.specs.Option.{IsSome}
use Rattle.decision_desk.specs.Passes.{HelmView}
use mathlib.Core.Option.{some-injective}
use Rattle.decision_desk.proofs.Restings.{HasEnded-final, is_final_book}
use Rattle.decision_desk.proofs.desk.Desk.take_book.Goals as goal

pub unwrap-book-requires : goal.unwrap-book-requires
unwrap-book-requires c =
    let e = HasEnded-final _ _ _ _ (ap (λ (h : HelmView). h.parts) c.helm.view_is ∙ c.requires.whole)
    (ap (λ m. m.0.turn) c.helm.invariant.rest.is) c.close_with-closed.ensures.values.2 in
    subst (λ o. IsSome o) (some-injective _ _ (sym e.book ∙ c.take.ensures.value)) refl

pub returns : goal.returns
returns c =
    let e = HasEnded-final _ _ _ _ (ap (λ (h : HelmView). h.parts) c.helm.view_is ∙ c.requires.whole)
    (ap (λ m. m.0.turn) c.helm.invariant.rest.is) c.close_with-closed.ensures.values.2 in
    record {
      closed = is_final_book c.args.helm _ _ _ c.take.result c.unwrap-book.result c.helm.view_is
          (ap (λ m. m.0.steers) c.helm.invariant.rest.is) e c.take.ensures.value c.unwrap-book.ensures;
    }
