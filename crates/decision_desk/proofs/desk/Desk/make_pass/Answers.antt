use Rattle.std.proofs.Common.{arith, ap, ◌∙◌, sym, subst, ◌<◌}
use Rattle.decision_desk.specs.Passes.{HelmView}
use Rattle.decision_desk.proofs.Restings.{Splits-pass}
use Rattle.decision_desk.proofs.desk.Desk.make_pass.Goals as goal

pub split_seat-seat-requires : goal.split_seat-seat-requires
split_seat-seat-requires c =
    let r = c.helm.invariant.rest.is in (
      ap (λ (h : HelmView). h.desk) c.helm.view_is ∙ c.requires.desk,
      omega (arith, c.args.self.now.sized.words),
      Splits-pass _ _ (ap (λ m. m.0.waits) r) (ap (λ m. m.0.turn) r) (ap (λ m. m.0.steers) r)
          (subst (λ (h : HelmView). 1 < h.parts) (sym c.helm.view_is) c.requires.parts),
    )
