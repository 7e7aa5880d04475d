use Rattle.std.proofs.Common.{arith, ap, ◌∙◌}
use Rattle.decision_desk.specs.Passes.{HelmView, PassView}
use Rattle.decision_desk.proofs.Restings.{Joins-pass}
use Rattle.decision_desk.proofs.desk.Desk.absorb.Goals as goal

pub join_seat-requires : goal.join_seat-requires
join_seat-requires c =
    let r = c.helm.invariant.rest.is in
    let p = c.pass.invariant.rest in (
      ap (λ (h : HelmView). h.desk) c.helm.view_is ∙ c.requires.helm,
      ap (λ (h : PassView). h.desk) c.pass.view_is ∙ c.requires.pass,
      ap (λ m. m.1) p,
      omega (arith, c.args.self.now.sized.words),
      Joins-pass _ _ _ _ (ap (λ m. m.0.waits) r) (ap (λ m. m.0.turn) r) c.helm.invariant.rest.part
          (ap (λ m. m.0.waits) p) (ap (λ m. m.0.turn) p) (ap (λ m. m.0.steers) p),
    )
