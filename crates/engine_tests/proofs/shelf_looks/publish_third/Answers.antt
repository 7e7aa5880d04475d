use Rattle.std.proofs.Common.{sym, subst}
use Rattle.net_model.specs.Net.{Net}
use Rattle.engine_tests.specs.Seen.{AreTwoAt}
use Rattle.engine_tests.proofs.shelf_looks.publish_third.Goals as goal

pub publish_two-requires : goal.publish_two-requires
publish_two-requires g c =
    let w = c.args.world in
    let racks = c.args.stocker.now.stock.published in
    record {
      two = subst (λ (n : Net). AreTwoAt n c.front-opened_at.result racks) (sym c.in-Ok.ensures.net)
          (subst (λ f. AreTwoAt w.net f racks) (sym c.front-opened_at.ensures.value) c.requires.two);
    }
