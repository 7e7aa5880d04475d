use Rattle.std.proofs.Common.{ℕ, ◌++◌, ◌∷◌, [], List, sym, subst, arith}
use Rattle.net_model.specs.Net.{Net}
use Rattle.phys_proc.specs.Racks.{RackView}
use Rattle.shelf.specs.Racks.{HasRack}
use Rattle.shelf.proofs.Legals.{HasRack-push}
use Rattle.engine_tests.specs.Seen.{AreSeenUpTo}
use Rattle.engine_tests.proofs.Seen.{seen_with}
use Rattle.engine_tests.proofs.shelf_tests.publish_window.Goals as goal

pub returns-clause-seen : goal.returns-clause-seen
returns-clause-seen g c =
    let w = c.in-Some.world in
    let racks : List RackView = c.args.stocker.now.stock.published in
    let r : RackView = c.in-Some.rack in
    let after : List RackView = racks ++ r ∷ [] in
    let later = c.in-Some.ensures.later in
    let seen : AreSeenUpTo c.args.world.net r.front after =
    seen_with c.args.world.net c.args.world.front racks r c.requires.seen c.in-Some.ensures.net.1
    (omega (arith, later.0)) in
    subst (λ (l : List RackView). AreSeenUpTo w.net w.front l) (sym c.in_ok-publish.ensures.published)
    (subst (λ (n : Net). AreSeenUpTo n w.front after) (sym c.in-Some.ensures.net.0)
    (subst (λ (f : ℕ). AreSeenUpTo c.args.world.net f after) (sym later.1) seen))

pub returns-clause-has_rack : goal.returns-clause-has_rack
returns-clause-has_rack g c =
    subst (λ (l : List RackView). HasRack 1 l) (sym c.in_ok-publish.ensures.published)
    (HasRack-push 1 c.args.stocker.now.stock.published c.in-Some.rack c.requires.has_rack)

pub publish-requires-clause-has_rack : goal.publish-requires-clause-has_rack
publish-requires-clause-has_rack g c =
    subst (λ s. HasRack s c.args.stocker.now.stock.published) (sym c.in-Some.ensures.gate) c.requires.has_rack
