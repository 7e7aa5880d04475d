use Rattle.std.proofs.Common.{sym, ap, length, arith}
use Rattle.net_model.specs.Sites.{as_site}
use Rattle.stations.proofs.Accepting.{is_accepted-router}
use Rattle.stations.proofs.router.set_router.Goals as goal

pub overflow_cast-change : goal.overflow_cast-change
overflow_cast-change c =
    let change = is_accepted-router (as_site c.args.station.now) c.args.change.now c.requires.kind
    (sym c.if-takes_change.ensures) in
    omega (arith, change.weight.light)

pub overflow_sub-change : goal.overflow_sub-change
overflow_sub-change c =
    (is_accepted-router (as_site c.args.station.now) c.args.change.now c.requires.kind
    (sym c.if-takes_change.ensures)).first

pub bounds-deref_mut-change : goal.bounds-deref_mut-change
bounds-deref_mut-change c =
    let change = is_accepted-router (as_site c.args.station.now) c.args.change.now c.requires.kind
    (sym c.if-takes_change.ensures) in
    omega (arith, change.first, change.last, ap length c.deref_mut.ensures.value, c.requires.same)
