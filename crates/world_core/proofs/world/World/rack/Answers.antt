use Rattle.std.proofs.Common.{◌≡◌, ◌-◌, ap, sym, subst, arith}
use Rattle.net_model.specs.Net.{HasStation}
use Rattle.world_core.specs.Worlds.{WorldView}
use Rattle.station_steps.proofs.Places.{got_at}
use Rattle.world_core.proofs.Worlds.{stands_for_reader}
use Rattle.world_core.proofs.Windowed.{unboxed}
use Rattle.world_core.proofs.world.World.rack.Goals as goal

pub rack-requires-clause-copies : goal.rack-requires-clause-copies
rack-requires-clause-copies c =
    let i = c.deref_mut-stations.result.now in
    let of = unboxed i c.self.inside.stations.value c.self.inside.front c.args.self.now c.deref_mut-stations.ensures.value
    c.self.invariant c.self.view_is in
    let procs = i.procs.items in
    let p = c.index_mut.result.now in
    let is = subst (λ (w : WorldView). HasStation w.net c.args.station) (sym of.1) c.requires.is_station in
    let many = of.0.count in
    let got = got_at procs (c.args.station - 1) p (omega (arith, is.low, is.high, many))
    c.index_mut.ensures.value in
    stands_for_reader i.model.value c.in_ok-model.model.value i.lists.clones
    c.in_ok-lists.lists.value.clones
    c.self.inside.front (c.args.station - 1) p c.in_ok-model.ensures.value c.in_ok-lists.ensures.value
    (of.0.each (c.args.station - 1) p got)

pub returns-clause-station : goal.returns-clause-station
returns-clause-station c =
    let i = c.deref_mut-stations.result.now in
    let of = unboxed i c.self.inside.stations.value c.self.inside.front c.args.self.now c.deref_mut-stations.ensures.value
    c.self.invariant c.self.view_is in
    let procs = i.procs.items in
    let p = c.index_mut.result.now in
    let is = subst (λ (w : WorldView). HasStation w.net c.args.station) (sym of.1) c.requires.is_station in
    let many = of.0.count in
    let got = got_at procs (c.args.station - 1) p (omega (arith, is.low, is.high, many))
    c.index_mut.ensures.value in
    let number = (of.0.each (c.args.station - 1) p got).station.number in
    let same : c.in_ok-rack.rack.station ≡ p.station = ap (λ r. r.station) c.in_ok-rack.ensures.rack in
    omega (arith, is.low, number, same)
