use Rattle.std.proofs.Common.{arith, length}
use Rattle.live_study.proofs.Publishing.{may_show, shows_if, tells_if}
use Rattle.live_study.proofs.engine.show_one.Goals as goal

pub publish-requires-clause-has_rack : goal.publish-requires-clause-has_rack
publish-requires-clause-has_rack g c =
    let may = c.requires.may_show in
    let within = c.front-within.ensures in
    (may_show c.args.helm.now c.args.world.now c.args.station c.in_ok-rack.rack _ c.requires.is_station
    may.shown may.net (omega (arith, within.within, within.value)) c.in_ok-rack.ensures.net
    c.in_ok-rack.ensures.station c.in_ok-rack.ensures.front).0

pub publish-requires-clause-may : goal.publish-requires-clause-may
publish-requires-clause-may g c =
    let may = c.requires.may_show in
    let within = c.front-within.ensures in
    (may_show c.args.helm.now c.args.world.now c.args.station c.in_ok-rack.rack _ c.requires.is_station
    may.shown may.net (omega (arith, within.within, within.value)) c.in_ok-rack.ensures.net
    c.in_ok-rack.ensures.station c.in_ok-rack.ensures.front).1

pub returns-clause-shown : goal.returns-clause-shown
returns-clause-shown g c =
    let may = c.requires.may_show in
    shows_if c.args.helm.now c.args.world.now c.args.station c.in_ok-rack.rack c.args.stocker.now.stock.published
    c.publish.new.self.stock.published c.publish.result c.requires.is_station.low may.shown may.at may.net
    c.in_ok-rack.ensures.net c.in_ok-rack.ensures.clones c.in_ok-rack.ensures.station c.in_ok-rack.ensures.front
    c.publish.ensures.published

pub returns-clause-tells : goal.returns-clause-tells
returns-clause-tells g c =
    tells_if c.publish.result c.publish.new.self.stock.has_published c.args.stocker.now.stock.readers
    c.publish.new.self.stock.readers (length c.publish.new.self.stock.spares.items) c.publish.ensures.readers
    c.publish.ensures.tells c.publish.ensures.spares
