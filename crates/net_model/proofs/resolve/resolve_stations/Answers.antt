use Rattle.std.proofs.Common.{map}
use Rattle.net_model.specs.Drafts.{as_draft}
use Rattle.net_model.proofs.ElementByElement.{sites_of-step}
use Rattle.net_model.proofs.resolve.resolve_stations.Goals as goal

pub stations-preserved : goal.stations-preserved
stations-preserved c =
    sites_of-step c.args.lookahead (map as_draft c.args.drafts.now) c.args.drafts.now c.stations.stations.items
    c.push.new.self.items c.stations.i c.index-drafts-i.result c.in-Ok.station _ c.stations-test.true
    c.index-drafts-i.is c.in-Ok.ensures c.in-Ok-push.ensures.items c.stations.invariant
