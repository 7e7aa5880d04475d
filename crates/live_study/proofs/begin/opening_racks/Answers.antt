use Rattle.std.proofs.Common.{◌∙◌, ap, arith, length}
use Rattle.net_model.specs.Net.{Net}
use Rattle.world_core.specs.Worlds.{WorldView}
use Rattle.live_study.proofs.Beginning.{opening_more}
use Rattle.live_study.proofs.begin.opening_racks.Goals as goal

pub loop-s-preserved : goal.loop-s-preserved
loop-s-preserved c =
    let inv = c.loop-s.invariant in
    let w = c.args.world.now in
    let is = c.in_ok-rack.ensures in
    let sites = ap (λ (n : Net). length n.sites) c.model.ensures.value in
    record {
      within = omega (arith, c.loop-s-test.true, c.len-many.ensures.value, sites);
      same = c.rack.ensures.same ∙ inv.same;
      opening = opening_more w c.loop-s.s c.loop-s.racks.items _ c.in_ok-rack.field-0 c.in_ok-push.ensures.items
          inv.opening (record {
            net = is.net ∙ ap (λ (x : WorldView). x.net) inv.same;
            clones = is.clones ∙ ap (λ (x : WorldView). x.clones) inv.same;
            front = is.front ∙ ap (λ (x : WorldView). x.front) inv.same;
          }) is.station;
    }
