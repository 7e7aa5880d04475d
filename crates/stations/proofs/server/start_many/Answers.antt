use Rattle.std.proofs.Common.{◌+◌, ◌-◌, sym, ◌∙◌, ap, subst, arith}
use Rattle.net_model.specs.Sites.{as_site}
use Rattle.stations.specs.Sending.{outgoing, reaction}
use Rattle.stations.specs.Servers.{start_times}
use Rattle.stations.proofs.Starting.{IsOneMore, start_next-one, start_times-more}
use Rattle.stations.proofs.server.start_many.Goals as goal

pub starts-preserved : goal.starts-preserved
starts-preserved c =
    let net = c.args.model.now in
    let site = as_site c.args.station.now in
    let before = reaction c.starts.server (outgoing c.starts.sender c.starts.out.items) in
    let after = reaction c.start_next.new.server (outgoing c.start_next.new.sender c.start_next.new.out.items) in
    let one : IsOneMore before after =
    subst (IsOneMore before) c.start_next.ensures (start_next-one net site c.args.now before.state before.out) in
    let more = start_times-more net site c.args.now c.args.times c.starts.counter before c.starts-test.true in
    let inv = c.starts.invariant in
    record {
      rest = ap (start_times (c.args.times - (c.starts.counter + 1)) net site c.args.now) (sym c.start_next.ensures)
          ∙ (sym more ∙ inv.rest);
      sent = omega (arith, one.sends, inv.sent);
      next = omega (arith, one.next, inv.next);
      draws = omega (arith, one.draws, inv.draws);
      lo = one.lo ∙ inv.lo;
      hi = one.hi ∙ inv.hi;
    }
