use Rattle.std.proofs.Common.{◌≡◌, ◌<◌, Some, sym, subst, rules}
use Rattle.net_model.specs.Net.{site_at}
use Rattle.net_model.specs.Sites.{as_site}
use Rattle.net_model.specs.declared.limits.TheConstants.{MAX_LIMIT}
use Rattle.stations.specs.Fits.{SuitsNet}
use Rattle.stations.specs.Handling.{StateView}
use Rattle.stations.specs.Quick.{IsQuick}
use Rattle.stations.proofs.QuickLaws.{links_of-suits, handled_quick}
use Rattle.stations.proofs.state.handle_quick.Goals as goal

pub kind_quick-requires-clause-links : goal.kind_quick-requires-clause-links
kind_quick-requires-clause-links g c =
    let st : StateView = record {
      sender = c.state.inside.sender;
      handled = c.state.inside.handled;
      kind = c.state.inside.kind;
    } in
    let back : c.args.state.now ≡ st = sym c.state.view_is in
    links_of-suits c.args.model.now st (as_site c.args.site.now) c.lookahead-valid.ensures.valid
    (subst (SuitsNet c.args.model.now) back c.requires.suits)
    (subst (λ (s : StateView). site_at c.args.model.now s.sender.station ≡ Some (as_site c.args.site.now)) back
    c.requires.site)

pub packed_line-requires : goal.packed_line-requires
packed_line-requires g c =
    let st : StateView = record {
      sender = c.state.inside.sender;
      handled = c.state.inside.handled;
      kind = c.state.inside.kind;
    } in
    let back : c.args.state.now ≡ st = sym c.state.view_is in
    let q = handled_quick c.args.model.now st c.args.msg (as_site c.args.site.now) c.time.result c.args.content
    c.in_ok-sends.sends c.kind_quick.new.sender c.kind_quick.new.kind c.lookahead-valid.ensures.valid c.state.invariant
    (subst (SuitsNet c.args.model.now) back c.requires.suits)
    (subst (λ (s : StateView). site_at c.args.model.now s.sender.station ≡ Some (as_site c.args.site.now)) back
    c.requires.site) c.time.ensures.value c.requires.content c.requires.time_max
    (subst (λ (s : StateView). s.handled < MAX_LIMIT) back c.requires.below)
    (subst (IsQuick 1) back c.requires.quick) c.recall_short.ensures c.in_ok-sends.ensures.ok in
    record { fits = q.line }

pub invariant_of-state-2 : goal.invariant_of-state-2
invariant_of-state-2 g c =
    let st : StateView = record {
      sender = c.state.inside.sender;
      handled = c.state.inside.handled;
      kind = c.state.inside.kind;
    } in
    let back : c.args.state.now ≡ st = sym c.state.view_is in
    let q = handled_quick c.args.model.now st c.args.msg (as_site c.args.site.now) c.time.result c.args.content
    c.in_ok-sends.sends c.kind_quick.new.sender c.kind_quick.new.kind c.lookahead-valid.ensures.valid c.state.invariant
    (subst (SuitsNet c.args.model.now) back c.requires.suits)
    (subst (λ (s : StateView). site_at c.args.model.now s.sender.station ≡ Some (as_site c.args.site.now)) back
    c.requires.site) c.time.ensures.value c.requires.content c.requires.time_max
    (subst (λ (s : StateView). s.handled < MAX_LIMIT) back c.requires.below)
    (subst (IsQuick 1) back c.requires.quick) c.recall_short.ensures c.in_ok-sends.ensures.ok in
    q.fits

pub returns : goal.returns
returns g c =
    let st : StateView = record {
      sender = c.state.inside.sender;
      handled = c.state.inside.handled;
      kind = c.state.inside.kind;
    } in
    let back : c.args.state.now ≡ st = sym c.state.view_is in
    let q = handled_quick c.args.model.now st c.args.msg (as_site c.args.site.now) c.time.result c.args.content
    c.in_ok-sends.sends c.kind_quick.new.sender c.kind_quick.new.kind c.lookahead-valid.ensures.valid c.state.invariant
    (subst (SuitsNet c.args.model.now) back c.requires.suits)
    (subst (λ (s : StateView). site_at c.args.model.now s.sender.station ≡ Some (as_site c.args.site.now)) back
    c.requires.site) c.time.ensures.value c.requires.content c.requires.time_max
    (subst (λ (s : StateView). s.handled < MAX_LIMIT) back c.requires.below)
    (subst (IsQuick 1) back c.requires.quick) c.recall_short.ensures c.in_ok-sends.ensures.ok in
    record {
      ok = rw (← c.state.view_is, c.packed_line.ensures) q.is;
      sends = rw (← c.state.view_is) q.sends;
      next = rw (← c.state.view_is) q.next;
      quick = rw (← c.state.view_is) q.quick;
      suits = q.suits;
      fits = q.fits;
      own = rw (← c.state.view_is) q.station;
      one_more = search rules;
      counted = search rules;
      err = search rules;
      uncounted = search rules;
    }
