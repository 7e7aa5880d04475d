use Rattle.std.proofs.Common.{◌<◌, ◌∙◌, ap, arith, length, subst, sym}
use Rattle.std.proofs.lemmas.Result.{IfErr-weaker, IfOk-weaker}
use Rattle.net_model.specs.Net.{Net}
use Rattle.decision_desk.specs.Desks.{desk_id}
use Rattle.decision_desk.specs.Passes.{HelmView}
use Rattle.world_core.specs.Worlds.{WorldView}
use Rattle.live_study.specs.Engines.{StopsEngine}
use Rattle.live_study.specs.Lives.{AreTrueLooks, IsAtHorizon, all_looks}
use Rattle.live_study.specs.Looks.{AreLooks}
use Rattle.live_study.proofs.Begun.{begins_in_step, many_analysts}
use Rattle.live_study.proofs.Preparing.{all_parts, each_ready, enough_reserved, helm_net, journal_is, little_todo}
use Rattle.live_study.proofs.Preparing.{made_are, many_passes, may_begin, shown_first}
use Rattle.live_study.proofs.Working.{first_handled, ticked_if_finished, unticked_if_stopped}
use Rattle.live_study.proofs.study.run_prepared.Goals as goal

-- ---- take_seats

pub take_seats-requires-clause-opening : goal.take_seats-requires-clause-opening
take_seats-requires-clause-opening g c =
    may_begin c.args.model.now (length c.args.script.now.analysts) c.args.prepared c.requires.prepared

pub take_seats-requires-clause-at_most : goal.take_seats-requires-clause-at_most
take_seats-requires-clause-at_most g c =
    omega (arith, c.requires.prepared.racks.many_is, c.len-stations.ensures.valid.at_most)

pub take_seats-requires-clause-many : goal.take_seats-requires-clause-many
take_seats-requires-clause-many g c =
    many_passes c.args.model.now (length c.args.script.now.analysts) c.args.prepared c.requires.prepared

-- ---- run_live

pub run_live-live-requires-clause-may_drive : goal.run_live-live-requires-clause-may_drive
run_live-live-requires-clause-may_drive g c κs within =
    let p = c.args.prepared in
    let of = c.requires.prepared in
    record {
      desk = ap (λ (h : HelmView). h.desk) of.helm;
      in_step = begins_in_step (desk_id p.desk) c.args.model.now (length c.args.script.now.analysts) p.helm
          p.world of.helm of.world;
      shown = shown_first c.args.model.now (length c.args.script.now.analysts) p _ of c.in_ok-stocker.ensures.published;
      below_horizon = subst (λ (w : WorldView). w.front < w.net.horizon) (sym of.world)
          (let valid = c.len-stations.ensures.valid.horizon in omega (arith, valid));
    }

pub run_live-live-requires-clause-net : goal.run_live-live-requires-clause-net
run_live-live-requires-clause-net g c κs within =
    helm_net c.args.model.now (length c.args.script.now.analysts) c.args.prepared c.requires.prepared

pub run_live-live-requires-clause-parts : goal.run_live-live-requires-clause-parts
run_live-live-requires-clause-parts g c κs within =
    all_parts c.args.model.now (length c.args.script.now.analysts) c.args.prepared c.in_ok-stocker.seated.items
    c.requires.prepared c.analysts-valid.ensures.valid.few_analysts c.in_ok-stocker.ensures.passes

pub run_live-live-requires-clause-ready : goal.run_live-live-requires-clause-ready
run_live-live-requires-clause-ready g c κs within k d less =
    each_ready c.args.model.now (length c.args.script.now.analysts) c.args.prepared c.in_ok-stocker.seated.items
    c.requires.prepared c.in_ok-stocker.ensures.passes
    c.in_ok-stocker.ensures.fresh k d less

pub run_live-live-requires-clause-at_most : goal.run_live-live-requires-clause-at_most
run_live-live-requires-clause-at_most g c κs within =
    little_todo c.args.model.now c.args.script.now c.args.prepared c.in_ok-stocker.seated.items c.requires.prepared
    c.analysts-valid.ensures.valid.few_items c.in_ok-stocker.ensures.todo

pub run_live-live-requires-clause-readers : goal.run_live-live-requires-clause-readers
run_live-live-requires-clause-readers g c κs within =
    let of = c.requires.prepared in
    c.in_ok-stocker.ensures.readers
    ∙ sym (many_analysts (desk_id c.args.prepared.desk) c.args.model.now (length c.args.script.now.analysts)
    c.args.prepared.passes.items c.in_ok-stocker.seated.items c.in_ok-stocker.ensures.passes of.passes)

pub run_live-live-requires-clause-reserve : goal.run_live-live-requires-clause-reserve
run_live-live-requires-clause-reserve g c κs within =
    enough_reserved c.args.model.now (length c.args.script.now.analysts) c.args.prepared c.in_ok-stocker.seated.items
    c.requires.prepared c.in_ok-stocker.ensures.passes

pub run_live-live-requires-clause-first : goal.run_live-live-requires-clause-first
run_live-live-requires-clause-first g c κs within =
    first_handled c.args.model.now c.args.prepared.world c.requires.prepared.world

-- ---- the live run

pub returns : goal.returns
returns g c =
    let net = c.args.model.now in
    let script = c.args.script.now in
    let p = c.args.prepared in
    let of = c.requires.prepared in
    let seated = c.in_ok-stocker.seated.items in
    let s = c.in_ok-stocker.ensures in
    let r = c.run_live-live.result.0 in
    let own = helm_net net (length script.analysts) p of in
    let made = made_are net script p seated r.looks.items of s.numbers s.todo c.run_live-live.ensures.made
    c.run_live-live.ensures.seen in
    record {
      live_run = record {
        journal = journal_is net script p seated r.book of s.passes s.todo c.run_live-live.ensures.asked;
        made = made;
        looks = IfOk-weaker r.run (λ w. AreTrueLooks p.helm.net r.book.events r.looks.items)
            (λ w. AreLooks net script r.book.events (all_looks r.looks.items))
            (λ w told. record {
              made = made;
              true_ones = subst (λ (n : Net). AreTrueLooks n r.book.events r.looks.items) own told;
            }) c.run_live-live.ensures.looked;
        finished = IfOk-weaker r.run (IsAtHorizon p.helm.net r.book) (IsAtHorizon net r.book)
            (λ w. subst (λ (n : Net). IsAtHorizon n r.book w) own) c.run_live-live.ensures.finished;
        stopped = IfErr-weaker r.run (StopsEngine p.helm.net r.book.events) (StopsEngine net r.book.events)
            (λ e. subst (λ (n : Net). StopsEngine n r.book.events e) own) c.run_live-live.ensures.stopped;
      };
      steps = ticked_if_finished r.run _ _ _ _ c.run_live-live.ensures.counted c.tick_often.ensures.value;
      unchanged = tt;
      idle = unticked_if_stopped r.run _ _ _ _ c.run_live-live.ensures.counted c.tick_often.ensures.value;
    }
