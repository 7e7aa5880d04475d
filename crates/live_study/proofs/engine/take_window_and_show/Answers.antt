use Rattle.std.proofs.Common.{◌∙◌, sym}
use Rattle.live_study.proofs.Publishing.{at_raised, round_begins}
use Rattle.live_study.proofs.engine.take_window_and_show.Goals as goal

pub show-requires : goal.show-requires
show-requires g c =
    let old = c.args.engine.now.helm in
    let new = c.take_window.new.helm in
    let w = c.in_ok-world.world in
    let e = c.in_ok-world.ensures in
    let net = c.take_window.ensures.steers.net in
    record {
      may_show = record {
        net = e.in_step.net;
        at = at_raised old new w e.raises e.in_step;
        shown = round_begins old new c.args.world w c.args.engine.now.stocker.stock.published c.requires.shown net
            e.raises (e.in_step.net ∙ net ∙ sym c.requires.may_turn.in_step.net) e.rises;
      };
    }
