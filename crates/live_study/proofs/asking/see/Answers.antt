use Rattle.std.proofs.Common.{sym, subst, ◌∙◌}
use Rattle.journal_text.specs.declared.looked.Looked.{Looked}
use Rattle.live_study.specs.Looks.{HasRacks}
use Rattle.decision_book.proofs.Planned.{station_named-low}
use Rattle.live_study.proofs.Doing.{none_later, racks_later, seen_later}
use Rattle.live_study.proofs.asking.see.Goals as goal
use Rattle.live_study.proofs.asking.see.Goals.{in-Some, in-None}

pub returns-clause-has_rack : goal.returns-clause-has_rack
returns-clause-has_rack g c =
    let net = c.args.model.now in
    elim c.match-find.branch [
      | in-Some w ↦ subst (HasRacks net) (sym w.seat-is)
          (racks_later net c.args.seat.now w.look.new.self w.look.ensures.begins c.requires.has_rack)
      | in-None w ↦ subst (HasRacks net) (sym w.seat-is) c.requires.has_rack
    ]

pub returns-clause-later : goal.returns-clause-later
returns-clause-later g c l read =
    let net = c.args.model.now in
    let seen : Looked = record {
      analyst = c.args.number;
      who = c.args.who;
      station = c.args.station;
      glance = c.match-find.glance;
    } in
    elim c.match-find.branch [
      | in-Some w ↦ (let is = w.look.ensures.glance in
          seen_later net c.args.seat.now w.look.new.self l seen w.look.result w.in-Some.s is.0 w.look.ensures.begins
          w.look.ensures.legal read w.glance-is (sym c.find.ensures.value ∙ w.in-Some.is) is.1 is.2)
      | in-None w ↦ none_later l seen w.glance-is
    ]

pub look-requires : goal.look-requires
look-requires g c =
    let s = c.in-Some.s in
    record {
      has_rack = c.requires.has_rack s (record {
        low = station_named-low c.args.station c.args.model.now s (sym c.find.ensures.value ∙ c.in-Some.is);
        high = c.in-Some.ensures.in_range;
      });
    }
