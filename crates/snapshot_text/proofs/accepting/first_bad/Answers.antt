use Rattle.std.proofs.Common.{rules, ℕ, ◌<◌, ◌^◌, length, refl, sym, ◌∙◌, get_or}
use Rattle.std.proofs.lemmas.List.{length-replicate, get_or-replicate}
use Rattle.sim_base.specs.declared.message.Msg.{Msg}
use Rattle.sim_base.specs.declared.message.Payload.TheVariants.{Tick}
use Rattle.net_model.specs.declared.limits.TheConstants.{MAX_STATIONS}
use Rattle.snapshot_text.proofs.Counting.{bad_here, bad_next, count_room, counts_next}
use Rattle.snapshot_text.proofs.accepting.first_bad.Goals as goal

-- the message that is read past the last one
abbrev no_message : Msg
no_message = record { key = record { time = 0; sender = 0; number = 0 }; to = 0; payload = Tick }

pub loop-index-init : goal.loop-index-init
loop-index-init c = record {
  same = refl;
  counts = record {
    stations = length-replicate {A = ℕ} MAX_STATIONS 0;
    each = λ s less. get_or-replicate {A = ℕ} MAX_STATIONS s 0 0 less;
  };
}

pub returns-then-not-may_be_due-clause-value : goal.returns-then-not-may_be_due-clause-value
returns-then-not-may_be_due-clause-value c =
    let l = c.loop-index in
    sym (l.invariant.same ∙ bad_here c.args.model.now c.args.front c.args.saved.now c.may_be_due.ensures.stations_max
    c.args.due.now l.index no_message c.loop-index-test.true l.counts l.invariant.counts l.last
    (sym c.may_be_due.ensures.value ∙ c.if-not-may_be_due.true))

pub count_completion-requires-clause-room : goal.count_completion-requires-clause-room
count_completion-requires-clause-room c =
    let l = c.loop-index in
    let station = c.may_be_due.ensures.station c.if-not-may_be_due.false in
    let small : length c.args.due.now < 2 ^ 64 = search rules in
    count_room c.args.model.now c.args.front c.args.saved.now c.may_be_due.ensures.stations_max
    c.args.due.now l.index no_message c.loop-index-test.true l.counts l.invariant.counts l.last
    (get_or c.args.due.now l.index no_message).to station.low
    (c.may_be_due.ensures.at_most c.if-not-may_be_due.false) small

pub loop-index-preserved : goal.loop-index-preserved
loop-index-preserved c =
    let l = c.loop-index in
    let few = c.may_be_due.ensures.stations_max in
    record {
      same = l.invariant.same ∙ bad_next c.args.model.now c.args.front c.args.saved.now few
          c.args.due.now l.index no_message c.loop-index-test.true l.counts l.invariant.counts l.last
          (sym c.may_be_due.ensures.value ∙ c.if-not-may_be_due.false);
      counts = counts_next c.args.model.now c.args.front c.args.saved.now few
          c.args.due.now l.index no_message c.loop-index-test.true l.counts l.invariant.counts l.last
          c.count_completion.new.counts c.count_completion.ensures.stations c.count_completion.ensures.counted;
    }
