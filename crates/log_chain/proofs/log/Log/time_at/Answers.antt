use Rattle.std.proofs.Common.{ap, ◌∙◌}
use Rattle.std.specs.Prelude.{option_map, slice_get}
use Rattle.sim_base.specs.declared.entry.Entry.{Entry}
use Rattle.sim_base.specs.declared.entry.Line.{Line}
use Rattle.sim_base.specs.declared.message.Msg.{Msg}
use Rattle.std.specs.Prelude.{List}
use Rattle.log_chain.proofs.Timing.{times_of-at}
use Rattle.log_chain.proofs.log.Log.time_at.Goals as goal

pub returns : goal.returns
returns c =
    let key = λ (w : List (Entry Msg Line)). option_map (λ (e : Entry Msg Line). e.msg.key) (slice_get w 0) in
    record {
      value = times_of-at c.args.self.now c.args.i c.in-Some.key c.requires.in_range
          (c.in-Some.ensures.value ∙ ap key c.walk_from.ensures.value);
    }
