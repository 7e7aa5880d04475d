use Rattle.std.proofs.Common.{◌∙◌, ap, sym}
use Rattle.sim_base.specs.Order.{msg_cmp}
use Rattle.run_laws.specs.Queue.{insert}
use Rattle.solo_run.proofs.Firsts.{replaced}
use Rattle.solo_run.proofs.event_list.EventList.replace_first.Goals as goal

pub returns-in_ok-insert-in-Some-Some : goal.returns-in_ok-insert-in-Some-Some
returns-in_ok-insert-in-Some-Some c = record {
  ok = replaced c.args.self.now.heap c.args.self.now.wide c.insert.new.self c.in-Some-Some.own c.in-Some-Some.link
      c.args.sends c.requires.first.packed c.requires.first.sorted
      (sym c.get.ensures.value ∙ c.in-Some-Some.is-0) (sym c.get-2.ensures.value ∙ c.in-Some-Some.is-1)
      (c.in_ok-insert-in-Some-Some.ensures.ok
      ∙ ap (insert msg_cmp c.in-Some-Some.link) c.replace_first.ensures.value);
}
