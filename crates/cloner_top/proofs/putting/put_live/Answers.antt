use Rattle.std.proofs.Common.{ap, ◌∙◌}
use Rattle.trace_writer.specs.WorldTraces.{WorldTracesView}
use Rattle.cloner_top.proofs.Puts.{first_not_put}
use Rattle.cloner_top.proofs.RunPuts.{journal_done}
use Rattle.cloner_top.proofs.putting.put_live.Goals as goal

pub returns-in-Ok-put_text : goal.returns-in-Ok-put_text
returns-in-Ok-put_text g c = record {
  done = journal_done _ _ _ _ _ c.in-Ok.ensures.ready.net_is
      (c.in-Ok.ensures.ready.clones_are ∙ ap (λ (v : WorldTracesView). v.clones) c.of.ensures.value) _ _ _
      c.in-Ok-put_text.ensures.done c.put_text.ensures.later _ c.put_prepared.ensures.done
      c.put_prepared.ensures.cause;
}

pub returns-in-Err-put_text : goal.returns-in-Err-put_text
returns-in-Err-put_text g c = record {
  done = first_not_put _ _ _ _ _ c.in-Err-put_text.ensures.done c.in-Err-put_text.ensures.cause;
}
