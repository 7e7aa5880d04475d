use Rattle.std.proofs.Common.{ap, ◌∙◌}
use Rattle.trace_writer.specs.WorldTraces.{WorldTracesView}
use Rattle.cloner_top.proofs.RunPuts.{line_done, run_not_put, run_texts_same}
use Rattle.cloner_top.proofs.putting.put_linked.Goals as goal

pub returns-in-Ok-put_prepared : goal.returns-in-Ok-put_prepared
returns-in-Ok-put_prepared g c =
    let line = c.as_bytes.ensures.value ∙ (c.text.ensures ∙ c.line_of_rounds-line.ensures) in
    let ready = c.in-Ok.ensures.ready in
    let clones = ready.clones_are ∙ ap (λ (v : WorldTracesView). v.clones) c.of.ensures.value in
    let texts = run_texts_same _ _ _ _ ready.net_is clones in
    record {
      done = line_done _ _ _ _ _ (rw texts at c.in-Ok-put_prepared.ensures.done) c.put_prepared.ensures.later _
          (rw line at c.put_text.ensures.done) c.put_text.ensures.cause;
    }

pub returns-in-Err-put_prepared : goal.returns-in-Err-put_prepared
returns-in-Err-put_prepared g c =
    let ready = c.in-Ok.ensures.ready in
    let clones = ready.clones_are ∙ ap (λ (v : WorldTracesView). v.clones) c.of.ensures.value in
    let texts = run_texts_same _ _ _ _ ready.net_is clones in
    record {
      done = run_not_put _ _ _ _ _ (rw texts at c.in-Err-put_prepared.ensures.done)
          c.in-Err-put_prepared.ensures.cause;
    }
