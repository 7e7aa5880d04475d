use Rattle.cloner_top.proofs.live.run_and_journal.Goals as goal

pub live_journal_text-requires-clause-journal : goal.live_journal_text-requires-clause-journal
live_journal_text-requires-clause-journal g c =
    (c.args.study.now.model.value, c.in_ok-live.ensures.live_run.journal)

pub live_journal_text-requires-clause-made : goal.live_journal_text-requires-clause-made
live_journal_text-requires-clause-made g c = c.in_ok-live.ensures.live_run.made.made

pub returns : goal.returns
returns g c =
    let run = c.in_ok-live.ensures in
    record {
      ran = record {
        live_run = run.live_run;
        steps = run.steps;
        idle = run.idle;
        text_is = c.in_ok-journal.ensures.value;
      };
    }
