use Rattle.cloner_top.proofs.Preparing.{fetched_two, no_fit, no_watch_decisions, no_watch_list, no_watch_script}
use Rattle.cloner_top.proofs.Preparing.{watch_fetched, watching_ready}
use Rattle.cloner_top.proofs.prepare.prepare_watch.Goals as goal

pub returns-in-Err-clause-err : goal.returns-in-Err-clause-err
returns-in-Err-clause-err g c =
    no_watch_script _ _ _ _ c.requires.watch c.requires.model _ c.in-Err.ensures.err

pub returns-in-Err-plan_study-clause-err : goal.returns-in-Err-plan_study-clause-err
returns-in-Err-plan_study-clause-err g c =
    no_watch_decisions _ _ _ _ c.requires.watch c.requires.model _ c.in-Ok.ensures.ok _
    c.in-Err-plan_study.ensures.err

pub returns-in-Err-fetch_text-clause-fetched : goal.returns-in-Err-fetch_text-clause-fetched
returns-in-Err-fetch_text-clause-fetched g c =
    fetched_two _ _ _ _ _ _ _ c.fetch_script.ensures.fetched c.fetch_text.ensures.fetched

pub returns-in-Err-read_watches_text-clause-err : goal.returns-in-Err-read_watches_text-clause-err
returns-in-Err-read_watches_text-clause-err g c =
    no_watch_list _ _ _ _ c.requires.watch c.requires.model _ c.in-Ok.ensures.ok _ c.in-Ok-plan_study.ensures.book _
    (rw c.fetch_script.ensures.fetched.same at c.in-Ok-fetch_text.ensures.ok) _
    (rw c.as_slice.ensures.value at c.in-Err-read_watches_text.ensures.err)

pub returns-in-Err-read_watches_text-clause-fetched : goal.returns-in-Err-read_watches_text-clause-fetched
returns-in-Err-read_watches_text-clause-fetched g c =
    fetched_two _ _ _ _ _ _ _ c.fetch_script.ensures.fetched c.fetch_text.ensures.fetched

pub returns-in-Ok-check_watches-clause-ok : goal.returns-in-Ok-check_watches-clause-ok
returns-in-Ok-check_watches-clause-ok g c =
    watching_ready (Unit {0}) _ _ _ c.requires.watch c.requires.model _ c.in-Ok.ensures.ok _
    c.in-Ok-plan_study.ensures.book _ (rw c.fetch_script.ensures.fetched.same at c.in-Ok-fetch_text.ensures.ok) _
    (rw c.as_slice.ensures.value at c.in-Ok-read_watches_text.ensures.ok) _ c.in-Ok-plan_study.ensures.model
    c.in-Ok-check_watches.ensures.ok

pub returns-in-Ok-check_watches-clause-fetched : goal.returns-in-Ok-check_watches-clause-fetched
returns-in-Ok-check_watches-clause-fetched g c =
    watch_fetched _ c.requires.watch _ _ _ _ c.fetch_script.ensures.fetched c.fetch_text.ensures.fetched

pub returns-clause-err : goal.returns-clause-err
returns-clause-err g c =
    no_fit _ _ _ _ c.requires.watch c.requires.model _ c.in-Ok.ensures.ok _ c.in-Ok-plan_study.ensures.book _
    (rw c.fetch_script.ensures.fetched.same at c.in-Ok-fetch_text.ensures.ok) _
    (rw c.as_slice.ensures.value at c.in-Ok-read_watches_text.ensures.ok) _ c.in-Ok-plan_study.ensures.model _
    c.in-Err-check_watches.ensures.err

pub returns-clause-fetched : goal.returns-clause-fetched
returns-clause-fetched g c = fetched_two _ _ _ _ _ _ _ c.fetch_script.ensures.fetched c.fetch_text.ensures.fetched
