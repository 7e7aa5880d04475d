use Rattle.std.proofs.Common.{ap, refl, Err, option_map}
use Rattle.command_words.specs.Requests.{RequestView, request_view}
use Rattle.cloner_top.specs.Answers.{success}
use Rattle.cloner_top.proofs.Endings.{no_fetches, overrun_is, unwritten, words_answer}
use Rattle.cloner_top.proofs.program.run_or_report.Goals as goal

pub returns-in-Err-clause-answer : goal.returns-in-Err-clause-answer
returns-in-Err-clause-answer g c =
    words_answer _ _ _ _ _ _ (λ is. ap (option_map (λ (r : RequestView). r.assignment))
    (c.in-Err.ensures.refused (ap Err is))) c.words_refused.ensures refl
    c.report_error.ensures.told refl refl c.report_error.ensures.status

pub returns-in-Err-clause-fetches : goal.returns-in-Err-clause-fetches
returns-in-Err-clause-fetches g c = no_fetches _ _ _ refl

pub returns-in-Ok-prepare_and_write-clause-answer : goal.returns-in-Ok-prepare_and_write-clause-answer
returns-in-Ok-prepare_and_write-clause-answer g c =
    success (request_view c.in-Ok.request).assignment
    (ap (option_map (λ (r : RequestView). r.assignment)) c.in-Ok.ensures.value) c.in-Ok-prepare_and_write.ensures.ok
    c.in-Ok-prepare_and_write.ensures.fetched.all refl

pub returns-in-Err-Refused-clause-answer : goal.returns-in-Err-Refused-clause-answer
returns-in-Err-Refused-clause-answer g c =
    unwritten _ _ _ (request_view c.in-Ok.request).assignment _ _
    (ap (option_map (λ (r : RequestView). r.assignment)) c.in-Ok.ensures.value)
    (rw c.in-Err-Refused.field-0-is at c.in-Err-Refused.ensures.err)
    c.report_error-in-Err-Refused.ensures.told c.report_error-in-Err-Refused.ensures.status

pub returns-in-Err-Overrun-clause-answer : goal.returns-in-Err-Overrun-clause-answer
returns-in-Err-Overrun-clause-answer g c =
    let halts = rw c.in-Err-Overrun.field-0-is at c.in-Err-Overrun.ensures.err in
    overrun_is _ _ _ (request_view c.in-Ok.request).assignment _ _ _
    (ap (option_map (λ (r : RequestView). r.assignment)) c.in-Ok.ensures.value) halts.0 halts.1
    (rw c.as_slice.ensures.value at c.report_limit.ensures.told)
    c.report_limit.ensures.status
