use Rattle.std.proofs.lemmas.Result.{on_ok_weaker}
use Rattle.command_words.specs.Requests.{request_view}
use Rattle.cloner_top.specs.Answers.{IsLawfulEnding}
use Rattle.cloner_top.specs.Prepared.{MayEndFrom}
use Rattle.cloner_top.proofs.Endings.{finished_on, if_ok, prepared_halted, unprepared}
use Rattle.cloner_top.proofs.program.prepare_and_write.Goals as goal

pub returns-in-Ok-clause-ok : goal.returns-in-Ok-clause-ok
returns-in-Ok-clause-ok g c =
    on_ok_weaker _ (finished_on (MayEndFrom c.in-Ok.prepared)
    (IsLawfulEnding _ (request_view c.args.request.now).assignment) c.in-Ok.ensures.ok _ _ _ _)
    c.write_prepared.ensures.ok

pub returns-in-Ok-clause-err : goal.returns-in-Ok-clause-err
returns-in-Ok-clause-err g c =
    prepared_halted (MayEndFrom c.in-Ok.prepared) _ _ (request_view c.args.request.now).assignment c.in-Ok.ensures.ok
    _ _ _ _ _ c.write_prepared.ensures.err

pub returns-in-Ok-clause-fetched : goal.returns-in-Ok-clause-fetched
returns-in-Ok-clause-fetched g c =
    record {
      later = c.prepare.ensures.fetched.later;
      same = c.prepare.ensures.fetched.same;
      all = if_ok _ c.in-Ok.ensures.fetched.all;
      at_most = c.prepare.ensures.fetched.at_most;
    }

pub returns-in-Err-clause-err : goal.returns-in-Err-clause-err
returns-in-Err-clause-err g c =
    unprepared _ _ (request_view c.args.request.now).assignment _ _ _ c.in-Err.ensures.err
