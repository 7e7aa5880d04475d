use Rattle.cloner_top.proofs.Preparing.{bad_script_text, no_script_text}
use Rattle.cloner_top.proofs.prepare.fetch_script.Goals as goal

pub returns-in-Err-clause-err : goal.returns-in-Err-clause-err
returns-in-Err-clause-err g c = no_script_text _ _ _ _ c.in-Err.ensures.err

pub returns-clause-err : goal.returns-clause-err
returns-clause-err g c =
    bad_script_text _ _ _ _ _ c.in-Ok.ensures.ok (rw c.as_slice.ensures.value at c.in-Err-read_script_text.ensures.err)
