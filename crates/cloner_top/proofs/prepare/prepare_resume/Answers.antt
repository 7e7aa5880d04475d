use Rattle.std.proofs.Common.{refl}
use Rattle.cloner_top.proofs.Preparing.{bad_snapshot_text, no_snapshot_text, resuming_ready}
use Rattle.cloner_top.proofs.prepare.prepare_resume.Goals as goal

pub returns-in-Err-clause-err : goal.returns-in-Err-clause-err
returns-in-Err-clause-err g c =
    no_snapshot_text _ _ _ _ c.requires.resume c.requires.model _ c.in-Err.ensures.err

pub returns-in-Ok-read_snapshot_text-clause-ok : goal.returns-in-Ok-read_snapshot_text-clause-ok
returns-in-Ok-read_snapshot_text-clause-ok g c =
    resuming_ready (Unit {0}) _ _ _ c.requires.resume c.requires.model _ c.in-Ok.ensures.ok _ refl _
    (rw (c.as_slice.ensures.value, c.deref.ensures) at c.in-Ok-read_snapshot_text.ensures.ok)

pub returns-in-Err-read_snapshot_text-clause-err : goal.returns-in-Err-read_snapshot_text-clause-err
returns-in-Err-read_snapshot_text-clause-err g c =
    bad_snapshot_text _ _ _ _ c.requires.resume c.requires.model _ c.in-Ok.ensures.ok _ c.deref.ensures _
    (rw c.as_slice.ensures.value at c.in-Err-read_snapshot_text.ensures.err)
