use Rattle.std.proofs.Common.{arith}
use Rattle.run_laws.proofs.Running.{run_reach, run_is, run_on, run_late, fine_if_ready}
use Rattle.run_laws.proofs.laws.turns_make_the_run.Goals as goal

pub returns-clause-reached : goal.returns-clause-reached
returns-clause-reached g c = λ bound d ready.
    let machine = g.T.Machine in
    let h = run_reach machine.timed machine.lawful bound bound d (omega arith)
    (fine_if_ready machine.timed machine.lawful d ready) in
    (h.0, h.1.from_t)

pub returns-clause-determined : goal.returns-clause-determined
returns-clause-determined g c = λ bound d e ready r done.
    let machine = g.T.Machine in
    run_is machine.timed machine.lawful bound d e (fine_if_ready machine.timed machine.lawful d ready) r done

pub returns-clause-goes_on : goal.returns-clause-goes_on
returns-clause-goes_on g c = λ front bound d ready l.
    let machine = g.T.Machine in
    run_on machine.timed machine.lawful front bound d l (fine_if_ready machine.timed machine.lawful d ready)

pub returns-clause-late : goal.returns-clause-late
returns-clause-late g c = λ bound d m ready l.
    let machine = g.T.Machine in
    run_late machine.timed machine.lawful bound d m l (fine_if_ready machine.timed machine.lawful d ready)
