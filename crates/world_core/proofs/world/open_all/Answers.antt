use Rattle.std.proofs.Common.{◌∷◌, [], ap, arith, length-append}
use Rattle.phys_proc.specs.Procs.{ProcView}
use Rattle.world_core.proofs.Opening.{first_push}
use Rattle.world_core.proofs.world.open_all.Goals as goal

pub loop-s-preserved : goal.loop-s-preserved
loop-s-preserved c =
    let n = c.loop-s.invariant.count in
    let p = c.in_ok-proc in
    let l = length-append c.loop-s.procs.items (p.proc ∷ []) in
    rw (c.in_ok-push.ensures.items, c.in_ok-of.ensures.same) (record {
      count = omega (arith, n, l);
      first = first_push c.args.model.now c.loop-s.procs.items p.proc c.loop-s.s n c.loop-s.invariant.first (record {
        station = record { proc = p.ensures.proc; number = ap (λ (q : ProcView). q.station) p.ensures.value };
        copies = ap (λ (q : ProcView). q.copies) p.ensures.value;
        living = ap (λ (q : ProcView). q.living) p.ensures.value;
        once = ap (λ (q : ProcView). q.handled) p.ensures.value;
      });
    })
