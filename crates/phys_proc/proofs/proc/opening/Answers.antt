use Rattle.std.proofs.Common.{ap, sym, ◌∙◌}
use Rattle.run_laws.specs.Copies.{first_pending}
use Rattle.copy_pending.specs.Merged.{messages_of}
use Rattle.phys_proc.proofs.Opening.{first_fits}
use Rattle.phys_proc.proofs.proc.opening.Goals as goal

pub returns-clause-fits : goal.returns-clause-fits
returns-clause-fits c =
    let st = c.in_ok-state.state in
    let p = c.in_ok-pending.ensures in
    let f = first_fits c.args.model.now c.horizon-horizon.ensures.valid c.args.station c.requires.is_station
    st c.in_ok-state.first c.in_ok-state.ensures.opened c.in_ok-pending.pending.set
    (messages_of c.in_ok-pending.pending) (p.set ∙ c.one-set.ensures.value)
    (p.first ∙ ap (λ k. first_pending k c.in_ok-state.first) (sym p.set))
    c.in_ok-state.ensures.fits c.in_ok-state.ensures.suits c.in_ok-state.ensures.own c.in_ok-state.ensures.fresh in
    rw (c.in_ok-put.ensures.more, c.none-copies.ensures.none, c.new.ensures.value) (f, tt)
