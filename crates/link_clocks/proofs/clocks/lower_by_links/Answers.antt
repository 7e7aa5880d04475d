use Rattle.std.proofs.Common.{◌≡◌, ◌+◌, ◌≤◌, length, List, [], ◌∷◌, ◌++◌, take, subst, sym, get_or, ap, ◌∙◌, slice_set}
use Rattle.std.proofs.Common.{◌-◌}
use Rattle.std.proofs.lemmas.List.{take_more}
use Rattle.sim_base.proofs.ListLaws.{all_at}
use Rattle.net_model.specs.declared.station.Link.{Link}
use Rattle.net_model.specs.declared.limits.TheConstants.{MAX_TIME}
use Rattle.link_clocks.specs.NetClocks.{AreLowered}
use Rattle.link_clocks.proofs.Lowering.{lowered_more}
use Rattle.link_clocks.proofs.clocks.lower_by_links.Goals as goal
use Rattle.link_clocks.proofs.clocks.lower_by_links.Goals.{then-link-x, else-link-x}

pub loop-link-preserved : goal.loop-link-preserved
loop-link-preserved c =
    let links : List Link = c.args.links.now in
    let k = c.loop-link.link-index in
    let l : Link = get_or links k (record { to = 0; delay = 0; weight = 0 }) in
    let one : take (k + 1) links ≡ take k links ++ l ∷ [] =
    take_more links k (record { to = 0; delay = 0; weight = 0 }) c.loop-link-test.true in
    let here = all_at (λ (l : Link). (1 ≤ l.to) × (l.to ≤ length c.args.bounds.now) × (l.delay ≤ MAX_TIME)) links k
    (record { to = 0; delay = 0; weight = 0 }) c.requires.links c.loop-link-test.true in
    subst (λ ls. AreLowered ls c.args.x c.args.time c.args.bounds.now c.if-link-x.bounds) (sym one)
    (lowered_more (take k links) l c.args.x c.args.time c.args.bounds.now c.loop-link.bounds c.if-link-x.bounds here.0
    here.1
    c.loop-link.invariant
    (elim c.if-link-x.branch [
      | then-link-x w ↦ let n = w.if-link-x.true in record {
        long = c.if-link-x.auto.bounds;
        own = λ e. absurd (n e);
        other = λ m. w.bounds-is ∙ ap (λ v. slice_set c.loop-link.bounds (l.to - 1) v) w.min.ensures;
      }
      | else-link-x w ↦ let e = w.if-link-x.false in record {
        long = c.if-link-x.auto.bounds;
        own = λ d. w.bounds-is;
        other = λ m. absurd (m e);
      }
    ]))
