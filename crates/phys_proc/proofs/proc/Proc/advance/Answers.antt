use Rattle.std.proofs.Common.{◌+◌, ◌≤◌, ◌*◌, arith, ap, sym, subst, ◌∙◌, eq-eqb, eqb-true}
use Rattle.std.proofs.lemmas.Nat.{mul-le}
use Rattle.sim_base.specs.declared.lists.TheConstants.{MAX_CLONES}
use Rattle.clone_sets.specs.Sets.{has, size, empty}
use Rattle.net_model.specs.declared.limits.TheConstants.{MAX_LIMIT}
use Rattle.stations.specs.Runs.{simulation}
use Rattle.run_laws.specs.Copies.{IsStepped, AreOver, GainTogether}
use Rattle.phys_proc.specs.Own.{all_sizes}
use Rattle.phys_proc.specs.Procs.{ProcView, IsProc, KeepsShares}
use Rattle.phys_proc.specs.declared.advancing.StepOutput.{StepOutput}
use Rattle.phys_proc.specs.Ends.{ends_in}
use Rattle.phys_proc.proofs.AllCopies.{all_stepped, all_over, all_gained, all_few, all_shared}
use Rattle.phys_proc.proofs.Shares.{few_members, few_clones, sizes_are, shares_after, few_handled}
use Rattle.phys_proc.proofs.proc.Proc.advance.Goals.{then-is_empty, else-is_empty}
use Rattle.phys_proc.proofs.proc.Proc.advance.Goals as goal

-- ---- step_copies

pub step_copies-stepped-requires-clause-may_step : goal.step_copies-stepped-requires-clause-may_step
step_copies-stepped-requires-clause-may_step g c =
    let net = c.args.model.now in
    let i = c.self.inside in
    let h = subst (IsProc net) (sym c.self.view_is) c.requires.proc in
    record {
      valid = h.valid;
      fits = h.copies;
      disjoint = c.self.invariant.shares.disjoint;
      time_max = c.requires.time_max;
      at_most = few_clones i.living i.copies c.self.invariant.shares
          (few_members i.living c.len-clones.result c.len-clones.ensures.value c.len-clones.ensures.members);
    }

-- ---- no log over the limit

pub overflow_add-self : goal.overflow_add-self
overflow_add-self g c =
    let net = c.args.model.now in
    let ends = ends_in net.horizon c.args.ends.now in
    let i = c.self.inside in
    let h = subst (IsProc net) (sym c.self.view_is) c.requires.proc in
    let st = c.step_copies-stepped.new.stage in
    let done = c.step_copies-stepped.new.copies in
    let steps = c.step_copies-stepped.new.steps in
    let far = c.in_default.ensures.stepped in
    let stage = c.deref_mut-3.ensures.value in
    let handled = c.gain_of-gain.ensures.handled ∙ ap (λ (u : StepOutput). u.handled) stage in
    let sizes = few_clones i.living i.copies c.self.invariant.shares
    (few_members i.living c.len-clones.result c.len-clones.ensures.value c.len-clones.ensures.members) in
    let a = few_handled net i.station i.handled i.copies h.copies sizes h.valid.limit_max c.self.invariant.once in
    let b = all_few net h.valid i.station ends c.args.bound i.copies done st.sent st.over c.args.steps.now steps
    h.copies far st.handled c.in_default.ensures.handled in
    let m = mul-le (all_sizes i.copies) net.limit MAX_CLONES MAX_LIMIT sizes h.valid.limit_max in
    omega (arith, a, b, m, handled)

pub invariant_of-self-then-is_empty : goal.invariant_of-self-then-is_empty
invariant_of-self-then-is_empty g c =
    let net = c.args.model.now in
    let ends = ends_in net.horizon c.args.ends.now in
    let i = c.self.inside in
    let h = subst (IsProc net) (sym c.self.view_is) c.requires.proc in
    let st = c.step_copies-stepped.new.stage in
    let done = c.step_copies-stepped.new.copies in
    let steps = c.step_copies-stepped.new.steps in
    let far = c.in_default.ensures.stepped in
    let stage = c.deref_mut-3.ensures.value in
    let handled = c.gain_of-gain.ensures.handled ∙ ap (λ (u : StepOutput). u.handled) stage in
    let over = c.gain_of-gain.ensures.over ∙ ap (λ (u : StepOutput). u.over) stage in
    let none = sym over ∙ eqb-true c.gain_of-gain.result.over empty (sym c.if-is_empty.ensures.value) in
    subst (λ n. KeepsShares (record { station = i.station; living = i.living; handled = i.handled + n; copies = done }))
    (sym handled)
    (shares_after net i.station ends c.args.bound i.copies done st.sent
    (all_stepped net h.valid i.station ends c.args.bound i.copies done st.sent st.over c.args.steps.now steps h.copies
    far none) i.living i.handled st.handled c.self.invariant.shares.together c.self.invariant.once
    (all_shared net h.valid i.station ends c.args.bound i.copies done st.sent st.over c.args.steps.now steps h.copies
    far st.handled c.in_default.ensures.handled none))

-- ---- the result

pub returns-clause-windows : goal.returns-clause-windows
returns-clause-windows g c =
    let net = c.args.model.now in
    let ends = ends_in net.horizon c.args.ends.now in
    let i = c.self.inside in
    let h = subst (IsProc net) (sym c.self.view_is) c.requires.proc in
    let st = c.step_copies-stepped.new.stage in
    let done = c.step_copies-stepped.new.copies in
    let steps = c.step_copies-stepped.new.steps in
    let far = c.in_default.ensures.stepped in
    let stage = c.deref_mut-3.ensures.value in
    let over = c.gain_of-gain.ensures.over ∙ ap (λ (u : StepOutput). u.over) stage in
    let sent = c.gain_of-gain.ensures.sent ∙ ap (λ (u : StepOutput). u.sent) stage in
    λ none. elim c.if-is_empty.branch [
      | then-is_empty w ↦ subst (λ (u : ProcView). IsStepped (simulation net) has ends c.args.self.now.station
          c.args.bound c.args.self.now.copies u.copies c.gain_of-gain.new.sent) (sym w.self-is)
          (subst (λ (u : ProcView). IsStepped (simulation net) has ends u.station c.args.bound u.copies done
          c.gain_of-gain.new.sent) c.self.view_is
          (subst (λ s. IsStepped (simulation net) has ends i.station c.args.bound i.copies done s) (sym sent)
          (all_stepped net h.valid i.station ends c.args.bound i.copies done st.sent st.over c.args.steps.now steps
          h.copies far (sym over ∙ none))))
      | else-is_empty w ↦ absurd (let t = eq-eqb c.gain_of-gain.result.over empty none in
          let f = w.if-is_empty.ensures.value in cc)
    ]

pub returns-clause-over : goal.returns-clause-over
returns-clause-over g c =
    let net = c.args.model.now in
    let ends = ends_in net.horizon c.args.ends.now in
    let i = c.self.inside in
    let h = subst (IsProc net) (sym c.self.view_is) c.requires.proc in
    let st = c.step_copies-stepped.new.stage in
    let done = c.step_copies-stepped.new.copies in
    let steps = c.step_copies-stepped.new.steps in
    let far = c.in_default.ensures.stepped in
    let stage = c.deref_mut-3.ensures.value in
    let over = c.gain_of-gain.ensures.over ∙ ap (λ (u : StepOutput). u.over) stage in
    subst (λ o. AreOver (simulation net) has ends c.args.self.now.station c.args.bound c.args.self.now.copies o)
    (sym over)
    (subst (λ (u : ProcView). AreOver (simulation net) has ends u.station c.args.bound u.copies st.over) c.self.view_is
    (all_over net h.valid i.station ends c.args.bound i.copies done st.sent st.over c.args.steps.now steps h.copies
    far))

pub returns-clause-gained : goal.returns-clause-gained
returns-clause-gained g c =
    let net = c.args.model.now in
    let ends = ends_in net.horizon c.args.ends.now in
    let i = c.self.inside in
    let h = subst (IsProc net) (sym c.self.view_is) c.requires.proc in
    let st = c.step_copies-stepped.new.stage in
    let done = c.step_copies-stepped.new.copies in
    let steps = c.step_copies-stepped.new.steps in
    let far = c.in_default.ensures.stepped in
    let stage = c.deref_mut-3.ensures.value in
    let handled = c.gain_of-gain.ensures.handled ∙ ap (λ (u : StepOutput). u.handled) stage in
    subst (λ n. GainTogether (simulation net) has ends c.args.self.now.station c.args.bound c.args.self.now.copies n)
    (sym handled)
    (subst (λ (u : ProcView). GainTogether (simulation net) has ends u.station c.args.bound u.copies st.handled)
    c.self.view_is (all_gained net h.valid i.station ends c.args.bound i.copies done st.sent st.over c.args.steps.now
    steps h.copies far st.handled c.in_default.ensures.handled))

pub returns-clause-at_most : goal.returns-clause-at_most
returns-clause-at_most g c =
    let net = c.args.model.now in
    let ends = ends_in net.horizon c.args.ends.now in
    let i = c.self.inside in
    let h = subst (IsProc net) (sym c.self.view_is) c.requires.proc in
    let st = c.step_copies-stepped.new.stage in
    let done = c.step_copies-stepped.new.copies in
    let steps = c.step_copies-stepped.new.steps in
    let far = c.in_default.ensures.stepped in
    let stage = c.deref_mut-3.ensures.value in
    let handled = c.gain_of-gain.ensures.handled ∙ ap (λ (u : StepOutput). u.handled) stage in
    subst (λ n. n ≤ size c.args.self.now.living * net.limit) (sym handled)
    (subst (λ (u : ProcView). st.handled ≤ size u.living * net.limit) c.self.view_is
    (subst (λ n. st.handled ≤ n * net.limit) (sizes_are i.living i.copies c.self.invariant.shares)
    (all_few net h.valid i.station ends c.args.bound i.copies done st.sent st.over c.args.steps.now steps h.copies far
    st.handled c.in_default.ensures.handled)))
