use Rattle.std.proofs.Common.{◌≡◌, ◌∷◌, [], ◌++◌, ◌+◌, ◌∙◌, ℕ, zero, suc, List, Some, inl, inr}
use Rattle.std.proofs.Common.{arith, refl, ap, ap₂, sym, subst}
use Rattle.std.proofs.Common.{length, length-append, slice_get, get_or}
use Rattle.run_laws.proofs.Lists.{slice_get-push}
use Rattle.phys_proc.specs.Procs.{ProcView}
use Rattle.station_steps.specs.Tasks.{AreSteps}
use Rattle.station_steps.specs.Windows.{bound_of}
use Rattle.station_steps.specs.declared.tasks.StationTask.{StationTask}
use Rattle.station_steps.proofs.Working.{step_task}
use Rattle.station_steps.proofs.tasks.steps_for.Goals as goal

-- an element stays when others follow
kept : {X : Type 0} (xs ys : List X) (i : ℕ) (x : X) → slice_get xs i ≡ Some x → slice_get (xs ++ ys) i ≡ Some x
kept [] ys i x e = absurd (cc)
kept (z ∷ zs) ys zero x e = e
kept (z ∷ zs) ys (suc i) x e = kept zs ys i x e

-- an element behind a list
behind : {X : Type 0} (xs : List X) (x : X) → slice_get (xs ++ x ∷ []) (length xs) ≡ Some x
behind [] x = refl
behind (z ∷ zs) x = behind zs x

-- tasks, and one more with the bound at its place
steps_next : (procs : List ProcView) (bounds : List ℕ) (tasks : List StationTask) (p : ProcView) (bound : ℕ)
    → AreSteps procs bounds tasks → bound ≡ bound_of bounds (length tasks)
    → AreSteps (procs ++ p ∷ []) bounds (tasks ++ step_task p bound ∷ [])
steps_next procs bounds tasks p bound are is = record {
  count = length-append tasks (step_task p bound ∷ []) ∙ ap (λ n. n + 1) are.count
      ∙ sym (length-append procs (p ∷ []));
  each = each;
}
  where
    each : (i : ℕ) (q : ProcView) → slice_get (procs ++ p ∷ []) i ≡ Some q
        → slice_get (tasks ++ step_task p bound ∷ []) i ≡ Some (step_task q (bound_of bounds i))
    each i q got = elim (slice_get-push procs p q i got) [
      | inl e ↦ kept tasks (step_task p bound ∷ []) i (step_task q (bound_of bounds i)) (are.each i q e)
      | inr e ↦
          let here : i ≡ length tasks = e.0 ∙ sym are.count in
          let task : step_task p bound ≡ step_task q (bound_of bounds i) =
          ap₂ step_task (sym e.1) (is ∙ ap (bound_of bounds) (sym here)) in
          ap (slice_get (tasks ++ step_task p bound ∷ [])) here ∙ behind tasks (step_task p bound) ∙ ap Some task
    ]

pub loop-proc-preserved : goal.loop-proc-preserved
loop-proc-preserved c =
    let bounds = c.args.bounds.now in
    let n = c.len-in-loop-proc.result in
    subst (AreSteps (c.loop-proc.yielded ++ c.in-Some.proc ∷ []) bounds) (sym c.in_ok-add.ensures.value)
    (steps_next c.loop-proc.yielded bounds c.loop-proc.tasks.items c.in-Some.proc (get_or bounds n 0)
    c.loop-proc.invariant (ap (bound_of bounds) (omega (arith, c.len-in-loop-proc.ensures, c.loop-proc.tasks.ok.0))))
