-- The result of a run that is saved.
use Rattle.std.proofs.Common.{◌≡◌, ◌<◌, ◌≤◌, ℕ, arith, sym, ap, subst, ◌∙◌, List, [], ◌∷◌, length, Some, Result}
use Rattle.std.proofs.Common.{Bool, false, Ok, Err, le-leb}
use Rattle.std.specs.Prelude.{if◌then◌else◌, nat_le}
use Rattle.std.proofs.lemmas.Bool.Decides.{nat_tests}
use Rattle.sim_base.specs.Clones.{Clone, clone_at, place_of}
use Rattle.sim_base.specs.declared.limits.TheConstants.{MAX_FILE_BYTES}
use Rattle.sim_outer.specs.Views.{SinkView}
use Rattle.net_model.specs.Net.{Net}
use Rattle.stations.specs.Runs.{trace_of}
use Rattle.world_core.specs.Overs.{most_handled}
use Rattle.study_run.specs.Limits.{until}
use Rattle.study_run.specs.Saving.{IsSaved, IsTooLong, StopsUntil, saved_text}
use Rattle.cloner_top.specs.declared.excess.Excess.{Excess}
use Rattle.cloner_top.specs.declared.excess.Excess.TheVariants.{LongSnapshot}
use Rattle.cloner_top.specs.declared.refusal.Refusal.{Refusal}
use Rattle.cloner_top.specs.Endings.{Ending, HasWritten, IsExcessOf, MayRunAlone, fits, limit_met, limit_met_at}
use Rattle.cloner_top.specs.Endings.{saved_or_too_long, too_long}
use Rattle.cloner_top.specs.Outsides.{AreDone, IsDone}
use Rattle.cloner_top.proofs.Endings.{put_done}

-- a text that is not too long is written
short_text : (net : Net) (time : ℕ) (c : Clone) (text : List ℕ) → text ≡ saved_text net time c
    → length text ≤ MAX_FILE_BYTES → saved_or_too_long net time c ≡ Ok text
short_text net time c text is short =
    let within : length (saved_text net time c) ≤ MAX_FILE_BYTES =
    subst (λ (t : List ℕ). length t ≤ MAX_FILE_BYTES) is short in
    ap (λ (b : Bool). if b then Ok (saved_text net time c) else Err LongSnapshot)
    (le-leb (length (saved_text net time c)) MAX_FILE_BYTES within) ∙ ap Ok (sym is)

-- and one that is too long is not
long_text : (net : Net) (time : ℕ) (c : Clone) → MAX_FILE_BYTES < length (saved_text net time c)
    → saved_or_too_long net time c ≡ Err LongSnapshot
long_text net time c long =
    let beyond : nat_le (length (saved_text net time c)) MAX_FILE_BYTES ≡ false = grind (arith, nat_tests) in
    ap (λ (b : Bool). if b then Ok (saved_text net time c) else Err LongSnapshot) beyond

-- how a clone may be saved
abbrev MaySave : Net → List Clone → List ℕ → ℕ → Ending → Type 0
MaySave net cs name time end = MayRunAlone net cs name (until net time) (saved_or_too_long net time) end

module _ (net told : Net) (cs those : List Clone) (name : List ℕ) (k time old_steps new_steps : ℕ)
    (same_net : told ≡ net) (same_clones : those ≡ cs) (found : place_of name cs ≡ Some k) where
  -- a fact of the clone in the network and the clones that were run is one in equal ones
  told_same : (P : Net → Clone → Type 0) → P told (clone_at those k) → P net (clone_at cs k)
  told_same P h = subst (λ l. P net (clone_at l k)) same_clones
      (subst (λ (n : Net). P n (clone_at those k)) same_net h)

  -- its text was put, or why not
  pub saved_done : {T : Type 0} (text put : List ℕ) → put ≡ text
      → IsSaved told time (clone_at those k) old_steps new_steps text
      → (old new : SinkView) (r : Result T Refusal) → AreDone (put ∷ []) old new r
      → IsDone (MaySave net cs name time) old_steps new_steps old new r
  saved_done text put is saved old new r h =
      let s = told_same (λ n c. IsSaved n time c old_steps new_steps text) saved in
      let wrote : HasWritten (MaySave net cs name time) old_steps new_steps (text ∷ []) =
      record {
        work = length (trace_of net (until net time (clone_at cs k)));
        may = fits k text found s.has_run.within (short_text net time (clone_at cs k) text s.text_is s.at_most);
        steps = s.has_run.steps;
      } in
      put_done (MaySave net cs name time) old_steps new_steps (text ∷ []) old new r wrote
      (subst (λ (t : List ℕ). AreDone (t ∷ []) old new r) is h)

  -- its text is too long
  pub saved_too_long : IsTooLong told time (clone_at those k) old_steps new_steps
      → IsExcessOf (MaySave net cs name time) old_steps new_steps [] LongSnapshot
  saved_too_long long =
      let s = told_same (λ n c. IsTooLong n time c old_steps new_steps) long in
      let exact = s.has_run.steps in
      record {
        most = length (trace_of net (until net time (clone_at cs k)));
        may = too_long k LongSnapshot found s.has_run.within (long_text net time (clone_at cs k) s.too_long);
        steps = omega (arith, exact);
      }

  -- the limit is met before it is saved
  pub saved_exceeds : (station : ℕ) (excess : Excess)
      → StopsUntil told time (clone_at those k) old_steps new_steps station
      → excess ≡ limit_met_at told station name
      → IsExcessOf (MaySave net cs name time) old_steps new_steps [] excess
  saved_exceeds station excess stops is =
      let s = told_same (λ n c. StopsUntil n time c old_steps new_steps station) stops in
      let excess_is : limit_met_at net station name ≡ excess =
      sym (is ∙ ap (λ (n : Net). limit_met_at n station name) same_net) in
      subst (IsExcessOf (MaySave net cs name time) old_steps new_steps []) excess_is
      (record { most = most_handled net 1; may = limit_met k station found s.meets; steps = s.at_most })
