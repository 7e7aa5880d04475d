-- The run of one clone alone depends only on that clone, so a clone's own script writes what the whole script does.
use Rattle.std.proofs.Common.{◌≡◌, ℕ, refl, ap, sym, subst, ◌∙◌, List, [], ◌∷◌, length, Option, Some, None}
use Rattle.std.proofs.Common.{Result, Ok, Err}
use Rattle.std.specs.Prelude.{option_map}
use Rattle.sim_base.specs.Clones.{Clone, clone_at, place_of}
use Rattle.net_model.specs.Net.{Net}
use Rattle.decision_script.specs.Alone.{alone_of, decisions}
use Rattle.decision_script.specs.Stating.{ScriptView}
use Rattle.decision_book.specs.Laws.{clone_named}
use Rattle.decision_book.specs.Scripts.{first_refusal}
use Rattle.decision_book.specs.declared.call.Reply.{Reply}
use Rattle.decision_book.proofs.ClonesByName.{clone_named-place, clone_named-none}
use Rattle.decision_book.proofs.OwnScripts.{own_script_suffices}
use Rattle.stations.specs.Runs.{trace_of}
use Rattle.world_core.specs.Overs.{most_handled}
use Rattle.study_run.specs.Limits.{IsWithin, MeetsLimitAlone}
use Rattle.command_words.specs.declared.request.Mode.TheVariants.{Solo}
use Rattle.cloner_top.specs.declared.excess.Excess.{Excess}
use Rattle.cloner_top.specs.declared.stop.Stop.TheVariants.{NoClone}
use Rattle.cloner_top.specs.Deciding.{by_line, clones_of, decision_lines, first_refused}
use Rattle.cloner_top.specs.Endings.{Ending, MayEnd, MayRunAlone, early_stop, fits, limit_met, limit_met_at, no_clone}
use Rattle.cloner_top.specs.Endings.{overrun, refused_decision, simulation, solo_text, too_long, whole, whole_output}
use Rattle.cloner_top.specs.OwnScripts.{OwnScriptWritesTheSame}

-- how the run of one clone may end, by the clone itself
data MayRunIt (net : Net) (name : List ℕ) (part : Clone → Clone) (written : Clone → Result (List ℕ) Excess) :
    Option Clone → Ending → Type 0 where
  it_misses : MayRunIt net name part written None (early_stop (NoClone name))
  it_fits : (c : Clone) (text : List ℕ) → IsWithin net (part c) → written c ≡ Ok text
      → MayRunIt net name part written (Some c) (whole_output (text ∷ []) (length (trace_of net (part c))))
  it_is_long : (c : Clone) (e : Excess) → IsWithin net (part c) → written c ≡ Err e
      → MayRunIt net name part written (Some c) (overrun [] e (length (trace_of net (part c))))
  it_stops : (c : Clone) (station : ℕ) → MeetsLimitAlone net (part c) station
      → MayRunIt net name part written (Some c) (overrun [] (limit_met_at net station name) (most_handled net 1))

-- ---- MayRunAlone and MayRunIt

module _ (net : Net) (name : List ℕ) (part : Clone → Clone) (written : Clone → Result (List ℕ) Excess) where
  -- how the run of a name may end, from the clone of that name
  run_alone-it : (clones : List Clone) (end : Ending) → MayRunAlone net clones name part written end
      → MayRunIt net name part written (clone_named name clones) end
  run_alone-it clones _ (no_clone none) =
      subst (λ o. MayRunIt net name part written o (early_stop (NoClone name)))
      (sym (clone_named-none name clones none)) it_misses
  run_alone-it clones _ (fits k text is within text_is) =
      subst (λ o. MayRunIt net name part written o
      (whole_output (text ∷ []) (length (trace_of net (part (clone_at clones k))))))
      (sym (clone_named-place name clones k is)) (it_fits (clone_at clones k) text within text_is)
  run_alone-it clones _ (too_long k e is within long) =
      subst (λ o. MayRunIt net name part written o (overrun [] e (length (trace_of net (part (clone_at clones k))))))
      (sym (clone_named-place name clones k is)) (it_is_long (clone_at clones k) e within long)
  run_alone-it clones _ (limit_met k station is meets) =
      subst (λ o. MayRunIt net name part written o (overrun [] (limit_met_at net station name) (most_handled net 1)))
      (sym (clone_named-place name clones k is)) (it_stops (clone_at clones k) station meets)

  -- the converse, if there is no such clone
  it-none : (clones : List Clone) (end : Ending) → place_of name clones ≡ None
      → MayRunIt net name part written None end → MayRunAlone net clones name part written end
  it-none clones _ none it_misses = no_clone none

  -- the converse, if there is one
  it-some : (clones : List Clone) (k : ℕ) (end : Ending) → place_of name clones ≡ Some k
      → MayRunIt net name part written (Some (clone_at clones k)) end → MayRunAlone net clones name part written end
  it-some clones k _ is (it_fits _ text within text_is) = fits k text is within text_is
  it-some clones k _ is (it_is_long _ e within long) = too_long k e is within long
  it-some clones k _ is (it_stops _ station meets) = limit_met k station is meets

  -- the converse in both cases
  it-run_alone : (clones : List Clone) (end : Ending) (place : Option ℕ) → place_of name clones ≡ place
      → MayRunIt net name part written (clone_named name clones) end → MayRunAlone net clones name part written end
  it-run_alone clones end None is h = it-none clones end is
      (subst (λ o. MayRunIt net name part written o end) (clone_named-none name clones is) h)
  it-run_alone clones end (Some k) is h = it-some clones k end is
      (subst (λ o. MayRunIt net name part written o end) (clone_named-place name clones k is) h)

  -- the same clone of a name ends the same, among any other clones
  same_clone : (cs ds : List Clone) (end : Ending) → clone_named name cs ≡ clone_named name ds
      → MayRunAlone net cs name part written end → MayRunAlone net ds name part written end
  same_clone cs ds end same may = it-run_alone ds end (place_of name ds) refl
      (subst (λ o. MayRunIt net name part written o end) same (run_alone-it cs end may))

-- ---- two scripts

-- if no line is refused, no decision is
by_line-none : (lines : List ℕ) (r : Option (ℕ × Reply)) → option_map (by_line lines) r ≡ None → r ≡ None
by_line-none lines None h = refl
by_line-none lines (Some r) h = absurd (cc)

-- if no decision is refused, a study of one clone ends as that clone's run alone
run_of_end : (net : Net) (who : List ℕ) (s : ScriptView) (end : Ending) → first_refused net s ≡ None
    → MayEnd (Solo who) net s end → MayRunAlone net (clones_of net s) who whole (solo_text net) end
run_of_end net who s _ none (refused_decision reply line is) = absurd (let e = sym none ∙ is in cc)
run_of_end net who s _ none (simulation end n may) = may

-- two scripts with the same clone of a name
same_end : (net : Net) (who : List ℕ) (s t : ScriptView) (end : Ending)
    → first_refused net s ≡ None → first_refused net t ≡ None
    → clone_named who (clones_of net s) ≡ clone_named who (clones_of net t)
    → MayEnd (Solo who) net s end → MayEnd (Solo who) net t end
same_end net who s t end none_s none_t same h = simulation end none_t
    (same_clone net who whole (solo_text net) (clones_of net s) (clones_of net t) end same
    (run_of_end net who s end none_s h))

-- if all decisions are accepted, `solo` of a clone may end with its own script as with the whole one
pub own_script : OwnScriptWritesTheSame
own_script net s who end none =
    let own = own_script_suffices net who s
    (by_line-none (decision_lines s.items) (first_refusal net (decisions s.items)) none) in
    let own_none : first_refused net (alone_of s who) ≡ None =
    ap (option_map (by_line (decision_lines (alone_of s who).items))) own.accepted in (
      same_end net who (alone_of s who) s end own_none none own.same,
      same_end net who s (alone_of s who) end none own_none (sym own.same),
    )
