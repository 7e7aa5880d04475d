-- Words can say the clones of a script.
use Rattle.std.proofs.Common.{◌≡◌, ℕ, zero, suc, refl, ap₂, List, [], ◌∷◌, length, slice_set, Bool, true, false}
use Rattle.std.proofs.Common.{eq-eqb, le-leb}
use Rattle.std.specs.Prelude.{◌==◌, ◌&&◌, nat_le, if◌then◌else◌, MatchBool}
use Rattle.std.specs.List.{AllByRecursion}
use Rattle.std.proofs.lemmas.List.Elements.{recursion_from_All}
use Rattle.sim_base.specs.Clones.{Clone, clone_at, fork_of, with_end, with_plan}
use Rattle.sim_base.specs.Params.{param_values}
use Rattle.sim_base.specs.declared.decision.Decision.{Decision}
use Rattle.sim_base.specs.declared.decision.Decision.TheVariants.{Fork, Set, End}
use Rattle.sim_base.specs.declared.decision.Planned.{Planned}
use Rattle.sim_base.specs.declared.message.Change.{Change}
use Rattle.sim_base.proofs.ListLaws.{all_push}
use Rattle.net_model.specs.Net.{Net}
use Rattle.decision_script.specs.Alone.{decisions, decisions_onto}
use Rattle.decision_script.specs.Stating.{Fits32, IsAct, IsChange, IsDecision, IsItem}
use Rattle.decision_script.specs.declared.item.Act.{Act}
use Rattle.decision_script.specs.declared.item.Act.TheVariants.{Decide, Look}
use Rattle.decision_script.specs.declared.item.Item.{Item}
use Rattle.decision_script.specs.declared.number.TheConstants.{MAX_NUMBER}
use Rattle.decision_book.specs.Journal.{Situation, clone_place, clones_after, if_accepted, outset, plan_of_set}
use Rattle.decision_book.specs.Replies.{reply}
use Rattle.decision_book.specs.Scripts.{after_all, after_decision}
use Rattle.decision_book.specs.declared.call.Reply.{Reply}
use Rattle.decision_book.specs.declared.call.Reply.TheVariants.{Accepted}
use Rattle.checkpoint.specs.Due.{is_sayable}
use Rattle.study_run.specs.SayableRuns.{AreSayable, IsSayable, ScriptsAreSayable}

-- ---- is_sayable

-- words can say values of which the second is 0 if the parameter has one
values_are_sayable : (one : Bool) (a b : ℕ) → Fits32 a → MatchBool one (b ≡ 0) (Fits32 b)
    → (nat_le a MAX_NUMBER && (if one then b == 0 else nat_le b MAX_NUMBER)) ≡ true
values_are_sayable true a b fits second =
    ap₂ (λ (x y : Bool). x && y) (le-leb a MAX_NUMBER fits) (eq-eqb b 0 second)
values_are_sayable false a b fits second =
    ap₂ (λ (x y : Bool). x && y) (le-leb a MAX_NUMBER fits) (le-leb b MAX_NUMBER second)

-- words can say the change of a decision in a script
change_is_sayable : (c : Change) → IsChange c.param c.a c.b → is_sayable c ≡ true
change_is_sayable c is = values_are_sayable (param_values c.param == 1) c.a c.b is.0 is.1

-- ---- AreSayable

-- words can say the changes of the clone at a place, which is nobody if there is none
changes_at : (cs : List Clone) (k : ℕ) → AreSayable cs
    → AllByRecursion (λ p. is_sayable p.change ≡ true) (clone_at cs k).plans
changes_at [] k h = tt
changes_at (c ∷ cs) zero h = h.0.changes
changes_at (c ∷ cs) (suc k) h = changes_at cs k h.1

-- clones stay sayable if one changes so that it does
changed_are_sayable : (cs : List Clone) (k : ℕ) (f : Clone → Clone) → ((c : Clone) → IsSayable c → IsSayable (f c))
    → AreSayable cs → AreSayable (slice_set cs k (f (clone_at cs k)))
changed_are_sayable [] k f keeps h = h
changed_are_sayable (c ∷ cs) zero f keeps h = (keeps c h.0, h.1)
changed_are_sayable (c ∷ cs) (suc k) f keeps h = (h.0, changed_are_sayable cs k f keeps h.1)

-- clones stay sayable after an accepted decision
after_accepted : (net : Net) (cs : List Clone) (d : Decision) → IsDecision d → AreSayable cs
    → AreSayable (clones_after net cs d)
after_accepted net cs (Fork new old) is h = all_push IsSayable cs (fork_of (clone_at cs (clone_place old cs)) new) h
    (record { name = is.0; changes = changes_at cs (clone_place old cs) h })
after_accepted net cs (Set who at station change) is h =
    changed_are_sayable cs (clone_place who cs) (λ c. with_plan c (plan_of_set net at station change))
    (λ c sayable. record {
      name = sayable.name;
      changes = all_push (λ (p : Planned). is_sayable p.change ≡ true) c.plans (plan_of_set net at station change)
          sayable.changes (change_is_sayable change is.3);
    }) h
after_accepted net cs (End who at) is h = changed_are_sayable cs (clone_place who cs) (λ c. with_end c at)
    (λ c sayable. record { name = sayable.name; changes = sayable.changes }) h

-- and after a decision with any reply
after_reply : (r : Reply) (new old : List Clone) → AreSayable new → AreSayable old
    → AreSayable (if_accepted r new old)
after_reply Accepted new old h k = h
after_reply refusal new old h k = k

-- and after all decisions of a script
after_all_are_sayable : (s : Situation) (ds : List Decision) → AllByRecursion IsDecision ds → AreSayable s.clones
    → AreSayable (after_all s ds).clones
after_all_are_sayable s [] are h = h
after_all_are_sayable s (d ∷ ds) are h = after_all_are_sayable (after_decision s d) ds are.1
    (after_reply (reply s d) (clones_after s.net s.clones d) s.clones (after_accepted s.net s.clones d are.0 h) h)

-- the decisions of items
decisions_are : (n : ℕ) (is : List Item) → AllByRecursion (IsItem n) is → AllByRecursion IsDecision (decisions is)
decisions_are n [] h = tt
decisions_are n (i ∷ is) h = of_act i.act h.0.act (decisions_are n is h.1)
  where
    of_act : (act : Act) → IsAct act → AllByRecursion IsDecision (decisions is)
        → AllByRecursion IsDecision (decisions_onto act (decisions is))
    of_act (Decide d) is_act rest = (is_act, rest)
    of_act (Look who station) is_act rest = rest

-- words can say all clones of a script
pub scripts_are_sayable : ScriptsAreSayable
scripts_are_sayable net s is = after_all_are_sayable (outset net) (decisions s.items)
    (decisions_are (length s.analysts) s.items (recursion_from_All (IsItem (length s.analysts)) s.items is.valid))
    (record { name = refl; changes = tt }, tt)
