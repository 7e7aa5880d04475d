-- The decisions of a script, one after another.
use Rattle.std.proofs.Common.{◌≡◌, ℕ, ◌+◌, List, [], ◌∷◌, ◌++◌, length, map}
use Rattle.std.proofs.Common.{fold, Option, Some, None, refl, ap, ◌∙◌, arith}
use Rattle.std.proofs.lemmas.List.Sums.{fold_push}
use Rattle.std.specs.Option.{option_or}
use Rattle.sim_base.specs.declared.decision.Decision.{Decision}
use Rattle.net_model.specs.Net.{Net}
use Rattle.decision_book.specs.declared.call.Reply.{Reply}
use Rattle.decision_book.specs.declared.call.Reply.TheVariants.{Accepted, Full}
use Rattle.decision_book.specs.Journal.{Event, NewCall, calls_of, fronts_of, front_of, Situation, outset}
use Rattle.decision_book.specs.Journal.{after_event, after, clones_after_reply, clones_after, with_reply}
use Rattle.decision_book.specs.Replies.{reply}
use Rattle.decision_book.specs.Right.{journal_with, MayFollow, IsRight}
use Rattle.decision_book.specs.Scripts.{Question, calls_after, after_decision, after_all}
use Rattle.decision_book.specs.Scripts.{refusal_or, first_refusal_from, first_refusal}
use Rattle.decision_book.specs.Laws.{SituationOfJournal}
use Rattle.decision_book.specs.Laws.{AskingIsAfterDecision, SituationOfScript, ScriptIsRight}
use Rattle.decision_book.specs.Laws.{AcceptedAdds, RefusedFirst, AcceptedLeavesNoRefusal, RefusedIsFirst}
use Rattle.decision_book.proofs.Growing.{each_push, situation_by_parts}

-- ---- after

-- the situation after this reply
abbrev by_reply : Situation → Decision → Reply → Situation
by_reply s d r = record s { clones = clones_after_reply s.net s.clones d r; calls = calls_after r s.calls }

-- after a decision had a reply, the situation is the one after this reply
after-with_reply : (net : Net) (es : List Event) (caller : ℕ) (d : Decision) (r : Reply)
    → after net (with_reply es caller d r) ≡ by_reply (after net es) d r
after-with_reply net es caller d Full = refl
after-with_reply net es caller d r =
    fold_push after_event (outset net) es
    (NewCall (record { caller = caller; fronts = length (fronts_of es); decision = d; reply = r }))

-- asking for a decision leads to the next situation, for every caller
pub asking_is_after_decision : (net : Net) → AskingIsAfterDecision net
asking_is_after_decision net es caller d = after-with_reply net es caller d (reply (after net es) d)

-- after a journal the front is its last one, or 0, and the number of calls is that of the journal
pub situation_of_journal : (net : Net) → SituationOfJournal net
situation_of_journal net es = let none : 0 + length (calls_of es) ≡ length (calls_of es) = omega arith in
    situation_by_parts (outset net) es ∙ ap
    (λ n. record { net = net; clones = (after net es).clones; front = front_of es; calls = n }) none

-- ---- journal_of_script

-- after the decisions of the rest of a script it is the one that they lead to
situation_from : (net : Net) (es : List Event) (s : Situation) (qs : List Question) → after net es ≡ s
    → after net (fold (λ events q. journal_with net events q.caller q.decision) es qs) ≡ after_all s
    (map (λ q. q.decision) qs)
situation_from net es s [] h = h
situation_from net es s (q ∷ qs) h =
    situation_from net (journal_with net es q.caller q.decision) (after_decision s q.decision) qs
    (asking_is_after_decision net es q.caller q.decision ∙ ap (λ t. after_decision t q.decision) h)

-- the situation after the journal of a script is the one that its decisions lead to
pub situation_of_script : (net : Net) → SituationOfScript net
situation_of_script net qs = situation_from net [] (outset net) qs refl

-- a right journal stays right with a decision that had the reply of the table
right_reply : (net : Net) (es : List Event) (caller : ℕ) (d : Decision) (r : Reply) → r ≡ reply (after net es) d
    → IsRight net es → IsRight net (with_reply es caller d r)
right_reply net es caller d Full e h = h
right_reply net es caller d r e h =
    each_push (MayFollow net) [] es
    (NewCall (record { caller = caller; fronts = length (fronts_of es); decision = d; reply = r })) h
    (record { fronts = refl; answer = e; not_full = λ full. cc })

-- and with the rest of a script
right_from : (net : Net) (es : List Event) (qs : List Question) → IsRight net es
    → IsRight net (fold (λ events q. journal_with net events q.caller q.decision) es qs)
right_from net es [] h = h
right_from net es (q ∷ qs) h = right_from net (journal_with net es q.caller q.decision) qs
    (right_reply net es q.caller q.decision (reply (after net es) q.decision) refl h)

-- the journal of a script is right
pub script_is_right : (net : Net) → ScriptIsRight net
script_is_right net qs = right_from net [] qs tt

-- ---- after_decision, after_all

-- a decision that is accepted
pub after_decision-accepted : (s : Situation) (d : Decision) → reply s d ≡ Accepted
    → after_decision s d ≡ record s { clones = clones_after s.net s.clones d; calls = s.calls + 1 }
after_decision-accepted s d h = ap (by_reply s d) h

-- decisions do not change the network
net_stays : (s : Situation) (ds : List Decision) → (after_all s ds).net ≡ s.net
net_stays s [] = refl
net_stays s (d ∷ ds) = net_stays (after_decision s d) ds

-- one more accepted decision has its effect on the clones
pub accepted_adds : (net : Net) → AcceptedAdds net
accepted_adds net ds d h =
    let s = after_all (outset net) ds in
    ap (λ t. t.clones) (fold_push after_decision (outset net) ds d ∙ after_decision-accepted s d h)
    ∙ ap (λ n. clones_after n s.clones d) (net_stays (outset net) ds)

-- ---- first_refusal

-- an earlier refusal comes before all later ones
refusal_or-or : (place : ℕ) (r : Reply) (x y : Option (ℕ × Reply))
    → refusal_or place r (option_or x y) ≡ option_or (refusal_or place r x) y
refusal_or-or place Accepted x y = refl
refusal_or-or place r x y = refl

-- the first refusal, if the first decision has this place
refused_first_from : (s : Situation) (place : ℕ) (ds more : List Decision)
    → first_refusal_from s place (ds ++ more) ≡ option_or (first_refusal_from s place ds)
    (first_refusal_from (after_all s ds) (place + length ds) more)
refused_first_from s place [] more = let none : place ≡ place + 0 = omega arith in
    ap (λ p. first_refusal_from s p more) none
refused_first_from s place (d ∷ ds) more =
    let one : place + 1 + length ds ≡ place + length (d ∷ ds) = omega arith in
    ap (refusal_or place (reply s d)) (refused_first_from (after_decision s d) (place + 1) ds more
    ∙ ap (λ p. option_or (first_refusal_from (after_decision s d) (place + 1) ds)
    (first_refusal_from (after_all (after_decision s d) ds) p more)) one)
    ∙ refusal_or-or place (reply s d) (first_refusal_from (after_decision s d) (place + 1) ds)
    (first_refusal_from (after_all (after_decision s d) ds) (place + length (d ∷ ds)) more)

-- the first refusal is that of the decisions before, if there is one, and else that of the ones after them
pub refused_first : (net : Net) → RefusedFirst net
refused_first net ds more =
    let none : 0 + length ds ≡ length ds = omega arith in
    refused_first_from (outset net) 0 ds more
    ∙ ap (λ p. option_or (first_refusal net ds) (first_refusal_from (after_all (outset net) ds) p more)) none

-- if none is refused, the first is accepted and none of the others is refused
pub accepted_first : (place : ℕ) (r : Reply) (later : Option (ℕ × Reply)) → refusal_or place r later ≡ None
    → (r ≡ Accepted) × (later ≡ None)
accepted_first place Accepted later h = (refl, h)
accepted_first place r later h = absurd cc

-- a reply that is a refusal is the first
refusal_or-refusal : (place : ℕ) (r : Reply) (later : Option (ℕ × Reply)) → (r ≡ Accepted → ⊥)
    → refusal_or place r later ≡ Some (place, r)
refusal_or-refusal place Accepted later other = absurd (other refl)
refusal_or-refusal place r later other = refl

-- if none is refused, the first refusal is among the others
first_refusal-none : (net : Net) (ds more : List Decision) → first_refusal net ds ≡ None
    → first_refusal net (ds ++ more) ≡ first_refusal_from (after_all (outset net) ds) (length ds) more
first_refusal-none net ds more none = refused_first net ds more
    ∙ ap (λ o. option_or o (first_refusal_from (after_all (outset net) ds) (length ds) more)) none

-- if none is refused, one more accepted decision leaves none refused
pub accepted_leaves_no_refusal : (net : Net) → AcceptedLeavesNoRefusal net
accepted_leaves_no_refusal net ds d none accepted = first_refusal-none net ds (d ∷ []) none
    ∙ ap (λ r. refusal_or (length ds) r None) accepted

-- and one more that is refused is the first refusal, independent of the decisions after it
pub refused_is_first : (net : Net) → RefusedIsFirst net
refused_is_first net ds d more none other =
    let s = after_all (outset net) ds in
    first_refusal-none net ds (d ∷ more) none ∙ refusal_or-refusal (length ds) (reply s d)
    (first_refusal_from (after_decision s d) (length ds + 1) more) other
