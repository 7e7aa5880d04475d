-- The accepted calls of a turn are calls that a world takes at its front.
use Rattle.std.proofs.Common.{◌≡◌, ⊎_elim, ◌+◌, refl, sym, ap, ◌∙◌, subst, fold}
use Rattle.std.proofs.Common.{List, [], ◌∷◌, ◌++◌, map}
use Rattle.std.proofs.lemmas.List.Sums.{fold-append}
use Rattle.net_model.specs.Net.{Net}
use Rattle.decision_book.specs.Journal.{Event, Situation, after, after_event, NewCall, outset}
use Rattle.decision_book.specs.Replies.{reply}
use Rattle.decision_book.specs.Right.{EachAfter, IsRight, MayFollow}
use Rattle.decision_book.specs.Scripts.{accepted_of, accepted_onto}
use Rattle.decision_book.specs.declared.call.Call.{Call}
use Rattle.decision_book.specs.declared.call.Reply.TheVariants.{Accepted}
use Rattle.decision_book.proofs.JournalScripts.{ChangesNothing, accepted_or_refused, each_later, moved_by}
use Rattle.decision_book.proofs.JournalScripts.{after_event-accepted, after_event-refused}
use Rattle.world_core.specs.Taking.{AreAccepted, clones_after_calls}
use Rattle.world_core.proofs.Accepted.{accepted_at}

-- ---- calls after a journal
-- the calls are ones that a world takes, and it has the clones that they leave then
pub record AreTaken (s : Situation) (cs : List Call) : Type 0 where
  pub accepted : AreAccepted s.net s.clones s.front (accepted_of cs)
  pub clones : (fold after_event s (map NewCall cs)).clones ≡ clones_after_calls s.net s.clones (accepted_of cs)

-- a call before others that is accepted
taken_accepted : (s : Situation) (c : Call) (cs : List Call) → c.reply ≡ Accepted → reply s c.decision ≡ Accepted
    → AreTaken (moved_by s c.decision) cs → AreTaken s (c ∷ cs)
taken_accepted s c cs h is more =
    let moved = after_event-accepted s c h in
    let taken : accepted_onto c.reply c (accepted_of cs) ≡ c ∷ accepted_of cs =
    ap (λ r. accepted_onto r c (accepted_of cs)) h in
    record {
      accepted = subst (λ l. AreAccepted s.net s.clones s.front l) (sym taken)
          (accepted_at s c.decision is, more.accepted);
      clones = ap (λ (x : Situation). (fold after_event x (map NewCall cs)).clones) moved ∙ more.clones
          ∙ ap (clones_after_calls s.net s.clones) (sym taken);
    }

-- and one that is refused
taken_refused : (s : Situation) (c : Call) (cs : List Call) → ChangesNothing c.reply
    → AreTaken (record s { calls = s.calls + 1 }) cs → AreTaken s (c ∷ cs)
taken_refused s c cs h more =
    let moved = after_event-refused s c h in
    let taken : accepted_onto c.reply c (accepted_of cs) ≡ accepted_of cs = h.0 c (accepted_of cs) in
    record {
      accepted = subst (λ l. AreAccepted s.net s.clones s.front l) (sym taken) more.accepted;
      clones = ap (λ (x : Situation). (fold after_event x (map NewCall cs)).clones) moved ∙ more.clones
          ∙ ap (clones_after_calls s.net s.clones) (sym taken);
    }

-- calls after a journal that this situation is after
taken_from : (net : Net) (before : List Event) (cs : List Call) (s : Situation) → after net before ≡ s
    → EachAfter (MayFollow net) before (map NewCall cs) → AreTaken s cs
taken_from net before [] s is right = record { accepted = tt; clones = refl }
taken_from net before (c ∷ cs) s is right =
    let then = fold-append after_event (outset net) before (NewCall c ∷ [])
    ∙ ap (λ (x : Situation). after_event x (NewCall c)) is in
    let answer : c.reply ≡ reply s c.decision = right.0.answer ∙ ap (λ (x : Situation). reply x c.decision) is in
    ⊎_elim
    (λ (h : c.reply ≡ Accepted). taken_accepted s c cs h (sym answer ∙ h)
    (taken_from net (before ++ NewCall c ∷ []) cs (moved_by s c.decision) (then ∙ after_event-accepted s c h) right.1))
    (λ (h : ChangesNothing c.reply).
    taken_refused s c cs h (taken_from net (before ++ NewCall c ∷ []) cs (record s { calls = s.calls + 1 })
    (then ∙ after_event-refused s c h) right.1))
    (accepted_or_refused c.reply)

-- calls after a right journal
pub taken_behind : (net : Net) (before : List Event) (cs : List Call) → IsRight net (before ++ map NewCall cs)
    → AreTaken (after net before) cs
taken_behind net before cs right =
    taken_from net before cs (after net before) refl (each_later (MayFollow net) [] before (map NewCall cs) right)
