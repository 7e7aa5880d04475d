-- Journals of calls that were all accepted at front 0.
use Rattle.std.proofs.lemmas.List.{append_assoc}
use Rattle.std.proofs.Common.{ap₂, append-nil, ◌≡◌, ℕ, ◌+◌, refl, sym, ap, ◌∙◌, subst}
use Rattle.std.proofs.Common.{List, [], ◌∷◌, ◌++◌, length}
use Rattle.sim_base.specs.Clones.{Clone, base}
use Rattle.sim_base.specs.declared.decision.Decision.{Decision}
use Rattle.net_model.specs.Net.{Net}
use Rattle.decision_book.specs.Journal.{Event, Situation, after, NewCall, calls_of}
use Rattle.decision_book.specs.Journal.{clones_after, fronts_of, NewFront, with_reply}
use Rattle.decision_book.specs.Replies.{reply}
use Rattle.decision_book.specs.Right.{EachAfter, IsRightCall, MayFollow, journal_with}
use Rattle.decision_book.specs.Scripts.{after_decision}
use Rattle.decision_book.specs.declared.call.Call.{Call}
use Rattle.decision_book.specs.declared.call.Reply.TheVariants.{Accepted}
use Rattle.decision_book.proofs.Growing.{calls_of-push_call}
use Rattle.decision_book.proofs.Scripts.{asking_is_after_decision, situation_of_journal, after_decision-accepted}
use Rattle.world_core.specs.Taking.{AreAccepted, IsAccepted, clones_after_calls}
use Rattle.world_core.proofs.Accepted.{accepted_at}
use Rattle.study_run.specs.Accepted.{AcceptedIsTaken, IsAcceptedJournal, EachAccepted}

-- ---- AreAccepted
-- calls that a world may take, and one more that it may take after them
accepted_more : (net : Net) (cs : List Clone) (calls : List Call) (call : Call) → AreAccepted net cs 0 calls
    → IsAccepted net (clones_after_calls net cs calls) 0 call.decision
    → AreAccepted net cs 0 (calls ++ call ∷ [])
accepted_more net cs [] call h one = (one, tt)
accepted_more net cs (c ∷ calls) call h one =
    (h.0, accepted_more net (clones_after net cs c.decision) calls call h.1 one)

-- ---- clones_after_calls
-- the clones after calls and one more
clones_more : (net : Net) (cs : List Clone) (calls : List Call) (call : Call)
    → clones_after_calls net cs (calls ++ call ∷ []) ≡ clones_after net (clones_after_calls net cs calls) call.decision
clones_more net cs [] call = refl
clones_more net cs (c ∷ calls) call = clones_more net (clones_after net cs c.decision) calls call

-- ---- IsAcceptedJournal
-- before all decisions
pub none_asked : (net : Net) (events : List Event) → events ≡ [] → IsAcceptedJournal net events
none_asked net events e = subst (IsAcceptedJournal net) (sym e) (record { front = refl; accepted = tt; clones = refl })

-- one more accepted decision
pub asked_more : (net : Net) (events more : List Event) (caller : ℕ) (d : Decision)
    → reply (after net events) d ≡ Accepted → more ≡ journal_with net events caller d
    → after net more ≡ after_decision (after net events) d → IsAcceptedJournal net events → IsAcceptedJournal net more
asked_more net events more caller d is same on all =
    let s : Situation = after net events in
    let call : Call = record { caller = caller; fronts = length (fronts_of events); decision = d; reply = Accepted } in
    let whole : more ≡ events ++ NewCall call ∷ [] = same ∙ ap (with_reply events caller d) is in
    let calls : calls_of more ≡ calls_of events ++ call ∷ [] = ap calls_of whole ∙ calls_of-push_call events call in
    let of_net : s.net ≡ net = ap (λ (t : Situation). t.net) (situation_of_journal net events) in
    let now : after net more ≡ record s { clones = clones_after s.net s.clones d; calls = s.calls + 1 } =
    on ∙ after_decision-accepted s d is in
    let one : IsAccepted net (clones_after_calls net (base ∷ []) (calls_of events)) 0 d =
    subst (λ cs. IsAccepted net cs 0 d) (sym all.clones)
    (subst (λ f. IsAccepted net s.clones f d) all.front
    (subst (λ n. IsAccepted n s.clones s.front d) of_net (accepted_at s d is))) in
    record {
      front = ap (λ (t : Situation). t.front) now ∙ all.front;
      accepted = subst (AreAccepted net (base ∷ []) 0) (sym calls)
          (accepted_more net (base ∷ []) (calls_of events) call all.accepted one);
      clones = ap (clones_after_calls net (base ∷ [])) calls
          ∙ (clones_more net (base ∷ []) (calls_of events) call
          ∙ (ap (λ cs. clones_after net cs d) all.clones
          ∙ (ap (λ n. clones_after n s.clones d) (sym of_net)
          ∙ sym (ap (λ (t : Situation). t.clones) now))));
    }

-- ---- journal_with
-- appending an accepted call to these events is the same as asking for its decision
asked_as : (net : Net) (before : List Event) (call : Call) → IsRightCall net before call → call.reply ≡ Accepted
    → before ++ NewCall call ∷ [] ≡ journal_with net before call.caller call.decision
asked_as net before call h is =
    let same : call ≡ record {
      caller = call.caller;
      fronts = length (fronts_of before);
      decision = call.decision;
      reply = Accepted;
    } =
    ap₂ (λ f r. record { caller = call.caller; fronts = f; decision = call.decision; reply = r }) h.fronts is in
    ap (λ c. before ++ NewCall c ∷ []) same ∙ ap (with_reply before call.caller call.decision) (sym (sym h.answer ∙ is))

-- ---- AcceptedIsTaken
-- accepted calls after other accepted calls
accepted_on : (net : Net) (before events : List Event) → EachAfter (MayFollow net) before events
    → fronts_of events ≡ [] → EachAccepted (calls_of events)
    → IsAcceptedJournal net before → IsAcceptedJournal net (before ++ events)
accepted_on net before [] h none each all = subst (IsAcceptedJournal net) (sym (append-nil before)) all
accepted_on net before (NewFront f ∷ es) h none each all = absurd (cc)
accepted_on net before (NewCall call ∷ es) h none each all =
    let same = asked_as net before call h.0 each.0 in
    let is : reply (after net before) call.decision ≡ Accepted = sym h.0.answer ∙ each.0 in
    let on = ap (after net) same ∙ asking_is_after_decision net before call.caller call.decision in
    let more = asked_more net before (before ++ NewCall call ∷ []) call.caller call.decision is same on all in
    subst (IsAcceptedJournal net) (append_assoc before (NewCall call ∷ []) es)
    (accepted_on net (before ++ NewCall call ∷ []) es h.1 none each.1 more)

-- a right journal without fronts, if every call was accepted, is one that a world may take
pub accepted_is_taken : AcceptedIsTaken
accepted_is_taken net events right none each = accepted_on net [] events right none each (none_asked net [] refl)
