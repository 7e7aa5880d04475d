-- The accepted calls of a right journal are a script that leads to the same clones.
use Rattle.std.proofs.Common.{◌≡◌, ◌⊎◌, inl, inr, ⊎_elim, ◌==◌, ℕ, ◌+◌, ◌<◌, ◌≤◌, Bool}
use Rattle.std.proofs.Common.{true, false, true≢false, List, [], ◌∷◌, ◌++◌, map, Option, Some, None}
use Rattle.std.proofs.Common.{nat_lt, nat_le, refl, sym, ap, ◌∙◌, subst, arith, eq-eqb, fold, append_assoc, append-nil}
use Rattle.std.proofs.lemmas.List.Sums.{fold-append}
use Rattle.sim_base.specs.declared.decision.Decision.{Decision}
use Rattle.sim_base.specs.declared.decision.Decision.TheVariants.{Fork, Set, End}
use Rattle.sim_base.specs.Clones.{Clone}
use Rattle.net_model.specs.Net.{Net}
use Rattle.decision_book.specs.declared.call.Call.{Call}
use Rattle.decision_book.specs.declared.call.TheConstants.{MAX_CALLS}
use Rattle.decision_book.specs.declared.call.Reply.{Reply}
use Rattle.decision_book.specs.declared.call.Reply.TheVariants.{Accepted, PastHorizon, Late}
use Rattle.decision_book.specs.Journal.{Event, Situation, NewFront, NewCall, after}
use Rattle.decision_book.specs.Journal.{after_event, outset, clones_after, if_accepted, calls_of}
use Rattle.decision_book.specs.Replies.{row, first_row, rows, reply}
use Rattle.decision_book.specs.Right.{MayFollow, EachAfter}
use Rattle.decision_book.specs.Scripts.{after_decision, after_all, accepted_onto, accepted_of}
use Rattle.decision_book.specs.Scripts.{refusal_or, first_refusal_from}
use Rattle.decision_book.specs.Laws.{JournalIsScript, ClosedChangesNothing}
use Rattle.decision_book.proofs.Rows.{IsOpen-accepted, reply-IsOpen}
use Rattle.decision_book.proofs.Scripts.{after_decision-accepted}

-- ---- reply, at front 0

-- rows that all fail fail with another last row that fails
last_row : (xs : List (Option Reply)) (b : Bool) (r q : Reply) → first_row (xs ++ row b r ∷ []) ≡ Accepted
    → first_row (xs ++ row false q ∷ []) ≡ Accepted
last_row [] b r q h = refl
last_row (Some p ∷ xs) b r q h = h
last_row (None ∷ xs) b r q h = last_row xs b r q h

-- the same clones at front 0, after this number of calls
abbrev at_start : Situation → ℕ → Situation
at_start s m = record s { front = 0; calls = m }

-- at front 0 no time is late
no_late : (at : ℕ) → false ≡ nat_lt at 0
no_late at = grind arith

-- rows that all fail at a front fail at front 0
rows_at_start : (s : Situation) (m clone : ℕ) (d : Decision) → first_row (rows s clone d) ≡ Accepted
    → first_row (rows (at_start s m) clone d) ≡ Accepted
rows_at_start s m clone (Fork new old) h = h
rows_at_start s m clone (Set who at station change) h =
    let xs : List (Option Reply) = first_four (rows s clone (Set who at station change)) in
    subst (λ b. first_row (xs ++ row b (Late 0) ∷ []) ≡ Accepted) (no_late at)
    (last_row xs (nat_lt at s.front) (Late s.front) (Late 0) h)
  where
    first_four : List (Option Reply) → List (Option Reply)
    first_four (a ∷ b ∷ c ∷ d ∷ more) = a ∷ b ∷ c ∷ d ∷ []
    first_four _ = []
rows_at_start s m clone (End who at) h =
    let xs : List (Option Reply) = row (nat_le s.net.horizon at) PastHorizon ∷ [] in
    subst (λ b. first_row (xs ++ row b (Late 0) ∷ []) ≡ Accepted) (no_late at)
    (last_row xs (nat_lt at s.front) (Late s.front) (Late 0) h)

-- a decision that is accepted at a front, with calls before it, is accepted at front 0 with no more calls
accepted_at_start : (s : Situation) (m : ℕ) (d : Decision) → 0 < s.net.horizon → m ≤ s.calls → reply s d ≡ Accepted
    → reply (at_start s m) d ≡ Accepted
accepted_at_start s m d some_time few h =
    let o = IsOpen-accepted s d h in
    let running : (0 == s.net.horizon) ≡ false = grind (arith, some_time) in
    let free : nat_le MAX_CALLS m ≡ false = grind (arith, few, o.at_most) in
    reply-IsOpen (at_start s m) d (record {
      at_most = free;
      running = running;
      clone = o.clone;
      place = o.place;
      going = o.going;
      rest = rows_at_start s m o.clone d o.rest;
    })

-- ---- ChangesNothing

-- a reply that takes no call into the script, and does not change the clones
abbrev pub ChangesNothing : Reply → Type 0
ChangesNothing r = ((c : Call) (cs : List Call) → accepted_onto r c cs ≡ cs)
    × ((new old : List Clone) → if_accepted r new old ≡ old)

-- each reply is Accepted, or is such a one
pub accepted_or_refused : (r : Reply) → (r ≡ Accepted) ⊎ ChangesNothing r
accepted_or_refused Accepted = inl refl
accepted_or_refused r = inr ((λ c cs. refl), λ new old. refl)

-- ---- after_event

-- the situation after a decision that is accepted
abbrev pub moved_by : Situation → Decision → Situation
moved_by s d = record s { clones = clones_after s.net s.clones d; calls = s.calls + 1 }

-- an accepted call leads to it
pub after_event-accepted : (s : Situation) (c : Call) → c.reply ≡ Accepted
    → after_event s (NewCall c) ≡ moved_by s c.decision
after_event-accepted s c h = ap (λ r. record s {
  clones = if_accepted r (clones_after s.net s.clones c.decision) s.clones;
  calls = s.calls + 1;
}) h

-- and a refused one is counted, and changes nothing else
pub after_event-refused : (s : Situation) (c : Call) → ChangesNothing c.reply
    → after_event s (NewCall c) ≡ record s { calls = s.calls + 1 }
after_event-refused s c h = ap (λ l. record s { clones = l; calls = s.calls + 1 })
    (h.1 (clones_after s.net s.clones c.decision) s.clones)

-- ---- Leads

-- these decisions are all accepted at front 0, and lead to these clones
abbrev Leads : Situation → ℕ → ℕ → List Decision → List Clone → Type 0
Leads s m place ds clones = (first_refusal_from (at_start s m) place ds ≡ None)
    × ((after_all (at_start s m) ds).clones ≡ clones)

-- one decision more, which is accepted
leads_on : (s : Situation) (m place : ℕ) (d : Decision) (ds : List Decision) (clones : List Clone) → 0 < s.net.horizon
    → m ≤ s.calls → reply s d ≡ Accepted
    → Leads (moved_by s d) (m + 1) (place + 1) ds clones → Leads s m place (d ∷ ds) clones
leads_on s m place d ds clones some_time few h more =
    let start = at_start s m in
    let ok : reply start d ≡ Accepted = accepted_at_start s m d some_time few h in
    let step : after_decision start d ≡ at_start (moved_by s d) (m + 1) = after_decision-accepted start d ok in (
      ap (λ r. refusal_or place r (first_refusal_from (after_decision start d) (place + 1) ds)) ok
          ∙ (ap (λ (x : Situation). first_refusal_from x (place + 1) ds) step ∙ more.0),
      ap (λ (x : Situation). (after_all x ds).clones) step ∙ more.1,
    )

-- the decisions of these calls
abbrev decisions_of : List Call → List Decision
decisions_of cs = map (λ c. c.decision) cs

-- the accepted calls of the rest of a right journal lead to the clones that the journal leaves
from_here : (net : Net) (before es : List Event) (s : Situation) (m place : ℕ) → after net before ≡ s
    → EachAfter (MayFollow net) before es → 0 < s.net.horizon → m ≤ s.calls
    → Leads s m place (decisions_of (accepted_of (calls_of es))) (fold after_event s es).clones
from_here net before [] s m place is right some_time few = (refl, refl)
from_here net before (NewFront f ∷ es) s m place is right some_time few =
    from_here net (before ++ NewFront f ∷ []) es (after_event s (NewFront f)) m place
    (fold-append after_event (outset net) before (NewFront f ∷ [])
    ∙ ap (λ (x : Situation). after_event x (NewFront f)) is)
    right.1 some_time few
from_here net before (NewCall c ∷ es) s m place is right some_time few =
    let then = fold-append after_event (outset net) before (NewCall c ∷ [])
    ∙ ap (λ (x : Situation). after_event x (NewCall c)) is in
    let answer : c.reply ≡ reply s c.decision = right.0.answer ∙ ap (λ (x : Situation). reply x c.decision) is in
    ⊎_elim
    (λ (h : c.reply ≡ Accepted).
    let moved = after_event-accepted s c h in
    let more = from_here net (before ++ NewCall c ∷ []) es (moved_by s c.decision) (m + 1) (place + 1)
    (then ∙ moved) right.1 some_time (omega (arith, few)) in
    let one = leads_on s m place c.decision (decisions_of (accepted_of (calls_of es)))
    (fold after_event (moved_by s c.decision) es).clones some_time few (sym answer ∙ h) more in
    subst (λ cl. Leads s m place (decisions_of (accepted_onto c.reply c (accepted_of (calls_of es)))) cl)
    (ap (λ (x : Situation). (fold after_event x es).clones) (sym moved))
    (subst (λ r. Leads s m place (decisions_of (accepted_onto r c (accepted_of (calls_of es))))
    (fold after_event (moved_by s c.decision) es).clones) (sym h) one))
    (λ (h : ChangesNothing c.reply).
    let moved = after_event-refused s c h in
    let more = from_here net (before ++ NewCall c ∷ []) es (record s { calls = s.calls + 1 }) m place
    (then ∙ moved) right.1 some_time (omega (arith, few)) in
    subst (λ cl. Leads s m place (decisions_of (accepted_onto c.reply c (accepted_of (calls_of es)))) cl)
    (ap (λ (x : Situation). (fold after_event x es).clones) (sym moved))
    (subst (λ l. Leads s m place (decisions_of l) (fold after_event (record s { calls = s.calls + 1 }) es).clones)
    (sym (h.0 c (accepted_of (calls_of es)))) more))
    (accepted_or_refused c.reply)

-- if the horizon is above 0, the accepted decisions of a right journal are a script that leads to its clones
pub journal_is_script : (net : Net) → JournalIsScript net
journal_is_script net events right some_time =
    let l = from_here net [] events (outset net) 0 0 refl right some_time (omega arith) in
    record { accepted = l.0; lists = l.1 }

-- ---- EachAfter

-- a property of each event of a journal holds of its later part after the earlier one
pub each_later : (P : List Event → Event → Type 0) (before xs ys : List Event) → EachAfter P before (xs ++ ys)
    → EachAfter P (before ++ xs) ys
each_later P before [] ys h = subst (λ (es : List Event). EachAfter P es ys) (sym (append-nil before)) h
each_later P before (x ∷ xs) ys h = subst (λ (es : List Event). EachAfter P es ys) (append_assoc before (x ∷ []) xs)
    (each_later P (before ++ x ∷ []) xs ys h.1)

-- ---- calls at the horizon

-- calls after events at whose front the horizon is reached
closed_from : (net : Net) (before : List Event) (calls : List Call) (s : Situation) → after net before ≡ s
    → s.front ≡ s.net.horizon → EachAfter (MayFollow net) before (map NewCall calls)
    → (fold after_event s (map NewCall calls)).clones ≡ s.clones
closed_from net before [] s is closed right = refl
closed_from net before (c ∷ cs) s is closed right =
    let then = fold-append after_event (outset net) before (NewCall c ∷ [])
    ∙ ap (λ (x : Situation). after_event x (NewCall c)) is in
    let answer : c.reply ≡ reply s c.decision = right.0.answer ∙ ap (λ (x : Situation). reply x c.decision) is in
    let at_end : (s.front == s.net.horizon) ≡ true = eq-eqb s.front s.net.horizon closed in
    ⊎_elim
    (λ (h : c.reply ≡ Accepted).
    absurd (true≢false (sym at_end ∙ (IsOpen-accepted s c.decision (sym answer ∙ h)).running)))
    (λ (h : ChangesNothing c.reply).
    let same : (after_event s (NewCall c)).clones ≡ s.clones = h.1 (clones_after s.net s.clones c.decision) s.clones in
    closed_from net (before ++ NewCall c ∷ []) cs (after_event s (NewCall c)) then closed right.1 ∙ same)
    (accepted_or_refused c.reply)

-- the network stays the same
pub net_stays : (s : Situation) (es : List Event) → (fold after_event s es).net ≡ s.net
net_stays s [] = refl
net_stays s (NewFront f ∷ es) = net_stays (after_event s (NewFront f)) es
net_stays s (NewCall c ∷ es) = net_stays (after_event s (NewCall c)) es

-- in a right journal, calls at the horizon do not change the clones
pub closed_changes_nothing : (net : Net) → ClosedChangesNothing net
closed_changes_nothing net before calls closed right =
    ap (λ (s : Situation). s.clones) (fold-append after_event (outset net) before (map NewCall calls))
    ∙ closed_from net before calls (after net before) refl
    (closed ∙ ap (λ (n : Net). n.horizon) (sym (net_stays (outset net) before)))
    (each_later (MayFollow net) [] before (map NewCall calls) right)
