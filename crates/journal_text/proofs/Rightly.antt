-- A right journal has few calls, and its fronts are at most the horizon.
use Rattle.std.proofs.Common.{◌≡◌, ℕ, ◌+◌, ◌≤◌, ◌==◌, nat_le}
use Rattle.std.proofs.Common.{List, [], ◌∷◌, ◌++◌, length, refl, sym, ap, ◌∙◌, subst, arith}
use Rattle.std.specs.List.{AllByRecursion}
use Rattle.std.proofs.lemmas.List.Sums.{fold-append}
use Rattle.sim_base.specs.declared.decision.Decision.{Decision}
use Rattle.sim_base.specs.Clones.{place_of}
use Rattle.sim_base.specs.Decisions.{subject}
use Rattle.net_model.specs.Net.{Net}
use Rattle.decision_script.specs.Stating.{Fits32}
use Rattle.decision_book.specs.declared.call.TheConstants.{MAX_CALLS}
use Rattle.decision_book.specs.declared.call.Reply.{Reply}
use Rattle.decision_book.specs.declared.call.Reply.TheVariants.{Full, Closed, Late}
use Rattle.decision_book.specs.Journal.{Event, Situation, NewFront, NewCall, after, after_event, calls_of, outset}
use Rattle.decision_book.specs.Replies.{row, clone_rows, reply}
use Rattle.decision_book.specs.Right.{EachAfter, IsRight, MayFollow}
use Rattle.decision_book.proofs.Fulls.{full_where_full}
use Rattle.decision_book.proofs.Growing.{calls_of-push_front, calls_of-push_length}
use Rattle.decision_book.proofs.Rows.{OfClone, clone_rows-each, first_row-each, row-each}
use Rattle.journal_text.proofs.Lines.{HasSmallFront}

-- ---- calls_of
few_calls_from : (net : Net) (before es : List Event) → EachAfter (MayFollow net) before es
    → length (calls_of before) ≤ MAX_CALLS → length (calls_of before) + length (calls_of es) ≤ MAX_CALLS
few_calls_from net before [] right few = omega (arith, few)
few_calls_from net before (NewFront f ∷ es) right few =
    let same = ap length (calls_of-push_front before f) in
    omega (arith, same, few_calls_from net (before ++ NewFront f ∷ []) es right.1 (omega (arith, same, few)))
few_calls_from net before (NewCall c ∷ es) right few =
    let more = calls_of-push_length before c in
    let full = full_where_full net before c.decision c.reply right.0.answer in
    let free : length (calls_of before) + 1 ≤ MAX_CALLS =
    below (length (calls_of before)) (λ h. right.0.not_full (full.1 h)) in
    omega (arith, more, few_calls_from net (before ++ NewCall c ∷ []) es right.1 (omega (arith, more, free)))
  where
    below : (n : ℕ) → (MAX_CALLS ≤ n → ⊥) → n + 1 ≤ MAX_CALLS
    below n h = grind (arith, h)

-- a right journal has at most the maximum number of calls
pub few_calls : (net : Net) (es : List Event) → IsRight net es → length (calls_of es) ≤ MAX_CALLS
few_calls net es right = omega (arith, few_calls_from net [] es right (omega arith))

-- ---- Late
-- a reply is not Late, or has this front
abbrev IsLateOf : ℕ → Reply → Type 0
IsLateOf front (Late f) = f ≡ front
IsLateOf front r = Unit {0}

-- of the rows of a clone, only the last may be Late, and then with this front
late_rows : (front : ℕ) → OfClone (IsLateOf front) front
late_rows front = record {
  unknown_clone = tt;
  ended = λ at. tt;
  name_taken = tt;
  too_many_clones = tt;
  unknown_station = tt;
  wrong_parameter = tt;
  out_of_range = tt;
  list_full = tt;
  past_horizon = tt;
  late = refl;
}

-- a Late reply has the current front
reply_late : (s : Situation) (d : Decision) → IsLateOf s.front (reply s d)
reply_late s d =
    first_row-each (IsLateOf s.front) (row (nat_le MAX_CALLS s.calls) Full ∷ row (s.front == s.net.horizon) Closed
    ∷ clone_rows s d (place_of (subject d) s.clones)) tt (
      row-each (IsLateOf s.front) (nat_le MAX_CALLS s.calls) Full tt,
      (
        row-each (IsLateOf s.front) (s.front == s.net.horizon) Closed tt,
        clone_rows-each (IsLateOf s.front) s (late_rows s.front) d (place_of (subject d) s.clones),
      ),
    )

-- the front of a Late reply fits 32 bits if the current front does
small_late : (front : ℕ) (r : Reply) → Fits32 front → IsLateOf front r → HasSmallFront r
small_late front (Late f) small h = subst Fits32 (sym h) small
small_late front r small h = tt

-- ---- fronts
-- an event with fronts that fit 32 bits
abbrev pub HasSmallFronts : Event → Type 0
HasSmallFronts (NewFront f) = Fits32 f
HasSmallFronts (NewCall c) = HasSmallFront c.reply

-- the fronts of events that follow others
small_from : (net : Net) (before es : List Event) (s : Situation) → after net before ≡ s → s.front ≤ net.horizon
    → Fits32 net.horizon → EachAfter (MayFollow net) before es → AllByRecursion HasSmallFronts es
small_from net before [] s is low small right = tt
small_from net before (NewFront f ∷ es) s is low small right =
    let next : after net (before ++ NewFront f ∷ []) ≡ after_event s (NewFront f) =
    fold-append after_event (outset net) before (NewFront f ∷ [])
    ∙ ap (λ (x : Situation). after_event x (NewFront f)) is in (
      omega (arith, right.0.1, small),
      small_from net (before ++ NewFront f ∷ []) es
          (after_event s (NewFront f)) next right.0.1 small right.1,
    )
small_from net before (NewCall c ∷ es) s is low small right =
    let next : after net (before ++ NewCall c ∷ []) ≡ after_event s (NewCall c) =
    fold-append after_event (outset net) before (NewCall c ∷ [])
    ∙ ap (λ (x : Situation). after_event x (NewCall c)) is in
    let answer : c.reply ≡ reply s c.decision = right.0.answer ∙ ap (λ (x : Situation). reply x c.decision) is in
    let below : Fits32 s.front = omega (arith, low, small) in (
      small_late s.front c.reply below (subst (IsLateOf s.front) (sym answer) (reply_late s c.decision)),
      small_from net (before ++ NewCall c ∷ []) es (after_event s (NewCall c)) next low small right.1,
    )

-- if the horizon of a network fits 32 bits, so do the fronts of each event in a right journal
pub small_fronts : (net : Net) (es : List Event) → IsRight net es → Fits32 net.horizon
    → AllByRecursion HasSmallFronts es
small_fronts net es right small = small_from net [] es (outset net) refl (omega arith) small right
