-- After a front no decision of an earlier time is accepted.
use Rattle.std.proofs.Common.{◌≡◌, inl, inr, ⊎_elim, ◌⊎◌, ℕ, ◌<◌, ◌≤◌, Bool, true, false, List, [], ◌∷◌, ◌++◌, length}
use Rattle.std.proofs.Common.{Some, None, if◌then◌else◌, is_none, nat_le, nat_lt, refl, sym, ap, ◌∙◌, subst, arith}
use Rattle.std.proofs.Common.{append_assoc}
use Rattle.std.specs.List.{AllByRecursion}
use Rattle.std.proofs.lemmas.Bool.Decides.{nat_tests}
use Rattle.std.proofs.lemmas.List.Sums.{fold-append}
use Rattle.sim_base.specs.Clones.{clone_at}
use Rattle.sim_base.specs.declared.decision.Decision.{Decision}
use Rattle.sim_base.specs.declared.decision.Decision.TheVariants.{Fork, Set, End}
use Rattle.sim_base.specs.declared.lists.TheConstants.{MAX_DECISIONS}
use Rattle.sim_base.specs.declared.message.Change.{Change}
use Rattle.net_model.specs.Net.{Net, station_named}
use Rattle.decision_book.specs.declared.call.Reply.TheVariants.{Accepted, ListFull, UnknownStation}
use Rattle.decision_book.specs.Journal.{Event, NewFront, NewCall, Situation, after, after_event, front_from, front_of}
use Rattle.decision_book.specs.Journal.{outset}
use Rattle.decision_book.specs.Replies.{change_row, reply, row, time_rows}
use Rattle.decision_book.specs.Right.{EachAfter, IsRight, MayFollow}
use Rattle.decision_book.proofs.JournalScripts.{each_later}
use Rattle.decision_book.proofs.Rows.{IsOpen-accepted, first_row-Accepted, first_row-change, first_row-times}
use Rattle.decision_desk.specs.Laws.{AreBefore, ComesBy, IsLater, LateIsSettled}
use Rattle.decision_desk.specs.Passes.{late_front}

-- ---- reply

-- an accepted set has a time from the front on
accepted_set : (s : Situation) (who : List ℕ) (at : ℕ) (station : List ℕ) (change : Change)
    → reply s (Set who at station change) ≡ Accepted → s.front ≤ at
accepted_set s who at station change h =
    let o = IsOpen-accepted s (Set who at station change) h in
    let a = first_row-Accepted (is_none (station_named station s.net)) UnknownStation
    (change_row s.net (station_named station s.net) change
    ∷ row (nat_le MAX_DECISIONS (length (clone_at s.clones o.clone).plans)) ListFull
    ∷ time_rows s.net s.front at) (λ e. absurd cc) o.rest in
    let b = first_row-change s.net (station_named station s.net) change
    (row (nat_le MAX_DECISIONS (length (clone_at s.clones o.clone).plans)) ListFull ∷ time_rows s.net s.front at)
    a.1 in
    let c = first_row-Accepted (nat_le MAX_DECISIONS (length (clone_at s.clones o.clone).plans)) ListFull
    (time_rows s.net s.front at) (λ e. absurd cc) b in
    (first_row-times s.net s.front at c.1).0

-- so no accepted set or end has a time before the front
accepted_later : (s : Situation) (time : ℕ) (d : Decision) → time < s.front → reply s d ≡ Accepted
    → ¬ (ComesBy time d)
accepted_later s time (Fork new old) late h = λ never. never
accepted_later s time (Set who at station change) late h =
    let from = accepted_set s who at station change h in λ by. absurd (omega (arith, from, late, by))
accepted_later s time (End who at) late h =
    let from = first_row-times s.net s.front at (IsOpen-accepted s (End who at) h).rest in
    λ by. absurd (omega (arith, from.0, late, by))

-- ---- IsLater

-- all events after a front of a right journal are later than the times before it
all_later : (net : Net) (time : ℕ) (before es : List Event) (s : Situation) → after net before ≡ s → time < s.front
    → EachAfter (MayFollow net) before es → AllByRecursion (IsLater time) es
all_later net time before [] s is late right = tt
all_later net time before (NewFront f ∷ es) s is late right =
    let at : (after net before).front ≡ s.front = ap (λ (x : Situation). x.front) is in (
      tt,
      all_later net time (before ++ NewFront f ∷ []) es (after_event s (NewFront f))
          (fold-append after_event (outset net) before (NewFront f ∷ [])
          ∙ ap (λ (x : Situation). after_event x (NewFront f)) is)
          (omega (arith, late, at, right.0.0)) right.1,
    )
all_later net time before (NewCall c ∷ es) s is late right =
    let answer : c.reply ≡ reply s c.decision = right.0.answer ∙ ap (λ (x : Situation). reply x c.decision) is in (
      λ accepted. accepted_later s time c.decision late (sym answer ∙ accepted),
      all_later net time (before ++ NewCall c ∷ []) es (after_event s (NewCall c))
          (fold-append after_event (outset net) before (NewCall c ∷ [])
          ∙ ap (λ (x : Situation). after_event x (NewCall c)) is) late right.1,
    )

-- ---- front_of

-- the last front of a journal is the one before it, or is in the journal
at_front : (n : ℕ) (es : List Event) → (front_from n es ≡ n)
    ⊎ ((before : List Event) × (rest : List Event) × (es ≡ before ++ NewFront (front_from n es) ∷ rest))
at_front n [] = inl refl
at_front n (NewFront g ∷ es) = ⊎_elim
    (λ (h : front_from g es ≡ g). inr ([], es, ap (λ k. NewFront k ∷ es) (sym h)))
    (λ (h : (before : List Event) × (rest : List Event) × (es ≡ before ++ NewFront (front_from g es) ∷ rest)).
    inr (NewFront g ∷ h.0, h.1, ap (λ l. NewFront g ∷ l) h.2))
    (at_front g es)
at_front n (NewCall c ∷ es) = ⊎_elim
    (λ (h : front_from n es ≡ n). inl h)
    (λ (h : (before : List Event) × (rest : List Event) × (es ≡ before ++ NewFront (front_from n es) ∷ rest)).
    inr (NewCall c ∷ h.0, h.1, ap (λ l. NewCall c ∷ l) h.2))
    (at_front n es)

-- ---- late_front

-- a front is returned only if the time is before it
late_is : (front time f : ℕ) → late_front front time ≡ Some f → (front ≡ f) × (time < f)
late_is front time f e = by_test (nat_lt time front) refl e
  where
    by_test : (b : Bool) → nat_lt time front ≡ b → (if b then Some front else None) ≡ Some f
        → (front ≡ f) × (time < f)
    by_test true is e =
        let same : front ≡ f = cc in
        let less : time < front = grind (arith, nat_tests) in
        (same, omega (arith, less, same))
    by_test false is e = absurd cc

-- ---- LateIsSettled

-- the events after a front of a right journal are later than the times before it
before_front : (net : Net) (time f : ℕ) (before rest events : List Event) → time < f
    → events ≡ before ++ NewFront f ∷ rest → IsRight net events → AreBefore time f events
before_front net time f before rest events less is right = record {
  before = before;
  rest = rest;
  is = is;
  later = all_later net time (before ++ NewFront f ∷ []) rest (after_event (after net before) (NewFront f))
      (fold-append after_event (outset net) before (NewFront f ∷ [])) less
      (each_later (MayFollow net) [] (before ++ NewFront f ∷ []) rest
      (subst (IsRight net) (is ∙ sym (append_assoc before (NewFront f ∷ []) rest)) right));
}

-- if a front of the journal made a time late, all accepted sets and ends up to that time precede it
pub late_is_settled : (net : Net) → LateIsSettled net
late_is_settled net events front time f right of late =
    let l = late_is front time f late in
    let same : front_of of.0 ≡ f = sym of.2 ∙ l.0 in
    ⊎_elim
    (λ (h : front_of of.0 ≡ 0). absurd (omega (arith, h, same, l.1)))
    (λ (h : (before : List Event) × (rest : List Event) × (of.0 ≡ before ++ NewFront (front_of of.0) ∷ rest)).
    before_front net time f h.0 (h.1 ++ of.1.0) events l.1
    (sym of.1.1 ∙ (ap (λ l. l ++ of.1.0) h.2 ∙ (append_assoc h.0 (NewFront (front_of of.0) ∷ h.1) of.1.0
    ∙ ap (λ k. h.0 ++ NewFront k ∷ (h.1 ++ of.1.0)) same))) right)
    (at_front 0 of.0)
