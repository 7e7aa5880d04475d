-- A legal journal stays legal with one more call, and with the next front.
use Rattle.std.proofs.Common.{◌≡◌, ◌↔◌, ◌+◌, ◌<◌, ◌≤◌, List, ◌++◌, ◌∷◌, [], length, ℕ, subst, sym, arith}
use Rattle.std.proofs.Common.{Option, Some, None, MatchOption, Result, Ok, Err, OnOk, OnErr}
use Rattle.decision_book.specs.Books.{BookView, IsCallUnlessFull}
use Rattle.sim_base.specs.declared.decision.Decision.{Decision}
use Rattle.net_model.specs.Net.{Net}
use Rattle.decision_book.specs.declared.call.Call.{Call}
use Rattle.decision_book.specs.declared.call.TheConstants.{MAX_CALLS}
use Rattle.decision_book.specs.declared.call.Reply.{Reply}
use Rattle.decision_book.specs.declared.call.Reply.TheVariants.{Full}
use Rattle.decision_book.specs.Journal.{Event, NewFront, NewCall, calls_of}
use Rattle.decision_book.proofs.Growing.{each_push}
use Rattle.decision_desk.specs.Legal.{IsNextFront, FrontsAreNext}

-- a journal whose fronts are the next ones stays so with one more call
fronts_are_next-asked : (net : Net) (es : List Event) (c : Call) → FrontsAreNext net es
    → FrontsAreNext net (es ++ NewCall c ∷ [])
fronts_are_next-asked net es c h = each_push (IsNextFront net) [] es (NewCall c) h tt

-- a book stays so after a decision
pub fronts_are_next-told : (old new : BookView) (caller : ℕ) (d : Decision) (r : Reply) (told : Option Call)
    → FrontsAreNext old.net old.events → IsCallUnlessFull old caller d r told new → FrontsAreNext new.net new.events
fronts_are_next-told old new caller d r None h t = subst (λ (b : BookView). FrontsAreNext b.net b.events) (sym t.1) h
fronts_are_next-told old new caller d r (Some c) h t =
    subst (λ (b : BookView). FrontsAreNext b.net b.events) (sym t.1.new_is)
    (fronts_are_next-asked old.net old.events c h)

-- if the reply is Full exactly when the book is full, a call that is returned had room
pub places_told : (old new : BookView) (caller : ℕ) (d : Decision) (r : Reply) (told : Option Call)
    → IsCallUnlessFull old caller d r told new → (r ≡ Full) ↔ (MAX_CALLS ≤ length (calls_of old.events))
    → MatchOption told (MAX_CALLS ≤ length (calls_of old.events)) (λ _. length (calls_of old.events) < MAX_CALLS)
places_told old new caller d r None call full = full.0 call.0
places_told old new caller d r (Some c) call full =
    let free = below (length (calls_of old.events)) (λ h. call.0 (full.1 h)) in
    omega (arith, free)
  where
    below : (n : ℕ) → (MAX_CALLS ≤ n → ⊥) → n + 1 ≤ MAX_CALLS
    below n h = grind (arith, h)

-- a journal whose fronts are the next ones stays so with the next front
fronts_are_next-raised : (net : Net) (es : List Event) (f : ℕ) → IsNextFront net es (NewFront f) → FrontsAreNext net es
    → FrontsAreNext net (es ++ NewFront f ∷ [])
fronts_are_next-raised net es f is h = each_push (IsNextFront net) [] es (NewFront f) h is

-- a book stays so after raising the front, whether or not that succeeds
pub fronts_are_next-if : {E : Type 0} (net : Net) (es : List Event) (f : ℕ) (new : BookView) (r : Result (Unit {0}) E)
    → IsNextFront net es (NewFront f) → FrontsAreNext net es
    → OnOk r (new ≡ record { net = net; events = es ++ NewFront f ∷ [] })
    → OnErr r (new ≡ record { net = net; events = es }) → FrontsAreNext new.net new.events
fronts_are_next-if net es f new (Ok u) is h ok err =
    subst (λ (b : BookView). FrontsAreNext b.net b.events) (sym ok) (fronts_are_next-raised net es f is h)
fronts_are_next-if net es f new (Err e) is h ok err = subst (λ (b : BookView). FrontsAreNext b.net b.events) (sym err) h
