-- The reply is Full exactly if the journal is full.
use Rattle.std.proofs.Common.{◌≡◌, ◌≢◌, ◌↔◌, ◌==◌, ◌≤◌, ℕ, List, ◌∷◌, [], ◌++◌, Option, Some}
use Rattle.std.proofs.Common.{Bool, true, false, nat_le, sym, subst, ap, ◌∙◌, refl, length, arith}
use Rattle.sim_base.specs.declared.decision.Decision.{Decision}
use Rattle.sim_base.specs.Decisions.{subject}
use Rattle.sim_base.specs.Clones.{Clone, place_of}
use Rattle.net_model.specs.Net.{Net}
use Rattle.decision_book.specs.declared.call.Call.{Call}
use Rattle.decision_book.specs.declared.call.TheConstants.{MAX_CALLS}
use Rattle.decision_book.specs.declared.call.Reply.{Reply}
use Rattle.decision_book.specs.declared.call.Reply.TheVariants.{Full, Closed}
use Rattle.decision_book.specs.Journal.{Event, Situation, NewCall, call_of, calls_of}
use Rattle.decision_book.specs.Journal.{fronts_of, with_reply, after, is_full}
use Rattle.decision_book.specs.Right.{journal_with}
use Rattle.decision_book.specs.Books.{BookView, IsBook, IsCallUnlessFull, journal_of}
use Rattle.decision_book.specs.Replies.{row, first_row, clone_rows, reply}
use Rattle.decision_book.proofs.Scripts.{situation_of_journal}
use Rattle.decision_book.proofs.Growing.{fronts_of-journal_from}
use Rattle.decision_book.proofs.Rows.{OfClone, clone_rows-each, first_row-each, row-each}

-- ---- reply

-- no refusal of the rows of a clone is Full
none_full : (front : ℕ) → OfClone (λ r. r ≡ Full → ⊥) front
none_full front = record {
  unknown_clone = λ e. absurd cc;
  ended = λ at e. absurd cc;
  name_taken = λ e. absurd cc;
  too_many_clones = λ e. absurd cc;
  unknown_station = λ e. absurd cc;
  wrong_parameter = λ e. absurd cc;
  out_of_range = λ e. absurd cc;
  list_full = λ e. absurd cc;
  past_horizon = λ e. absurd cc;
  late = λ e. absurd cc;
}

-- if only the first row may be Full, and the reply is, its condition holds
at_row : (b : Bool) (os : List (Option Reply)) → (first_row os ≡ Full → ⊥) → first_row (row b Full ∷ os) ≡ Full
    → b ≡ true
at_row true os h e = refl
at_row false os h e = absurd (h e)

-- a reply that is Full is that of a full journal
full_is_full : (s : Situation) (d : Decision) → reply s d ≡ Full → MAX_CALLS ≤ s.calls
full_is_full s d e =
    let others : List (Option Reply) =
    row (s.front == s.net.horizon) Closed ∷ clone_rows s d (place_of (subject d) s.clones) in
    let b = at_row (nat_le MAX_CALLS s.calls) others (first_row-each (λ r. r ≡ Full → ⊥) others (λ x. absurd cc) (
      row-each (λ r. r ≡ Full → ⊥) (s.front == s.net.horizon) Closed (λ x. absurd cc),
      clone_rows-each (λ r. r ≡ Full → ⊥) s (none_full s.front) d (place_of (subject d) s.clones),
    )) e in
    grind (arith, b)

-- and the reply of a full journal is Full
full_is_said : (s : Situation) (d : Decision) → MAX_CALLS ≤ s.calls → reply s d ≡ Full
full_is_said s d h =
    let b : nat_le MAX_CALLS s.calls ≡ true = grind (arith, h) in
    ap (λ x. first_row (row x Full ∷ row (s.front == s.net.horizon) Closed ∷ clone_rows s d
    (place_of (subject d) s.clones))) b

-- the number of calls after a journal is that of its calls
calls_are : (net : Net) (es : List Event) → (after net es).calls ≡ length (calls_of es)
calls_are net es = ap (λ (s : Situation). s.calls) (situation_of_journal net es)

-- the reply is Full exactly if the journal holds as many calls as it may
pub full_where_full : (net : Net) (es : List Event) (d : Decision) (r : Reply) → r ≡ reply (after net es) d
    → (r ≡ Full) ↔ (MAX_CALLS ≤ length (calls_of es))
full_where_full net es d r is = (
  (λ e. omega (arith, full_is_full (after net es) d (sym is ∙ e), calls_are net es)),
  λ h. is ∙ full_is_said (after net es) d (omega (arith, h, calls_are net es)),
)

-- ---- with_reply

-- a call that isn't answered Full is the last of the journal
pub with_reply-not_full : (es : List Event) (caller : ℕ) (d : Decision) (r : Reply) → r ≢ Full
    → with_reply es caller d r ≡ es ++ NewCall (call_of caller es d r) ∷ []
with_reply-not_full es caller d Full not = absurd (not refl)
with_reply-not_full es caller d r not = refl

-- ---- journal_of

-- a reply of a book's parts is one of its journal
pub reply-of_parts : (net : Net) (clones : List Clone) (calls : List Call) (fronts : List ℕ) (last : ℕ)
    (d : Decision) (r : Reply) (v : BookView) → IsBook net clones calls fronts last
    → record { net = net; events = journal_of calls fronts } ≡ v
    → r ≡ reply (record { net = net; clones = clones; front = last; calls = length calls }) d
    → r ≡ reply (after v.net v.events) d
reply-of_parts net clones calls fronts last d r v h is e =
    subst (λ (w : BookView). r ≡ reply (after w.net w.events) d) is
    (e ∙ ap (λ (s : Situation). reply s d) (sym h.situation))

-- ---- journal_with

-- a book with the call of a decision that isn't answered Full
pub with_last_entry : (old new : BookView) (caller : ℕ) (d : Decision) (r : Reply)
    → r ≡ reply (after old.net old.events) d → new ≡ record old { events = journal_with old.net old.events caller d }
    → r ≢ Full → new ≡ record old { events = old.events ++ NewCall (call_of caller old.events d r) ∷ [] }
with_last_entry old new caller d r is then not =
    then ∙ (ap (λ (x : Reply). record old { events = with_reply old.events caller d x }) (sym is)
    ∙ ap (λ (es : List Event). record old { events = es }) (with_reply-not_full old.events caller d r not))

-- a reply that does not say that the journal is full is not Full
pub is_full-false : (r : Reply) → is_full r ≡ false → r ≢ Full
is_full-false r h e = let bad : is_full r ≡ true = ap is_full e in cc

-- the call made from it, with this number of fronts before it
pub call_unless_full : (old new : BookView) (caller : ℕ) (d : Decision) (r : Reply) (n : ℕ)
    → n ≡ length (fronts_of old.events) → r ≡ reply (after old.net old.events) d
    → new ≡ record old { events = journal_with old.net old.events caller d } → is_full r ≡ false
    → IsCallUnlessFull old caller d r (Some (record { caller = caller; fronts = n; decision = d; reply = r })) new
call_unless_full old new caller d r n stamp is then free =
    subst (λ (k : ℕ). IsCallUnlessFull old caller d r
    (Some (record { caller = caller; fronts = k; decision = d; reply = r })) new) (sym stamp) (
      is_full-false r free,
      record {
        call_is = refl;
        new_is = with_last_entry old new caller d r is then (is_full-false r free);
      },
    )

-- the number of fronts in the journal of a book
pub fronts_of-length : (net : Net) (calls : List Call) (fronts : List ℕ) (v : BookView)
    → record { net = net; events = journal_of calls fronts } ≡ v → length fronts ≡ length (fronts_of v.events)
fronts_of-length net calls fronts v is = subst (λ (w : BookView). length fronts ≡ length (fronts_of w.events)) is
    (ap length (sym (fronts_of-journal_from 0 calls fronts)))
