-- A journal grows at its end.
use Rattle.std.proofs.Common.{◌≡◌, ℕ, ◌+◌, ◌-◌, ◌≤◌, List, [], ◌∷◌, ◌++◌, length, map, take}
use Rattle.std.proofs.Common.{drop, fold, refl, sym, ap, ◌∙◌, subst, arith, append_assoc, append-nil, length-drop}
use Rattle.std.proofs.lemmas.List.{drop_all, take_all, take-append-le, drop-append-le, take-append-drop, map_push}
use Rattle.std.proofs.lemmas.List.{length_push}
use Rattle.decision_book.specs.declared.call.Call.{Call}
use Rattle.decision_book.specs.Journal.{Event, NewFront, NewCall, calls_of}
use Rattle.decision_book.specs.Journal.{fronts_of, front_from, Situation, after_event, clones_after_reply}
use Rattle.decision_book.specs.Right.{EachAfter}
use Rattle.decision_book.specs.Books.{journal_from, AreInOrder}

-- ---- EachAfter

-- a property of each event and those before it holds with one more
pub each_push : (P : List Event → Event → Type 0) (before es : List Event) (e : Event) → EachAfter P before es
    → P (before ++ es) e → EachAfter P before (es ++ e ∷ [])
each_push P before [] e h p = (subst (λ (xs : List Event). P xs e) (append-nil before) p, tt)
each_push P before (x ∷ es) e h p = (
  h.0,
  each_push P (before ++ x ∷ []) es e h.1
      (subst (λ (xs : List Event). P xs e) (sym (append_assoc before (x ∷ []) es)) p),
)

-- ---- AreInOrder

-- calls stay in the order of their fronts with one more call after all fronts
pub AreInOrder-push : (n all : ℕ) (cs : List Call) (c : Call) → c.fronts ≡ all → AreInOrder n all cs
    → AreInOrder n all (cs ++ c ∷ [])
AreInOrder-push n all [] c e h = (omega arith, omega arith)
AreInOrder-push n all (d ∷ cs) c e h = (h.0, AreInOrder-push d.fronts all cs c e h.1)

-- and with one front more
pub AreInOrder-front : (n all : ℕ) (cs : List Call) → AreInOrder n all cs → AreInOrder n (all + 1) cs
AreInOrder-front n all [] h = omega arith
AreInOrder-front n all (c ∷ cs) h = (h.0, AreInOrder-front c.fronts all cs h.1)

-- no call has more fronts before it than there are
AreInOrder-bound : (n all : ℕ) (cs : List Call) → AreInOrder n all cs → n ≤ all
AreInOrder-bound n all [] h = h
AreInOrder-bound n all (c ∷ cs) h = let rest = AreInOrder-bound c.fronts all cs h.1 in omega (arith, rest, h.0)

-- ---- journal_from

-- a call after all fronts is the last entry
pub journal_from-call : (n all : ℕ) (cs : List Call) (fronts : List ℕ) (c : Call) → n + length fronts ≡ all
    → AreInOrder n all cs → c.fronts ≡ all
    → journal_from n (cs ++ c ∷ []) fronts ≡ journal_from n cs fronts ++ NewCall c ∷ []
journal_from-call n all [] fronts c total h e =
    let whole : c.fronts - n ≡ length fronts = omega arith in
    rw (whole, take_all (length fronts) fronts (omega arith), drop_all (length fronts) fronts (omega arith)) refl
journal_from-call n all (d ∷ cs) fronts c total h e =
    let most = AreInOrder-bound d.fronts all cs h.1 in
    let left : d.fronts + length (drop (d.fronts - n) fronts) ≡ all = rw length-drop (omega (arith, h.0, most)) in
    let again = journal_from-call d.fronts all cs (drop (d.fronts - n) fronts) c left h.1 e in
    ap (λ rest. map NewFront (take (d.fronts - n) fronts) ++ (NewCall d ∷ rest)) again
    ∙ sym (append_assoc (map NewFront (take (d.fronts - n) fronts))
    (NewCall d ∷ journal_from d.fronts cs (drop (d.fronts - n) fronts)) (NewCall c ∷ []))

-- and so is a front more
pub journal_from-front : (n all : ℕ) (cs : List Call) (fronts : List ℕ) (f : ℕ) → n + length fronts ≡ all
    → AreInOrder n all cs
    → journal_from n cs (fronts ++ f ∷ []) ≡ journal_from n cs fronts ++ NewFront f ∷ []
journal_from-front n all [] fronts f total h = map_push NewFront fronts f
journal_from-front n all (d ∷ cs) fronts f total h =
    let most = AreInOrder-bound d.fronts all cs h.1 in
    let within : d.fronts - n ≤ length fronts = omega (arith, most) in
    let left : d.fronts + length (drop (d.fronts - n) fronts) ≡ all = rw length-drop (omega (arith, h.0, most)) in
    let again = journal_from-front d.fronts all cs (drop (d.fronts - n) fronts) f left h.1 in
    rw (take-append-le (d.fronts - n) fronts (f ∷ []) within, drop-append-le (d.fronts - n) fronts (f ∷ []) within)
    (ap (λ rest. map NewFront (take (d.fronts - n) fronts) ++ (NewCall d ∷ rest)) again
    ∙ sym (append_assoc (map NewFront (take (d.fronts - n) fronts))
    (NewCall d ∷ journal_from d.fronts cs (drop (d.fronts - n) fronts)) (NewFront f ∷ [])))

-- ---- calls_of, fronts_of

-- calls after a journal are its last calls
pub calls_of-push_calls : (es : List Event) (cs : List Call) → calls_of (es ++ map NewCall cs) ≡ calls_of es ++ cs
calls_of-push_calls [] [] = refl
calls_of-push_calls [] (c ∷ cs) = ap (λ l. c ∷ l) (calls_of-push_calls [] cs)
calls_of-push_calls (NewFront f ∷ es) cs = calls_of-push_calls es cs
calls_of-push_calls (NewCall c ∷ es) cs = ap (λ l. c ∷ l) (calls_of-push_calls es cs)

-- so is one call
pub calls_of-push_call : (es : List Event) (c : Call) → calls_of (es ++ NewCall c ∷ []) ≡ calls_of es ++ c ∷ []
calls_of-push_call es c = calls_of-push_calls es (c ∷ [])

-- which makes their number one more
pub calls_of-push_length : (es : List Event) (c : Call)
    → length (calls_of (es ++ NewCall c ∷ [])) ≡ length (calls_of es) + 1
calls_of-push_length es c = ap length (calls_of-push_call es c) ∙ length_push (calls_of es) c

-- and a front after it does not change the calls
pub calls_of-push_front : (es : List Event) (f : ℕ) → calls_of (es ++ NewFront f ∷ []) ≡ calls_of es
calls_of-push_front [] f = refl
calls_of-push_front (NewFront g ∷ es) f = calls_of-push_front es f
calls_of-push_front (NewCall c ∷ es) f = ap (λ l. c ∷ l) (calls_of-push_front es f)

-- fronts before a journal add no calls
calls_of-NewFront : (fronts : List ℕ) (es : List Event) → calls_of (map NewFront fronts ++ es) ≡ calls_of es
calls_of-NewFront [] es = refl
calls_of-NewFront (f ∷ fs) es = calls_of-NewFront fs es

-- but they are its first fronts
fronts_of-NewFront : (fronts : List ℕ) (es : List Event)
    → fronts_of (map NewFront fronts ++ es) ≡ fronts ++ fronts_of es
fronts_of-NewFront [] es = refl
fronts_of-NewFront (f ∷ fs) es = ap (λ rest. f ∷ rest) (fronts_of-NewFront fs es)

-- the calls of a journal that is made of calls and fronts are these calls
pub calls_of-journal_from : (n : ℕ) (cs : List Call) (fronts : List ℕ) → calls_of (journal_from n cs fronts) ≡ cs
calls_of-journal_from n [] fronts = ap calls_of (sym (append-nil (map NewFront fronts))) ∙ calls_of-NewFront fronts []
calls_of-journal_from n (c ∷ cs) fronts =
    calls_of-NewFront (take (c.fronts - n) fronts) (NewCall c ∷ journal_from c.fronts cs (drop (c.fronts - n) fronts))
    ∙ ap (λ rest. c ∷ rest) (calls_of-journal_from c.fronts cs (drop (c.fronts - n) fronts))

-- and its fronts are these fronts
pub fronts_of-journal_from : (n : ℕ) (cs : List Call) (fronts : List ℕ) → fronts_of (journal_from n cs fronts) ≡ fronts
fronts_of-journal_from n [] fronts = ap fronts_of (sym (append-nil (map NewFront fronts)))
    ∙ fronts_of-NewFront fronts [] ∙ append-nil fronts
fronts_of-journal_from n (c ∷ cs) fronts =
    fronts_of-NewFront (take (c.fronts - n) fronts) (NewCall c ∷ journal_from c.fronts cs (drop (c.fronts - n) fronts))
    ∙ ap (λ rest. take (c.fronts - n) fronts ++ rest) (fronts_of-journal_from c.fronts cs (drop (c.fronts - n) fronts))
    ∙ take-append-drop (c.fronts - n) fronts

-- ---- after_event

-- the situation after a journal, by its calls and its last front
pub situation_by_parts : (s : Situation) (es : List Event)
    → fold after_event s es ≡ record {
      net = s.net;
      clones = (fold after_event s es).clones;
      front = front_from s.front es;
      calls = s.calls + length (calls_of es);
    }
situation_by_parts s [] = let none : s.calls ≡ s.calls + 0 = omega arith in ap (λ n. record s { calls = n }) none
situation_by_parts s (NewFront f ∷ es) = situation_by_parts (record s { front = f }) es
situation_by_parts s (NewCall c ∷ es) =
    let t : Situation = record s {
      clones = clones_after_reply s.net s.clones c.decision c.reply;
      calls = s.calls + 1;
    } in
    let one : s.calls + 1 + length (calls_of es) ≡ s.calls + length (calls_of (NewCall c ∷ es)) = omega arith in
    situation_by_parts t es ∙ ap (λ n. record {
      net = s.net;
      clones = (fold after_event t es).clones;
      front = front_from s.front es;
      calls = n;
    }) one
