-- The effect of one more event on a journal.
use Rattle.std.proofs.Common.{◌≡◌, ◌≢◌, ℕ, suc, ◌+◌, ◌<◌, ◌≤◌, Bool, true}
use Rattle.std.proofs.Common.{false, List, [], ◌∷◌, ◌++◌, length, map, nat_eq, if◌then◌else◌}
use Rattle.std.proofs.Common.{refl, sym, ap, ◌∙◌, subst, arith, append_assoc, append-nil}
use Rattle.std.proofs.lemmas.List.{map-append}
use mathlib.Core.List.{IsPrefix, prefix-append}
use Rattle.sim_base.proofs.ListLaws.{prefix_trans}
use Rattle.decision_book.specs.declared.call.Call.{Call}
use Rattle.decision_book.specs.declared.call.TheConstants.{MAX_CALLS}
use Rattle.decision_book.specs.Journal.{Event, NewFront, NewCall, calls_of, front_from, front_of}
use Rattle.decision_book.proofs.Growing.{calls_of-push_call, calls_of-push_front}
use Rattle.decision_desk.specs.Accounts.{Account, calls_from, calls_by, RisesFrom}
use Rattle.decision_desk.specs.Accounts.{OnlyCalls, IsFrontOf, EachFront, IsAccount, AreAccounts, accounts_of}

-- ---- calls_by

-- a call with its place, if it is this caller's, and otherwise none
abbrev own_call : ℕ → ℕ → Call → List (ℕ × Call)
own_call x n c = if nat_eq c.caller x then (n, c) ∷ [] else []

-- a call before other calls, whether or not it is the caller's
calls_from_here : (b : Bool) (k : ℕ) (c d : Call) (xs ys zs : List (ℕ × Call)) → xs ≡ ys ++ zs
    → (if b then (k, d) ∷ xs else xs) ≡ (if b then (k, d) ∷ ys else ys) ++ zs
calls_from_here true k c d xs ys zs e = ap (λ l. (k, d) ∷ l) e
calls_from_here false k c d xs ys zs e = e

-- the calls of one caller, with one more call at the end
calls_from-push : (x n : ℕ) (cs : List Call) (c : Call) → calls_from x n (cs ++ c ∷ []) ≡ calls_from x n cs
    ++ own_call x (n + length cs) c
calls_from-push x n [] c = let e : n ≡ n + 0 = omega arith in ap (λ k. own_call x k c) e
calls_from-push x n (d ∷ cs) c =
    let e : (n + 1) + length cs ≡ n + suc (length cs) = omega arith in
    calls_from_here (nat_eq d.caller x) n c d (calls_from x (n + 1) (cs ++ c ∷ [])) (calls_from x (n + 1) cs)
    (own_call x (n + suc (length cs)) c)
    (calls_from-push x (n + 1) cs c ∙ ap (λ k. calls_from x (n + 1) cs ++ own_call x k c) e)

-- the calls of one caller in a journal, with one more call
calls_by-NewCall : (x : ℕ) (es : List Event) (c : Call) → calls_by x (es ++ NewCall c ∷ []) ≡ calls_by x es
    ++ own_call x (length (calls_of es)) c
calls_by-NewCall x es c =
    let e : 0 + length (calls_of es) ≡ length (calls_of es) = omega arith in
    ap (λ l. calls_from x 0 l) (calls_of-push_call es c)
    ∙ (calls_from-push x 0 (calls_of es) c ∙ ap (λ k. calls_by x es ++ own_call x k c) e)

-- a new front leaves the calls of each caller unchanged
pub calls_by-NewFront : (x : ℕ) (es : List Event) (f : ℕ) → calls_by x (es ++ NewFront f ∷ []) ≡ calls_by x es
calls_by-NewFront x es f = ap (λ l. calls_from x 0 l) (calls_of-push_front es f)

-- a call of another caller is not one of this caller's
pub calls_by-other : (x : ℕ) (es : List Event) (c : Call) → c.caller ≢ x
    → calls_by x (es ++ NewCall c ∷ []) ≡ calls_by x es
calls_by-other x es c other =
    let e : nat_eq c.caller x ≡ false = grind (arith, other) in
    calls_by-NewCall x es c ∙ (ap (λ b. calls_by x es ++ (if b then (length (calls_of es), c) ∷ [] else [])) e
    ∙ append-nil (calls_by x es))

-- a call of this caller is its last, with its place among the journal's calls
calls_by-own : (x : ℕ) (es : List Event) (c : Call) → c.caller ≡ x → calls_by x (es ++ NewCall c ∷ []) ≡ calls_by x es
    ++ (length (calls_of es), c) ∷ []
calls_by-own x es c same =
    let e : nat_eq c.caller x ≡ true = grind (arith, same) in
    calls_by-NewCall x es c ∙ ap (λ b. calls_by x es ++ (if b then (length (calls_of es), c) ∷ [] else [])) e

-- ---- front_of

-- a call leaves the last front unchanged
front_asked_from : (n : ℕ) (es : List Event) (c : Call) → front_from n (es ++ NewCall c ∷ []) ≡ front_from n es
front_asked_from n [] c = refl
front_asked_from n (NewFront g ∷ es) c = front_asked_from g es c
front_asked_from n (NewCall d ∷ es) c = front_asked_from n es c

-- a call leaves the front of the journal unchanged
pub front_asked : (es : List Event) (c : Call) → front_of (es ++ NewCall c ∷ []) ≡ front_of es
front_asked es c = front_asked_from 0 es c

-- a new front is the last
front_raised_from : (n : ℕ) (es : List Event) (f : ℕ) → front_from n (es ++ NewFront f ∷ []) ≡ f
front_raised_from n [] f = refl
front_raised_from n (NewFront g ∷ es) f = front_raised_from g es f
front_raised_from n (NewCall d ∷ es) f = front_raised_from n es f

-- a new front is the front of the journal
pub front_raised : (es : List Event) (f : ℕ) → front_of (es ++ NewFront f ∷ []) ≡ f
front_raised es f = front_raised_from 0 es f

-- calls leave the last front unchanged
front_calls_from : (f : ℕ) (xs : List Event) (cs : List Call) → front_from f (xs ++ map NewCall cs) ≡ front_from f xs
front_calls_from f [] [] = refl
front_calls_from f [] (c ∷ cs) = front_calls_from f [] cs
front_calls_from f (NewFront g ∷ xs) cs = front_calls_from g xs cs
front_calls_from f (NewCall d ∷ xs) cs = front_calls_from f xs cs

-- calls leave the front of the journal unchanged
pub front_calls : (xs : List Event) (cs : List Call) → front_of (xs ++ map NewCall cs) ≡ front_of xs
front_calls xs cs = front_calls_from 0 xs cs

-- ---- RisesFrom

-- fronts above this one still rise after one more call
rises_asked_from : (f : ℕ) (es : List Event) (c : Call) → RisesFrom f es → RisesFrom f (es ++ NewCall c ∷ [])
rises_asked_from f [] c r = tt
rises_asked_from f (NewFront g ∷ es) c r = (r.0, rises_asked_from g es c r.1)
rises_asked_from f (NewCall d ∷ es) c r = rises_asked_from f es c r

-- the fronts of a journal still rise after one more call
pub rises_asked : (es : List Event) (c : Call) → RisesFrom 0 es → RisesFrom 0 (es ++ NewCall c ∷ [])
rises_asked es c r = rises_asked_from 0 es c r

-- fronts still rise after one more front above the last
rises_raised_from : (f : ℕ) (es : List Event) (g : ℕ) → RisesFrom f es → front_from f es < g
    → RisesFrom f (es ++ NewFront g ∷ [])
rises_raised_from f [] g r above = (above, tt)
rises_raised_from f (NewFront h ∷ es) g r above = (r.0, rises_raised_from h es g r.1 above)
rises_raised_from f (NewCall d ∷ es) g r above = rises_raised_from f es g r above

-- the fronts of a journal still rise after one more front above the last
pub rises_raised : (es : List Event) (g : ℕ) → RisesFrom 0 es → front_of es < g → RisesFrom 0 (es ++ NewFront g ∷ [])
rises_raised es g r above = rises_raised_from 0 es g r above

-- fronts that rise above this one end at or above it
pub front_from-above : (f : ℕ) (es : List Event) → RisesFrom f es → f ≤ front_from f es
front_from-above f [] r = omega arith
front_from-above f (NewFront g ∷ es) r = omega (arith, r.0, front_from-above g es r.1)
front_from-above f (NewCall d ∷ es) r = front_from-above f es r

-- they end no lower than they did before
front_from-append : (f : ℕ) (xs more : List Event) → RisesFrom f (xs ++ more)
    → front_from f xs ≤ front_from f (xs ++ more)
front_from-append f [] more r = front_from-above f more r
front_from-append f (NewFront g ∷ xs) more r = front_from-append g xs more r.1
front_from-append f (NewCall d ∷ xs) more r = front_from-append f xs more r

-- the front of a seen part is at most the front of the journal
pub front_of-prefix : (xs ys : List Event) → IsPrefix xs ys → RisesFrom 0 ys → front_of xs ≤ front_of ys
front_of-prefix xs ys b r = subst (λ l. front_of xs ≤ front_of l) b.1
    (front_from-append 0 xs b.0 (subst (RisesFrom 0) (sym b.1) r))

-- ---- IsPrefix

-- a journal begins with itself
pub prefix_refl : (es : List Event) → IsPrefix es es
prefix_refl es = ([], append-nil es)

-- a beginning of a journal is one after another event
pub prefix_more : (before es : List Event) (e : Event) → IsPrefix before es → IsPrefix before (es ++ e ∷ [])
prefix_more before es e b = prefix_trans before es (es ++ e ∷ []) b (prefix-append es (e ∷ []))

-- ---- OnlyCalls

-- a journal is itself, followed by no calls
pub only_calls_refl : (es : List Event) → OnlyCalls es es
only_calls_refl es = ([], sym (append-nil es))

-- if only calls have followed, this still holds with one more call
pub only_calls_more : (before es : List Event) (c : Call) → OnlyCalls before es
    → OnlyCalls before (es ++ NewCall c ∷ [])
only_calls_more before es c o = (
  o.0 ++ c ∷ [],
  ap (λ l. l ++ NewCall c ∷ []) o.1
      ∙ (append_assoc before (map NewCall o.0) (NewCall c ∷ [])
      ∙ ap (λ l. before ++ l) (sym (map-append NewCall o.0 (c ∷ [])))),
)

-- ---- EachFront

-- fronts of a beginning are fronts of the journal
fronts_on : (es more : List Event) (fs : List ℕ) → IsPrefix es more → EachFront es fs → EachFront more fs
fronts_on es more [] b all = tt
fronts_on es more (f ∷ fs) b all =
    ((all.0.0, prefix_trans all.0.0 es more all.0.1 b, all.0.2), fronts_on es more fs b all.1)

-- after one more front of the journal, all are still its fronts
fronts_snoc : (es : List Event) (fs : List ℕ) (f : ℕ) → EachFront es fs → IsFrontOf es f → EachFront es (fs ++ f ∷ [])
fronts_snoc es [] f all one = (one, tt)
fronts_snoc es (g ∷ fs) f all one = (all.0, fronts_snoc es fs f all.1 one)

-- ---- IsAccount

-- an account stays right after a new front
account_raised : (es : List Event) (f : ℕ) (a : Account) → IsAccount es a → IsAccount (es ++ NewFront f ∷ []) a
account_raised es f a i = record {
  calls = i.calls ∙ sym (calls_by-NewFront a.caller es f);
  fronts = fronts_on es (es ++ NewFront f ∷ []) a.fronts (prefix-append es (NewFront f ∷ [])) i.fronts;
  full = λ full. ap length (calls_of-push_front es f) ∙ i.full full;
}

-- it stays right if another caller submits a call, and the journal is not full
account_other : (es : List Event) (c : Call) (a : Account) → c.caller ≢ a.caller → length (calls_of es) < MAX_CALLS
    → IsAccount es a → IsAccount (es ++ NewCall c ∷ []) a
account_other es c a other free i = record {
  calls = i.calls ∙ sym (calls_by-other a.caller es c other);
  fronts = fronts_on es (es ++ NewCall c ∷ []) a.fronts (prefix-append es (NewCall c ∷ [])) i.fronts;
  full = λ full. absurd (omega (arith, free, i.full full));
}

-- it stays right if its own caller submits a call, with the call and the front added to it, and the journal is not full
pub account_called : (es : List Event) (c : Call) (a : Account) → c.caller ≡ a.caller
    → length (calls_of es) < MAX_CALLS → IsAccount es a
    → IsAccount (es ++ NewCall c ∷ [])
    (record a { calls = a.calls ++ (length (calls_of es), c) ∷ []; fronts = a.fronts ++ front_of es ∷ [] })
account_called es c a same free i = record {
  calls = ap (λ l. l ++ (length (calls_of es), c) ∷ []) i.calls ∙ sym (calls_by-own a.caller es c same);
  fronts = fronts_snoc (es ++ NewCall c ∷ []) a.fronts (front_of es)
      (fronts_on es (es ++ NewCall c ∷ []) a.fronts (prefix-append es (NewCall c ∷ [])) i.fronts)
      (es, prefix-append es (NewCall c ∷ []), refl);
  full = λ full. absurd (omega (arith, free, i.full full));
}

-- it stays right with a front of the journal added to it
pub account_looked : (es : List Event) (a : Account) → IsAccount es a
    → IsAccount es (record a { fronts = a.fronts ++ front_of es ∷ [] })
account_looked es a i = record {
  calls = i.calls;
  fronts = fronts_snoc es a.fronts (front_of es) i.fronts
      (es, prefix_refl es, refl);
  full = i.full;
}

-- it stays right with the mark of Full, if the journal is full
pub account_full : (es : List Event) (a : Account) → length (calls_of es) ≡ MAX_CALLS → IsAccount es a
    → IsAccount es (record a { full = true })
account_full es a whole i = record { calls = i.calls; fronts = i.fronts; full = λ _. whole }

-- ---- accounts_of

-- a single account is one account of its caller's
pub accounts_of-one : (a : Account) (x : ℕ) → a.caller ≡ x → accounts_of x (a ∷ []) ≡ 1
accounts_of-one a x e = grind (arith, e)

-- the accounts of a caller in two lists together are those in each of them
pub accounts_of-append : (x : ℕ) (as' bs : List Account)
    → accounts_of x (as' ++ bs) ≡ accounts_of x as' + accounts_of x bs
accounts_of-append x [] bs = omega arith
accounts_of-append x (a ∷ as') bs = omega (arith, accounts_of-append x as' bs)

-- a sum of 0 has no account of the caller
not_counted : (b : Bool) (n : ℕ) → (if b then 1 else 0) + n ≡ 0 → (b ≡ false) × (n ≡ 0)
not_counted true n e = absurd (omega (arith, e))
not_counted false n e = (refl, omega (arith, e))

-- ---- AreAccounts

-- accounts stay right after a new front
pub accounts_raised : (es : List Event) (f : ℕ) (as' : List Account) → AreAccounts es as'
    → AreAccounts (es ++ NewFront f ∷ []) as'
accounts_raised es f [] all = tt
accounts_raised es f (a ∷ as') all = (account_raised es f a all.0, accounts_raised es f as' all.1)

-- they stay right if a caller without one of them submits a call, and the journal is not full
pub accounts_other : (es : List Event) (c : Call) (as' : List Account) → accounts_of c.caller as' ≡ 0
    → length (calls_of es) < MAX_CALLS → AreAccounts es as' → AreAccounts (es ++ NewCall c ∷ []) as'
accounts_other es c [] none free all = tt
accounts_other es c (a ∷ as') none free all =
    let n = not_counted (nat_eq a.caller c.caller) (accounts_of c.caller as') none in
    let other : c.caller ≢ a.caller = λ e. absurd (grind (arith, e, n.0)) in
    (account_other es c a other free all.0, accounts_other es c as' n.1 free all.1)

-- two lists of right accounts are one list of right accounts
pub accounts_append : (es : List Event) (as' bs : List Account) → AreAccounts es as' → AreAccounts es bs
    → AreAccounts es (as' ++ bs)
accounts_append es [] bs all more = more
accounts_append es (a ∷ as') bs all more = (all.0, accounts_append es as' bs all.1 more)
