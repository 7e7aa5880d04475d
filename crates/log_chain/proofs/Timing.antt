-- The first entry at a time or later.
use Rattle.std.proofs.Common.{◌≡◌, ℕ, zero, suc, ◌<◌, ◌≤◌, Bool, true, false, not, List}
use Rattle.std.proofs.Common.{[], ◌∷◌, length, drop, get_or, refl, sym, ap, ◌∙◌, arith}
use Rattle.std.specs.Prelude.{Some, option_map, slice_get, nat_lt, if◌then◌else◌}
use Rattle.std.proofs.lemmas.Bool.{false≢true, ltb-true, lt-ltb}
use Rattle.sim_base.specs.declared.entry.Entry.{Entry}
use Rattle.sim_base.specs.declared.entry.Line.{Line}
use Rattle.sim_base.specs.declared.message.Msg.{Msg}
use Rattle.sim_base.specs.declared.message.Key.{Key}
use Rattle.sim_base.proofs.ListLaws.{all_at}
use Rattle.log_chain.specs.Times.{Rises, times_of, from_time}

-- ---- Rises

-- a number of a later place is not less
pub rises-at : (ns : List ℕ) (i k : ℕ) → Rises ns → i ≤ k → k < length ns → get_or ns i 0 ≤ get_or ns k 0
rises-at [] i k h o l = absurd (omega (arith, l))
rises-at (n ∷ ns) zero zero h o l = omega arith
rises-at (n ∷ ns) zero (suc k) h o l = all_at (λ m. n ≤ m) ns k 0 h.0 (omega (arith, l))
rises-at (n ∷ ns) (suc i) zero h o l = absurd (omega (arith, o))
rises-at (n ∷ ns) (suc i) (suc k) h o l = rises-at ns i k h.1 (omega (arith, o)) (omega (arith, l))

-- ---- from_time

-- an entry that is left out
if_not-true : {X : Type 0} (b : Bool) (x : X) (xs : List X) → b ≡ true → (if not b then x ∷ xs else xs) ≡ xs
if_not-true true x xs e = refl
if_not-true false x xs e = absurd (false≢true e)

-- and one that is not
if_not-false : {X : Type 0} (b : Bool) (x : X) (xs : List X) → (b ≡ true → ⊥) → (if not b then x ∷ xs else xs) ≡ x ∷ xs
if_not-false true x xs n = absurd (n refl)
if_not-false false x xs n = refl

-- the entries at a time or later begin at the end of those before it
pub from_time-drop : (es : List (Entry Msg Line)) (t n : ℕ) → n ≤ length es
    → ((k : ℕ) → k < n → get_or (times_of es) k 0 < t)
    → ((k : ℕ) → n ≤ k → k < length es → t ≤ get_or (times_of es) k 0) → drop n es ≡ from_time t es
from_time-drop [] t zero l before behind = refl
from_time-drop [] t (suc n) l before behind = absurd (omega (arith, l))
from_time-drop (e ∷ es) t zero l before behind =
    let late : t ≤ e.msg.key.time = behind 0 (omega arith) (omega arith) in
    sym (if_not-false (nat_lt e.msg.key.time t) e (from_time t es)
    (λ b. let early : e.msg.key.time < t = ltb-true _ _ b in omega arith)
    ∙ ap (λ xs. e ∷ xs) (sym (from_time-drop es t zero (omega arith) (λ k b. absurd (omega (arith, b)))
    (λ k _ there. behind (suc k) (omega arith) (omega (arith, there))))))
from_time-drop (e ∷ es) t (suc n) l before behind =
    from_time-drop es t n (omega (arith, l)) (λ k b. before (suc k) (omega (arith, b)))
    (λ k o there. behind (suc k) (omega (arith, o)) (omega (arith, there)))
    ∙ sym (if_not-true (nat_lt e.msg.key.time t) e (from_time t es) (lt-ltb _ _ (before 0 (omega arith))))

-- ---- times_of

-- the key of a place
pub times_of-at : (es : List (Entry Msg Line)) (i : ℕ) (k : Key) → i < length es
    → Some k ≡ option_map (λ (e : Entry Msg Line). e.msg.key) (slice_get (drop i es) 0)
    → k.time ≡ get_or (times_of es) i 0
times_of-at [] i k l is = absurd (omega (arith, l))
times_of-at (e ∷ es) zero k l is = let same : k ≡ e.msg.key = cc in ap (λ (x : Key). x.time) same
times_of-at (e ∷ es) (suc i) k l is = times_of-at es i k (omega (arith, l)) is
