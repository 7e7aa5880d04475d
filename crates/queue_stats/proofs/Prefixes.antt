-- The first moments of a queue's history are a queue's history.
use Rattle.std.proofs.Common.{◌≡◌, ℕ, List, [], ◌∷◌, ◌++◌, refl, sym, ap, ◌∙◌, append-nil, append_assoc}
use Rattle.sim_base.specs.declared.entry.Entry.{Entry}
use Rattle.sim_base.specs.declared.entry.Line.{Line}
use Rattle.sim_base.specs.declared.message.Msg.{Msg}
use Rattle.queue_stats.specs.Moments.{Moment, moment_of, moments_after, last_lost, lost_in}
use Rattle.queue_stats.specs.Queues.{IsQueue, opened, goes_on}

-- a list without its last element, from its first element and the others
abbrev but_last_after : {X : Type 0} → X → List X → List X
but_last_after x [] = []
but_last_after x (y ∷ ys) = x ∷ but_last_after y ys

-- a list without its last element
abbrev but_last : {X : Type 0} → List X → List X
but_last [] = []
but_last (x ∷ xs) = but_last_after x xs

-- a list with one element more at the end, without that element, is the list; from its first element and the others
but_last_after-push : {X : Type 0} (x : X) (xs : List X) (y : X) → but_last_after x (xs ++ y ∷ []) ≡ x ∷ xs
but_last_after-push x [] y = refl
but_last_after-push x (z ∷ zs) y = ap (λ l. x ∷ l) (but_last_after-push z zs y)

-- a list with one element more at the end, without that element, is the list
but_last-push : {X : Type 0} (xs : List X) (y : X) → but_last (xs ++ y ∷ []) ≡ xs
but_last-push [] y = refl
but_last-push (x ∷ xs) y = but_last_after-push x xs y

-- a list that is not empty is a list with one element more at the end
last_split : {X : Type 0} (x : X) (xs : List X) → (ys : List X) × (y : X) × (x ∷ xs ≡ ys ++ y ∷ [])
last_split x [] = ([], x, refl)
last_split x (z ∷ zs) = let rest = last_split z zs in (x ∷ rest.0, rest.1, ap (λ l. x ∷ l) rest.2)

-- the moments of a queue up to one of them are those of a queue
pub prefix : {servers : ℕ} {all : List Moment} → IsQueue servers all → (ms ns : List Moment) → all ≡ ms ++ ns
    → IsQueue servers ms
prefix {servers} opened ms ns is = by ms is
  where
    by : (ms : List Moment) → [] ≡ ms ++ ns → IsQueue servers ms
    by [] is = opened
    by (x ∷ xs) is = absurd (cc)
prefix {servers} (goes_on m q whole f) ms [] is =
    goes_on m q (sym (append-nil ms) ∙ sym is ∙ whole) f
prefix {servers} (goes_on {before = before} m q whole f) ms (x ∷ xs) is =
    let end = last_split x xs in
    let two : before ++ m ∷ [] ≡ (ms ++ end.0) ++ end.1 ∷ [] =
    sym whole ∙ is ∙ ap (λ l. ms ++ l) end.2 ∙ sym (append_assoc ms end.0 (end.1 ∷ [])) in
    prefix q ms end.0 (sym (but_last-push before m) ∙ ap but_last two ∙ but_last-push (ms ++ end.0) end.1)

-- the moments of two logs in a row
pub moments_after-append : (before : ℕ) (es fs : List (Entry Msg Line))
    → moments_after before (es ++ fs) ≡ moments_after before es ++ moments_after (last_lost before es) fs
moments_after-append before [] fs = refl
moments_after-append before (e ∷ es) fs = ap (λ l. moment_of before e ∷ l) (moments_after-append (lost_in e.line) es fs)
