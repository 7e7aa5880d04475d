-- The names of clones and of earlier watches, from the last watch back.
use Rattle.std.proofs.Common.{◌≡◌, ℕ, zero, suc, ◌+◌, ◌-◌, ◌<◌, List, [], ◌∷◌, ◌++◌, Bool, true, false, cond, refl, sym}
use Rattle.std.proofs.Common.{ap, ◌∙◌}
use Rattle.std.proofs.Common.{Option, Some, None, Ok, Err, arith, take, drop, length, ◌≤◌, ◌||◌, option_map, get_or}
use Rattle.std.specs.Prelude.{reverse}
use Rattle.std.proofs.lemmas.List.{drop_all, drop_more}
use Rattle.std.specs.List.{list_any}
use Rattle.std.specs.Str.{bytes_eq}
use Rattle.sim_base.specs.Clones.{Clone, clone_at, place_of}
use Rattle.net_model.specs.Net.{Net}
use Rattle.decision_book.specs.declared.call.Reply.{Reply}
use Rattle.decision_book.specs.declared.call.Reply.TheVariants.{Accepted}
use Rattle.watch_points.specs.Checking.{watched_clone, branch_clone, fit_after, if_accepted, script_clone, watch_reply}
use Rattle.watch_points.specs.declared.fitting.WatchedClone.{WatchedClone}
use Rattle.watch_points.specs.declared.watch.Watch.{Watch}
use Rattle.watch_points.proofs.Elements.{reverse-cons}

-- ---- reverse

-- the last of the first elements is the first in reverse
pub reverse-take : {X : Type 0} (xs : List X) (i : ℕ) (x : X) → i < length xs → x ≡ get_or xs i x →
    reverse (take (i + 1) xs) ≡ x ∷ reverse (take i xs)
reverse-take [] i x l e = absurd (omega (arith, l))
reverse-take (y ∷ xs) zero x l e = ap (λ z. z ∷ []) (sym e)
reverse-take (y ∷ xs) (suc i) x l e =
    let one : suc i + 1 ≡ suc (i + 1) = omega arith in
    ap (λ n. reverse (take n (y ∷ xs))) one
    ∙ reverse-cons y (take (i + 1) xs) ∙ ap (λ zs. zs ++ y ∷ []) (reverse-take xs i x (omega (arith, l)) e)
    ∙ ap (λ zs. x ∷ zs) (sym (reverse-cons y (take i xs)))

-- ---- drop

-- what is left begins with the element at the place
drop_from : {X : Type 0} (xs : List X) (i : ℕ) (x : X) → i < length xs → x ≡ get_or xs i x →
    drop i xs ≡ x ∷ drop (i + 1) xs
drop_from xs i x l e = drop_more xs i x l ∙ ap (λ y. y ∷ drop (i + 1) xs) (sym e)

-- ---- list_any

any-push : {X : Type 0} (p : X → Bool) (xs : List X) (x : X) → list_any p (xs ++ x ∷ []) ≡ (p x || list_any p xs)
any-push p [] x = refl
any-push p (y ∷ xs) x = ap (λ b. p y || b) (any-push p xs x) ∙ by (p y) (p x)
  where
    by : (a b : Bool) → (a || (b || list_any p xs)) ≡ (b || (a || list_any p xs))
    by true true = refl
    by true false = refl
    by false b = refl

-- the order of the elements does not matter
pub any_reverse : {X : Type 0} (p : X → Bool) (xs : List X) → list_any p (reverse xs) ≡ list_any p xs
any_reverse p [] = refl
any_reverse p (x ∷ xs) = ap (list_any p) (reverse-cons x xs) ∙ any-push p (reverse xs) x
    ∙ ap (λ b. p x || b) (any_reverse p xs)

-- ---- watched_clone

-- a branch of a branch and so on, n times
abbrev branch_times : ℕ → WatchedClone → WatchedClone
branch_times zero c = c
branch_times (suc n) c = branch_clone (branch_times n c)

-- the same of a clone if there is one
abbrev pub after_branches : ℕ → Option WatchedClone → Option WatchedClone
after_branches n o = option_map (branch_times n) o

-- one branch more
after_branches-more : (n : ℕ) (o : Option WatchedClone) →
    after_branches n (option_map branch_clone o) ≡ after_branches (n + 1) o
after_branches-more n None = refl
after_branches-more n (Some c) = let one : n + 1 ≡ suc n = omega arith in
    ap Some (inner n) ∙ ap (λ m. Some (branch_times m c)) (sym one)
  where
    inner : (n : ℕ) → branch_times n (branch_clone c) ≡ branch_clone (branch_times n c)
    inner zero = refl
    inner (suc n) = ap branch_clone (inner n)

-- no branch
pub after_branches-none : (o : Option WatchedClone) → after_branches 0 o ≡ o
after_branches-none None = refl
after_branches-none (Some c) = refl

-- one or more branches: no end, and their decisions more
pub branch_times-is : (n : ℕ) (c : WatchedClone) →
    branch_times (suc n) c ≡ record { end = None; decisions = c.decisions + suc n }
branch_times-is zero c = let e : suc c.decisions ≡ c.decisions + 1 = omega arith in
    ap (λ d. record { end = None; decisions = d }) e
branch_times-is (suc n) c = ap branch_clone (branch_times-is n c)
    ∙ (let e : suc (c.decisions + suc n) ≡ c.decisions + suc (suc n) = omega arith in
    ap (λ d. record { end = None; decisions = d }) e)

-- one watch further back: the clone of its branch is looked for, or still the same
pub one_back : (cs : List Clone) (w : Watch) (earlier : List Watch) (name : List ℕ) (n : ℕ) (b : Bool) →
    bytes_eq w.new name ≡ b →
    after_branches n (watched_clone cs (w ∷ earlier) name)
    ≡ cond b (after_branches (n + 1) (watched_clone cs earlier w.who))
    (after_branches n (watched_clone cs earlier name))
one_back cs w earlier name n true e =
    ap (λ c. after_branches n (cond c (option_map branch_clone (watched_clone cs earlier w.who))
    (watched_clone cs earlier name))) e
    ∙ after_branches-more n (watched_clone cs earlier w.who)
one_back cs w earlier name n false e =
    ap (λ c. after_branches n (cond c (option_map branch_clone (watched_clone cs earlier w.who))
    (watched_clone cs earlier name))) e

-- the branch of the last watch has the name: the clone of that watch is looked for
pub back_to_source : (cs : List Clone) (earlier : List Watch) (left : ℕ) (name : List ℕ) (n : ℕ) (w : Watch)
    (found : Option WatchedClone) → 0 < left → left ≤ length earlier → w ≡ get_or earlier (left - 1) w →
    bytes_eq w.new name ≡ true → after_branches n (watched_clone cs (reverse (take left earlier)) name) ≡ found →
    after_branches (n + 1) (watched_clone cs (reverse (take (left - 1) earlier)) w.who) ≡ found
back_to_source cs earlier left name n w found some within at named is =
    let one : (left - 1) + 1 ≡ left = omega (arith, some) in
    sym (one_back cs w (reverse (take (left - 1) earlier)) name n true named)
    ∙ ap (λ es. after_branches n (watched_clone cs es name))
    (sym (reverse-take earlier (left - 1) w (omega (arith, some, within)) at))
    ∙ ap (λ m. after_branches n (watched_clone cs (reverse (take m earlier)) name)) one ∙ is

-- no watch is left: the clone of the script, n branches on
back_at_script : (cs : List Clone) (earlier : List Watch) (left : ℕ) (name : List ℕ) (n c : ℕ)
    (found : Option WatchedClone) → left ≤ 0 → place_of name cs ≡ Some c →
    after_branches n (watched_clone cs (reverse (take left earlier)) name) ≡ found →
    Some (branch_times n (script_clone (clone_at cs c))) ≡ found
back_at_script cs earlier left name n c found none place is =
    let zero_is : left ≡ 0 = omega (arith, none) in
    ap (λ o. after_branches n (option_map (λ k. script_clone (clone_at cs k)) o)) (sym place)
    ∙ ap (λ m. after_branches n (watched_clone cs (reverse (take m earlier)) name)) (sym zero_is) ∙ is

-- the clone of the script itself
pub ends_at_script : (cs : List Clone) (earlier : List Watch) (left : ℕ) (name : List ℕ) (n c : ℕ)
    (found : Option WatchedClone) → left ≤ 0 → place_of name cs ≡ Some c →
    after_branches n (watched_clone cs (reverse (take left earlier)) name) ≡ found → n ≡ 0 →
    (end : Option ℕ) → end ≡ (clone_at cs c).end →
    Some (record { end = end; decisions = length (clone_at cs c).plans + n }) ≡ found
ends_at_script cs earlier left name zero c found none place is same end at =
    let sum : length (clone_at cs c).plans + 0 ≡ length (clone_at cs c).plans = omega arith in
    ap (λ e. Some (record { end = e; decisions = length (clone_at cs c).plans + 0 })) at
    ∙ ap (λ d. Some (record { end = (clone_at cs c).end; decisions = d })) sum
    ∙ back_at_script cs earlier left name zero c found none place is
ends_at_script cs earlier left name (suc n) c found none place is same end at = absurd (omega (arith, same))

-- or a branch of it, and so on
pub ends_at_branch : (cs : List Clone) (earlier : List Watch) (left : ℕ) (name : List ℕ) (n c : ℕ)
    (found : Option WatchedClone) → left ≤ 0 → place_of name cs ≡ Some c →
    after_branches n (watched_clone cs (reverse (take left earlier)) name) ≡ found → (n ≡ 0 → ⊥) →
    (end : Option ℕ) → end ≡ None →
    Some (record { end = end; decisions = length (clone_at cs c).plans + n }) ≡ found
ends_at_branch cs earlier left name zero c found none place is some end at = absurd (some refl)
ends_at_branch cs earlier left name (suc n) c found none place is some end at =
    ap (λ e. Some (record { end = e; decisions = length (clone_at cs c).plans + suc n })) at
    ∙ ap Some (sym (branch_times-is n (script_clone (clone_at cs c))))
    ∙ back_at_script cs earlier left name (suc n) c found none place is

-- ---- fit_after

-- one more watch is accepted
pub fit_after-more : (net : Net) (cs : List Clone) (ws : List Watch) (i : ℕ) (w : Watch) → i < length ws →
    w ≡ get_or ws i w → watch_reply net cs (reverse (take i ws)) w ≡ Accepted →
    fit_after net cs (reverse (take (i + 1) ws)) (drop (i + 1) ws)
    ≡ fit_after net cs (reverse (take i ws)) (drop i ws)
unfolding fit_after
fit_after-more net cs ws i w l at e =
    ap (λ es. fit_after net cs es (drop (i + 1) ws)) (reverse-take ws i w l at)
    ∙ ap (λ r. if_accepted r w.line (fit_after net cs (w ∷ reverse (take i ws)) (drop (i + 1) ws))) (sym e)
    ∙ ap (fit_after net cs (reverse (take i ws))) (sym (drop_from ws i w l at))

-- the first watch that is not
pub fit_after-refused : (net : Net) (cs : List Clone) (ws : List Watch) (i : ℕ) (w : Watch) (r : Reply) →
    i < length ws → w ≡ get_or ws i w → r ≡ watch_reply net cs (reverse (take i ws)) w → (r ≡ Accepted → ⊥) →
    fit_after net cs (reverse (take i ws)) (drop i ws) ≡ Err (record { line = w.line; reply = r })
unfolding fit_after
fit_after-refused net cs ws i w r l at is other =
    ap (fit_after net cs (reverse (take i ws))) (drop_from ws i w l at)
    ∙ ap (λ r. if_accepted r w.line (fit_after net cs (w ∷ reverse (take i ws)) (drop (i + 1) ws))) (sym is)
    ∙ refused r other
  where
    refused : (r : Reply) → (r ≡ Accepted → ⊥) →
        if_accepted r w.line (fit_after net cs (w ∷ reverse (take i ws)) (drop (i + 1) ws))
        ≡ Err (record { line = w.line; reply = r })
    refused Accepted other = absurd (other refl)
    refused _ other = refl

-- no watch is left
pub fit_after-none : (net : Net) (cs : List Clone) (ws : List Watch) (i : ℕ) → length ws ≤ i →
    fit_after net cs (reverse (take i ws)) (drop i ws) ≡ Ok tt
unfolding fit_after
fit_after-none net cs ws i l = ap (fit_after net cs (reverse (take i ws))) (drop_all i ws l)
