-- No decision is answered Full if no more are asked than a journal holds.
use Rattle.std.proofs.Common.{◌≡◌, ◌≢◌, ℕ, zero, suc, ◌+◌, ◌<◌, ◌≤◌, Bool, true, false}
use Rattle.std.proofs.Common.{true≢false, List, [], ◌∷◌, ◌++◌, length, nat_eq, if◌then◌else◌, refl, sym, ap}
use Rattle.std.proofs.Common.{◌∙◌, subst, arith, slice_index_or, map, Result, Ok, Err, IfOk}
use Rattle.std.proofs.lemmas.Bool.{false_from_ne_true}
use Rattle.atomic_table.specs.Seated.{TableId}
use Rattle.net_model.specs.Net.{Net}
use Rattle.decision_book.specs.declared.call.Call.{Call}
use Rattle.decision_book.specs.declared.call.TheConstants.{MAX_CALLS}
use Rattle.decision_book.specs.Books.{BookView}
use Rattle.decision_book.specs.Journal.{Event, NewCall, calls_of, after, front_of}
use Rattle.decision_book.specs.Right.{IsRight}
use Rattle.decision_book.proofs.JournalScripts.{closed_changes_nothing}
use Rattle.decision_desk.specs.Accounts.{Account, AreAccounts, accounts_of, calls_from, calls_by}
use Rattle.decision_desk.specs.Legal.{FrontsAreNext, IsLegal}
use Rattle.decision_desk.specs.Passes.{HelmView, IsFinalBook, PassView}
use Rattle.decision_desk.proofs.Journals.{front_calls}
use Rattle.decision_desk.proofs.Leasts.{front_is}
use Rattle.world_core.specs.Worlds.{WorldView}
use Rattle.study_run.specs.declared.fault.StudyFault.{StudyFault}
use Rattle.decision_desk.specs.declared.desk.TheConstants.{MAX_PARTS}
use Rattle.live_study.specs.Asking.{SeatedAnalyst, decisions_asked, decisions_in, IsDone, IsSameAnalyst}
use Rattle.live_study.specs.Asking.{accounts_in, total_todo, AllDone, AllAsked}
use Rattle.live_study.specs.Engines.{InStep, Steers}
use Rattle.live_study.specs.Lives.{IsAllAsked, IsAtHorizon}
use Rattle.live_study.proofs.Doing.{length-decisions_asked}

-- ---- sum_calls, one call more
-- how many calls, numbered from n on, each of these accounts has, in all
abbrev sum_calls : ℕ → List Call → List Account → ℕ
sum_calls n cs [] = 0
sum_calls n cs (a ∷ others') = length (calls_from a.caller n cs) + sum_calls n cs others'

-- a list with one call before it where something is so, and else without: how long it is
one_length : (b d : Bool) (p : ℕ × Call) (xs : List (ℕ × Call)) → b ≡ d
    → length (if b then p ∷ xs else xs) ≡ (if d then 1 else 0) + length xs
one_length true true p xs e = omega arith
one_length false false p xs e = omega arith
one_length true false p xs e = absurd (true≢false e)
one_length false true p xs e = absurd (true≢false (sym e))

-- whether two numbers are equal does not depend on their order
eq_swap : (x y : ℕ) → nat_eq x y ≡ nat_eq y x
eq_swap x y = grind arith

-- one call more is counted once for each account of its caller
sum_calls-more : (n : ℕ) (c : Call) (cs : List Call) (others' : List Account)
    → sum_calls n (c ∷ cs) others' ≡ accounts_of c.caller others' + sum_calls (n + 1) cs others'
sum_calls-more n c cs [] = refl
sum_calls-more n c cs (a ∷ others') =
    omega (
      arith,
      one_length (nat_eq c.caller a.caller) (nat_eq a.caller c.caller) (n, c)
          (calls_from a.caller (n + 1) cs) (eq_swap c.caller a.caller),
      sum_calls-more n c cs others',
    )

-- ---- sum_calls, no fewer than the calls
-- a list that is empty with one call before it or without is empty without
pub rest_empty : (b : Bool) (p : ℕ × Call) (xs : List (ℕ × Call)) → (if b then p ∷ xs else xs) ≡ [] → xs ≡ []
rest_empty true p xs e = absurd cc
rest_empty false p xs e = e

-- a list with a call before it is not empty
pub not_empty : (b : Bool) (p : ℕ × Call) (xs : List (ℕ × Call)) → b ≡ true → (if b then p ∷ xs else xs) ≡ [] → ⊥
not_empty true p xs t e = absurd cc
not_empty false p xs t e = true≢false (sym t)

-- each call is counted if each caller has an account
sum_calls-all : (n : ℕ) (cs : List Call) (others' : List Account)
    → ((x : ℕ) → accounts_of x others' ≡ 0 → calls_from x n cs ≡ []) → length cs ≤ sum_calls n cs others'
sum_calls-all n [] others' others = omega arith
sum_calls-all n (c ∷ cs) others' others =
    let has : accounts_of c.caller others' ≢ 0 =
    λ e. not_empty (nat_eq c.caller c.caller) (n, c) (calls_from c.caller (n + 1) cs) (grind arith)
    (others c.caller e) in
    let more = sum_calls-all (n + 1) cs others' (λ x e. rest_empty (nat_eq c.caller x) (n, c) (calls_from x (n + 1) cs)
    (others x e)) in
    omega (arith, sum_calls-more n c cs others', has, more)

-- ---- total_calls
-- how many calls the accounts of analysts have in all
abbrev total_calls : List SeatedAnalyst → ℕ
total_calls [] = 0
total_calls (a ∷ others') = length a.0.pass.account.calls + total_calls others'

-- accounts of a journal have as many calls in all as the journal has of them
sums_same : (events : List Event) (others' : List SeatedAnalyst) → AreAccounts events (accounts_in others')
    → sum_calls 0 (calls_of events) (accounts_in others') ≡ total_calls others'
sums_same events [] all = refl
sums_same events (a ∷ others') all = omega (arith, ap length all.0.calls, sums_same events others' all.1)

-- analysts that have asked all have no more calls in all than acts
few_calls : (desk : TableId) (others' : List SeatedAnalyst) → AllDone desk others'
    → total_calls others' ≤ total_todo others'
few_calls desk [] all = omega arith
few_calls desk (a ∷ others') all =
    omega (arith, all.0.all.at_most, length-decisions_asked a.0.todo.items, few_calls desk others' all.1)

-- ---- AllAsked, AllDone
-- if all calls together are as many as a journal holds, none of these was answered Full
asked_each : (desk : TableId) (events : List Event) (before : ℕ) (others' : List SeatedAnalyst) → AllDone desk others'
    → AreAccounts events (accounts_in others')
    → ((e : length (calls_of events) ≡ MAX_CALLS) → MAX_CALLS ≤ before + total_calls others')
    → before + total_todo others' ≤ MAX_CALLS → AllAsked events others'
asked_each desk events before [] all right whole few = tt
asked_each desk events before (a ∷ others') all right whole few =
    let account = a.0.pass.account in
    let not : account.full ≡ false =
    false_from_ne_true account.full (λ full.
    absurd (omega (
      arith,
      whole (right.0.full full),
      few,
      all.0.all.fewer full,
      length-decisions_asked a.0.todo.items,
      few_calls desk others' all.1,
    ))) in (
      ap decisions_in (sym right.0.calls) ∙ all.0.all.all not,
      asked_each desk events (before + length a.0.todo.items) others' all.1 right.1
          (λ e. omega (arith, whole e, all.0.all.at_most, length-decisions_asked a.0.todo.items)) (omega (arith, few)),
    )

-- if all have asked all, few enough for a journal, each one's calls in it are that one's decisions
all_asked : (desk : TableId) (events : List Event) (others' : List SeatedAnalyst) → AllDone desk others'
    → AreAccounts events (accounts_in others')
    → ((x : ℕ) → accounts_of x (accounts_in others') ≡ 0 → calls_by x events ≡ [])
    → total_todo others' ≤ MAX_CALLS → AllAsked events others'
all_asked desk events others' all right others few =
    asked_each desk events 0 others' all right
    (λ e. omega (
      arith,
      e,
      sum_calls-all 0 (calls_of events) (accounts_in others') others,
      sums_same events others' right,
    )) (omega (arith, few))

-- the index form of a fact on each analyst
pub AllDone-each : (desk : TableId) (others' : List SeatedAnalyst)
    → ((i : ℕ) (d : SeatedAnalyst) → i < length others' → IsDone desk (slice_index_or others' i d).0)
    → AllDone desk others'
AllDone-each desk [] each = tt
AllDone-each desk (a ∷ others') each =
    (each 0 a (omega arith), AllDone-each desk others' (λ i d less. each (suc i) d (omega (arith, less))))

-- ---- SameAt
-- at each place is the same analyst, before a run and after it
abbrev pub SameAt : List SeatedAnalyst → List SeatedAnalyst → Type 0
SameAt old new = (i : ℕ) (d : SeatedAnalyst) → i < length old
    → IsSameAnalyst (slice_index_or old i d).0 (slice_index_or new i d).0

-- what was asked is what was to be asked before the run
asked_before : (events : List Event) (old new : List SeatedAnalyst) → length new ≡ length old → SameAt old new
    → AllAsked events new → AllAsked events old
asked_before events [] new len same all = tt
asked_before events (a ∷ old) [] len same all = absurd (omega (arith, len))
asked_before events (a ∷ old) (b ∷ new) len same all =
    let s = same 0 a (omega arith) in (
      ap (λ x. decisions_in (calls_by x events)) (sym s.caller) ∙ (all.0 ∙ ap decisions_asked s.todo),
      asked_before events old new (omega (arith, len)) (λ i d less. same (suc i) d (omega (arith, less))) all.1,
    )

-- a caller has as many accounts as before the run
callers_before : (x : ℕ) (old new : List SeatedAnalyst) → length new ≡ length old → SameAt old new
    → accounts_of x (accounts_in new) ≡ accounts_of x (accounts_in old)
callers_before x [] [] len same = refl
callers_before x [] (b ∷ new) len same = absurd (omega (arith, len))
callers_before x (a ∷ old) [] len same = absurd (omega (arith, len))
callers_before x (a ∷ old) (b ∷ new) len same =
    let s = same 0 a (omega arith) in
    ap (λ y. (if nat_eq y x then 1 else 0) + accounts_of x (accounts_in new)) s.caller
    ∙ ap (λ n. (if nat_eq a.0.pass.account.caller x then 1 else 0) + n)
    (callers_before x old new (omega (arith, len)) (λ i d less. same (suc i) d (omega (arith, less))))

-- and there are as many acts in all
todo_before : (old new : List SeatedAnalyst) → length new ≡ length old → SameAt old new
    → total_todo new ≡ total_todo old
todo_before [] [] len same = refl
todo_before [] (b ∷ new) len same = absurd (omega (arith, len))
todo_before (a ∷ old) [] len same = absurd (omega (arith, len))
todo_before (a ∷ old) (b ∷ new) len same =
    let s = same 0 a (omega arith) in
    omega (
      arith,
      ap length s.todo,
      todo_before old new (omega (arith, len))
          (λ i d less. same (suc i) d (omega (arith, less))),
    )

-- ---- a run that is closed
-- the passes of analysts that have asked all are of the desk
pub AllDone-desk : (desk : TableId) (analysts : List SeatedAnalyst) → AllDone desk analysts → (k : ℕ) (d : PassView)
    → k < length (map (λ (a : SeatedAnalyst). a.0.pass) analysts)
    → (slice_index_or (map (λ (a : SeatedAnalyst). a.0.pass) analysts) k d).desk ≡ desk
AllDone-desk desk [] all k d less = absurd (omega (arith, less))
AllDone-desk desk (a ∷ more) all zero d less = all.0.desk_is
AllDone-desk desk (a ∷ more) all (suc k) d less = AllDone-desk desk more all.1 k d (omega (arith, less))

-- the accounts of the analysts' passes are the accounts of the analysts
pub accounts_are : (analysts : List SeatedAnalyst)
    → map (λ p. p.account) (map (λ (a : SeatedAnalyst). a.0.pass) analysts) ≡ accounts_in analysts
accounts_are [] = refl
accounts_are (a ∷ more) = ap (λ l. a.0.pass.account ∷ l) (accounts_are more)

-- the helm, once all passes were handed back
abbrev pub closing : HelmView → List PassView → HelmView
closing helm passes = record helm { parts = MAX_PARTS; accounts = helm.accounts ++ map (λ p. p.account) passes }

-- all that analysts had to ask is in the journal
all_asked_in : (desk : TableId) (helm0 helm1 : HelmView) (new : List SeatedAnalyst) (passes : List PassView)
    (book : BookView) → Steers helm0 helm1 → helm0.accounts ≡ []
    → passes ≡ map (λ (a : SeatedAnalyst). a.0.pass) new → IsFinalBook (closing helm1 passes) book → AllDone desk new
    → total_todo new ≤ MAX_CALLS → IsRight book.net book.events → FrontsAreNext book.net book.events
    → IsAllAsked helm0.net new book
all_asked_in desk helm0 helm1 new passes book steers fresh are closed done few right fronts =
    let own : helm1.accounts ++ map (λ p. p.account) passes ≡ accounts_in new =
    ap (λ l. l ++ map (λ p. p.account) passes) (steers.accounts ∙ fresh) ∙ ap (λ l. map (λ p. p.account) l) are
    ∙ accounts_are new in
    let accounts : AreAccounts book.events (accounts_in new) = subst (AreAccounts book.events) own closed.accounts in
    let none : (x : ℕ) → accounts_of x (accounts_in new) ≡ 0 → calls_by x book.events ≡ [] =
    λ x e. closed.others x (ap (accounts_of x) own ∙ e) in
    let net : book.net ≡ helm0.net = closed.net ∙ steers.net in
    record {
      net_is = net;
      legal = subst (λ (n : Net). IsLegal n book.events) net (record { right = right; fronts = fronts });
      asked_all = all_asked desk book.events new done accounts none few;
      others = none;
    }

-- and so is all that they had to ask as they stood before the run
pub asked_in : (desk : TableId) (helm0 helm1 : HelmView) (old new : List SeatedAnalyst) (passes : List PassView)
    (book : BookView) → Steers helm0 helm1 → helm0.accounts ≡ []
    → passes ≡ map (λ (a : SeatedAnalyst). a.0.pass) new → IsFinalBook (closing helm1 passes) book
    → IsRight book.net book.events → FrontsAreNext book.net book.events
    → length new ≡ length old → ((i : ℕ) (d : SeatedAnalyst) → i < length old → IsDone desk (slice_index_or new i d).0)
    → SameAt old new → total_todo old ≤ MAX_CALLS
    → IsAllAsked helm0.net old book
asked_in desk helm0 helm1 old new passes book steers fresh are closed right fronts len done same few =
    let l = all_asked_in desk helm0 helm1 new passes book steers fresh are closed
    (AllDone-each desk new (λ i d less. done i d (omega (arith, less, len))))
    (omega (arith, few, todo_before old new len same)) right fronts in
    record {
      net_is = l.net_is;
      legal = l.legal;
      asked_all = asked_before book.events old new len same l.asked_all;
      others = λ x e. l.others x (callers_before x old new len same ∙ e);
    }

-- a world that is at the horizon is where the journal has led
finished_at : (helm0 helm1 : HelmView) (passes : List PassView) (book : BookView) (world : WorldView)
    → Steers helm0 helm1
    → IsFinalBook (closing helm1 passes) book → IsRight book.net book.events
    → InStep helm1 world → world.front ≡ world.net.horizon → IsAtHorizon helm0.net book world
finished_at helm0 helm1 passes book world steers closed right in_step whole =
    let net : Net = helm0.net in
    let calls : List Call = closed.only_calls.0 in
    let events : book.events ≡ helm1.helm ++ map NewCall calls = closed.only_calls.1 in
    let of_net : world.net ≡ net = in_step.net ∙ steers.net in
    let at : front_of helm1.helm ≡ net.horizon = sym in_step.front ∙ whole ∙ ap (λ (n : Net). n.horizon) of_net in
    let before : (after net helm1.helm).front ≡ net.horizon = front_is net helm1.helm ∙ at in
    let is_right : IsRight net (helm1.helm ++ map NewCall calls) =
    subst (λ es. IsRight net es) events
    (subst (λ (n : Net). IsRight n book.events) (closed.net ∙ steers.net) right) in
    let same : (after net book.events).clones ≡ (after net helm1.helm).clones =
    ap (λ es. (after net es).clones) events ∙ closed_changes_nothing net helm1.helm calls before is_right in
    let clones : world.clones ≡ (after net book.events).clones =
    in_step.clones ∙ ap (λ (n : Net). (after n helm1.helm).clones) steers.net ∙ sym same in
    let front : world.front ≡ net.horizon = whole ∙ ap (λ (n : Net). n.horizon) of_net in
    record {
      last = front_is net book.events ∙ ap front_of events ∙ front_calls helm1.helm calls ∙ at;
      world_is = λ i. record { net = of_net i; clones = clones i; front = front i };
    }

-- so a run that hands back a world at the horizon, in step with its helm, is finished
pub finished_if : (helm0 helm1 : HelmView) (passes : List PassView) (book : BookView) (r : Result WorldView StudyFault)
    → Steers helm0 helm1 → IsFinalBook (closing helm1 passes) book → IsRight book.net book.events
    → IfOk r (λ w. InStep helm1 w × (w.front ≡ w.net.horizon)) → IfOk r (λ w. IsAtHorizon helm0.net book w)
finished_if helm0 helm1 passes book (Ok world) steers closed right in_step =
    finished_at helm0 helm1 passes book world steers closed right in_step.0 in_step.1
finished_if helm0 helm1 passes book (Err e) steers closed right in_step = tt
