-- What a live run of a script begins with, and what its journal says of the script.
use Rattle.std.proofs.Common.{◌≡◌, ◌⊎◌, inl, inr, ⊎_elim, ℕ, zero, suc, ◌+◌, ◌-◌, ◌<◌, ◌≤◌, Bool, true, false, List, []}
use Rattle.std.proofs.Common.{◌∷◌, ◌++◌, length, map, get_or, nat_eq, nat_le}
use Rattle.std.proofs.Common.{refl, sym, ap, ◌∙◌, subst, arith, length-append}
use Rattle.std.proofs.lemmas.List.{get_or-map, get_or_append_left, length-map, map-append}
use Rattle.std.proofs.Math.Seq.{get_or-append_seam}
use Rattle.std.proofs.lemmas.Bool.{cases_lt}
use Rattle.std.proofs.lemmas.Bool.Decides.{nat_tests}
use Rattle.atomic_table.specs.Seated.{TableId}
use Rattle.decision_script.specs.declared.item.Act.{Act}
use Rattle.net_model.specs.Net.{Net}
use Rattle.decision_script.specs.declared.item.Item.{Item}
use Rattle.decision_script.specs.declared.script.TheConstants.{MAX_ITEMS}
use Rattle.decision_script.specs.Stating.{ScriptView}
use Rattle.decision_book.specs.Books.{BookView}
use Rattle.decision_book.specs.Journal.{Event}
use Rattle.decision_desk.specs.Accounts.{accounts_of, calls_by}
use Rattle.decision_desk.specs.Passes.{HelmView, PassView, new_helm, new_pass, new_passes}
use Rattle.decision_desk.proofs.Journals.{accounts_of-append}
use Rattle.decision_desk.proofs.NewPasses.{new_passes_count}
use Rattle.world_core.specs.Worlds.{WorldView, opening_world}
use Rattle.live_study.specs.Asking.{AllAsked, AreAsked, HasAskedNothing, SeatedAnalyst}
use Rattle.live_study.specs.Asking.{decisions_asked, decisions_in, total_todo}
use Rattle.live_study.specs.Engines.{InStep}
use Rattle.live_study.specs.Lives.{IsAllAsked}
use Rattle.live_study.specs.Scripts.{IsJournalOf, acts_by, each_acts, own_act}
use Rattle.live_study.proofs.Beginning.{at_most_one, length-each_acts, length-own_act, one_if}
use Rattle.live_study.proofs.Counting.{accounts_are}

-- ---- new_passes, each_acts
-- the pass at a place is that of the analyst whose number is the next
new_passes-at : (desk : TableId) (net : Net) (n i : ℕ) (d : PassView) → i < n
    → get_or (new_passes desk net n) i d ≡ new_pass desk net (i + 1)
new_passes-at desk net zero i d less = absurd (omega (arith, less))
new_passes-at desk net (suc n) i d less =
    let len = new_passes_count desk net n in
    ⊎_elim
    (λ (h : i < n). get_or_append_left (new_passes desk net n) (new_pass desk net (n + 1) ∷ []) d i
    (omega (arith, h, len)) ∙ new_passes-at desk net n i d h)
    (λ (h : n ≤ i).
    let last : i ≡ length (new_passes desk net n) = omega (arith, h, less, len) in
    let same : n ≡ i = omega (arith, h, less) in
    ap (λ k. get_or (new_passes desk net n ++ new_pass desk net (n + 1) ∷ []) k d) last
    ∙ get_or-append_seam (new_passes desk net n) (new_pass desk net (n + 1)) [] d
    ∙ ap (λ k. new_pass desk net (k + 1)) same)
    (cases_lt i n)

-- and so are the acts at a place
each_acts-at : (items : List Item) (n i : ℕ) (d : List Act) → i < n
    → get_or (each_acts items n) i d ≡ acts_by (i + 1) items
each_acts-at items zero i d less = absurd (omega (arith, less))
each_acts-at items (suc n) i d less =
    let len = length-each_acts items n in
    ⊎_elim
    (λ (h : i < n). get_or_append_left (each_acts items n) (acts_by (n + 1) items ∷ []) d i (omega (arith, h, len))
    ∙ each_acts-at items n i d h)
    (λ (h : n ≤ i).
    let last : i ≡ length (each_acts items n) = omega (arith, h, less, len) in
    let same : n ≡ i = omega (arith, h, less) in
    ap (λ k. get_or (each_acts items n ++ acts_by (n + 1) items ∷ []) k d) last
    ∙ get_or-append_seam (each_acts items n) (acts_by (n + 1) items) [] d ∙ ap (λ k. acts_by (k + 1) items) same)
    (cases_lt i n)

-- ---- total_todo
-- how many acts these lists have in all
abbrev total_of : List (List Act) → ℕ
total_of [] = 0
total_of (ds ∷ more) = length ds + total_of more

-- with one list more there are as many more as it has
total_of-push : (xs : List (List Act)) (ds : List Act) → total_of (xs ++ ds ∷ []) ≡ total_of xs + length ds
total_of-push [] ds = omega arith
total_of-push (x ∷ xs) ds = omega (arith, total_of-push xs ds)

-- the acts of analysts in all, by the lists of their acts
total_is : (analysts : List SeatedAnalyst)
    → total_todo analysts ≡ total_of (map (λ (a : SeatedAnalyst). a.0.todo.items) analysts)
total_is [] = refl
total_is (a ∷ more) = omega (arith, total_is more)

-- two things that are not so at once, and each of which implies a third, count no more than the third
one_if-apart : (b c d : Bool) → (b ≡ true → d ≡ true) → (c ≡ true → d ≡ true) → (b ≡ true → c ≡ true → ⊥)
    → one_if b + one_if c ≤ one_if d
one_if-apart true true d h k not = absurd (not refl refl)
one_if-apart true false true h k not = omega arith
one_if-apart true false false h k not = absurd (let bad = h refl in cc)
one_if-apart false true true h k not = omega arith
one_if-apart false true false h k not = absurd (let bad = k refl in cc)
one_if-apart false false d h k not = omega arith

-- a number that is at most n, or the next one, is at most n + 1
up_to_next : (k n : ℕ) → one_if (nat_le k n) + one_if (nat_eq k (n + 1)) ≤ one_if (nat_le k (n + 1))
up_to_next k n = one_if-apart (nat_le k n) (nat_eq k (n + 1)) (nat_le k (n + 1)) (λ h. grind (arith, nat_tests, h))
    (λ h. grind (arith, nat_tests, h)) (λ h e. absurd (grind (arith, nat_tests, h, e)))

-- if there are no items, no analyst has an act
total_of-no_items : (n : ℕ) → total_of (each_acts [] n) ≡ 0
total_of-no_items zero = refl
total_of-no_items (suc n) = omega (arith, total_of-push (each_acts [] n) [], total_of-no_items n)

-- one item more is one act more at most, and none where its analyst is not among the first n
total_of-item : (i : Item) (is : List Item) (n : ℕ)
    → total_of (each_acts (i ∷ is) n) ≤ total_of (each_acts is n) + one_if (nat_le i.analyst n)
total_of-item i is zero = omega arith
total_of-item i is (suc n) =
    let next : one_if (nat_le i.analyst n) + one_if (nat_eq i.analyst (n + 1)) ≤ one_if (nat_le i.analyst (n + 1)) =
    up_to_next i.analyst n in
    let whole : suc n ≡ n + 1 = omega arith in
    subst (λ m. total_of (each_acts (i ∷ is) (suc n)) ≤ total_of (each_acts is (suc n)) + one_if (nat_le i.analyst m))
    (sym whole)
    (omega (
      arith,
      next,
      total_of-item i is n,
      length-own_act (n + 1) i,
      length-append (own_act (n + 1) i) (acts_by (n + 1) is),
      total_of-push (each_acts (i ∷ is) n) (acts_by (n + 1) (i ∷ is)),
      total_of-push (each_acts is n) (acts_by (n + 1) is),
    ))

-- so there are no more acts in all than items
total_of-items : (items : List Item) (n : ℕ) → total_of (each_acts items n) ≤ length items
total_of-items [] n = omega (arith, total_of-no_items n)
total_of-items (i ∷ is) n = omega (arith, total_of-item i is n, at_most_one (nat_le i.analyst n), total_of-items is n)

-- all together ask no more than the script has items
pub few_todo : (items : List Item) (analysts : List SeatedAnalyst) (n : ℕ)
    → map (λ (a : SeatedAnalyst). a.0.todo.items) analysts ≡ each_acts items n → length items ≤ MAX_ITEMS
    → total_todo analysts ≤ MAX_ITEMS
few_todo items analysts n are few = let same = ap total_of are in
    omega (arith, total_is analysts, same, total_of-items items n, few)

-- ---- what a run begins with
-- there are as many analysts as new passes
pub many_analysts : (desk : TableId) (net : Net) (n : ℕ) (passes : List PassView) (analysts : List SeatedAnalyst)
    → map (λ (a : SeatedAnalyst). a.0.pass) analysts ≡ passes → passes ≡ new_passes desk net n → length analysts ≡ n
many_analysts desk net n passes analysts are new = sym (length-map analysts (λ (a : SeatedAnalyst). a.0.pass))
    ∙ ap length (are ∙ new) ∙ new_passes_count desk net n

-- a new pass is of its desk, and nothing was asked with it
ready_new : (desk : TableId) (net : Net) (x : ℕ) (p : PassView) → p ≡ new_pass desk net x
    → (p.desk ≡ desk) × AreAsked [] p.account
ready_new desk net x p is = subst (λ (q : PassView). (q.desk ≡ desk) × AreAsked [] q.account) (sym is)
    (refl, record { all = λ e. refl; at_most = omega arith; fewer = λ e. absurd cc })

-- analysts with new passes of a desk have asked nothing there yet
pub all_ready : (desk : TableId) (net : Net) (n : ℕ) (passes : List PassView) (analysts : List SeatedAnalyst)
    → map (λ (a : SeatedAnalyst). a.0.pass) analysts ≡ passes → passes ≡ new_passes desk net n
    → (k : ℕ) (d : SeatedAnalyst) → k < length analysts → HasAskedNothing desk (get_or analysts k d).0
all_ready desk net n passes analysts are new k d less =
    let len = many_analysts desk net n passes analysts are new in
    let own : (get_or analysts k d).0.pass ≡ new_pass desk net (k + 1) =
    sym (get_or-map (λ (a : SeatedAnalyst). a.0.pass) analysts k d d.0.pass less)
    ∙ ap (λ ps. get_or ps k d.0.pass) (are ∙ new) ∙ new_passes-at desk net n k d.0.pass
    (omega (arith, less, len)) in
    let r = ready_new desk net (k + 1) (get_or analysts k d).0.pass own in
    record { desk_is = r.0; all = r.1 }

-- a new helm and a world as it opens are in step
pub begins_in_step : (desk : TableId) (net : Net) (n : ℕ) (h : HelmView) (w : WorldView) → h ≡ new_helm desk net n
    → w ≡ opening_world net → InStep h w
begins_in_step desk net n h w is begins =
    subst (λ (x : HelmView). InStep x w) (sym is)
    (subst (λ (x : WorldView). InStep (new_helm desk net n) x) (sym begins)
    (record { net = refl; clones = refl; front = refl }))

-- ---- what the journal says of the script
-- the calls of the analyst at a place are the decisions among its acts
asked_at : (events : List Event) (analysts : List SeatedAnalyst) → AllAsked events analysts
    → (k : ℕ) (p : PassView) (t : List Act) → k < length analysts
    → decisions_in (calls_by (get_or (map (λ (a : SeatedAnalyst). a.0.pass) analysts) k p).account.caller events)
    ≡ decisions_asked (get_or (map (λ (a : SeatedAnalyst). a.0.todo.items) analysts) k t)
asked_at events [] all k p t less = absurd (omega (arith, less))
asked_at events (a ∷ more) all zero p t less = all.0
asked_at events (a ∷ more) all (suc k) p t less = asked_at events more all.1 k p t (omega (arith, less))

-- what is not so counts 0
not_one : (b : Bool) → (b ≡ true → ⊥) → one_if b ≡ 0
not_one true h = absurd (h refl)
not_one false h = refl

-- 0, and a number that is beyond those of new passes, has no account among theirs
no_account : (desk : TableId) (net : Net) (n x : ℕ) → (x ≡ 0) ⊎ (n < x)
    → accounts_of x (map (λ p. p.account) (new_passes desk net n)) ≡ 0
no_account desk net zero x h = refl
no_account desk net (suc n) x h =
    let last : one_if (nat_eq (n + 1) x) ≡ 0 =
    not_one (nat_eq (n + 1) x) (λ e. ⊎_elim (λ (z : x ≡ 0). absurd (grind (arith, nat_tests, e, z)))
    (λ (z : suc n < x). absurd (grind (arith, nat_tests, e, z))) h) in
    let before : (x ≡ 0) ⊎ (n < x) = ⊎_elim (λ (z : x ≡ 0). inl z) (λ (z : suc n < x). inr (omega (arith, z))) h in
    ap (accounts_of x) (map-append (λ p. p.account) (new_passes desk net n) (new_pass desk net (n + 1) ∷ []))
    ∙ accounts_of-append x (map (λ p. p.account) (new_passes desk net n)) ((new_pass desk net (n + 1)).account ∷ [])
    ∙ omega (arith, last, no_account desk net n x before)

-- if analysts with new passes have asked all acts of the script, the journal is one of the script
pub journal_of_script : (desk : TableId) (net : Net) (s : ScriptView) (passes : List PassView)
    (analysts : List SeatedAnalyst) (book : BookView) → map (λ (a : SeatedAnalyst). a.0.pass) analysts ≡ passes
    → passes ≡ new_passes desk net (length s.analysts)
    → map (λ (a : SeatedAnalyst). a.0.todo.items) analysts ≡ each_acts s.items (length s.analysts)
    → IsAllAsked net analysts book → IsJournalOf net s book
journal_of_script desk net s passes analysts book are new todo asked =
    let n = length s.analysts in
    let len = many_analysts desk net n passes analysts are new in
    record {
      net_is = asked.net_is;
      legal = asked.legal;
      asked_all = λ a is.
          let back : a - 1 + 1 ≡ a = omega (arith, is.low) in
          let p : PassView = new_pass desk net 0 in
          let below : a - 1 < n = omega (arith, is.low, is.high) in
          let caller : (get_or (map (λ (x : SeatedAnalyst). x.0.pass) analysts) (a - 1) p).account.caller ≡ a =
          ap (λ (q : PassView). q.account.caller) (ap (λ ps. get_or ps (a - 1) p) (are ∙ new)
          ∙ new_passes-at desk net n (a - 1) p below) ∙ back in
          let own : get_or (map (λ (x : SeatedAnalyst). x.0.todo.items) analysts) (a - 1) [] ≡ acts_by a s.items =
          ap (λ ts. get_or ts (a - 1) []) todo ∙ each_acts-at s.items n (a - 1) [] below
          ∙ ap (λ k. acts_by k s.items) back in
          ap (λ x. decisions_in (calls_by x book.events)) (sym caller) ∙ asked_at book.events analysts asked.asked_all
          (a - 1) p [] (omega (arith, below, len)) ∙ ap decisions_asked own;
      others = λ x h. asked.others x
          (ap (accounts_of x) (sym (accounts_are analysts) ∙ ap (map (λ p. p.account)) (are ∙ new))
          ∙ no_account desk net n x h);
    }
