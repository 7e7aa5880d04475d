-- Steps between turns: reading the front, splitting and merging passes, the beginning and the end.
use Rattle.std.proofs.Common.{◌≡◌, ◌≢◌, ℕ, zero, suc, ◌+◌, ◌-◌, ◌%◌, ◌^◌, ◌<◌, ◌≤◌, true}
use Rattle.std.proofs.Common.{false, true≢false, List, [], ◌∷◌, ◌++◌, length, set, sym, refl, ap, ◌∙◌}
use Rattle.std.proofs.Common.{subst, ⊎_elim, inl, inr, arith, slice_index, slice_set, Some, nat_eq, if◌then◌else◌}
use Rattle.std.proofs.Math.Nat.{mod-add-mod}
use Rattle.std.proofs.lemmas.Bool.{cases_eq}
use Rattle.std.proofs.lemmas.Option.{same_Some}
use mathlib.Core.Option.{Option, some, none, some-ne-none, some-injective}
use lib.ListN.{get_elem?}
use mathlib.Core.List.{IsPrefix}
use Rattle.atomic_table.specs.Table.{Me, Allows, carried_after, Splits, Joins, opening, Final, Seen, rest, keeps, gives}
use Rattle.atomic_table.proofs.Lists.{at_set, at_snoc, at_longer, set_else, set_here}
use Rattle.net_model.specs.Net.{Net}
use Rattle.decision_book.specs.declared.call.TheConstants.{MAX_CALLS}
use Rattle.decision_book.specs.Journal.{Event, calls_of, front_of}
use Rattle.decision_desk.specs.declared.desk.TheConstants.{MAX_PARTS}
use Rattle.decision_desk.specs.declared.view.View.{View}
use Rattle.atomic_table.specs.Seated.{TableId}
use Rattle.decision_book.specs.Books.{BookView}
use Rattle.decision_desk.specs.Passes.{HelmView, view_of_helm, IsFinalBook}
use Rattle.decision_desk.specs.Accounts.{Account, AreAccounts, IsAccount, accounts_of}
use Rattle.decision_desk.specs.Accounts.{calls_by, OnlyCalls}
use Rattle.decision_desk.specs.Turns.{Slot, book_of, total, ticket_count, has_ticket, has_caller, Fits}
use Rattle.decision_desk.specs.Turns.{EachFits, NoTurn, BookIsHomeOrInTurn, OneAccountEach, OneHelm, IsDesk}
use Rattle.decision_desk.specs.Turns.{in_line, view_with_turn}
use Rattle.decision_desk.specs.Turns.{new_account, pass_view, helm_view, spent_view, view_after_look, full_account}
use Rattle.decision_desk.specs.Turns.{HasSeenFront, HasEndedFullTurn}
use Rattle.decision_desk.proofs.Journals.{prefix_refl, front_of-prefix}
use Rattle.decision_desk.proofs.Journals.{account_looked, account_full, accounts_append, accounts_of-append}
use Rattle.decision_desk.proofs.Turnings.{Becomes, Alike, only_same, total_set, two_below, each_set, no_turn_set}
use Rattle.decision_desk.proofs.Turnings.{parts_stay, once_stays, some_helm_stays, one_helm_stays, others_stay}
use Rattle.decision_desk.proofs.Turnings.{rest_home, others_idle, ticket_in_line, in_turn, fits_served, once_less}
use Rattle.decision_desk.proofs.Turnings.{once_more, get_elem-bounds}
use Rattle.decision_desk.proofs.Turnings.{none_waiting, no_tickets, one_waiting, only_ticket}

-- ---- Fits

-- a change of a seat's knowledge while it is at rest
at_rest : (net : Net) (serve : ℕ) (j : List Event) (v w : View) → w.waits ≡ false → w.turn ≡ false → w.parts ≡ v.parts
    → w.net ≡ v.net → IsPrefix w.seen j → (w.steers ≡ true → OnlyCalls w.helm j)
    → (v.parts ≡ 0 → w.accounts ≡ []) → AreAccounts j w.accounts → Fits net serve j v → Fits net serve j w
at_rest net serve j v w idle still parts about seen helm unowned accounts f = record {
  part = omega (arith, none_waiting w idle);
  idle = λ z. unowned (sym parts ∙ z);
  about = λ some_part. about ∙ f.about (omega (arith, parts, some_part));
  seen = seen;
  turn = λ turn. absurd (true≢false (sym turn ∙ still));
  helm = helm;
  accounts = accounts;
}

-- ---- Allows: reading the front

-- a pass at rest may read the front: it sees the journal up to there, and its account has the front
Allows-front : (slots id : ℕ) (m : Me Slot View) → m.0.waits ≡ false → m.0.turn ≡ false → 0 < m.0.parts
    → m.0.steers ≡ false → (a : Account) → m.0.accounts ≡ a ∷ []
    → Allows IsDesk slots id m 0 (λ n. n) (λ n m'. (j : List Event) × IsPrefix m.0.seen j × (n ≡ front_of j)
    × (m' ≡ (view_after_look m.0 a j, m.1)) × (front_of m.0.seen ≤ n))
Allows-front slots id m idle still some_part plain a mine s k one at small =
    let v : View = m.0 in
    let w : View = view_after_look v a k.journal in
    let f = k.fits id v at in
    let same : Alike v w = record {
      parts = refl;
      callers = λ x. sym (ap (accounts_of x) mine);
      steers = refl;
      made = refl;
    } in
    let right : IsAccount k.journal a = (subst (AreAccounts k.journal) mine f.accounts).0 in (
      w,
      keeps,
      tt,
      record {
        net = k.net;
        journal = k.journal;
        next = k.next;
        serve = k.serve;
        words = ap (λ ws. slice_set ws 0 (slice_index ws 0)) k.words;
        at_most = k.at_most;
        rising = k.rising;
        parts = parts_stay s k id v w at same;
        line = omega (arith, total_set ticket_count s.views id v w at, k.line);
        each_once = λ x. omega (arith, total_set (has_ticket x) s.views id v w at, k.each_once x);
        fits = each_set k.net k.serve k.journal s.views id w
            (at_rest k.net k.serve k.journal v w idle still refl refl (prefix_refl k.journal)
            (λ steers. absurd (true≢false (sym steers ∙ plain))) (λ z. absurd (omega (arith, z, some_part)))
            (account_looked k.journal a right, tt) f) k.fits;
        home = rest_home k.net k.journal s.homes s.views id v w at still still k.home;
        once = once_stays s k id v w at same;
        others = others_stay s k id v w at same;
        some_helm = some_helm_stays s k id v w at same;
        one_helm = one_helm_stays s k id v w at same;
      },
      (
        k.journal,
        f.seen,
        ap (λ ws. slice_index ws 0) k.words,
        refl,
        let e : slice_index s.words 0
            ≡ front_of k.journal = ap (λ ws. slice_index ws 0) k.words in
            omega (arith, e, front_of-prefix v.seen k.journal f.seen k.rising),
      ),
    )

-- the result is that of HasSeenFront for each of its accounts
pub Allows-look : (slots id : ℕ) (m : Me Slot View) → m.0.waits ≡ false → m.0.turn ≡ false → 0 < m.0.parts
    → m.0.steers ≡ false → (a : Account) → m.0.accounts ≡ a ∷ [] → Allows IsDesk slots id m 0 (λ n. n) (HasSeenFront m)
Allows-look slots id m idle still some_part plain a mine s k one at small =
    let r = Allows-front slots id m idle still some_part plain a mine s k one at small in (
      r.0,
      r.1,
      r.2,
      r.3,
      λ b too. (
        r.4.0,
        r.4.1,
        r.4.2,
        subst (λ (e : Account). Becomes (r.0, carried_after m.1 r.1) (view_after_look m.0 e r.4.0, m.1))
            (only_same a b m.0.accounts mine too) r.4.3,
        r.4.4,
      ),
    )

-- ---- Allows: the end of a turn after the reply Full

-- a pass may end its turn with its account marked Full, if the journal is full
Allows-full : (slots id : ℕ) (v : View) → 0 < v.parts → v.turn ≡ true → (a : Account) → v.accounts ≡ a ∷ []
    → length (calls_of v.seen) ≡ MAX_CALLS
    → Allows IsDesk slots id (v, (0, book_of v.net v.seen) ∷ []) 2 (λ n. (n + 1) % 2 ^ 64)
    (λ _ m'. m' ≡ (record (view_with_turn v false 0 false v.seen) { accounts = full_account a ∷ [] }, []))
Allows-full slots id v some_part turn a mine whole s k one at small =
    let w : View = record (view_with_turn v false 0 false v.seen) { accounts = full_account a ∷ [] } in
    let f = k.fits id v at in
    let t = f.turn turn in
    let same : Alike v w = record {
      parts = refl;
      callers = λ x. sym (ap (accounts_of x) mine);
      steers = refl;
      made = refl;
    } in
    let idle = others_idle s k id v at t.0 t.1 in
    let line = ticket_in_line s k id v at t.0 in
    let right : IsAccount k.journal a = (subst (AreAccounts k.journal) mine f.accounts).0 in
    let whole' : length (calls_of k.journal) ≡ MAX_CALLS = ap (λ l. length (calls_of l)) (sym t.2) ∙ whole in
    let was_waiting : ticket_count v ≡ 1 = one_waiting v t.0 in (
      w,
      gives,
      tt,
      record {
        net = k.net;
        journal = k.journal;
        next = k.next;
        serve = k.serve + 1;
        words = ap (λ ws. slice_set ws 2 ((slice_index ws 2 + 1) % 2 ^ 64)) k.words
            ∙ ap (λ (z : ℕ). front_of k.journal ∷ k.next % 2 ^ 64 ∷ z ∷ length (calls_of k.journal) ∷ [])
            (mod-add-mod k.serve (2 ^ 64) 1);
        at_most = k.at_most;
        rising = k.rising;
        parts = parts_stay s k id v w at same;
        line = omega (arith, total_set ticket_count s.views id v w at, k.line, was_waiting);
        each_once = λ y. omega (
          arith,
          total_set (has_ticket y) s.views id v w at,
          k.each_once y,
          only_ticket k.serve y v t.0 t.1,
          once_less y k.serve k.next (omega (arith, line, t.1)),
        );
        fits = λ i u e. ⊎_elim
            (λ (x : (i ≡ id) × (w ≡ u)). subst (λ (y : View). Fits k.net (k.serve + 1) k.journal y) x.1
            (record {
              part = omega arith;
              idle = λ z. absurd (omega (arith, z, some_part));
              about = f.about;
              seen = f.seen;
              turn = λ no. absurd (true≢false (sym no));
              helm = f.helm;
              accounts =
                  (account_full k.journal a whole' right, tt);
            }))
            (λ (x : (i ≢ id) × (get_elem? s.views i ≡ some u)). fits_served k.net k.serve k.journal u
            (idle i u x.0 x.1) (k.fits i u x.1)) (at_set s.views id i w u e);
        home = inl (
          ap (λ h. slice_set h 0 (some (book_of v.net v.seen))) (in_turn s k id v at turn)
              ∙ (ap (λ l. some (book_of v.net l) ∷ []) t.2 ∙ ap (λ n. some (book_of n k.journal) ∷ [])
              (f.about some_part)),
          no_turn_set s.views id w refl idle,
        );
        once = once_stays s k id v w at same;
        others = others_stay s k id v w at same;
        some_helm = some_helm_stays s k id v w at same;
        one_helm = one_helm_stays s k id v w at same;
      },
      refl,
    )

-- the result is that of HasEndedFullTurn for each such account
pub Allows-leave_full : (slots id : ℕ) (v : View) → 0 < v.parts → v.turn ≡ true → (a : Account) → v.accounts ≡ a ∷ []
    → length (calls_of v.seen) ≡ MAX_CALLS
    → Allows IsDesk slots id (v, (0, book_of v.net v.seen) ∷ []) 2 (λ n. (n + 1) % 2 ^ 64)
    (HasEndedFullTurn (v, (0, book_of v.net v.seen) ∷ []))
Allows-leave_full slots id v some_part turn a mine whole s k one at small =
    let c : List (ℕ × Slot) = (0, book_of v.net v.seen) ∷ [] in
    let r = Allows-full slots id v some_part turn a mine whole s k one at small in (
      r.0,
      r.1,
      r.2,
      r.3,
      λ b too. subst (λ (e : Account). Becomes (r.0, carried_after c r.1)
          (record (view_with_turn v false 0 false v.seen) { accounts = full_account e ∷ [] }, []))
          (only_same a b v.accounts mine too) r.4,
    )

-- ---- total, EachFits, BookIsHomeOrInTurn: one more seat

-- one more seat adds its part to the total
total_more : (f : View → ℕ) (views : List View) (w : View) → total f (views ++ w ∷ []) ≡ total f views + f w
total_more f [] w = omega arith
total_more f (u ∷ us) w = omega (arith, total_more f us w)

-- if all seats fit, and one more seat fits, all fit
each_more : (net : Net) (serve : ℕ) (j : List Event) (views : List View) (w : View) → Fits net serve j w
    → EachFits net serve j views → EachFits net serve j (views ++ w ∷ [])
each_more net serve j views w mine others i u e =
    ⊎_elim (λ x. others i u x) (λ (x : w ≡ u). subst (λ (y : View). Fits net serve j y) x mine) (at_snoc views w u i e)

-- the book is still in the slot or with the turn after one more seat without the turn
more_home : (net : Net) (j : List Event) (homes : List (Option Slot)) (views : List View) (w : View) → w.turn ≡ false
    → BookIsHomeOrInTurn net j homes views → BookIsHomeOrInTurn net j homes (views ++ w ∷ [])
more_home net j homes views w still home = ⊎_elim
    (λ (h : (homes ≡ some (book_of net j) ∷ []) × NoTurn views). inl (
      h.0,
      λ i u e. ⊎_elim (λ x. h.1 i u x) (λ (x : w ≡ u). subst (λ (y : View). y.turn ≡ false) x still)
          (at_snoc views w u i e),
    ))
    (λ (h : (homes ≡ none ∷ []) × ((i : ℕ) × (u : View) × (get_elem? views i ≡ some u) × (u.turn ≡ true))).
    inr (h.0, (h.1.0, h.1.1, at_longer views (w ∷ []) h.1.0 h.1.1 h.1.2, h.1.3)))
    home

-- ---- in_line

-- there is no caller after the last pass that was made
none_behind : (n : ℕ) → in_line n 1 n ≡ 0
none_behind n = grind arith

-- there is none before the first was made
none_behind_first : (x : ℕ) → in_line x 1 1 ≡ 0
none_behind_first x = grind arith

-- ---- Splits

-- a seat of the list after a split: the helm, an earlier seat, or the new pass
pub Splits-pass : (id : ℕ) (v : View) → v.waits ≡ false → v.turn ≡ false → v.steers ≡ true → 1 < v.parts
    → Splits IsDesk id v (record v { parts = v.parts - 1; made = v.made + 1 })
    (pass_view v.net v.seen (new_account (v.made + 1)))
Splits-pass id v idle still steers two s k at =
    let l : View = record v { parts = v.parts - 1; made = v.made + 1 } in
    let a : Account = new_account (v.made + 1) in
    let r : View = pass_view v.net v.seen a in
    let vs : List View = set s.views id l in
    let f = k.fits id v at in
    let nobody : total (has_caller (v.made + 1)) s.views ≡ 0 =
    k.once id v at steers (v.made + 1) ∙ none_behind (v.made + 1) in
    let count : (x : ℕ) → total (has_caller x) (vs ++ r ∷ []) ≡ total (has_caller x) s.views + has_caller x r =
    λ x. omega (arith, total_set (has_caller x) s.views id v l at, total_more (has_caller x) vs r) in
    let own : (x : ℕ) → has_caller x r ≡ (if nat_eq (v.made + 1) x then 1 else 0) = λ x. omega arith in
    let alone : (i : ℕ) (u : View) → get_elem? (vs ++ r ∷ []) i ≡ some u → u.steers ≡ true → (i ≡ id) × (l ≡ u) =
    λ i u e mine. ⊎_elim
    (λ (x : get_elem? vs i ≡ some u). ⊎_elim (λ (y : (i ≡ id) × (l ≡ u)). y)
    (λ (y : (i ≢ id) × (get_elem? s.views i ≡ some u)). absurd (y.0 (k.one_helm i id u v y.1 at mine steers)))
    (at_set s.views id i l u x))
    (λ (x : r ≡ u). absurd (true≢false (sym mine ∙ ap (λ (y : View). y.steers) (sym x)))) (at_snoc vs r u i e) in
    record {
      net = k.net;
      journal = k.journal;
      next = k.next;
      serve = k.serve;
      words = k.words;
      at_most = k.at_most;
      rising = k.rising;
      parts = omega (arith, total_set (λ u. u.parts) s.views id v l at, total_more (λ u. u.parts) vs r, k.parts, two);
      line = omega (
        arith,
        total_set ticket_count s.views id v l at,
        total_more ticket_count vs r,
        k.line,
        none_waiting v idle,
      );
      each_once = λ x. omega (
        arith,
        total_set (has_ticket x) s.views id v l at,
        total_more (has_ticket x) vs r,
        k.each_once x,
        no_tickets x v idle,
      );
      fits = each_more k.net k.serve k.journal vs r
          (record {
            part = omega arith;
            idle = λ z. absurd (omega (arith, z));
            about = λ _. f.about (omega (arith, two));
            seen = f.seen;
            turn = λ turn. absurd (true≢false (sym turn));
            helm = λ mine. absurd (true≢false (sym mine));
            accounts = (
              record {
                calls = sym (k.others (v.made + 1) nobody);
                fronts = tt;
                full = λ mine.
                    absurd (true≢false (sym mine));
              },
              tt,
            );
          })
          (each_set k.net k.serve k.journal s.views id l
          (record {
            part = omega (arith, none_waiting v idle);
            idle = λ z. absurd (omega (arith, z, two));
            about = λ _. f.about (omega (arith, two));
            seen = f.seen;
            turn = f.turn;
            helm = f.helm;
            accounts =
                f.accounts;
          }) k.fits);
      home = more_home k.net k.journal s.homes vs r refl
          (rest_home k.net k.journal s.homes s.views id v l at still still k.home);
      once = λ i u e mine x.
          let here : total (has_caller x) (vs ++ r ∷ []) ≡ in_line x 1 (v.made + 1 + 1) =
          omega (arith, count x, k.once id v at steers x, own x, once_more x 1 (v.made + 1) (omega arith)) in
          here ∙ ap (λ (y : View). in_line x 1 (y.made + 1)) (alone i u e mine).1;
      others = λ x nothing. k.others x (omega (arith, nothing, count x));
      some_helm = (
        id,
        l,
        at_longer vs (r ∷ []) id l (set_here s.views id l (get_elem-bounds s.views id v at)),
        steers,
      );
      one_helm = λ i j u w e d mine other. (alone i u e mine).0 ∙ sym (alone j w d other).0;
    }

-- ---- Joins

-- a seat at rest may take the parts and accounts of another one at rest that is not the helm's, and leave it spent
pub Joins-pass : (id : ℕ) (v : View) (other : ℕ) (u : View) → v.waits ≡ false → v.turn ≡ false → 0 < v.parts
    → u.waits ≡ false → u.turn ≡ false → u.steers ≡ false
    → Joins IsDesk id v other u (record v { parts = v.parts + u.parts; accounts = v.accounts ++ u.accounts }) spent_view
Joins-pass id v other u idle still some_part idle' still' plain s k at apart at' =
    let b : View = record v { parts = v.parts + u.parts; accounts = v.accounts ++ u.accounts } in
    let e : View = spent_view in
    let vs : List View = set s.views id b in
    let ws : List View = set vs other e in
    let there : get_elem? s.views other ≡ some u = sym (set_else s.views id other b (λ same. apart same)) ∙ at' in
    let f = k.fits id v at in
    let g = k.fits other u there in
    let count : (x : ℕ) → total (has_caller x) ws ≡ total (has_caller x) s.views =
    λ x. omega (
      arith,
      total_set (has_caller x) s.views id v b at,
      total_set (has_caller x) vs other u e at',
      accounts_of-append x v.accounts u.accounts,
    ) in
    let before : (i : ℕ) (w : View) → get_elem? ws i ≡ some w → w.steers ≡ true
    → (z : View) × (get_elem? s.views i ≡ some z) × (z.steers ≡ true) × (z.made ≡ w.made) = λ i w d mine. ⊎_elim
    (λ (x : (i ≡ other) × (e ≡ w)). absurd (true≢false (sym mine ∙ ap (λ (y : View). y.steers) (sym x.1))))
    (λ (x : (i ≢ other) × (get_elem? vs i ≡ some w)). ⊎_elim
    (λ (y : (i ≡ id) × (b ≡ w)). (
      v,
      ap (λ (n : ℕ). get_elem? s.views n) y.0 ∙ at,
      ap (λ (z : View). z.steers) y.1
          ∙ mine,
      ap (λ (z : View). z.made) y.1,
    ))
    (λ (y : (i ≢ id) × (get_elem? s.views i ≡ some w)). (w, y.1, mine, refl)) (at_set s.views id i b w x.1))
    (at_set vs other i e w d) in
    record {
      net = k.net;
      journal = k.journal;
      next = k.next;
      serve = k.serve;
      words = k.words;
      at_most = k.at_most;
      rising = k.rising;
      parts = omega (
        arith,
        total_set (λ u. u.parts) s.views id v b at,
        total_set (λ u. u.parts) vs other u e at',
        k.parts,
      );
      line = omega (
        arith,
        total_set ticket_count s.views id v b at,
        total_set ticket_count vs other u e at',
        k.line,
        none_waiting v idle,
        none_waiting u idle',
      );
      each_once = λ x. omega (
        arith,
        total_set (has_ticket x) s.views id v b at,
        total_set (has_ticket x) vs other u e at',
        k.each_once x,
        no_tickets x v idle,
        no_tickets x u idle',
      );
      fits = each_set k.net k.serve k.journal vs other e
          (record {
            part = omega arith;
            idle = λ _. refl;
            about = λ z. absurd (omega (arith, z));
            seen = (k.journal, refl);
            turn = λ no. absurd (true≢false (sym no));
            helm =
                λ no. absurd (true≢false (sym no));
            accounts = tt;
          })
          (each_set k.net k.serve k.journal s.views id b
          (record {
            part = omega (arith, none_waiting v idle);
            idle = λ z. absurd (omega (arith, z, some_part));
            about = λ _. f.about some_part;
            seen = f.seen;
            turn = f.turn;
            helm = f.helm;
            accounts = accounts_append k.journal v.accounts u.accounts f.accounts g.accounts;
          }) k.fits);
      home = rest_home k.net k.journal s.homes vs other u e at' still' refl
          (rest_home k.net k.journal s.homes s.views id v b at still still k.home);
      once = λ i w d mine x. let z = before i w d mine in
          count x ∙ (k.once i z.0 z.1 z.2 x ∙ ap (λ n. in_line x 1 (n + 1)) z.3);
      others = λ x nothing. k.others x (omega (arith, nothing, count x));
      some_helm = let h = k.some_helm in
          let apart_from : h.0 ≢ other = λ same. true≢false (sym h.3 ∙ (ap (λ (y : View). y.steers)
          (some-injective h.1 u (sym h.2 ∙ (ap (λ (n : ℕ). get_elem? s.views n) same ∙ there))) ∙ plain)) in
          ⊎_elim
          (λ (here : h.0 ≡ id). (
            id,
            b,
            set_else vs other id e (λ same. apart (sym same))
                ∙ set_here s.views id b (get_elem-bounds s.views id v at),
            ap (λ (y : View). y.steers) (some-injective v h.1
                (sym at ∙ (ap (λ (n : ℕ). get_elem? s.views n) (sym here) ∙ h.2))) ∙ h.3,
          ))
          (λ (far : h.0 ≢ id). (
            h.0,
            h.1,
            set_else vs other h.0 e apart_from ∙ (set_else s.views id h.0 b far ∙ h.2),
            h.3,
          )) (cases_eq h.0 id);
      one_helm = λ i j w z d c mine more. let p = before i w d mine in let q = before j z c more in
          k.one_helm i j p.0 q.0 p.1 q.1 p.2 q.2;
    }

-- ---- IsDesk

-- a new desk keeps the rule: the journal is empty, the book is in the slot, and only the helm has parts
pub IsDesk-opening : (net : Net)
    → IsDesk (opening (0 ∷ 0 ∷ 0 ∷ 0 ∷ []) (book_of net [] ∷ []) (helm_view net MAX_PARTS [] [] 0 []))
IsDesk-opening net = record {
  net = net;
  journal = [];
  next = 0;
  serve = 0;
  words = refl;
  at_most = omega arith;
  rising = tt;
  parts = refl;
  line = refl;
  each_once = λ x. grind arith;
  fits = only;
  home = inl (refl, still);
  once = made_none;
  others = λ x _. refl;
  some_helm = (0, first, refl, refl);
  one_helm = one;
}
  where
    first : View
    first = helm_view net MAX_PARTS [] [] 0 []

    fine : Fits net 0 [] first
    fine = record {
      part = omega arith;
      idle = λ _. refl;
      about = λ _. refl;
      seen = ([], refl);
      turn = λ no.
          absurd (true≢false (sym no));
      helm = λ _. ([], refl);
      accounts = tt;
    }

    only : EachFits net 0 [] (first ∷ [])
    only zero v e = subst (λ (y : View). Fits net 0 [] y) (some-injective first v e) fine
    only (suc j) v e = absurd (some-ne-none v (sym e))

    still : NoTurn (first ∷ [])
    still zero v e = subst (λ (y : View). y.turn ≡ false) (some-injective first v e) refl
    still (suc j) v e = absurd (some-ne-none v (sym e))

    made_none : OneAccountEach (first ∷ [])
    made_none zero v e steers x = subst (λ (y : View). 0 ≡ in_line x 1 (y.made + 1)) (some-injective first v e)
        (sym (none_behind_first x))
    made_none (suc j) v e steers x = absurd (some-ne-none v (sym e))

    one : OneHelm (first ∷ [])
    one zero zero u v e d a b = refl
    one zero (suc j) u v e d a b = absurd (some-ne-none v (sym d))
    one (suc i) j u v e d a b = absurd (some-ne-none u (sym e))

-- ---- HasEnded, IsFinalBook

-- if no seat has any, the total is 0
all_zero : (f : View → ℕ) (views : List View) → ((i : ℕ) (u : View) → get_elem? views i ≡ some u → f u ≡ 0)
    → total f views ≡ 0
all_zero f [] each = refl
all_zero f (u ∷ us) each = omega (arith, each 0 u refl, all_zero f us (λ i v e. each (suc i) v e))

-- the book, once one seat has every part and is at rest
pub record HasEnded (v : View) (slots : List Slot) : Type 0 where
  pub journal : List Event
  pub book : get_elem? slots 0 ≡ some (book_of v.net journal)
  pub seen : IsPrefix v.seen journal
  pub helm : v.steers ≡ true → OnlyCalls v.helm journal
  pub accounts : AreAccounts journal v.accounts
  pub others : (x : ℕ) → accounts_of x v.accounts ≡ 0 → calls_by x journal ≡ []
  pub once : v.steers ≡ true → (x : ℕ) → accounts_of x v.accounts ≡ in_line x 1 (v.made + 1)

-- this holds for a seat without the turn that has all parts, when the desk ends
pub HasEnded-final : (id : ℕ) (v : View) (ws : List ℕ) (xs : List Slot) → v.parts ≡ MAX_PARTS → v.turn ≡ false
    → Final (Seen IsDesk id v) ws xs → HasEnded v xs
HasEnded-final id v ws xs whole still final =
    let s = final.0 in
    let k : IsDesk s = final.1.0 in
    let at : get_elem? s.views id ≡ some v = final.1.1 in
    let f = k.fits id v at in
    let partless : (j : ℕ) (u : View) → j ≢ id → get_elem? s.views j ≡ some u → u.parts ≡ 0 =
    λ j u apart e. omega (arith, two_below (λ u. u.parts) s.views id j v u apart at e, k.parts, whole) in
    let quiet : (j : ℕ) (u : View) → get_elem? s.views j ≡ some u → ¬ (u.turn ≡ true) = λ j u e turn.
    let apart : j ≢ id = λ same. true≢false
    (sym turn ∙ (ap (λ (y : View). y.turn)
    (some-injective u v (sym e ∙ (ap (λ (i : ℕ). get_elem? s.views i) same ∙ at))) ∙ still)) in
    let g = k.fits j u e in
    omega (arith, partless j u apart e, g.part, one_waiting u (g.turn turn).0) in
    let home : s.homes ≡ some (book_of k.net k.journal) ∷ [] =
    ⊎_elim (λ (h : (s.homes ≡ some (book_of k.net k.journal) ∷ []) × NoTurn s.views). h.0)
    (λ (h : (s.homes ≡ none ∷ []) × ((j : ℕ) × (u : View) × (get_elem? s.views j ≡ some u) × (u.turn ≡ true))).
    absurd (quiet h.1.0 h.1.1 h.1.2 h.1.3)) k.home in
    let e : View = spent_view in
    let alone : (x : ℕ) → total (has_caller x) s.views ≡ has_caller x v = λ x.
    let z : total (has_caller x) (set s.views id e) ≡ 0 = all_zero (has_caller x) (set s.views id e) (λ j u d. ⊎_elim
    (λ (y : (j ≡ id) × (e ≡ u)). ap (has_caller x) (sym y.1))
    (λ (y : (j ≢ id) × (get_elem? s.views j ≡ some u)).
    ap (accounts_of x) ((k.fits j u y.1).idle (partless j u y.0 y.1))) (at_set s.views id j e u d)) in
    omega (arith, total_set (has_caller x) s.views id v e at, z) in
    record {
      journal = k.journal;
      book = final.4 0 (book_of v.net k.journal)
          (ap (λ h. get_elem? h 0) home ∙ ap (λ n. some (some (book_of n k.journal)))
          (sym (f.about (omega (arith, whole)))));
      seen = f.seen;
      helm = f.helm;
      accounts = f.accounts;
      others = λ x nothing. k.others x (alone x ∙ nothing);
      once = λ steers x. sym (alone x) ∙ k.once id v at steers x;
    }

-- a list of slots with a single element
pub only_one : (xs : List (ℕ × Slot)) (y : Slot) → xs ≡ (0, y) ∷ [] → xs ≡ (0, y) ∷ rest xs
only_one xs y e = e ∙ ap (λ (r : List (ℕ × Slot)). (0, y) ∷ r) (sym (ap rest e))

-- the book that is taken from the slot at the end
pub is_final_book : (h : HelmView) (t : TableId) (v : View) (xs : List Slot) (o : Slot) (b : BookView)
    → view_of_helm t v ≡ h → v.steers ≡ true → HasEnded v xs → get_elem? xs 0 ≡ some o → o ≡ Some b → IsFinalBook h b
is_final_book h t v xs o b is steers e at out =
    let same : b ≡ record { net = v.net; events = e.journal } =
    same_Some {A = BookView} b (record { net = v.net; events = e.journal })
    (sym out ∙ some-injective o (book_of v.net e.journal) (sym at ∙ e.book)) in
    subst (λ (k : HelmView). IsFinalBook k b) is (subst (λ (x : BookView). IsFinalBook (view_of_helm t v) x) (sym same)
    (record {
      net = refl;
      seen = e.seen;
      only_calls = e.helm steers;
      accounts = e.accounts;
      once = e.once steers;
      others = e.others;
    }))
