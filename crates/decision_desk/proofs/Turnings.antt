-- Each step of a seat keeps the rule of the desk.
use Rattle.std.proofs.Common.{◌≡◌, ◌≢◌, ℕ, zero, suc, ◌+◌, ◌%◌, ◌^◌, ◌<◌, ◌≤◌, Bool}
use Rattle.std.proofs.Common.{true, false, true≢false, List, [], ◌∷◌, ◌++◌, length, set, sym, refl}
use Rattle.std.proofs.Common.{ap, ◌∙◌, subst, ⊎_elim, inl, inr, arith, nat_eq, if◌then◌else◌, get_or, slice_index}
use Rattle.std.proofs.Common.{slice_set}
use Rattle.std.proofs.Math.Nat.{mod-add-mod, mod-eq_of_lt}
use Rattle.std.proofs.lemmas.Bool.{cases_eq, false_from_ne_true}
use mathlib.Core.Option.{Option, some, none, some-ne-none, some-injective}
use lib.ListN.{get_elem?}
use Rattle.atomic_table.specs.Table.{State, Me, Allows, Act, Valid, stepped, carried_after, keeps, takes, gives}
use Rattle.atomic_table.proofs.Lists.{at_set, set_else, set_here, set_again, one_turn}
use Rattle.net_model.specs.Net.{Net}
use Rattle.decision_book.specs.declared.call.Call.{Call}
use Rattle.decision_book.specs.declared.call.TheConstants.{MAX_CALLS}
use Rattle.decision_book.specs.Journal.{Event, NewFront, NewCall, calls_of, front_of}
use Rattle.decision_book.proofs.Growing.{calls_of-push_front, calls_of-push_length}
use Rattle.decision_desk.specs.declared.desk.TheConstants.{MAX_PARTS}
use Rattle.decision_desk.specs.declared.view.View.{View}
use Rattle.decision_desk.specs.Accounts.{Account, AreAccounts, IsAccount, accounts_of}
use Rattle.decision_desk.specs.Accounts.{calls_by, RisesFrom, OnlyCalls}
use Rattle.decision_desk.specs.Turns.{Slot, book_of, total, ticket_count, has_ticket, has_caller, in_line, Fits}
use Rattle.decision_desk.specs.Turns.{EachFits, NoTurn, BookIsHomeOrInTurn, OneAccountEach, OneHelm, SomeHelm, IsDesk}
use Rattle.decision_desk.specs.Turns.{view_with_turn, view_after_call, view_after_front, HasDrawnTicket, HasTurnIf}
use Rattle.decision_desk.specs.Turns.{HasTurnIfServed, HasAddedCall, HasEndedTurn}
use Rattle.decision_desk.proofs.Journals.{front_asked, front_raised, calls_by-other}
use Rattle.decision_desk.proofs.Journals.{calls_by-NewFront, prefix_refl, prefix_more, only_calls_refl, only_calls_more}
use Rattle.decision_desk.proofs.Journals.{account_called, accounts_raised, accounts_other, accounts_of-one, rises_asked}
use Rattle.decision_desk.proofs.Journals.{rises_raised, front_of-prefix}

-- ---- total

-- if one seat changes, the total loses its old part and gains its new one
pub total_set : (f : View → ℕ) (views : List View) (id : ℕ) (v w : View) → get_elem? views id ≡ some v
    → total f (set views id w) + f v ≡ total f views + f w
total_set f [] id v w e = absurd (some-ne-none v (sym e))
total_set f (u ∷ us) zero v w e = let d' : f u ≡ f v = ap f (some-injective u v e) in omega arith
total_set f (u ∷ us) (suc id) v w e = omega (arith, total_set f us id v w e)

-- one seat has at most the total
below_total : (f : View → ℕ) (views : List View) (id : ℕ) (v : View) → get_elem? views id ≡ some v
    → f v ≤ total f views
below_total f [] id v e = absurd (some-ne-none v (sym e))
below_total f (u ∷ us) zero v e = let d : f u ≡ f v = ap f (some-injective u v e) in omega arith
below_total f (u ∷ us) (suc id) v e = omega (arith, below_total f us id v e)

-- if no seat has more of one number than of another, the totals compare in the same way
total_le : (f h : View → ℕ) (views : List View) → ((id : ℕ) (v : View) → get_elem? views id ≡ some v → f v ≤ h v)
    → total f views ≤ total h views
total_le f h [] each = omega arith
total_le f h (u ∷ us) each = omega (arith, each 0 u refl, total_le f h us (λ i v e. each (suc i) v e))

-- the place of a seat is below the number of seats
pub get_elem-bounds : (views : List View) (id : ℕ) (v : View) → get_elem? views id ≡ some v → id < length views
get_elem-bounds [] id v e = absurd (some-ne-none v (sym e))
get_elem-bounds (u ∷ us) zero v e = omega arith
get_elem-bounds (u ∷ us) (suc id) v e = omega (arith, get_elem-bounds us id v e)

-- two seats have at most the total
pub two_below : (f : View → ℕ) (views : List View) (id j : ℕ) (v u : View) → j ≢ id → get_elem? views id ≡ some v
    → get_elem? views j ≡ some u → f v + f u ≤ total f views
two_below f [] id j v u n e d = absurd (some-ne-none v (sym e))
two_below f (x ∷ xs) zero zero v u n e d = absurd (n refl)
two_below f (x ∷ xs) zero (suc j) v u n e d = let s : f x ≡ f v = ap f (some-injective x v e) in
    omega (arith, s, below_total f xs j u d)
two_below f (x ∷ xs) (suc id) zero v u n e d = let s : f x ≡ f u = ap f (some-injective x u d) in
    omega (arith, s, below_total f xs id v e)
two_below f (x ∷ xs) (suc id) (suc j) v u n e d = omega (arith, two_below f xs id j v u (λ s. n (ap suc s)) e d)

-- ---- ticket_count, has_ticket, in_line

-- a seat that waits with a ticket has it
ticket_here : (v : View) (x : ℕ) → v.waits ≡ true → v.ticket ≡ x → has_ticket x v ≡ 1
ticket_here v x w e = ap (λ b. if b then (if nat_eq v.ticket x then 1 else 0) else 0) w ∙ grind (arith, e)

-- a seat that does not wait has no ticket
pub none_waiting : (v : View) → v.waits ≡ false → ticket_count v ≡ 0
none_waiting v idle = ap (λ b. if b then 1 else 0) idle

-- it has none of any number
pub no_tickets : (x : ℕ) (v : View) → v.waits ≡ false → has_ticket x v ≡ 0
no_tickets x v idle = ap (λ b. if b then (if nat_eq v.ticket x then 1 else 0) else 0) idle

-- a seat that waits has one ticket
pub one_waiting : (v : View) → v.waits ≡ true → ticket_count v ≡ 1
one_waiting v waits = ap (λ b. if b then 1 else 0) waits

-- it is its own ticket, and no other
pub only_ticket : (x y : ℕ) (v : View) → v.waits ≡ true → v.ticket ≡ x
    → has_ticket y v ≡ (if nat_eq x y then 1 else 0)
only_ticket x y v waits is = ap (λ b. if b then (if nat_eq v.ticket y then 1 else 0) else 0) waits
    ∙ ap (λ z. if nat_eq z y then 1 else 0) is

-- a ticket is in line at most once
one_line : (x from to : ℕ) → in_line x from to ≤ 1
one_line x from to = grind arith

-- a ticket in line is one of those from the first number on, and before the second
in_line_in : (x from to : ℕ) → 1 ≤ in_line x from to → (from ≤ x) × (x < to)
in_line_in x from to h = (grind (arith, h), grind (arith, h))

-- a line that ends one later has gained exactly the ticket at its end
pub once_more : (x from to : ℕ) → from ≤ to
    → in_line x from (to + 1) ≡ in_line x from to + (if nat_eq to x then 1 else 0)
once_more x from to h = grind (arith, h)

-- a line that begins one later has lost exactly the first ticket
pub once_less : (x from to : ℕ) → from < to
    → in_line x from to ≡ in_line x (from + 1) to + (if nat_eq from x then 1 else 0)
once_less x from to h = grind (arith, h)

-- ---- EachFits, NoTurn

-- if all seats fit, and one changes to a seat that fits, all still fit
pub each_set : (net : Net) (serve : ℕ) (j : List Event) (views : List View) (id : ℕ) (w : View) → Fits net serve j w
    → EachFits net serve j views → EachFits net serve j (set views id w)
each_set net serve j views id w mine others i u e =
    ⊎_elim (λ (x : (i ≡ id) × (w ≡ u)). subst (λ (y : View). Fits net serve j y) x.1 mine)
    (λ (x : (i ≢ id) × (get_elem? views i ≡ some u)). others i u x.1) (at_set views id i w u e)

-- if one seat changes to one without the turn, and no other has it, none has the turn
pub no_turn_set : (views : List View) (id : ℕ) (w : View) → w.turn ≡ false
    → ((j : ℕ) (u : View) → j ≢ id → get_elem? views j ≡ some u → u.turn ≡ false) → NoTurn (set views id w)
no_turn_set views id w mine others j u e =
    ⊎_elim (λ (x : (j ≡ id) × (w ≡ u)). subst (λ (y : View). y.turn ≡ false) x.1 mine)
    (λ (x : (j ≢ id) × (get_elem? views j ≡ some u)). others j u x.0 x.1) (at_set views id j w u e)

-- ---- Alike

-- a seat with the same parts and callers, and the same role at the helm
pub record Alike (v w : View) : Type 0 where
  pub parts : w.parts ≡ v.parts
  pub callers : (x : ℕ) → has_caller x w ≡ has_caller x v
  pub steers : w.steers ≡ v.steers
  pub made : w.made ≡ v.made

-- two seats are alike if their parts, accounts, steering and number of passes made are equal
alike_refl : (v w : View) → w.parts ≡ v.parts → w.accounts ≡ v.accounts → w.steers ≡ v.steers → w.made ≡ v.made
    → Alike v w
alike_refl v w p a s m = record { parts = p; callers = λ x. ap (accounts_of x) a; steers = s; made = m }

-- facts that stay if one seat changes to one that is alike
module _ (s : State Slot View) (k : IsDesk s) (id : ℕ) (v w : View) (at : get_elem? s.views id ≡ some v)
    (same : Alike v w) where
  -- the number of parts is unchanged
  pub parts_stay : total (λ u. u.parts) (set s.views id w) ≡ MAX_PARTS
  parts_stay = omega (arith, total_set (λ u. u.parts) s.views id v w at, k.parts, same.parts)

  -- each caller has the same number of accounts
  pub callers_stay : (x : ℕ) → total (has_caller x) (set s.views id w) ≡ total (has_caller x) s.views
  callers_stay x = omega (arith, total_set (has_caller x) s.views id v w at, same.callers x)

  -- each caller of a pass that was made has one account, and no other caller has any
  pub once_stays : OneAccountEach (set s.views id w)
  once_stays i u e steers x = callers_stay x ∙ ⊎_elim
      (λ (h : (i ≡ id) × (w ≡ u)). k.once id v at (sym same.steers ∙ (ap (λ (y : View). y.steers) h.1 ∙ steers)) x
      ∙ ap (λ n. in_line x 1 (n + 1)) (sym same.made ∙ ap (λ (y : View). y.made) h.1))
      (λ (h : (i ≢ id) × (get_elem? s.views i ≡ some u)). k.once i u h.1 steers x) (at_set s.views id i w u e)

  -- some seat is the helm's
  pub some_helm_stays : SomeHelm (set s.views id w)
  some_helm_stays = let h = k.some_helm in ⊎_elim
      (λ (here : h.0 ≡ id). (
        id,
        w,
        set_here s.views id w (get_elem-bounds s.views id v at),
        same.steers ∙ (ap (λ (y : View). y.steers) (some-injective v h.1
            (sym at ∙ (ap (λ (n : ℕ). get_elem? s.views n) (sym here) ∙ h.2))) ∙ h.3),
      ))
      (λ (other : h.0 ≢ id). (h.0, h.1, set_else s.views id h.0 w other ∙ h.2, h.3)) (cases_eq h.0 id)

  -- a seat after the change, and before it
  pub was : (i : ℕ) (u : View) → get_elem? (set s.views id w) i ≡ some u → (z : View) × (get_elem? s.views i ≡ some z)
      × (u.steers ≡ z.steers)
  was i u e = ⊎_elim
      (λ (h : (i ≡ id) × (w ≡ u)). (
        v,
        ap (λ (n : ℕ). get_elem? s.views n) h.0 ∙ at,
        sym (ap (λ (y : View). y.steers) h.1) ∙ same.steers,
      ))
      (λ (h : (i ≢ id) × (get_elem? s.views i ≡ some u)). (u, h.1, refl)) (at_set s.views id i w u e)

  -- at most one seat is the helm's
  pub one_helm_stays : OneHelm (set s.views id w)
  one_helm_stays i j u z e d mine other =
      let a = was i u e in
      let b = was j z d in
      k.one_helm i j a.0 b.0 a.1 b.1 (sym a.2 ∙ mine) (sym b.2 ∙ other)

  -- a caller without an account has no calls
  pub others_stay : (x : ℕ) → total (has_caller x) (set s.views id w) ≡ 0 → calls_by x k.journal ≡ []
  others_stay x nobody = k.others x (omega (arith, nobody, callers_stay x))

-- no caller has more than one account
at_most_once : (s : State Slot View) → IsDesk s → (x : ℕ) → total (has_caller x) s.views ≤ 1
at_most_once s k x = let h = k.some_helm in omega (arith, k.once h.0 h.1 h.2 h.3 x, one_line x 1 (h.1.made + 1))

-- ---- each_once: the seat with the turn, and the others

-- if a seat waits with the ticket that is served, no other has the turn
module _ (s : State Slot View) (k : IsDesk s) (id : ℕ) (v : View) (at : get_elem? s.views id ≡ some v)
    (waits : v.waits ≡ true) where
  -- its ticket is in line
  pub ticket_in_line : (k.serve ≤ v.ticket) × (v.ticket < k.next)
  ticket_in_line = in_line_in v.ticket k.serve k.next
      (omega (
        arith,
        k.each_once v.ticket,
        below_total (has_ticket v.ticket) s.views id v at,
        ticket_here v v.ticket waits refl,
      ))

  -- if its ticket is the served one, no other seat has the turn
  pub others_idle : v.ticket ≡ k.serve → (j : ℕ) (u : View) → j ≢ id → get_elem? s.views j ≡ some u → u.turn ≡ false
  others_idle mine j u n e = false_from_ne_true u.turn (λ turn. let t = (k.fits j u e).turn turn in
      omega (
        arith,
        k.each_once k.serve,
        one_line k.serve k.serve k.next,
        two_below (has_ticket k.serve) s.views id j v u n at e,
        ticket_here v k.serve waits mine,
        ticket_here u k.serve t.0 t.1,
      ))

-- ---- BookIsHomeOrInTurn

-- the book is still in the slot or with the turn, if the changed seat neither had nor gets the turn
pub rest_home : (net : Net) (j : List Event) (homes : List (Option Slot)) (views : List View) (id : ℕ) (v w : View)
    → get_elem? views id ≡ some v → v.turn ≡ false → w.turn ≡ false → BookIsHomeOrInTurn net j homes views
    → BookIsHomeOrInTurn net j homes (set views id w)
rest_home net j homes views id v w at still still' home = ⊎_elim
    (λ (h : (homes ≡ some (book_of net j) ∷ []) × NoTurn views). inl
    (h.0, no_turn_set views id w still' (λ i u n e. h.1 i u e)))
    (λ (h : (homes ≡ none ∷ []) × ((i : ℕ) × (u : View) × (get_elem? views i ≡ some u) × (u.turn ≡ true))).
    inr (
      h.0,
      (
        h.1.0,
        h.1.1,
        set_else views id h.1.0 w
            (λ same. true≢false (sym h.1.3
            ∙ (ap (λ (y : View). y.turn) (some-injective h.1.1 v
            (sym h.1.2 ∙ (ap (λ (i : ℕ). get_elem? views i) same ∙ at))) ∙ still))) ∙ h.1.2,
        h.1.3,
      ),
    ))
    home

-- ---- Allows: a ticket is drawn, and served

-- a seat at rest with a part may draw the next ticket
pub Allows-draw : (slots id : ℕ) (m : Me Slot View) → m.0.waits ≡ false → m.0.turn ≡ false → 0 < m.0.parts
    → Allows IsDesk slots id m 1 (λ n. (n + 1) % 2 ^ 64) (HasDrawnTicket m)
Allows-draw slots id m idle still some_part s k one at small =
    let v : View = m.0 in
    let w : View = view_with_turn v true k.next false v.seen in
    let f = k.fits id v at in
    let same : Alike v w = alike_refl v w refl refl refl refl in (
      w,
      keeps,
      tt,
      record {
        net = k.net;
        journal = k.journal;
        next = k.next + 1;
        serve = k.serve;
        words = ap (λ ws. slice_set ws 1 ((slice_index ws 1 + 1) % 2 ^ 64)) k.words
            ∙ ap (λ (z : ℕ). front_of k.journal ∷ z ∷ k.serve % 2 ^ 64 ∷ length (calls_of k.journal) ∷ [])
            (mod-add-mod k.next (2 ^ 64) 1);
        at_most = k.at_most;
        rising = k.rising;
        parts = parts_stay s k id v w at same;
        line = omega (arith, total_set ticket_count s.views id v w at, k.line, none_waiting v idle);
        each_once = λ x. omega (
          arith,
          total_set (has_ticket x) s.views id v w at,
          k.each_once x,
          no_tickets x v idle,
          once_more x k.serve k.next (omega (arith, k.line)),
        );
        fits = each_set k.net k.serve k.journal s.views id w
            (record {
              part = omega (arith, some_part);
              idle = f.idle;
              about = f.about;
              seen = f.seen;
              turn = λ no.
                  absurd (true≢false (sym no));
              helm = f.helm;
              accounts = f.accounts;
            }) k.fits;
        home = rest_home k.net k.journal s.homes s.views id v w at still refl k.home;
        once = once_stays s k id v w at same;
        others = others_stay s k id v w at same;
        some_helm = some_helm_stays s k id v w at same;
        one_helm = one_helm_stays s k id v w at same;
      },
      (k.next, ap (λ ws. slice_index ws 1) k.words, refl),
    )

-- a remainder that two numbers in line share
same_place : (from x to n : ℕ) → from ≤ x → x < to → to ≤ from + MAX_PARTS → n ≡ from % 2 ^ 64 → n ≡ x % 2 ^ 64
    → x ≡ from
same_place from x to n low high near a b =
    sym (one_turn from x (2 ^ 64) low (omega (arith, low, high, near)) (sym a ∙ b))

-- there are at most as many tickets in line as parts
near : (s : State Slot View) (k : IsDesk s) → k.next ≤ k.serve + MAX_PARTS
near s k = omega (arith, k.line, k.parts, total_le ticket_count (λ u. u.parts) s.views (λ i u e. (k.fits i u e).part))

-- checking which ticket is served, whether or not it is that of this seat
serves_at : (id : ℕ) (m : Me Slot View) → 0 < m.0.parts → m.0.waits ≡ true → m.0.turn ≡ false
    → (s : State Slot View) (k : IsDesk s) → get_elem? s.views id ≡ some m.0
    → (b : Bool) → nat_eq (slice_index s.words 2) (m.0.ticket % 2 ^ 64) ≡ b
    → (w : View) × (a : Act Slot) × Valid s.homes m.1 a × IsDesk (stepped s 2 (slice_index s.words 2) id m.1 w a)
    × HasTurnIf b m (w, carried_after m.1 a)
serves_at id m some_part waits still s k at false is = (
  m.0,
  keeps,
  tt,
  record {
    net = k.net;
    journal = k.journal;
    next = k.next;
    serve = k.serve;
    words = ap (λ ws. slice_set ws 2 (slice_index ws 2)) k.words;
    at_most = k.at_most;
    rising = k.rising;
    parts = ap (total (λ u. u.parts)) (set_again s.views id m.0 at) ∙ k.parts;
    line = ap (λ vs. k.serve + total ticket_count vs) (set_again s.views id m.0 at) ∙ k.line;
    each_once = λ x. ap (total (has_ticket x)) (set_again s.views id m.0 at) ∙ k.each_once x;
    fits = subst (λ vs. EachFits k.net k.serve k.journal vs) (sym (set_again s.views id m.0 at)) k.fits;
    home = subst (λ vs. BookIsHomeOrInTurn k.net k.journal s.homes vs) (sym (set_again s.views id m.0 at)) k.home;
    once = subst OneAccountEach (sym (set_again s.views id m.0 at)) k.once;
    others = subst (λ vs. (x : ℕ) → total (has_caller x) vs ≡ 0 → calls_by x k.journal ≡ [])
        (sym (set_again s.views id m.0 at)) k.others;
    some_helm = subst SomeHelm (sym (set_again s.views id m.0 at)) k.some_helm;
    one_helm = subst OneHelm (sym (set_again s.views id m.0 at)) k.one_helm;
  },
  refl,
)
serves_at id m some_part waits still s k at true is =
    let v : View = m.0 in
    let w : View = view_with_turn v true v.ticket true k.journal in
    let f = k.fits id v at in
    let same : Alike v w = alike_refl v w refl refl refl refl in
    let line = ticket_in_line s k id v at waits in
    let found : slice_index s.words 2 ≡ k.serve % 2 ^ 64 = ap (λ ws. slice_index ws 2) k.words in
    let equal : slice_index s.words 2 ≡ v.ticket % 2 ^ 64 = grind (arith, is) in
    let mine : v.ticket ≡ k.serve = same_place k.serve v.ticket k.next (slice_index s.words 2) line.0 line.1
    (near s k) found equal in
    let idle = others_idle s k id v at waits mine in
    let free : s.homes ≡ some (book_of k.net k.journal) ∷ [] =
    ⊎_elim (λ (h : (s.homes ≡ some (book_of k.net k.journal) ∷ []) × NoTurn s.views). h.0)
    (λ (h : (s.homes ≡ none ∷ []) × ((j : ℕ) × (u : View) × (get_elem? s.views j ≡ some u) × (u.turn ≡ true))).
    let apart : h.1.0 ≢ id = λ e. true≢false
    (sym h.1.3 ∙ (ap (λ (y : View). y.turn)
    (some-injective h.1.1 v (sym h.1.2 ∙ (ap (λ (j : ℕ). get_elem? s.views j) e ∙ at))) ∙ still)) in
    absurd (true≢false (sym h.1.3 ∙ idle h.1.0 h.1.1 apart h.1.2))) k.home in
    let as_before : (x : ℕ) → has_ticket x v ≡ has_ticket x w =
    λ x. ap (λ b. if b then (if nat_eq v.ticket x then 1 else 0) else 0) waits in
    let was_waiting : ticket_count v ≡ 1 = one_waiting v waits in
    let net : k.net ≡ v.net = sym (f.about some_part) in (
      w,
      takes 0 (book_of v.net k.journal),
      ap (λ h. get_elem? h 0) free ∙ ap (λ n. some (some (book_of n k.journal))) net,
      record {
        net = k.net;
        journal = k.journal;
        next = k.next;
        serve = k.serve;
        words = ap (λ ws. slice_set ws 2 (slice_index ws 2)) k.words;
        at_most = k.at_most;
        rising = k.rising;
        parts = parts_stay s k id v w at same;
        line = omega (arith, total_set ticket_count s.views id v w at, k.line, was_waiting);
        each_once = λ x. omega (arith, total_set (has_ticket x) s.views id v w at, k.each_once x, as_before x);
        fits = each_set k.net k.serve k.journal s.views id w
            (record {
              part = omega (arith, f.part, was_waiting);
              idle = f.idle;
              about = f.about;
              seen = prefix_refl k.journal;
              turn = λ _. (refl, mine, refl);
              helm = f.helm;
              accounts = f.accounts;
            })
            k.fits;
        home = inr (
          ap (λ h. slice_set h 0 none) free,
          (id, w, set_here s.views id w (get_elem-bounds s.views id v at), refl),
        );
        once = once_stays s k id v w at same;
        others = others_stay s k id v w at same;
        some_helm = some_helm_stays s k id v w at same;
        one_helm = one_helm_stays s k id v w at same;
      },
      (k.journal, f.seen, k.at_most, f.helm, f.accounts, refl, front_of-prefix v.seen k.journal f.seen k.rising),
    )

-- a waiting seat may check which ticket is served, and has the turn and the book if it is its own
pub Allows-serve : (slots id : ℕ) (m : Me Slot View) → 0 < m.0.parts → m.0.waits ≡ true → m.0.turn ≡ false
    → Allows IsDesk slots id m 2 (λ n. n) (HasTurnIfServed m)
Allows-serve slots id m some_part waits still s k one at small =
    serves_at id m some_part waits still s k at (nat_eq (slice_index s.words 2) (m.0.ticket % 2 ^ 64)) refl

-- ---- Fits: in a turn

-- in its turn a seat knows the journal, and the slot is empty
pub in_turn : (s : State Slot View) (k : IsDesk s) (id : ℕ) (v : View) → get_elem? s.views id ≡ some v → v.turn ≡ true
    → s.homes ≡ none ∷ []
in_turn s k id v at turn = ⊎_elim (λ (h : (s.homes ≡ some (book_of k.net k.journal) ∷ []) × NoTurn s.views).
    absurd (true≢false (sym turn ∙ h.1 id v at)))
    (λ (h : (s.homes ≡ none ∷ []) × ((j : ℕ) × (u : View) × (get_elem? s.views j ≡ some u) × (u.turn ≡ true))). h.0)
    k.home

-- another seat's facts after one more call in the journal, of a caller whose account it does not have
fits_called : (net : Net) (serve : ℕ) (j : List Event) (c : Call) (u : View) → u.turn ≡ false
    → accounts_of c.caller u.accounts ≡ 0 → length (calls_of j) < MAX_CALLS → Fits net serve j u
    → Fits net serve (j ++ NewCall c ∷ []) u
fits_called net serve j c u still nobody free f = record {
  part = f.part;
  idle = f.idle;
  about = f.about;
  seen = prefix_more u.seen j (NewCall c) f.seen;
  turn = λ turn. absurd (true≢false (sym turn ∙ still));
  helm = λ steers. only_calls_more u.helm j c (f.helm steers);
  accounts = accounts_other j c u.accounts nobody free f.accounts;
}

-- another seat's facts after one more front in the journal
fits_raised : (net : Net) (serve : ℕ) (j : List Event) (f : ℕ) (u : View) → u.turn ≡ false → ¬ (u.steers ≡ true)
    → Fits net serve j u → Fits net serve (j ++ NewFront f ∷ []) u
fits_raised net serve j g u still other f = record {
  part = f.part;
  idle = f.idle;
  about = f.about;
  seen = prefix_more u.seen j (NewFront g) f.seen;
  turn = λ turn. absurd (true≢false (sym turn ∙ still));
  helm = λ steers. absurd (other steers);
  accounts = accounts_raised j g u.accounts f.accounts;
}

-- a seat without the turn still fits when the next ticket is served
pub fits_served : (net : Net) (serve : ℕ) (j : List Event) (u : View) → u.turn ≡ false → Fits net serve j u
    → Fits net (serve + 1) j u
fits_served net serve j u still f = record {
  part = f.part;
  idle = f.idle;
  about = f.about;
  seen = f.seen;
  turn = λ turn. absurd (true≢false (sym turn ∙ still));
  helm = f.helm;
  accounts = f.accounts;
}

-- ---- Allows: a call is added, or the front raised

-- a pass in its turn may add a call of its caller to the journal and its account, if the journal is not full
Allows-call : (said : List Call) (a : Account) (c : Call) (slots id : ℕ) (m : Me Slot View) → said ≡ c ∷ []
    → m.0.accounts ≡ a ∷ [] → c.caller ≡ a.caller → m.0.turn ≡ true → length (calls_of m.0.seen) < MAX_CALLS
    → Allows IsDesk slots id m 3 (λ n. (n + 1) % 2 ^ 64) (λ n m'. (n ≡ length (calls_of m.0.seen))
    × (m' ≡ (view_after_call m.0 a c, m.1)))
Allows-call said a c slots id m is_said mine by turn free s k one at small =
    let v : View = m.0 in
    let w : View = view_after_call v a c in
    let f = k.fits id v at in
    let t = f.turn turn in
    let is : v.seen ≡ k.journal = t.2 in
    let j = v.seen in
    let idle = others_idle s k id v at t.0 t.1 in
    let right : IsAccount j a = (subst (AreAccounts j) mine
    (subst (λ (l : List Event). AreAccounts l v.accounts) (sym is) f.accounts)).0 in
    let callers : (x : ℕ) → has_caller x w ≡ has_caller x v = λ x. sym (ap (accounts_of x) mine) in
    let same : Alike v w = record { parts = refl; callers = callers; steers = refl; made = refl } in
    let here : has_caller c.caller v ≡ 1 = ap (accounts_of c.caller) mine ∙ accounts_of-one a c.caller (sym by) in
    let nobody : (i : ℕ) (u : View) → i ≢ id → get_elem? s.views i ≡ some u → accounts_of c.caller u.accounts ≡ 0 =
    λ i u n e.
    omega (arith, at_most_once s k c.caller, two_below (has_caller c.caller) s.views id i v u n at e, here) in
    let as_before : (y : ℕ) → has_ticket y v ≡ has_ticket y w = λ y. refl in
    let was_waiting : ticket_count v ≡ 1 = one_waiting v t.0 in
    let longer : (length (calls_of k.journal) + 1) % 2 ^ 64 ≡ length (calls_of (j ++ NewCall c ∷ [])) =
    mod-eq_of_lt (omega (arith, k.at_most)) ∙ (ap (λ l. length (calls_of l) + 1) (sym is)
    ∙ sym (calls_of-push_length j c)) in
    let front : front_of k.journal ≡ front_of (j ++ NewCall c ∷ []) = ap front_of (sym is) ∙ sym (front_asked j c) in
    let fits_j : EachFits k.net k.serve j s.views = subst (λ (l : List Event). EachFits k.net k.serve l s.views)
    (sym is) k.fits in (
      w,
      keeps,
      tt,
      record {
        net = k.net;
        journal = j ++ NewCall c ∷ [];
        next = k.next;
        serve = k.serve;
        words = ap (λ ws. slice_set ws 3 ((slice_index ws 3 + 1) % 2 ^ 64)) k.words
            ∙ (ap (λ (z : ℕ). front_of k.journal ∷ k.next % 2 ^ 64 ∷ k.serve % 2 ^ 64 ∷ z ∷ []) longer
            ∙ ap (λ (z : ℕ). z ∷ k.next % 2 ^ 64 ∷ k.serve % 2 ^ 64 ∷ length (calls_of (j ++ NewCall c ∷ [])) ∷ [])
            front);
        at_most = omega (arith, calls_of-push_length j c, free);
        rising = rises_asked j c (subst (RisesFrom 0) (sym is) k.rising);
        parts = parts_stay s k id v w at same;
        line = omega (arith, total_set ticket_count s.views id v w at, k.line);
        each_once = λ y. omega (arith, total_set (has_ticket y) s.views id v w at, k.each_once y, as_before y);
        fits = λ i u e. ⊎_elim
            (λ (x : (i ≡ id) × (w ≡ u)). subst (λ (y : View). Fits k.net k.serve (j ++ NewCall c ∷ []) y) x.1
            (record {
              part = f.part;
              idle = λ no. absurd (omega (arith, no, f.part, was_waiting));
              about = f.about;
              seen = prefix_refl (j ++ NewCall c ∷ []);
              turn = λ _. (t.0, t.1, refl);
              helm = λ steers. only_calls_more v.helm j c (subst (OnlyCalls v.helm) (sym is) (f.helm steers));
              accounts = (account_called j c a by free right, tt);
            }))
            (λ (x : (i ≢ id) × (get_elem? s.views i ≡ some u)). fits_called k.net k.serve j c u (idle i u x.0 x.1)
            (nobody i u x.0 x.1) free (fits_j i u x.1)) (at_set s.views id i w u e);
        home = inr (in_turn s k id v at turn, (id, w, set_here s.views id w (get_elem-bounds s.views id v at), turn));
        once = once_stays s k id v w at same;
        others = λ x no.
            let no' : total (has_caller x) s.views ≡ 0 = omega (arith, no, callers_stay s k id v w at same x) in
            let other : c.caller ≢ x = λ e.
            absurd (omega (
              arith,
              no',
              below_total (has_caller x) s.views id v at,
              ap (λ (y : ℕ). has_caller y v) (sym e),
              here,
            )) in
            calls_by-other x j c other ∙ (ap (calls_by x) is ∙ k.others x no');
        some_helm = some_helm_stays s k id v w at same;
        one_helm = one_helm_stays s k id v w at same;
      },
      (ap (λ ws. slice_index ws 3) k.words ∙ ap (λ l. length (calls_of l)) (sym is), refl),
    )

-- the helm in its turn may raise the front to one above the last
pub Allows-raise_front : (f slots id : ℕ) (m : Me Slot View) → m.0.turn ≡ true → m.0.steers ≡ true
    → front_of m.0.seen < f
    → Allows IsDesk slots id m 0 (λ _. f) (λ _ m'. m' ≡ (view_after_front m.0 f, m.1))
Allows-raise_front g slots id m turn steers above s k one at small =
    let v : View = m.0 in
    let w : View = view_after_front v g in
    let f = k.fits id v at in
    let t = f.turn turn in
    let is : v.seen ≡ k.journal = t.2 in
    let j = v.seen in
    let idle = others_idle s k id v at t.0 t.1 in
    let same : Alike v w = alike_refl v w refl refl refl refl in
    let calls_same : length (calls_of k.journal) ≡ length (calls_of (j ++ NewFront g ∷ [])) =
    ap (λ l. length (calls_of l)) (sym is) ∙ ap length (sym (calls_of-push_front j g)) in
    let fits_j : EachFits k.net k.serve j s.views = subst (λ (l : List Event). EachFits k.net k.serve l s.views)
    (sym is) k.fits in (
      w,
      keeps,
      tt,
      record {
        net = k.net;
        journal = j ++ NewFront g ∷ [];
        next = k.next;
        serve = k.serve;
        words = ap (λ ws. slice_set ws 0 g) k.words
            ∙ (ap (λ (z : ℕ). g ∷ k.next % 2 ^ 64 ∷ k.serve % 2 ^ 64 ∷ z ∷ []) calls_same
            ∙ ap (λ (z : ℕ). z ∷ k.next % 2 ^ 64 ∷ k.serve % 2 ^ 64 ∷ length (calls_of (j ++ NewFront g ∷ [])) ∷ [])
            (sym (front_raised j g)));
        at_most = omega (arith, k.at_most, calls_same);
        rising = rises_raised j g (subst (RisesFrom 0) (sym is) k.rising) above;
        parts = parts_stay s k id v w at same;
        line = omega (arith, total_set ticket_count s.views id v w at, k.line);
        each_once = λ y. omega (arith, total_set (has_ticket y) s.views id v w at, k.each_once y);
        fits = λ i u e. ⊎_elim
            (λ (x : (i ≡ id) × (w ≡ u)). subst (λ (y : View). Fits k.net k.serve (j ++ NewFront g ∷ []) y) x.1
            (record {
              part = f.part;
              idle = f.idle;
              about = f.about;
              seen = prefix_refl (j ++ NewFront g ∷ []);
              turn = λ _. (t.0, t.1, refl);
              helm = λ _. only_calls_refl (j ++ NewFront g ∷ []);
              accounts = accounts_raised j g v.accounts (fits_j id v at).accounts;
            }))
            (λ (x : (i ≢ id) × (get_elem? s.views i ≡ some u)). fits_raised k.net k.serve j g u (idle i u x.0 x.1)
            (λ other. x.0 (k.one_helm i id u v x.1 at other steers)) (fits_j i u x.1)) (at_set s.views id i w u e);
        home = inr (in_turn s k id v at turn, (id, w, set_here s.views id w (get_elem-bounds s.views id v at), turn));
        once = once_stays s k id v w at same;
        others = λ x no. calls_by-NewFront x j g
            ∙ (ap (calls_by x) is ∙ k.others x (omega (arith, no, callers_stay s k id v w at same x)));
        some_helm = some_helm_stays s k id v w at same;
        one_helm = one_helm_stays s k id v w at same;
      },
      refl,
    )

-- ---- Allows: the turn ends

-- a seat may end its turn and put the book back, and the next ticket is served
pub Allows-leave : (slots id : ℕ) (v : View) → 0 < v.parts → v.turn ≡ true
    → Allows IsDesk slots id (v, (0, book_of v.net v.seen) ∷ []) 2 (λ n. (n + 1) % 2 ^ 64)
    (HasEndedTurn (v, (0, book_of v.net v.seen) ∷ []))
Allows-leave slots id v some_part turn s k one at small =
    let w : View = view_with_turn v false 0 false v.seen in
    let f = k.fits id v at in
    let t = f.turn turn in
    let same : Alike v w = alike_refl v w refl refl refl refl in
    let idle = others_idle s k id v at t.0 t.1 in
    let line = ticket_in_line s k id v at t.0 in
    let was_waiting : ticket_count v ≡ 1 = one_waiting v t.0 in (
      w,
      gives,
      tt,
      record {
        net = k.net;
        journal = k.journal;
        next = k.next;
        serve = k.serve + 1;
        words = ap (λ ws. slice_set ws 2 ((slice_index ws 2 + 1) % 2 ^ 64)) k.words
            ∙ ap (λ (z : ℕ). front_of k.journal ∷ k.next % 2 ^ 64 ∷ z ∷ length (calls_of k.journal) ∷ [])
            (mod-add-mod k.serve (2 ^ 64) 1);
        at_most = k.at_most;
        rising = k.rising;
        parts = parts_stay s k id v w at same;
        line = omega (arith, total_set ticket_count s.views id v w at, k.line, was_waiting);
        each_once = λ y. omega (
          arith,
          total_set (has_ticket y) s.views id v w at,
          k.each_once y,
          only_ticket k.serve y v t.0 t.1,
          once_less y k.serve k.next (omega (arith, line, t.1)),
        );
        fits = λ i u e. ⊎_elim
            (λ (x : (i ≡ id) × (w ≡ u)). subst (λ (y : View). Fits k.net (k.serve + 1) k.journal y) x.1
            (record {
              part = omega arith;
              idle = f.idle;
              about = f.about;
              seen = f.seen;
              turn = λ no.
                  absurd (true≢false (sym no));
              helm = f.helm;
              accounts = f.accounts;
            }))
            (λ (x : (i ≢ id) × (get_elem? s.views i ≡ some u)). fits_served k.net k.serve k.journal u
            (idle i u x.0 x.1) (k.fits i u x.1)) (at_set s.views id i w u e);
        home = inl (
          ap (λ h. slice_set h 0 (some (book_of v.net v.seen))) (in_turn s k id v at turn)
              ∙ (ap (λ l. some (book_of v.net l) ∷ []) t.2 ∙ ap (λ n. some (book_of n k.journal) ∷ [])
              (f.about some_part)),
          no_turn_set s.views id w refl idle,
        );
        once = once_stays s k id v w at same;
        others = others_stay s k id v w at same;
        some_helm = some_helm_stays s k id v w at same;
        one_helm = one_helm_stays s k id v w at same;
      },
      refl,
    )

-- ---- Allows: any account and any call

-- two accounts or two calls that are both the only one of a list are the same
pub only_same : {A : Type 0} (a b : A) (xs : List A) → xs ≡ a ∷ [] → xs ≡ b ∷ [] → a ≡ b
only_same a b xs e d = ap (λ l. get_or l 0 a) (sym e ∙ d)

-- one seat, with what it holds, is the other
abbrev pub Becomes : Me Slot View → Me Slot View → Type 0
Becomes m n = m ≡ n

-- a pass in its turn may add a call; the result is that of HasAddedCall for each such account and call
pub Allows-raise_count : (said : List Call) (a : Account) (c : Call) (slots id : ℕ) (m : Me Slot View) → said ≡ c ∷ []
    → m.0.accounts ≡ a ∷ [] → c.caller ≡ a.caller → m.0.turn ≡ true → length (calls_of m.0.seen) < MAX_CALLS
    → Allows IsDesk slots id m 3 (λ n. (n + 1) % 2 ^ 64) (HasAddedCall said m)
Allows-raise_count said a c slots id m is_said mine by turn free s k one at small =
    let r = Allows-call said a c slots id m is_said mine by turn free s k one at small in (
      r.0,
      r.1,
      r.2,
      r.3,
      λ b d said_too mine_too. (
        r.4.0,
        subst (λ (e : Call). Becomes (r.0, carried_after m.1 r.1) (view_after_call m.0 b e, m.1))
            (only_same c d said is_said said_too)
            (subst (λ (e : Account). Becomes (r.0, carried_after m.1 r.1) (view_after_call m.0 e c, m.1))
            (only_same a b m.0.accounts mine mine_too) r.4.1),
      ),
    )
