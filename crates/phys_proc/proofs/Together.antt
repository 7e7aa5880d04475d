-- A copy that takes a message which all its clones take.
use Rattle.std.proofs.Common.{◌≡◌, ℕ, ◌+◌, ◌<◌, ◌≤◌, ◌==◌, ◌&&◌, Bool, true, false, List, [], ◌∷◌, ◌++◌}
use Rattle.std.proofs.Common.{refl, sym, ap, ◌∙◌, subst, arith, ◌⊎◌, inl, inr, cond, map, length, nat_lt}
use Rattle.std.proofs.Common.{append-nil, append_assoc}
use Rattle.std.proofs.Common.{Option, Some, None, not, suc}
use Rattle.std.proofs.lemmas.Bool.{cases_Bool}
use Rattle.std.proofs.lemmas.Bool.Decides.{nat_tests}
use Rattle.std.specs.Prelude.{IfSome}
use Rattle.std.specs.List.{AllByRecursion}
use Rattle.sim_base.specs.Order.{msg_cmp}
use Rattle.sim_base.specs.Pending.{insert_marked}
use Rattle.sim_base.specs.declared.message.Msg.{Msg}
use Rattle.sim_base.specs.declared.entry.Entry.{Entry}
use Rattle.sim_base.specs.declared.entry.Line.{Line}
use Rattle.clone_sets.specs.Sets.{has, union}
use Rattle.clone_sets.specs.declared.set.CloneSet.{CloneSet}
use Rattle.run_laws.specs.Copies.{ComesTo, insert_marked_all}
use Rattle.run_laws.specs.Window.{to_others}
use Rattle.run_laws.specs.World.{to_it}
use Rattle.net_model.specs.Net.{Net}
use Rattle.stations.specs.Sends.{AreSends}
use Rattle.stations.specs.Quick.{as_list, IsQuick}
use Rattle.stations.specs.Handling.{StateView}
use Rattle.stations.specs.Runs.{simulation}
use Rattle.copy_pending.specs.Merged.{CopyPendingView, IsFirstForAll, messages_of, with_other, without_first}
use Rattle.copy_pending.proofs.Bounds.{first_for_all}
use Rattle.copy_pending.proofs.Firsts.{merged-put}
use Rattle.phys_proc.specs.Own.{StationCopy, MarkedMessages, IsCopy, ComesFrom, NextDue, takes_at}
use Rattle.phys_proc.specs.Own.{pending_after, sent_after}
use Rattle.phys_proc.specs.Events.{HasTaken, MayTake}
use Rattle.phys_proc.specs.Together.{AreAlive, copy_of, is_to}
use Rattle.phys_proc.proofs.Counting.{not_empty}
use Rattle.phys_proc.proofs.Halves.{same_none}
use Rattle.phys_proc.proofs.Handling.{taken_is_handled}
use Rattle.phys_proc.proofs.ComesFrom.{comes_from-handle}

-- ---- all clones take the first message

module _ (net : Net) (s : ℕ) (a : StationCopy) (m : Msg) (rest : MarkedMessages)
    (first : a.pending ≡ (m, a.set) ∷ rest) (fits : IsCopy net s a) where
  -- it is due, and the takers are all clones of the copy
  due_for_all : (ends : ℕ → ℕ) (bound together : ℕ) → AreAlive ends bound together a.set → m.key.time < together
      → NextDue ends bound a a m a.set
  due_for_all ends bound together alive before = record {
    same = same_none ends a;
    marks = a.set;
    rest = rest;
    pending = first;
    time_max = let l = alive.at_most in omega (arith, before, l);
    take = λ c. takes c (cases_Bool (has a.set c));
    nonempty = not_empty a.set fits.inhabited.0 fits.inhabited.1;
  }
    where
      soon : (t e : ℕ) → t < e → nat_lt t e ≡ true
      soon t e l = grind (arith, nat_tests, l)

      takes : (c : ℕ) → (has a.set c ≡ true) ⊎ (has a.set c ≡ false)
          → has a.set c ≡ (has a.set c && takes_at ends m a.set c)
      takes c (inr n) = n ∙ sym (ap (λ b. b && takes_at ends m a.set c) n)
      takes c (inl y) =
          let l : m.key.time < ends c = let k = alive.alive c y in omega (arith, before, k) in
          y ∙ sym ((λ i. y i && (y i && soon m.key.time (ends c) l i)))

  -- so the copy that has taken it has come further
  pub comes_from-taken : (ends : ℕ → ℕ) (bound together : ℕ) → AreAlive ends bound together a.set
      → m.key.time < together → (start new : StationCopy) (before sent after : MarkedMessages) (steps0 steps steps1 : ℕ)
      → ComesFrom net s ends bound start a before sent steps0 steps → length a.log < net.limit
      → HasTaken net s m (record a { pending = rest }) new sent after → steps1 ≡ steps + 1
      → ComesFrom net s ends bound start new before after steps0 steps1
  comes_from-taken ends bound together alive soon start new before sent after steps0 steps steps1 o less taken tick =
      comes_from-handle net s ends bound start a a before sent steps0 steps o m a.set
      (due_for_all ends bound together alive soon) new after steps1 refl less
      (taken_is_handled net s a new m a.set rest sent after first fits less taken) tick

-- ---- the first message of the heap

module _ (net : Net) (s : ℕ) (p : CopyPendingView) (st : StateView) (log : List (Entry Msg Line)) (m : Msg)
    (first : IsFirstForAll m p) (fits : IsCopy net s (copy_of p st log)) where
  -- it is for the station
  pub first_target : m.to ≡ s
  first_target = (subst (AllByRecursion (λ x. x.0.to ≡ s)) (first_for_all m p first) fits.targets).0

  -- the copy may take it
  pub first_may : length log < net.limit → m.key.time < net.horizon → MayTake net m.to m (copy_of p st log)
  first_may less soon = record {
    valid = fits.valid;
    suits = fits.suits;
    station = fits.station ∙ sym first_target;
    target = refl;
    below = let h = fits.handled in omega (arith, h, less);
    time_max = soon;
  }

  -- and comes further with it
  pub comes_from-first : (ends : ℕ → ℕ) (bound together : ℕ) → AreAlive ends bound together p.set
      → m.key.time < together → (start new : StationCopy) (before sent after : MarkedMessages) (steps0 steps steps1 : ℕ)
      → ComesFrom net s ends bound start (copy_of p st log) before sent steps0 steps → length log < net.limit
      → HasTaken net m.to m (copy_of (without_first p) st log) new sent after → steps1 ≡ steps + 1
      → ComesFrom net s ends bound start new before after steps0 steps1
  comes_from-first ends bound together alive soon start new before sent after steps0 steps steps1 o less taken tick =
      comes_from-taken net s (copy_of p st log) m (messages_of (without_first p)) (first_for_all m p first) fits ends
      bound together alive soon start new before sent after steps0 steps steps1 o less
      (subst (λ n. HasTaken net n m (copy_of (without_first p) st log) new sent after) first_target taken) tick

-- ---- one stretch after another

-- what has come from the first copy, and comes from there on, comes from the first
pub comes_from-on : (net : Net) (s : ℕ) (ends : ℕ → ℕ) (bound : ℕ) (first mid copy : StationCopy)
    (start sent after : MarkedMessages) (steps0 steps1 steps2 : ℕ)
    → ComesFrom net s ends bound first mid start sent steps0 steps1
    → ComesFrom net s ends bound mid copy sent after steps1 steps2
    → ComesFrom net s ends bound first copy start after steps0 steps2
comes_from-on net s ends bound first mid copy start sent after steps0 steps1 steps2 a b = record {
  fits = b.fits;
  set = b.set ∙ a.set;
  taken = a.taken + b.taken;
  log = let l = a.log in let m = b.log in omega (arith, l, m);
  counted = let l = a.counted in let m = b.counted in omega (arith, l, m);
  next = λ results last over over_after n h.
      subst (ComesTo (simulation net) has ends s bound first results start last over over_after)
      (regroup n a.taken b.taken) (a.next results last over over_after (n + b.taken)
      (b.next results last over over_after n h));
}
  where
    regroup : (n t u : ℕ) → (n + u) + t ≡ n + (t + u)
    regroup n t u = omega arith

-- ---- the sends of a packed message

-- what a station sends is later than what it handled
pub sends_later : (net : Net) (now s k : ℕ) (ms : List Msg) → AreSends net now s k ms
    → AllByRecursion (λ m. now < m.key.time) ms
sends_later net now s k [] h = tt
sends_later net now s k (m ∷ ms) h = (h.0.later, sends_later net now s (suc k) ms h.1)

-- of two sends, the second is later
pub own_later : (t : ℕ) (link own : Option Msg) → AllByRecursion (λ m. t < m.key.time) (as_list link ++ as_list own)
    → IfSome own (λ m. t < m.key.time)
own_later t None None h = tt
own_later t None (Some o) h = h.0
own_later t (Some l) None h = tt
own_later t (Some l) (Some o) h = h.1.0

module _ (s : ℕ) (set : CloneSet) where
  -- a message goes in for all clones of the set
  abbrev put : Msg → MarkedMessages → MarkedMessages
  put m q = insert_marked union msg_cmp m set q

  -- messages go in
  abbrev put_all : List Msg → MarkedMessages → MarkedMessages
  put_all ms q = insert_marked_all union msg_cmp ms set q

  -- the marked messages
  abbrev marked : List Msg → MarkedMessages
  marked ms = map (λ x. (x, set)) ms

  -- the station's own message may go in before the one over a link
  pub own_first : (link own : Option Msg) (rest : MarkedMessages) → is_to s own ≡ true
      → pending_after s set (as_list link) (with_other set own rest)
      ≡ pending_after s set (as_list link ++ as_list own) rest
  own_first None None rest e = refl
  own_first (Some l) None rest e = refl
  own_first None (Some o) rest e = sym (λ i. put_all (cond (e i) (o ∷ []) []) rest)
  own_first (Some l) (Some o) rest e = by (l.to == s) refl
    where
      swap : (b : Bool) → put_all (cond b (l ∷ []) []) (put o rest)
          ≡ put_all (cond b (l ∷ o ∷ []) (o ∷ [])) rest
      swap true = merged-put set o set (l ∷ []) rest
      swap false = refl

      by : (b : Bool) → (l.to == s) ≡ b → pending_after s set (as_list (Some l)) (with_other set (Some o) rest)
          ≡ pending_after s set (as_list (Some l) ++ as_list (Some o)) rest
      by b f = (λ i. put_all (cond (f i) (l ∷ []) []) (put o rest)) ∙ swap b
          ∙ sym (λ i. put_all (cond (f i) (l ∷ cond (e i) (o ∷ []) []) (cond (e i) (o ∷ []) [])) rest)

  -- and is not laid aside
  pub own_stays : (link own : Option Msg) (before : MarkedMessages) → is_to s own ≡ true
      → sent_after s set (as_list link) before ≡ sent_after s set (as_list link ++ as_list own) before
  own_stays None None before e = refl
  own_stays (Some l) None before e = refl
  own_stays None (Some o) before e = sym (λ i. before ++ marked (cond (not (e i)) (o ∷ []) []))
  own_stays (Some l) (Some o) before e = sym (λ i. before ++ marked (cond (not (l.to == s))
      (l ∷ cond (not (e i)) (o ∷ []) []) (cond (not (e i)) (o ∷ []) [])))

  -- a message and others go in, by whether the first is for the station
  after_test : (b : Bool) (l : Msg) (mine : List Msg) (rest : MarkedMessages)
      → put_all mine (put_all (cond b (l ∷ []) []) rest) ≡ put_all (cond b (l ∷ mine) mine) rest
  after_test true l mine rest = refl
  after_test false l mine rest = refl

  -- two messages, one after another, are both pending
  pub both_after : (link own : Option Msg) (rest : MarkedMessages)
      → pending_after s set (as_list own) (pending_after s set (as_list link) rest)
      ≡ pending_after s set (as_list link ++ as_list own) rest
  both_after None own rest = refl
  both_after (Some l) own rest = after_test (l.to == s) l (to_it (λ (m : Msg). m.to) s (as_list own)) rest

  -- a message and others are laid aside, by whether the first is for the station
  aside_test : (b : Bool) (l : Msg) (others : List Msg) (before : MarkedMessages)
      → (before ++ marked (cond (not b) (l ∷ []) [])) ++ marked others
      ≡ before ++ marked (cond (not b) (l ∷ others) others)
  aside_test true l others before = ap (λ u. u ++ marked others) (append-nil before)
  aside_test false l others before = append_assoc before ((l, set) ∷ []) (marked others)

  -- or both laid aside
  pub both_aside : (link own : Option Msg) (before : MarkedMessages)
      → sent_after s set (as_list own) (sent_after s set (as_list link) before)
      ≡ sent_after s set (as_list link ++ as_list own) before
  both_aside None own before = ap (λ l. l ++ marked (to_others (λ (m : Msg). m.to) s (as_list own))) (append-nil before)
  both_aside (Some l) own before =
      aside_test (l.to == s) l (to_others (λ (m : Msg). m.to) s (as_list own)) before

-- ---- IsQuick

-- numbers that are small for some messages are so for one
pub quick_one : (n : ℕ) (st : StateView) → 1 ≤ n → IsQuick n st → IsQuick 1 st
quick_one n st l q = record {
  next = let h = q.next in omega (arith, h, l);
  stay = let h = q.stay in omega (arith, h, l);
  jobs = q.jobs;
}
