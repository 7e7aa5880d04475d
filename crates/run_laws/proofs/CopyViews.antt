-- One shared handling is a turn of each clone that takes the message. If one clone takes a message and another does
-- not, their logs differ.
use Rattle.std.proofs.Common.{◌≡◌, ℕ, ◌<◌, ◌≤◌, List, [], ◌∷◌, ◌++◌, ◌⊎◌, inl, inr, Bool, true, false, not, ◌==◌, ◌&&◌}
use Rattle.std.proofs.Common.{◌||◌, nat_lt, refl, sym, ap, ◌∙◌, subst, arith, append_assoc, append-nil, map}
use Rattle.std.specs.List.{AllByRecursion, filter}
use Rattle.std.specs.declared.cmp.Ordering.TheVariants.{Less}
use Rattle.std.proofs.lemmas.Bool.{cases_lt}
use Rattle.std.proofs.lemmas.List.{append_cancel_left}
use Rattle.std.proofs.lemmas.List.Elements.{filter_agree}
use Rattle.sim_base.specs.declared.entry.Entry.{Entry}
use Rattle.run_laws.specs.Queue.{insert_all, In, Sorted}
use Rattle.run_laws.specs.Machine.{Config, config_after, Next, Reach, stay, go, IsSettled}
use Rattle.run_laws.specs.Simulation.{Simulation}
use Rattle.run_laws.specs.World.{to_it}
use Rattle.run_laws.specs.Window.{LocalStation, to_others, earlier_than, local_step}
use Rattle.run_laws.specs.Handlers.{IsTimed}
use Rattle.sim_base.specs.Marked.{JoinsMarks, SortedMarked}
use Rattle.run_laws.specs.Copies.{Copy, Carries, insert_marked_all, handle_until, handled_by}
use Rattle.run_laws.specs.Copies.{sends_aside, takes, messages_taken, view}
use Rattle.run_laws.proofs.Queue.{all_in, all_from}
use Rattle.run_laws.proofs.Lists.{filter_swap, filter_none}
use Rattle.run_laws.proofs.Machine.{reach_first, is_settled-no_next, is_settled-stays}
use Rattle.run_laws.proofs.Worlds.{entry_of}
use Rattle.run_laws.proofs.Parts.{part_yes, part-append, part-map, part-insert_all}

-- ---- logs

module _ {S M N : Type 0} (sim : Simulation S M N) (s bound : ℕ) where
  -- the turns of a station whose sends from an end on are dropped
  abbrev TurnsUntil : ℕ → Config (LocalStation S M N) M → Config (LocalStation S M N) M → Type 0
  TurnsUntil end = Reach sim.order sim.time (local_step sim.to (handle_until sim end) s) bound

  -- the log only grows
  pub log_grows : (end : ℕ) {c d : Config (LocalStation S M N) M} → TurnsUntil end c d →
      (l : List (Entry M N)) × (d.at.log ≡ c.at.log ++ l)
  log_grows end {c} stay = ([], sym (append-nil c.at.log))
  log_grows end {c} {d} (go {d = e} r n) =
      let h = log_grows end r in
      let x : Entry M N = entry_of sim s e.at.state n.m in
      (h.0 ++ x ∷ [], ap (λ u. u.at.log) n.is ∙ (ap (λ l. l ++ x ∷ []) h.1 ∙ append_assoc c.at.log h.0 (x ∷ [])))

  -- if there is a message to handle, the gains of the log begin with it
  pub log_begins : (end : ℕ) (c d : Config (LocalStation S M N) M) (m : M) (q : List M) → c.pending ≡ m ∷ q
      → sim.time m < bound →
      TurnsUntil end c d → IsSettled sim.time bound d →
      (l : List (Entry M N)) × (d.at.log ≡ c.at.log ++ entry_of sim s c.at.state m ∷ l)
  log_begins end c d m q p early r f =
      let e : Config (LocalStation S M N) M =
      config_after sim.order (local_step sim.to (handle_until sim end) s) c.at m q in
      let n : Next sim.order sim.time (local_step sim.to (handle_until sim end) s) bound c e =
      record { m = m; q = q; pending = p; time_max = early; is = refl } in
      elim (reach_first r n) [
        | inl a ↦ absurd (is_settled-no_next d e f
            (subst (λ x. Next sim.order sim.time (local_step sim.to (handle_until sim end) s) bound x e) (sym a) n))
        | inr t ↦ let h = log_grows end t in (h.0, h.1 ∙ append_assoc c.at.log (entry_of sim s c.at.state m ∷ []) h.0)
      ]

  -- nothing is left before the bound, or there is a next message
  abbrev SettledOrNext : Config (LocalStation S M N) M → Type 0
  SettledOrNext d = IsSettled sim.time bound d ⊎ ((y : M) × (ys : List M) × (d.pending ≡ y ∷ ys) × (sim.time y < bound))

  -- so it is by the pending messages
  settled_or_next_by : IsTimed sim.order sim.time → (d : Config (LocalStation S M N) M) (q : List M) → d.pending ≡ q →
      Sorted sim.order q → SettledOrNext d
  settled_or_next_by o d [] e k = inl (subst (AllByRecursion (λ m. bound ≤ sim.time m)) (sym e) tt)
  settled_or_next_by o d (y ∷ ys) e k = elim (cases_lt (sim.time y) bound) [
    | inl l ↦ inr (y, ys, e, l)
    | inr l ↦ inl (subst (AllByRecursion (λ m. bound ≤ sim.time m)) (sym e) (
      l,
      all_from (λ m. bound ≤ sim.time m) ys
          (λ z i. let h = o.timed y z (all_in (λ z. sim.order y z ≡ Less) ys z k.0 i) in omega arith),
    ))
  ]

  -- one of the two holds of a station with its messages in order
  pub settled_or_next : IsTimed sim.order sim.time → (d : Config (LocalStation S M N) M) → Sorted sim.order d.pending →
      SettledOrNext d
  settled_or_next o d sorted = settled_or_next_by o d d.pending refl sorted

  -- two stations with one log: the first has m to handle, the second has no m; so their logs part
  pub logs_part : (end1 end2 : ℕ) (c d c2 d2 : Config (LocalStation S M N) M) (m : M) (q : List M) →
      c.at.log ≡ d.at.log →
      c.pending ≡ m ∷ q → sim.time m < bound →
      ((z : M) → In z d.pending → z ≡ m → ⊥) → SettledOrNext d →
      TurnsUntil end1 c c2 → IsSettled sim.time bound c2 → TurnsUntil end2 d d2 → IsSettled sim.time bound d2 →
      c2.at.log ≡ d2.at.log → ⊥
  logs_part end1 end2 c d c2 d2 m q e p early other w r f t g same =
      let a = log_begins end1 c c2 m q p early r f in
      let x : Entry M N = entry_of sim s c.at.state m in
      elim w [
        | inl done ↦
            let b : d2 ≡ d = is_settled-stays done t in
            let k : x ∷ a.0 ≡ [] = append_cancel_left c.at.log (x ∷ a.0) []
            (sym a.1 ∙ (same ∙ (ap (λ u. u.at.log) b ∙ (sym e ∙ sym (append-nil c.at.log))))) in
            absurd (cc)
        | inr n ↦
            let b = log_begins end2 d d2 n.0 n.1 n.2 n.3 t g in
            let y : Entry M N = entry_of sim s d.at.state n.0 in
            let k : x ∷ a.0 ≡ y ∷ b.0 = append_cancel_left c.at.log (x ∷ a.0) (y ∷ b.0)
            (sym a.1 ∙ (same ∙ (b.1 ∙ ap (λ l. l ++ y ∷ b.0) (sym e)))) in
            let h : x ≡ y = cc in
            other n.0 (subst (In n.0) (sym n.2) (inl refl)) (sym (ap (λ u. u.msg) h))
      ]

  -- the same, and the first gains of the two are different entries
  pub firsts_part : (end1 end2 : ℕ) (c d c2 d2 : Config (LocalStation S M N) M) (m : M) (q : List M) (e : Entry M N)
      (u v : List (Entry M N)) → c.at.log ≡ d.at.log → c.pending ≡ m ∷ q → sim.time m < bound →
      ((z : M) → In z d.pending → z ≡ m → ⊥) → SettledOrNext d →
      TurnsUntil end1 c c2 → IsSettled sim.time bound c2 → TurnsUntil end2 d d2 → IsSettled sim.time bound d2 →
      c2.at.log ≡ c.at.log ++ e ∷ u → d2.at.log ≡ d.at.log ++ e ∷ v → ⊥
  firsts_part end1 end2 c d c2 d2 m q e u v eq p early other w r f t g has1 has2 =
      let a = log_begins end1 c c2 m q p early r f in
      let x : Entry M N = entry_of sim s c.at.state m in
      let k1 : x ∷ a.0 ≡ e ∷ u = append_cancel_left c.at.log (x ∷ a.0) (e ∷ u) (sym a.1 ∙ has1) in
      let h1 : x ≡ e = cc in
      elim w [
        | inl done ↦
            let b : d2 ≡ d = is_settled-stays done t in
            let k : e ∷ v ≡ [] = append_cancel_left d.at.log (e ∷ v) []
            (sym has2 ∙ (ap (λ u. u.at.log) b ∙ sym (append-nil d.at.log))) in
            absurd (cc)
        | inr n ↦
            let b = log_begins end2 d d2 n.0 n.1 n.2 n.3 t g in
            let y : Entry M N = entry_of sim s d.at.state n.0 in
            let k2 : y ∷ b.0 ≡ e ∷ v = append_cancel_left d.at.log (y ∷ b.0) (e ∷ v) (sym b.1 ∙ has2) in
            let h2 : y ≡ e = cc in
            other n.0 (subst (In n.0) (sym n.2) (inl refl)) (ap (λ u. u.msg) (h2 ∙ sym h1))
      ]

-- ---- messages_taken

-- of two marks and one end
both_or : (x y e : Bool) → ((x || y) && e) ≡ ((x && e) || (y && e))
both_or true true true = refl
both_or true true false = refl
both_or true false true = refl
both_or true false false = refl
both_or false true true = refl
both_or false true false = refl
both_or false false true = refl
both_or false false false = refl

module _ {S M N K : Type 0} (sim : Simulation S M N) {has : K → ℕ → Bool} {join : K → K → K} (j : JoinsMarks has join)
    (ends : ℕ → ℕ) where
  -- joined marks are taken by the clones that take either
  pub takes_join : (m : M) (a b : K) (c : ℕ) →
      takes sim has ends m (join a b) c ≡ (takes sim has ends m a c || takes sim has ends m b c)
  takes_join m a b c = ap (λ x. x && nat_lt (sim.time m) (ends c)) (j.joined a b c) ∙ both_or (has a c) (has b c)
      (nat_lt (sim.time m) (ends c))

module _ {S M N K : Type 0} (sim : Simulation S M N) (has : K → ℕ → Bool) (ends : ℕ → ℕ) where
  -- of messages for a set that has it, a clone takes those before its end
  taken_within : (k : K) (c : ℕ) (xs : List M) → has k c ≡ true →
      filter (λ x. takes sim has ends x k c) xs ≡ earlier_than sim.time (ends c) xs
  taken_within k c xs e = filter_agree (λ x. takes sim has ends x k c)
      (λ x. nat_lt (sim.time x) (ends c)) (λ x. ap (λ b. b && nat_lt (sim.time x) (ends c)) e) xs

  -- of others it takes none
  taken_without : (k : K) (c : ℕ) (xs : List M) → has k c ≡ false → filter (λ x. takes sim has ends x k c) xs ≡ []
  taken_without k c xs e = filter_none (λ x. takes sim has ends x k c) xs
      (all_from (λ x. takes sim has ends x k c ≡ false) xs (λ x i. ap (λ b. b && nat_lt (sim.time x) (ends c)) e))

  -- clone c does not see sends for other clones
  pub others_sent : (s c : ℕ) (a : Copy S M N K) (m : M) (sent : List (M × K)) → has a.set c ≡ false →
      messages_taken sim has ends c (sent ++ sends_aside sim s a m) ≡ messages_taken sim has ends c sent
  others_sent s c a m sent e =
      let xs : List M = to_others sim.to s (sim.handle s a.state m).sends in
      part-append (takes sim has ends) c sent (sends_aside sim s a m)
      ∙ ap (λ l. messages_taken sim has ends c sent ++ l)
      (part-map (takes sim has ends) c a.set xs ∙ taken_without a.set c xs e)
      ∙ append-nil (messages_taken sim has ends c sent)

module _ {S M N K : Type 0} (sim : Simulation S M N) (has : K → ℕ → Bool) (ends : ℕ → ℕ) (s : ℕ) where
  -- a clone sees sends to others laid aside if their set has it, before its end
  taken_aside : (c : ℕ) (k : K) (sends : List M) (sent : List (M × K)) → has k c ≡ true →
      messages_taken sim has ends c (sent ++ map (λ x. (x, k)) (to_others sim.to s sends))
      ≡ messages_taken sim has ends c sent
      ++ to_others sim.to s (earlier_than sim.time (ends c) sends)
  taken_aside c k sends sent e =
      part-append (takes sim has ends) c sent (map (λ x. (x, k)) (to_others sim.to s sends))
      ∙ ap (λ l. messages_taken sim has ends c sent ++ l)
      (part-map (takes sim has ends) c k (to_others sim.to s sends)
      ∙ taken_within sim has ends k c (to_others sim.to s sends) e
      ∙ filter_swap (λ m. nat_lt (sim.time m) (ends c)) (λ m. not (sim.to m == s)) sends)

-- ---- view

-- two stations with equal parts are equal
station_parts : {S M N : Type 0} (st : S) (log : List (Entry M N)) (a b p q : List M) → a ≡ b → p ≡ q →
    ◌≡◌ {A = Config (LocalStation S M N) M} (record { at = record { state = st; log = log; aside = a }; pending = p })
    (record { at = record { state = st; log = log; aside = b }; pending = q })
station_parts st log a b p q e f = cc

module _ {S M N K : Type 0} (sim : Simulation S M N) {has : K → ℕ → Bool} {join : K → K → K} (j : JoinsMarks has join)
    (ends : ℕ → ℕ) (o : IsTimed sim.order sim.time) (s : ℕ) where
  -- a clone has sends to itself pending if their set has it, before its end
  taken_queue : (c : ℕ) (k : K) (sends : List M) (q : List (M × K)) → SortedMarked sim.order q → has k c ≡ true →
      messages_taken sim has ends c (insert_marked_all join sim.order (to_it sim.to s sends) k q) ≡ insert_all sim.order
      (to_it sim.to s (earlier_than sim.time (ends c) sends)) (messages_taken sim has ends c q)
  taken_queue c k sends q sorted e =
      part-insert_all (takes sim has ends) join (takes_join sim j ends) o.order c (to_it sim.to s sends) k q sorted
      ∙ ap (λ l. insert_all sim.order l (messages_taken sim has ends c q))
      (taken_within sim has ends k c (to_it sim.to s sends) e ∙ filter_swap (λ m. nat_lt (sim.time m) (ends c))
      (λ m. sim.to m == s) sends)

  -- one shared handling is a turn of each clone of the copy that takes the message
  pub handled_view : (bound c : ℕ) (a : Copy S M N K) (m : M) (k : K) (q sent : List (M × K)) → a.pending ≡ (m, k) ∷ q →
      SortedMarked sim.order a.pending → Carries has a c → takes sim has ends m k c ≡ true → sim.time m < bound →
      Next sim.order sim.time (local_step sim.to (handle_until sim (ends c)) s) bound (view sim has ends c a sent)
      (view sim has ends c (handled_by sim join s a m q) (sent ++ sends_aside sim s a m))
  handled_view bound c a m k q sent p sorted in_set takes_it early =
      let sq : SortedMarked sim.order ((m, k) ∷ q) = subst (SortedMarked sim.order) p sorted in
      record {
        m = m;
        q = messages_taken sim has ends c q;
        pending = ap (messages_taken sim has ends c) p ∙ part_yes (takes sim has ends) c (m, k) q takes_it;
        time_max = early;
        is = station_parts (sim.handle s a.state m).state
            (a.log ++ record { msg = m; line = (sim.handle s a.state m).line } ∷ []) _ _ _ _
            (taken_aside sim has ends s c a.set (sim.handle s a.state m).sends sent in_set)
            (taken_queue c a.set (sim.handle s a.state m).sends q sq.1 in_set);
      }
