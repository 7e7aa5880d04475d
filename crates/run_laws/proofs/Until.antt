-- A station whose sends at an end or later are dropped, compared with the station itself: up to the end they do the
-- same.
use Rattle.std.proofs.Common.{◌≡◌, ℕ, ◌<◌, ◌≤◌, min, List, [], ◌∷◌, ◌++◌, ◌==◌, not}
use Rattle.std.proofs.Common.{Bool, cond, nat_lt, inl, inr, refl, sym, ap, ◌∙◌, subst, arith}
use Rattle.std.specs.declared.cmp.Ordering.{Ordering}
use Rattle.std.specs.declared.cmp.Ordering.TheVariants.{Less}
use Rattle.std.proofs.lemmas.Bool.{cases_Bool, cases_lt, lt-ltb, ltb-true, false≢true}
use Rattle.std.proofs.lemmas.List.Elements.{filter-append}
use Rattle.sim_base.specs.declared.entry.Entry.{Entry}
use Rattle.run_laws.specs.Queue.{insert_all, In, Sorted}
use Rattle.run_laws.specs.Machine.{Config, config_after, Next, Reach, stay, go, IsSettled}
use Rattle.run_laws.specs.Simulation.{Simulation, Outcome}
use Rattle.run_laws.specs.World.{to_it}
use Rattle.run_laws.specs.Window.{LocalStation, to_others, earlier_than, local_step, alone_at, local_run}
use Rattle.run_laws.specs.Handlers.{IsTimed, HandlesLawfully}
use Rattle.run_laws.specs.Copies.{handle_until}
use Rattle.run_laws.proofs.Queue.{all_in, all_from}
use Rattle.run_laws.proofs.Lists.{in_filter, filter_keeps, filter_swap, filter-insert_all}
use Rattle.run_laws.proofs.Running.{Fine, fine_reach, all_from_zero, run_is}
use Rattle.run_laws.proofs.Worlds.{local_lawful}

-- ---- earlier_than

-- the head of the part of an ordered list before an end is the head of the list
head_before : {M : Type 0} {cmp : M → M → Ordering} {time : M → ℕ} (o : IsTimed cmp time) (end : ℕ) (p : List M) (m : M)
    (q : List M) → Sorted cmp p → earlier_than time end p ≡ m ∷ q →
    (r : List M) × (p ≡ m ∷ r) × (earlier_than time end r ≡ q)
head_before o end [] m q s e = let h : ⊥ = cc in absurd h
head_before {M} {cmp} {time} o end (y ∷ ys) m q s e = elim (cases_Bool (nat_lt (time y) end)) [
  | inl t ↦
      let k : y ∷ earlier_than time end ys ≡ m ∷ q =
      sym (ap (λ b. cond b (y ∷ earlier_than time end ys) (earlier_than time end ys)) t) ∙ e in
      let a : y ≡ m = cc in
      let b : earlier_than time end ys ≡ q = cc in
      (ys, ap (λ x. x ∷ ys) a, b)
  | inr f ↦
      let k : earlier_than time end ys ≡ m ∷ q =
      sym (ap (λ b. cond b (y ∷ earlier_than time end ys) (earlier_than time end ys)) f) ∙ e in
      let i = in_filter (λ m. nat_lt (time m) end) ys m (subst (In m) (sym k) (inl refl)) in
      let l : time m < end = ltb-true (time m) end i.1 in
      let h : time y ≤ time m = o.timed y m (all_in (λ z. cmp y z ≡ Less) ys m s.0 i.0) in
      absurd (false≢true (sym f ∙ lt-ltb (time y) end (omega arith)))
]

-- ---- IsCutOf

module _ {S M N : Type 0} (sim : Simulation S M N) (end : ℕ) where
  -- d is c without the messages at the end or later
  pub record IsCutOf (c d : Config (LocalStation S M N) M) : Type 0 where
    pub state : d.at.state ≡ c.at.state
    pub log : d.at.log ≡ c.at.log
    pub aside : d.at.aside ≡ earlier_than sim.time end c.at.aside
    pub pending : d.pending ≡ earlier_than sim.time end c.pending

module _ {S M N : Type 0} {sim : Simulation S M N} {Good : ℕ → S → Type 0} (law : HandlesLawfully sim Good)
    (end s bound : ℕ) where
  -- a turn of the one is a turn of the other
  cut_step : (c d e : Config (LocalStation S M N) M) → Sorted sim.order c.pending → IsCutOf sim end c d →
      Next sim.order sim.time (local_step sim.to (handle_until sim end) s) bound d e →
      (f : Config (LocalStation S M N) M) × Next sim.order sim.time (local_step sim.to sim.handle s) (min bound end) c f
      × IsCutOf sim end f e
  cut_step c d e sorted h n =
      let o = law.order.order in
      let early : M → Bool = λ m. nat_lt (sim.time m) end in
      let m : M = n.m in
      let hd = head_before law.order end c.pending m n.q sorted (sym h.pending ∙ n.pending) in
      let r : List M = hd.0 in
      let sr : Sorted sim.order (m ∷ r) = subst (Sorted sim.order) hd.1 sorted in
      let before_bound : sim.time m < bound = n.time_max in
      let before_end : sim.time m < end =
      ltb-true (sim.time m) end (in_filter early c.pending m
      (subst (In m) (h.pending) (subst (In m) (sym n.pending) (inl refl)))).1 in
      let g : Outcome S M N = sim.handle s d.at.state m in
      let there : Outcome S M N = sim.handle s c.at.state m in
      let ge : g ≡ there = ap (λ st. sim.handle s st m) h.state in
      let f : Config (LocalStation S M N) M = config_after sim.order (local_step sim.to sim.handle s) c.at m r in (
        f,
        record { m = m; q = r; pending = hd.1; time_max = omega arith; is = refl },
        record {
          state = ap (λ u. u.at.state) n.is ∙ ap (λ u. u.state) ge;
          log = ap (λ u. u.at.log) n.is ∙ ap (λ l. l ++ record { msg = m; line = g.line } ∷ []) h.log
              ∙ ap (λ u. c.at.log ++ record { msg = m; line = u.line } ∷ []) ge;
          aside = ap (λ u. u.at.aside) n.is
              ∙ ap (λ l. l ++ to_others sim.to s (earlier_than sim.time end g.sends)) h.aside
              ∙ ap (λ u. earlier_than sim.time end c.at.aside ++ to_others sim.to s
              (earlier_than sim.time end u.sends)) ge
              ∙ ap (λ l. earlier_than sim.time end c.at.aside ++ l)
              (filter_swap (λ m. not (sim.to m == s)) early there.sends)
              ∙ sym (filter-append early c.at.aside (to_others sim.to s there.sends));
          pending = ap (λ u. u.pending) n.is
              ∙ ap (λ u. insert_all sim.order (to_it sim.to s (earlier_than sim.time end u.sends)) n.q) ge
              ∙ ap (λ l. insert_all sim.order l n.q) (filter_swap (λ m. sim.to m == s) early there.sends)
              ∙ ap (insert_all sim.order (earlier_than sim.time end (to_it sim.to s there.sends))) (sym hd.2)
              ∙ sym (filter-insert_all o early (to_it sim.to s there.sends) r sr.1);
        },
      )

  -- and so with several turns
  cut_reach : {d e : Config (LocalStation S M N) M} (c : Config (LocalStation S M N) M) →
      Fine sim.order sim.time (λ p. Good s p.state) 0 c → IsCutOf sim end c d →
      Reach sim.order sim.time (local_step sim.to (handle_until sim end) s) bound d e →
      (f : Config (LocalStation S M N) M)
      × Reach sim.order sim.time (local_step sim.to sim.handle s) (min bound end) c f
      × IsCutOf sim end f e
  cut_reach c fine h stay = (c, stay, h)
  cut_reach {d} {e} c fine h (go {d = d0} r n) =
      let a = cut_reach c fine h r in
      let b = cut_step a.0 d0 e (fine_reach law.order (local_lawful law s) 0 fine a.1).sorted a.2 n in
      (b.0, go a.1 b.1, b.2)

  -- if such a station has nothing left before the bound, that is the result of its window, before the end
  pub cut_of_local : (log : List (Entry M N)) (st : S) (q : List M) (e : Config (LocalStation S M N) M) → Good s st →
      Sorted sim.order q → earlier_than sim.time end q ≡ q →
      Reach sim.order sim.time (local_step sim.to (handle_until sim end) s) bound (alone_at log st q) e →
      IsSettled sim.time bound e → IsCutOf sim end (local_run sim s log st q bound end) e
  cut_of_local log st q e good sorted early r done =
      let c : Config (LocalStation S M N) M = alone_at log st q in
      let fine : Fine sim.order sim.time (λ p. Good s p.state) 0 c =
      record { good = good; sorted = sorted; from_t = all_from_zero sim.time q } in
      let a = cut_reach c fine (record { state = refl; log = refl; aside = refl; pending = sym early }) r in
      let f : Config (LocalStation S M N) M = a.0 in
      let cut : IsCutOf sim end f e = a.2 in
      let left : IsSettled sim.time (min bound end) f =
      all_from (λ m. min bound end ≤ sim.time m) f.pending (λ z i. elim (cases_lt (sim.time z) end) [
        | inl l ↦ let b : bound ≤ sim.time z =
            all_in (λ m. bound ≤ sim.time m) e.pending z done
            (subst (In z) (sym cut.pending)
            (filter_keeps (λ m. nat_lt (sim.time m) end) f.pending z i (lt-ltb (sim.time z) end l))) in omega arith
        | inr l ↦ omega arith
      ]) in
      subst (λ u. IsCutOf sim end u e) (run_is law.order (local_lawful law s) (min bound end) c f fine a.1 left) cut
