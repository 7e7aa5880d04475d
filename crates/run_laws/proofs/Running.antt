-- The run to a bound: it reaches a state with no message before the bound, and is determined by this.
use Rattle.std.proofs.Common.{◌≡◌, ℕ, zero, suc, ◌≤◌, ◌<◌, List, [], ◌∷◌, inl}
use Rattle.std.proofs.Common.{inr, cond, refl, sym, ap, ◌∙◌, subst, arith, ◌==◌, eq-eqb}
use Rattle.std.specs.declared.cmp.Ordering.{Ordering}
use Rattle.std.specs.declared.cmp.Ordering.TheVariants.{Less, Equal, Greater}
use Rattle.std.specs.List.{AllByRecursion}
use Rattle.std.proofs.lemmas.Bool.{cases_eq, ne_eqb}
use Rattle.run_laws.specs.Queue.{insert_by, insert, insert_all, In, Sorted}
use Rattle.run_laws.specs.Machine.{Config, count_at, config_after, turns, run_to, Next, Reach, stay, go, IsSettled}
use Rattle.run_laws.specs.Handlers.{IsTimed, IsLawful}
use Rattle.run_laws.specs.Laws.{and_pending, IsReady}
use Rattle.sim_base.proofs.ListLaws.{all_weaker}
use Rattle.run_laws.proofs.Queue.{all_in, all_from, all_insert_all}
use Rattle.run_laws.proofs.Queue.{in_insert, sorted_insert, sorted_insert_all, insert_swap}
use Rattle.run_laws.proofs.Machine.{reach_trans, ends_same}

-- a machine in a good state, whose pending messages are in order and not before a time
pub record Fine {X M : Type 0} (cmp : M → M → Ordering) (time : M → ℕ) (Good : X → Type 0) (t : ℕ)
    (c : Config X M) : Type 0 where
  pub good : Good c.at
  pub sorted : Sorted cmp c.pending
  pub from_t : AllByRecursion (λ m. t ≤ time m) c.pending

module _ {M : Type 0} (time : M → ℕ) where
  -- no message comes before 0
  pub all_from_zero : (q : List M) → AllByRecursion (λ m. 0 ≤ time m) q
  all_from_zero [] = tt
  all_from_zero (m ∷ q) = (omega arith, all_from_zero q)

  -- ---- count_at

  -- a message of the time counts
  count_yes : (t : ℕ) (m : M) (q : List M) → time m ≡ t → count_at time t (m ∷ q) ≡ suc (count_at time t q)
  count_yes t m q e = rw (eq-eqb (time m) t e)

  -- and another doesn't
  count_no : (t : ℕ) (m : M) (q : List M) → (time m ≡ t → ⊥) → count_at time t (m ∷ q) ≡ count_at time t q
  count_no t m q n = rw (ne_eqb (time m) t n)

  -- if none comes at a time, all come after it
  none_at : (t : ℕ) (q : List M) → count_at time t q ≡ 0 → AllByRecursion (λ m. t ≤ time m) q →
      AllByRecursion (λ m. suc t ≤ time m) q
  none_at t [] e f = tt
  none_at t (m ∷ q) e f = elim (cases_eq (time m) t) [
    | inl p ↦ let h = sym (count_yes t m q p) ∙ e in absurd (omega (arith, h))
    | inr n ↦ let a : t ≤ time m = f.0 in (omega arith, none_at t q (sym (count_no t m q n) ∙ e) f.1)
  ]

  -- if some are counted, one comes at the time
  some_at : (t n : ℕ) (q : List M) → count_at time t q ≡ suc n → (m : M) × In m q × (time m ≡ t)
  some_at t n [] e = absurd (omega (arith, e))
  some_at t n (m ∷ q) e = elim (cases_eq (time m) t) [
    | inl p ↦ (m, inl refl, p)
    | inr k ↦ let r = some_at t n q (sym (count_no t m q k) ∙ e) in (r.0, inr r.1, r.2)
  ]

  -- a message of another time counts for nothing, wherever it goes
  count_place : (t : ℕ) (r : Ordering) (x y : M) (ys rest : List M) → (time x ≡ t → ⊥) →
      count_at time t rest ≡ count_at time t ys → count_at time t (insert_by r x y ys rest) ≡ count_at time t (y ∷ ys)
  count_place t Less x y ys rest n e = count_no t x (y ∷ ys) n
  count_place t Equal x y ys rest n e = refl
  count_place t Greater x y ys rest n e = ap (λ k. cond (time y == t) (suc k) k) e

  module _ (cmp : M → M → Ordering) where
    -- nor after an insertion
    count_insert : (t : ℕ) (x : M) (q : List M) → (time x ≡ t → ⊥)
        → count_at time t (insert cmp x q) ≡ count_at time t q
    count_insert t x [] n = count_no t x [] n
    count_insert t x (y ∷ ys) n = count_place t (cmp x y) x y ys (insert cmp x ys) n (count_insert t x ys n)

    -- later messages count for nothing
    count_insert_all : (t : ℕ) (xs q : List M) → AllByRecursion (λ m. t < time m) xs →
        count_at time t (insert_all cmp xs q) ≡ count_at time t q
    count_insert_all t [] q l = refl
    count_insert_all t (x ∷ xs) q l = count_insert_all t xs (insert cmp x q) l.1
        ∙ count_insert t x q (λ e. let a : t < time x = l.0 in omega arith)

-- ---- Sorted

module _ {M : Type 0} {cmp : M → M → Ordering} {time : M → ℕ} (o : IsTimed cmp time) where
  -- the head of a list in order has the least time
  head_least : (m : M) (q : List M) (z : M) → Sorted cmp (m ∷ q) → In z (m ∷ q) → time m ≤ time z
  head_least m q z s (inl e) = let h = ap time e in omega (arith, h)
  head_least m q z s (inr j) = o.timed m z (all_in (λ y. cmp m y ≡ Less) q z s.0 j)

  -- a later message goes after an earlier one
  later_place : (r : Ordering) (x m : M) (q rest : List M) → cmp x m ≡ r → time m < time x
      → insert_by r x m q rest ≡ m ∷ rest
  later_place Less x m q rest e l = let h = o.timed x m e in absurd (omega arith)
  later_place Equal x m q rest e l = let h = ap time (o.order.same x m e) in absurd (omega (arith, h))
  later_place Greater x m q rest e l = refl

module _ {X M : Type 0} {cmp : M → M → Ordering} {time : M → ℕ} {handle : X → M → X × List M} {Good : X → Type 0}
    (o : IsTimed cmp time) (law : IsLawful time handle Good) where
  -- ---- Fine

  -- a turn keeps a machine fine
  fine_after : (t : ℕ) (x : X) (m : M) (q : List M) → Good x → Sorted cmp (m ∷ q) →
      AllByRecursion (λ m. t ≤ time m) (m ∷ q) → Fine cmp time Good t (config_after cmp handle x m q)
  fine_after t x m q g s f = record {
    good = law.keeps x m g;
    sorted = sorted_insert_all o.order (handle x m).1 q s.1;
    from_t = all_insert_all o.order (λ m. t ≤ time m) (handle x m).1 q
        (all_weaker (λ s. time m < time s) (λ m. t ≤ time m) (handle x m).1 (λ z h. let a : t ≤ time m = f.0 in
        omega arith) (law.later x m g)) f.1;
  }

  -- a turn before a bound does
  fine_next : (bound t : ℕ) (c d : Config X M) → Fine cmp time Good t c → Next cmp time handle bound c d →
      Fine cmp time Good t d
  fine_next bound t c d f n = subst (Fine cmp time Good t) (sym n.is)
      (fine_after t c.at n.m n.q f.good (subst (Sorted cmp) n.pending f.sorted)
      (subst (AllByRecursion (λ m. t ≤ time m)) n.pending f.from_t))

  -- turns keep a machine fine
  pub fine_reach : {bound : ℕ} {c d : Config X M} (t : ℕ) → Fine cmp time Good t c → Reach cmp time handle bound c d →
      Fine cmp time Good t d
  fine_reach t f stay = f
  fine_reach {bound} {c} {d} t f (go {d = e} r n) = fine_next bound t e d (fine_reach t f r) n

  -- a property that holds at the start and that each turn of a good machine keeps holds at the end
  pub fine_keeps : {bound : ℕ} {c d : Config X M} (t : ℕ) (P : Config X M → Type 0) → P c →
      ((x : X) (m : M) (q : List M) → Fine cmp time Good t (record { at = x; pending = m ∷ q }) → time m < bound
      → P (record { at = x; pending = m ∷ q }) → P (config_after cmp handle x m q)) →
      Fine cmp time Good t c → Reach cmp time handle bound c d → P d
  fine_keeps t P a f g stay = a
  fine_keeps {bound} {c} {d} t P a f g (go {d = e} r n) =
      subst P (sym n.is) (f e.at n.m n.q
      (subst (λ q. Fine cmp time Good t (record { at = e.at; pending = q })) n.pending (fine_reach t g r))
      n.time_max
      (subst (λ q. P (record { at = e.at; pending = q })) n.pending (fine_keeps t P a f g r)))

  -- ---- run_to

  -- as many turns as there are messages of a time handle just those
  turns_reach : (bound t n : ℕ) (x : X) (q : List M) → t < bound
      → Fine cmp time Good t (record { at = x; pending = q }) →
      count_at time t q ≡ n →
      Reach cmp time handle bound (record { at = x; pending = q })
      (turns cmp handle n (record { at = x; pending = q }))
      × Fine cmp time Good (suc t) (turns cmp handle n (record { at = x; pending = q }))
  turns_reach bound t zero x q b f e =
      (stay, record { good = f.good; sorted = f.sorted; from_t = none_at time t q e f.from_t })
  turns_reach bound t (suc n) x [] b f e = absurd (omega (arith, e))
  turns_reach bound t (suc n) x (m ∷ q) b f e =
      let w = some_at time t n (m ∷ q) e in
      let a : time m ≤ time w.0 = head_least o m q w.0 f.sorted w.1 in
      let l : t ≤ time m = f.from_t.0 in
      let p : time m ≡ t = omega (arith, w.2) in
      let d = config_after cmp handle x m q in
      let k : count_at time t q ≡ n = let h = sym (count_yes time t m q p) ∙ e in omega (arith, h) in
      let c : count_at time t d.pending ≡ n =
      count_insert_all time cmp t (handle x m).1 q
      (all_weaker (λ s. time m < time s) (λ s. t < time s) (handle x m).1 (λ z h. omega arith)
      (law.later x m f.good)) ∙ k in
      let r = turns_reach bound t n d.at d.pending b (fine_after t x m q f.good f.sorted f.from_t) c in
      (reach_trans (go stay (record { m = m; q = q; pending = refl; time_max = omega arith; is = refl })) r.0, r.1)

  -- the run to a time is reached by turns, and has nothing before the time left
  pub run_reach : (bound t : ℕ) (c : Config X M) → t ≤ bound → Fine cmp time Good 0 c →
      Reach cmp time handle bound c (run_to cmp handle time c t) × Fine cmp time Good t (run_to cmp handle time c t)
  unfolding run_to
  run_reach bound zero c b f = (stay, f)
  run_reach bound (suc t) c b f =
      let d = run_to cmp handle time c t in
      let h = run_reach bound t c (omega arith) f in
      let r = turns_reach bound t (count_at time t d.pending) d.at d.pending (omega arith) h.1 refl in
      (reach_trans h.0 r.0, r.1)

  -- if turns lead to a state with no message before the bound, that is the run
  pub run_is : (bound : ℕ) (c d : Config X M) → Fine cmp time Good 0 c → Reach cmp time handle bound c d →
      IsSettled time bound d → d ≡ run_to cmp handle time c bound
  run_is bound c d f r e = let h = run_reach bound bound c (omega arith) f in ends_same r e h.0 h.1.from_t

  -- a run to one bound continues to a later one
  pub run_on : (front bound : ℕ) (c : Config X M) → front ≤ bound → Fine cmp time Good 0 c →
      run_to cmp handle time (run_to cmp handle time c front) bound ≡ run_to cmp handle time c bound
  run_on front bound c l f =
      let d = run_to cmp handle time c front in
      let g = run_reach bound front c l f in
      let h = run_reach bound bound d (omega arith) (fine_reach 0 f g.0) in
      run_is bound c (run_to cmp handle time d bound) f (reach_trans g.0 h.0) h.1.from_t

  -- turns before a bound are turns with a later message pending too
  add_reach : {bound : ℕ} {c d : Config X M} (x : M) → bound ≤ time x → Fine cmp time Good 0 c →
      Reach cmp time handle bound c d → Reach cmp time handle bound (and_pending cmp x c) (and_pending cmp x d)
  add_reach x l f stay = stay
  add_reach {bound} {c} {d} x l f (go {d = e} r n) =
      let g = fine_reach 0 f r in
      let s : Sorted cmp (n.m ∷ n.q) = subst (Sorted cmp) n.pending g.sorted in
      let early = n.time_max in
      go (add_reach x l f r) (record {
        m = n.m;
        q = insert cmp x n.q;
        pending = ap (insert cmp x) n.pending ∙ later_place o (cmp x n.m) x n.m n.q (insert cmp x n.q) refl
            (omega arith);
        time_max = n.time_max;
        is = ap (and_pending cmp x) n.is
            ∙ ap (λ q. record { at = (handle e.at n.m).0; pending = q })
            (sym (insert_swap o.order x (handle e.at n.m).1 n.q s.1));
      })

  -- a message at or after the bound changes nothing but that it is pending
  pub run_late : (bound : ℕ) (c : Config X M) (x : M) → bound ≤ time x → Fine cmp time Good 0 c →
      run_to cmp handle time (and_pending cmp x c) bound ≡ and_pending cmp x (run_to cmp handle time c bound)
  run_late bound c x l f =
      let d = run_to cmp handle time c bound in
      let h = run_reach bound bound c (omega arith) f in
      sym (run_is bound (and_pending cmp x c) (and_pending cmp x d)
      (record {
        good = f.good;
        sorted = sorted_insert o.order x c.pending f.sorted;
        from_t = all_from_zero time (insert cmp x c.pending);
      })
      (add_reach x l f h.0)
      (all_from (λ m. bound ≤ time m) (insert cmp x d.pending) (λ z i. elim (in_insert o.order x d.pending z i) [
        | inl e ↦ subst (λ m. bound ≤ time m) (sym e) l
        | inr j ↦ all_in (λ m. bound ≤ time m) d.pending z h.1.from_t j
      ])))

  -- a ready machine is fine from 0 on
  pub fine_if_ready : (c : Config X M) → IsReady cmp time handle Good c → Fine cmp time Good 0 c
  fine_if_ready c r = record { good = r.good; sorted = r.sorted; from_t = all_from_zero time c.pending }
