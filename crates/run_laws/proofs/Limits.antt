-- The prefixes that the logs of a copy's clones gain up to a bound, each log cut to the limit.
use Rattle.std.proofs.Common.{◌≡◌, ℕ, zero, suc, ◌+◌, ◌-◌, ◌≤◌, ◌<◌, List, [], ◌∷◌, ◌++◌, ◌⊎◌, inl, inr, Bool}
use Rattle.std.proofs.Common.{refl, sym, ap, ◌∙◌, subst, arith, length, length-append, take}
use Rattle.std.proofs.lemmas.List.{take_all, append_cancel_left}
use Rattle.std.proofs.Math.Seq.{take-append-add}
use Rattle.sim_base.specs.declared.entry.Entry.{Entry}
use Rattle.run_laws.specs.Queue.{In}
use Rattle.run_laws.specs.Machine.{Next, stay, go, IsSettled}
use Rattle.run_laws.specs.Simulation.{Simulation}
use Rattle.run_laws.specs.Window.{local_step}
use Rattle.run_laws.specs.Handlers.{IsTimed}
use Rattle.run_laws.specs.Prefixes.{IsCount, IsGained}
use Rattle.sim_base.specs.Marked.{JoinsMarks, SortedMarked}
use Rattle.sim_base.proofs.ListLaws.{take-append}
use Rattle.run_laws.specs.Copies.{Copy, Carries, handle_until, handled_by, sends_aside, takes}
use Rattle.run_laws.specs.Copies.{messages_taken, view, IsCutLog, GoesOver, AllTake}
use Rattle.run_laws.proofs.Machine.{reach_first, reach_trans, is_settled-stays, is_settled-no_next}
use Rattle.run_laws.proofs.Parts.{sorted_part}
use Rattle.run_laws.proofs.Prefixes.{gained_none, gained_more, gained_both, gained_same}
use Rattle.run_laws.proofs.Worlds.{entry_of}
use Rattle.run_laws.proofs.CopyViews.{log_grows, log_begins, firsts_part, settled_or_next, handled_view}

-- ---- take

-- a list and a further part, cut, if the first part is not longer than the limit
pub cut_goes_on : {E : Type 0} (limit : ℕ) (xs g : List E) → length xs ≤ limit →
    take limit (xs ++ g) ≡ xs ++ take (limit - length xs) g
cut_goes_on limit xs g l =
    let e : limit ≡ length xs + (limit - length xs) = omega (arith, l) in
    ap (λ n. take n (xs ++ g)) e ∙ take-append-add xs g (limit - length xs)

-- a cut list begins as the list
first_of_cut : {E : Type 0} (n : ℕ) (g : List E) (x : E) (u : List E) → take n g ≡ x ∷ u → (v : List E) × (g ≡ x ∷ v)
first_of_cut zero g x u e = absurd (cc)
first_of_cut (suc n) [] x u e = absurd (cc)
first_of_cut (suc n) (y ∷ g) x u e = let h : y ≡ x = cc in (g, ap (λ t. t ∷ g) h)

-- a log with one more entry and a further part, cut
cut_more : {E : Type 0} (limit : ℕ) (short : List E) (x : E) (log l : List E) → length short < limit →
    l ≡ take limit log → (g : List E) × (log ≡ (short ++ x ∷ []) ++ g) → (g : List E) × (l ≡ (short ++ x ∷ []) ++ g)
cut_more limit short x log l less e h =
    let b = length-append short (x ∷ []) in
    let c : length (x ∷ []) ≡ 1 = refl in
    let a : length (short ++ x ∷ []) ≤ limit = omega (arith, b, c) in
    (take (limit - length (short ++ x ∷ [])) h.0, e ∙ (ap (take limit) h.1 ∙ cut_goes_on limit (short ++ x ∷ []) h.0 a))

-- ---- IsCutLog

module _ {S M N K : Type 0} (sim : Simulation S M N) (has : K → ℕ → Bool) (ends : ℕ → ℕ) (s bound : ℕ) where
  -- a copy whose clones are settled gains nothing
  pub cut_settled : (r : Copy S M N K) (sent : List (M × K)) → length r.log ≤ sim.limit →
      ((c : ℕ) → Carries has r c → IsSettled sim.time bound (view sim has ends c r sent)) →
      IsCount (IsGained (IsCutLog sim has ends s bound r sent) r.log) 0
  cut_settled r sent l f = gained_none (IsCutLog sim has ends s bound r sent) r.log (λ k h.
      let e = is_settled-stays (f h.clone h.is_in) h.ran in
      h.is ∙ (ap (λ u. take sim.limit u.at.log) e ∙ take_all sim.limit r.log l))

  -- a copy whose log is as long as it may be gains nothing
  pub cut_full : (r : Copy S M N K) (sent : List (M × K)) → length r.log ≡ sim.limit →
      IsCount (IsGained (IsCutLog sim has ends s bound r sent) r.log) 0
  cut_full r sent e = gained_none (IsCutLog sim has ends s bound r sent) r.log (λ k h.
      let g = log_grows sim s bound (ends h.clone) h.ran in
      h.is ∙ (ap (take sim.limit) g.1 ∙ take-append r.log g.0 sim.limit e))

  -- a clone of such a copy that takes a message before the bound goes over the limit
  pub goes_over : (r : Copy S M N K) (sent : List (M × K)) (c : ℕ) (m : M) (q : List M) → length r.log ≡ sim.limit →
      messages_taken sim has ends c r.pending ≡ m ∷ q → sim.time m < bound → GoesOver sim has ends s bound r sent c
  goes_over r sent c m q e p early d ran done =
      let h = log_begins sim s bound (ends c) (view sim has ends c r sent) d m q p early ran done in
      let x : Entry M N = entry_of sim s r.state m in
      let a = ap (λ u. length {A = Entry M N} u) h.1 in
      let b = length-append r.log (x ∷ h.0) in
      let k : length (x ∷ h.0) ≡ suc (length h.0) = refl in
      omega (arith, e, a, b, k)

  -- the first gain of a cut log is the first gain of the log
  first_gained : (r : Copy S M N K) (sent : List (M × K)) (t : List (Entry M N))
      (g : IsCutLog sim has ends s bound r sent t) (x : Entry M N) (u : List (Entry M N)) → length r.log ≤ sim.limit →
      t ≡ r.log ++ x ∷ u → (v : List (Entry M N)) × (g.last.at.log ≡ r.log ++ x ∷ v)
  first_gained r sent t g x u l e =
      let h = log_grows sim s bound (ends g.clone) g.ran in
      let k : x ∷ u ≡ take (sim.limit - length r.log) h.0 =
      append_cancel_left r.log (x ∷ u) (take (sim.limit - length r.log) h.0)
      (sym e ∙ (g.is ∙ (ap (take sim.limit) h.1 ∙ cut_goes_on sim.limit r.log h.0 l))) in
      let f = first_of_cut (sim.limit - length r.log) h.0 x u (sym k) in
      (f.0, h.1 ∙ ap (λ w. r.log ++ w) f.1)

  -- the clones that take m and those that do not gain different prefixes
  pub cut_split : (o : IsTimed sim.order sim.time) (r : Copy S M N K) (sent : List (M × K))
      (One Two : List (Entry M N) → Type 0) (i j : ℕ) (m : M) → length r.log ≤ sim.limit → sim.time m < bound →
      ((l : List (Entry M N)) → One l → (g : IsCutLog sim has ends s bound r sent l) × (q : List M)
      × (messages_taken sim has ends g.clone r.pending ≡ m ∷ q)) →
      ((l : List (Entry M N)) → Two l → (g : IsCutLog sim has ends s bound r sent l)
      × ((z : M) → In z (messages_taken sim has ends g.clone r.pending) → z ≡ m → ⊥)) →
      ((l : List (Entry M N)) → IsCutLog sim has ends s bound r sent l → One l ⊎ Two l) →
      SortedMarked sim.order r.pending →
      IsCount (IsGained One r.log) i → IsCount (IsGained Two r.log) j →
      IsCount (IsGained (IsCutLog sim has ends s bound r sent) r.log) (i + j)
  cut_split o r sent One Two i j m l early f g both sorted a b = gained_same (λ k. One k ⊎ Two k)
      (IsCutLog sim has ends s bound r sent) r.log (i + j)
      (λ k h. elim h [ inl x ↦ (f k x).0 | inr x ↦ (g k x).0 ]) both
      (gained_both One Two r.log i j (λ x u v p1 p2.
      let h1 = f (r.log ++ x ∷ u) p1 in
      let h2 = g (r.log ++ x ∷ v) p2 in
      let k1 = first_gained r sent (r.log ++ x ∷ u) h1.0 x u l refl in
      let k2 = first_gained r sent (r.log ++ x ∷ v) h2.0 x v l refl in
      firsts_part sim s bound (ends h1.0.clone) (ends h2.0.clone) (view sim has ends h1.0.clone r sent)
      (view sim has ends h2.0.clone r sent) h1.0.last h2.0.last m h1.1 x k1.0 k2.0 refl h1.2 early h2.1
      (settled_or_next sim s bound o (view sim has ends h2.0.clone r sent)
      (sorted_part (takes sim has ends) sim.order h2.0.clone r.pending sorted))
      h1.0.ran h1.0.settled h2.0.ran h2.0.settled k1.1 k2.1) a b)

module _ {S M N K : Type 0} (sim : Simulation S M N) {has : K → ℕ → Bool} {join : K → K → K} (j : JoinsMarks has join)
    (ends : ℕ → ℕ) (o : IsTimed sim.order sim.time) (s bound : ℕ) where
  -- one shared handling gains one prefix
  pub cut_handle : (r : Copy S M N K) (m : M) (k : K) (q sent : List (M × K)) (n : ℕ)
      (some : (l : List (Entry M N)) × IsCutLog sim has ends s bound r sent l) → length r.log < sim.limit →
      r.pending ≡ (m, k) ∷ q → SortedMarked sim.order r.pending →
      AllTake sim has ends r m k → sim.time m < bound →
      IsCount (IsGained (IsCutLog sim has ends s bound (handled_by sim join s r m q) (sent ++ sends_aside sim s r m))
      (handled_by sim join s r m q).log) n →
      IsCount (IsGained (IsCutLog sim has ends s bound r sent) r.log) (n + 1)
  cut_handle r m k q sent n some l p sorted all early h =
      let x : Entry M N = entry_of sim s r.state m in
      let new : Copy S M N K = handled_by sim join s r m q in
      let out : List (M × K) = sent ++ sends_aside sim s r m in
      let next : (c : ℕ) → Carries has r c
      → Next sim.order sim.time (local_step sim.to (handle_until sim (ends c)) s) bound
      (view sim has ends c r sent) (view sim has ends c new out) =
      λ c i. handled_view sim j ends o s bound c r m k q sent p sorted i (all c i) early in
      let there : (t : List (Entry M N)) → IsCutLog sim has ends s bound r sent t
      → IsCutLog sim has ends s bound new out t = λ t g.
      elim (reach_first g.ran (next g.clone g.is_in)) [
        | inl e ↦ absurd (is_settled-no_next (view sim has ends g.clone r sent) (view sim has ends g.clone new out)
            (subst (IsSettled sim.time bound) e g.settled) (next g.clone g.is_in))
        | inr ran ↦ record {
          clone = g.clone;
          is_in = g.is_in;
          last = g.last;
          ran = ran;
          settled = g.settled;
          is = g.is;
        }
      ] in
      let back : (t : List (Entry M N)) → IsCutLog sim has ends s bound new out t
      → IsCutLog sim has ends s bound r sent t =
      λ t g. record {
        clone = g.clone;
        is_in = g.is_in;
        last = g.last;
        ran = reach_trans (go stay (next g.clone g.is_in)) g.ran;
        settled = g.settled;
        is = g.is;
      } in
      gained_more (IsCutLog sim has ends s bound r sent) r.log x n some
      (λ t g. let u = there t g in cut_more sim.limit r.log x u.last.at.log t l u.is
      (log_grows sim s bound (ends u.clone) u.ran))
      (gained_same (IsCutLog sim has ends s bound new out) (IsCutLog sim has ends s bound r sent) new.log n back there
      h)
