-- The results of a copy at a bound: itself if it is settled, one handling for all its clones, or its two halves.
use Rattle.std.proofs.Common.{◌≡◌, ℕ, ◌+◌, ◌≤◌, ◌<◌, List, [], ◌∷◌, ◌++◌, ◌⊎◌, inl, inr}
use Rattle.std.proofs.Common.{Bool, refl, sym, ap, ◌∙◌, subst, arith, nat_lt, length, take}
use Rattle.std.specs.List.{AllByRecursion}
use Rattle.std.specs.declared.cmp.Ordering.TheVariants.{Less}
use Rattle.std.proofs.lemmas.Bool.{false≢true, or_cases, or_left, or_right, false_from_ne_true}
use Rattle.sim_base.specs.declared.entry.Entry.{Entry}
use Rattle.run_laws.specs.Queue.{In}
use Rattle.run_laws.specs.Machine.{Config, run_to, Next, stay, go, IsSettled}
use Rattle.run_laws.specs.Simulation.{Simulation}
use Rattle.run_laws.specs.World.{to_it}
use Rattle.run_laws.specs.Window.{LocalStation, earlier_than, local_step}
use Rattle.run_laws.specs.Handlers.{IsLawful, HandlesLawfully}
use Rattle.run_laws.specs.Prefixes.{IsCount, IsGained}
use Rattle.sim_base.specs.Marked.{JoinsMarks, SortedMarked}
use Rattle.run_laws.specs.Copies.{Copy, Carries, Disjoint, handle_until, handled_by, sends_aside, takes}
use Rattle.run_laws.specs.Copies.{messages_taken, view, IsNarrowed, Turns, IsCutLog, ComesTo, AllTake, NoneTakes}
use Rattle.run_laws.proofs.Queue.{all_in, all_from, not_below_itself}
use Rattle.run_laws.proofs.Lists.{in_filter, in_own, in_append, append_old, append_new}
use Rattle.run_laws.proofs.Machine.{reach_first, reach_trans, is_settled-no_next}
use Rattle.run_laws.proofs.Running.{all_from_zero, run_reach}
use Rattle.run_laws.proofs.Parts.{all_part_of, part_yes, part_no, above_part, sorted_part}
use Rattle.run_laws.proofs.Prefixes.{gained_same}
use Rattle.run_laws.proofs.CopyViews.{logs_part, settled_or_next, handled_view, others_sent}
use Rattle.run_laws.proofs.Limits.{cut_settled, cut_full, goes_over, cut_split, cut_handle}

-- ---- Disjoint

-- copies that are apart in two lists, and from list to list
pub disjoint_append : {S M N K : Type 0} (has : K → ℕ → Bool) (xs ys : List (Copy S M N K)) → Disjoint has xs →
    Disjoint has ys → ((a b : Copy S M N K) (c : ℕ) → In a xs → In b ys → Carries has a c → Carries has b c → ⊥) →
    Disjoint has (xs ++ ys)
disjoint_append has [] ys f g h = g
disjoint_append {S} {M} {N} {K} has (x ∷ xs) ys f g h = (
  all_from (λ b. (c : ℕ) → Carries has x c → Carries has b c → ⊥) (xs ++ ys) (λ b i. elim (in_append xs ys b i) [
    | inl j ↦ all_in (λ b. (c : ℕ) → Carries has x c → Carries has b c → ⊥) xs b f.0 j
    | inr j ↦ λ c k l. h x b c (inl refl) j k l
  ]),
  disjoint_append has xs ys f.1 g (λ a b c i j. h a b c (inr i) j),
)

-- ---- IsLawful

module _ {S M N : Type 0} {sim : Simulation S M N} {Good : ℕ → S → Type 0} (law : HandlesLawfully sim Good)
    (end s : ℕ) where
  -- a station that drops its sends at an end or later is lawful too
  pub until_lawful : IsLawful sim.time (local_step sim.to (handle_until sim end) s) (λ p. Good s p.state)
  until_lawful = record {
    keeps = λ p m g. law.keeps s p.state m g;
    later = λ p m g. all_from (λ x. sim.time m < sim.time x)
        (to_it sim.to s (earlier_than sim.time end (sim.handle s p.state m).sends)) (λ z i.
        all_in (λ x. sim.time m < sim.time x) (sim.handle s p.state m).sends z (law.later s p.state m g)
        (in_filter (λ m. nat_lt (sim.time m) end) (sim.handle s p.state m).sends z
        (in_own sim.to s (earlier_than sim.time end (sim.handle s p.state m).sends) z i).0).0);
  }

module _ {S M N K : Type 0} {sim : Simulation S M N} {Good : ℕ → S → Type 0} (law : HandlesLawfully sim Good)
    {has : K → ℕ → Bool} {join : K → K → K} (j : JoinsMarks has join) (ends : ℕ → ℕ) (s bound : ℕ) where
  -- the view of clone c
  abbrev seen : ℕ → Copy S M N K → List (M × K) → Config (LocalStation S M N) M
  seen c r sent = view sim has ends c r sent

  -- the turns that it takes
  abbrev Goes : ℕ → Config (LocalStation S M N) M → Config (LocalStation S M N) M → Type 0
  Goes = Turns sim has ends s bound

  -- it has nothing left before the bound
  abbrev Settles : Config (LocalStation S M N) M → Type 0
  Settles = IsSettled sim.time bound

  -- the logs that the clones reach, cut to the limit
  abbrev Cut : Copy S M N K → List (M × K) → List (Entry M N) → Type 0
  Cut = IsCutLog sim has ends s bound

  -- ---- IsSettled

  -- each clone of a copy reaches an end of its turns
  pub turns-settle : (r : Copy S M N K) (sent : List (M × K)) (c : ℕ) → Good s r.state →
      SortedMarked sim.order r.pending → (d : Config (LocalStation S M N) M) × Goes c (seen c r sent) d × Settles d
  turns-settle r sent c g sorted =
      let h = run_reach law.order (until_lawful law (ends c) s) bound bound (seen c r sent) (omega arith)
      (record {
        good = g;
        sorted = sorted_part (takes sim has ends) sim.order c r.pending sorted;
        from_t = all_from_zero sim.time (messages_taken sim has ends c r.pending);
      }) in (
        run_to sim.order (local_step sim.to (handle_until sim (ends c)) s) sim.time (seen c r sent) bound,
        h.0,
        h.1.from_t,
      )

  -- with all that is pending at the bound or later every clone is settled
  pub settled-late : (r : Copy S M N K) (sent : List (M × K)) (c : ℕ) →
      AllByRecursion (λ x. bound ≤ sim.time x.0) r.pending → Settles (seen c r sent)
  settled-late r sent c late = all_part_of (takes sim has ends) c (λ m. bound ≤ sim.time m) r.pending late

  -- ---- view

  -- some of the clones of a copy have the same view as before
  view-narrowed : (r some : Copy S M N K) (sent : List (M × K)) (c : ℕ) → IsNarrowed sim has ends r some →
      Carries has some c → seen c some sent ≡ seen c r sent
  view-narrowed r some sent c n h = let a = n.state in let b = n.log in let d = n.parts c h in cc

  -- with other messages laid aside that it doesn't see, a clone sees the same
  pub view-moved : (c : ℕ) (b : Copy S M N K) (x y : List (M × K))
      → messages_taken sim has ends c x ≡ messages_taken sim has ends c y →
      seen c b x ≡ seen c b y
  view-moved c b x y e = ap (λ l. record {
    at = record { state = b.state; log = b.log; aside = l };
    pending = messages_taken sim has ends c b.pending;
  }) e

  -- ---- IsCutLog

  -- the cut logs of some clones are cut logs of the copy
  pub cut_of_some : (r some : Copy S M N K) (sent mid : List (M × K)) → IsNarrowed sim has ends r some →
      ((c : ℕ) → Carries has some c → messages_taken sim has ends c mid ≡ messages_taken sim has ends c sent)
      → (l : List (Entry M N)) →
      Cut some mid l → Cut r sent l
  cut_of_some r some sent mid n same l g = record {
    clone = g.clone;
    is_in = n.within g.clone g.is_in;
    last = g.last;
    ran = subst (λ u. Goes g.clone u g.last) (view-moved g.clone some mid sent (same g.clone g.is_in)
        ∙ view-narrowed r some sent g.clone n g.is_in) g.ran;
    settled = g.settled;
    is = g.is;
  }

  -- and the cut logs of those clones are theirs
  cut_in_some : (r some : Copy S M N K) (sent mid : List (M × K)) → IsNarrowed sim has ends r some →
      ((c : ℕ) → Carries has some c → messages_taken sim has ends c mid ≡ messages_taken sim has ends c sent)
      → (l : List (Entry M N))
      (g : Cut r sent l) → Carries has some g.clone → Cut some mid l
  cut_in_some r some sent mid n same l g is_in = record {
    clone = g.clone;
    is_in = is_in;
    last = g.last;
    ran = subst (λ u. Goes g.clone u g.last)
        (sym (view-moved g.clone some mid sent (same g.clone is_in) ∙ view-narrowed r some sent g.clone n is_in)) g.ran;
    settled = g.settled;
    is = g.is;
  }

  -- ---- ComesTo

  -- a copy whose clones are settled stays
  pub comes_to-settled : (r : Copy S M N K) (sent : List (M × K)) (over : K) → (c : ℕ) × Carries has r c →
      length r.log ≤ sim.limit → ((c : ℕ) → Carries has r c → Settles (seen c r sent)) →
      ComesTo sim has ends s bound r (r ∷ []) sent sent over over 0
  comes_to-settled r sent over any short f = record {
    inhabited = λ b i. elim i [ inl e ↦ (any.0, subst (λ x. Carries has x any.0) (sym e) any.1) | inr n ↦ absurd n ];
    gained = cut_settled sim has ends s bound r sent short f;
    within = λ b c i h. elim i [ inl e ↦ subst (λ x. Carries has x c) e h | inr n ↦ absurd n ];
    ran = λ b c i h. elim i [
      | inl e ↦ subst (λ x. Goes c (seen c r sent) (seen c x sent) × Settles (seen c x sent))
          (sym e) (stay, f c (subst (λ x. Carries has x c) e h))
      | inr n ↦ absurd n
    ];
    length_max = λ b i. elim i [ inl e ↦ subst (λ x. length x.log ≤ sim.limit) (sym e) short | inr n ↦ absurd n ];
    some = λ c h. inl (r, inl refl, h);
    too_long = λ c h. inl h;
    still_over = λ c h. h;
    parted = λ a b c d i k g h e. elim i [ inl x ↦ elim k [ inl y ↦ x ∙ sym y | inr l ↦ absurd l ] | inr l ↦ absurd l ];
    disjoint = (tt, tt);
    others = λ c h. refl;
  }

  -- a copy at the limit whose clones all take a message before the bound is over it
  pub comes_to-over : (r : Copy S M N K) (m : M) (k : K) (q sent : List (M × K)) (over : K) → length r.log ≡ sim.limit →
      r.pending ≡ (m, k) ∷ q → AllTake sim has ends r m k → sim.time m < bound →
      ComesTo sim has ends s bound r [] sent sent over (join over r.set) 0
  comes_to-over r m k q sent over full p all early = record {
    inhabited = λ b i. absurd i;
    gained = cut_full sim has ends s bound r sent full;
    within = λ b c i. absurd i;
    ran = λ b c i. absurd i;
    length_max = λ b i. absurd i;
    some = λ c h. inr (j.joined over r.set c ∙ or_right (has over c) (has r.set c) h);
    too_long = λ c h. elim (or_cases (has over c) (has r.set c) (sym (j.joined over r.set c) ∙ h)) [
      | inl e ↦ inl e
      | inr e ↦ inr (
        e,
        goes_over sim has ends s bound r sent c m (messages_taken sim has ends c q) full
            (ap (messages_taken sim has ends c) p ∙ part_yes (takes sim has ends) c (m, k) q (all c e)) early,
      )
    ];
    still_over = λ c h. j.joined over r.set c ∙ or_left (has over c) (has r.set c) h;
    parted = λ a b c d i. absurd i;
    disjoint = tt;
    others = λ c h. refl;
  }

  -- a copy whose clones all take its least message handles it once
  pub comes_to-handle : (r : Copy S M N K) (m : M) (k : K) (q sent : List (M × K)) (results : List (Copy S M N K))
      (after : List (M × K)) (over over_after : K) (n : ℕ) → (c : ℕ) × Carries has r c →
      Good s r.state → length r.log < sim.limit → r.pending ≡ (m, k) ∷ q → SortedMarked sim.order r.pending →
      AllTake sim has ends r m k → sim.time m < bound →
      ComesTo sim has ends s bound (handled_by sim join s r m q) results (sent ++ sends_aside sim s r m) after over
      over_after n →
      ComesTo sim has ends s bound r results sent after over over_after (n + 1)
  comes_to-handle r m k q sent results after over over_after n any good less p sorted all early h =
      let new : Copy S M N K = handled_by sim join s r m q in
      let out : List (M × K) = sent ++ sends_aside sim s r m in
      let next : (c : ℕ) → Carries has r c
      → Next sim.order sim.time (local_step sim.to (handle_until sim (ends c)) s) bound (seen c r sent)
      (seen c new out) = λ c i. handled_view sim j ends law.order s bound c r m k q sent p sorted i
      (all c i) early in
      let first = turns-settle r sent any.0 good sorted in
      record {
        inhabited = h.inhabited;
        gained = cut_handle sim j ends law.order s bound r m k q sent n (
          take sim.limit first.0.at.log,
          record {
            clone = any.0;
            is_in = any.1;
            last = first.0;
            ran = first.1;
            settled = first.2;
            is = refl;
          },
        )
            less p sorted all early h.gained;
        within = h.within;
        ran = λ b c i g. let x = h.ran b c i g in let y = h.within b c i g in
            (reach_trans (go stay (next c y)) x.0, x.1);
        length_max = h.length_max;
        some = h.some;
        too_long = λ c g. elim (h.too_long c g) [
          | inl e ↦ inl e
          | inr e ↦ inr (
            e.0,
            λ d t done. elim (reach_first t (next c e.0)) [
              | inl a ↦ absurd (is_settled-no_next (seen c r sent) (seen c new out) (subst Settles a done) (next c e.0))
              | inr a ↦ e.1 d a done
            ],
          )
        ];
        still_over = h.still_over;
        parted = h.parted;
        disjoint = h.disjoint;
        others = λ c g. h.others c g ∙ others_sent sim has ends s c r m sent g;
      }

  -- of a message that none of its clones takes, a copy may be rid
  pub is_narrowed-rest : (r : Copy S M N K) (m : M) (k : K) (q : List (M × K)) → r.pending ≡ (m, k) ∷ q →
      NoneTakes sim has ends r m k
      → IsNarrowed sim has ends r (record r { pending = q })
  is_narrowed-rest r m k q p none = record {
    state = refl;
    log = refl;
    within = λ c h. h;
    parts = λ c h. sym (ap (messages_taken sim has ends c) p ∙ part_no (takes sim has ends) c (m, k) q (none c h));
  }

  -- a copy with the same clones and views has the same results
  pub comes_to-same : (r some : Copy S M N K) (results : List (Copy S M N K)) (before after : List (M × K))
      (over over_after : K) (n : ℕ) → IsNarrowed sim has ends r some → ((c : ℕ) → Carries has r c → Carries has some c)
      → ComesTo sim has ends s bound some results before after over over_after n →
      ComesTo sim has ends s bound r results before after over over_after n
  comes_to-same r some results before after over over_after n nar all h =
      let v : (c : ℕ) → Carries has some c → seen c some before ≡ seen c r before =
      λ c i. view-narrowed r some before c nar i in
      record {
        inhabited = h.inhabited;
        gained = gained_same (Cut some before) (Cut r before) r.log n
            (λ l g. cut_of_some r some before before nar (λ c i. refl) l g)
            (λ l g. cut_in_some r some before before nar (λ c i. refl) l g (all g.clone g.is_in))
            (subst (λ t. IsCount (IsGained (Cut some before) t) n) nar.log h.gained);
        within = λ b c i g. nar.within c (h.within b c i g);
        ran = λ b c i g. let x = h.ran b c i g in
            (subst (λ u. Goes c u (seen c b after)) (v c (h.within b c i g)) x.0, x.1);
        length_max = h.length_max;
        some = λ c g. h.some c (all c g);
        too_long = λ c g. elim (h.too_long c g) [
          | inl e ↦ inl e
          | inr e ↦ inr (nar.within c e.0, λ d t. e.1 d (subst (λ u. Goes c u d) (sym (v c e.0)) t))
        ];
        still_over = h.still_over;
        parted = h.parted;
        disjoint = h.disjoint;
        others = λ c g. h.others c (false_from_ne_true (has some.set c) (λ i. false≢true (sym g ∙ nar.within c i)));
      }

  -- if some clones of a copy take the least message and some do not, its results are those of its halves
  pub comes_to-split : (r r1 r2 : Copy S M N K) (m : M) (k : K) (q before mid after : List (M × K))
      (e1 e2 : List (Copy S M N K)) (over over1 over2 : K) (x1 x2 : ℕ) →
      length r.log ≤ sim.limit → r.pending ≡ (m, k) ∷ q → SortedMarked sim.order r.pending → sim.time m < bound →
      IsNarrowed sim has ends r r1 → IsNarrowed sim has ends r r2 →
      AllTake sim has ends r1 m k → NoneTakes sim has ends r2 m k →
      ((c : ℕ) → Carries has r c → Carries has r1 c ⊎ Carries has r2 c) →
      ComesTo sim has ends s bound r1 e1 before mid over over1 x1 →
      ComesTo sim has ends s bound r2 e2 mid after over1 over2 x2 →
      ComesTo sim has ends s bound r (e1 ++ e2) before after over over2 (x1 + x2)
  unfolding cut_of_some
  comes_to-split r r1 r2 m k q before mid after e1 e2 over over1 over2 x1 x2 less p sorted early n1 n2 in_k out_k cover
      f g =
      let o = law.order in
      let apart : (c : ℕ) → Carries has r1 c → Carries has r2 c → ⊥ =
      λ c i l. false≢true (sym (out_k c l) ∙ in_k c i) in
      let out1 : (c : ℕ) → Carries has r2 c → messages_taken sim has ends c mid ≡ messages_taken sim has ends c before =
      λ c l. f.others c (false_from_ne_true (has r1.set c) (λ i. apart c i l)) in
      let out2 : (c : ℕ) → Carries has r1 c → messages_taken sim has ends c after ≡ messages_taken sim has ends c mid =
      λ c i. g.others c (false_from_ne_true (has r2.set c) (λ l. apart c i l)) in
      let see1 : (c : ℕ) → Carries has r1 c → seen c r1 before ≡ seen c r before =
      λ c i. view-narrowed r r1 before c n1 i in
      let see2 : (c : ℕ) → Carries has r2 c → seen c r2 mid ≡ seen c r before =
      λ c i. view-moved c r2 mid before (out1 c i) ∙ view-narrowed r r2 before c n2 i in
      let ran1 : (b : Copy S M N K) (c : ℕ) → In b e1 → Carries has b c → Goes c (seen c r before) (seen c b after)
      × Settles (seen c b after) = λ b c i h.
      let w = f.within b c i h in let x = f.ran b c i h in
      let v : seen c b mid ≡ seen c b after = view-moved c b mid after (sym (out2 c w)) in (
        subst (λ u. Goes c u (seen c b after)) (see1 c w) (subst (λ u. Goes c (seen c r1 before) u) v x.0),
        subst Settles v x.1,
      ) in
      let ran2 : (b : Copy S M N K) (c : ℕ) → In b e2 → Carries has b c → Goes c (seen c r before) (seen c b after)
      × Settles (seen c b after) = λ b c i h.
      let w = g.within b c i h in let x = g.ran b c i h in
      (subst (λ u. Goes c u (seen c b after)) (see2 c w) x.0, x.1) in
      let sm : SortedMarked sim.order ((m, k) ∷ q) = subst (SortedMarked sim.order) p sorted in
      let has_m : (c : ℕ) → Carries has r1 c
      → messages_taken sim has ends c r.pending ≡ m ∷ messages_taken sim has ends c q =
      λ c i. ap (messages_taken sim has ends c) p ∙ part_yes (takes sim has ends) c (m, k) q (in_k c i) in
      let has_no_m : (d : ℕ) → Carries has r2 d → (z : M) → In z (messages_taken sim has ends d r.pending) → z ≡ m → ⊥ =
      λ d i z u v.
      not_below_itself o.order.total m (subst (λ t. sim.order m t ≡ Less) v
      (all_in (λ t. sim.order m t ≡ Less) (messages_taken sim has ends d q) z
      (above_part (takes sim has ends) sim.order d m q sm.0)
      (subst (In z) (ap (messages_taken sim has ends d) p ∙ part_no (takes sim has ends) d (m, k) q (out_k d i)) u))) in
      let cross : (a b : Copy S M N K) (c d : ℕ) → In a e1 → In b e2 → Carries has a c → Carries has b d
      → a.log ≡ b.log → ⊥ = λ a b c d i l h t e.
      let x = ran1 a c i h in let y = ran2 b d l t in
      logs_part sim s bound (ends c) (ends d) (seen c r before) (seen d r before) (seen c a after) (seen d b after) m
      (messages_taken sim has ends c q) refl
      (has_m c (f.within a c i h)) early (has_no_m d (g.within b d l t))
      (settled_or_next sim s bound o (seen d r before) (sorted_part (takes sim has ends) sim.order d r.pending sorted))
      x.0 x.1 y.0 y.1 e in
      record {
        inhabited = λ b i. elim (in_append e1 e2 b i) [ inl l ↦ f.inhabited b l | inr l ↦ g.inhabited b l ];
        gained = cut_split sim has ends s bound o r before (Cut r1 before) (Cut r2 mid) x1 x2 m less early
            (λ l h. (
              cut_of_some r r1 before before n1 (λ c i. refl) l h,
              messages_taken sim has ends h.clone q,
              has_m h.clone h.is_in,
            ))
            (λ l h. (cut_of_some r r2 before mid n2 out1 l h, has_no_m h.clone h.is_in))
            (λ l h. elim (cover h.clone h.is_in) [
              | inl i ↦ inl (cut_in_some r r1 before before n1 (λ c i. refl) l h i)
              | inr i ↦ inr (cut_in_some r r2 before mid n2 out1 l h i)
            ])
            sorted
            (subst (λ t. IsCount (IsGained (Cut r1 before) t) x1) n1.log f.gained)
            (subst (λ t. IsCount (IsGained (Cut r2 mid) t) x2) n2.log g.gained);
        within = λ b c i h. elim (in_append e1 e2 b i) [
          | inl l ↦ n1.within c (f.within b c l h)
          | inr l ↦ n2.within c (g.within b c l h)
        ];
        ran = λ b c i h. elim (in_append e1 e2 b i) [ inl l ↦ ran1 b c l h | inr l ↦ ran2 b c l h ];
        length_max = λ b i. elim (in_append e1 e2 b i) [ inl l ↦ f.length_max b l | inr l ↦ g.length_max b l ];
        some = λ c h. elim (cover c h) [
          | inl i ↦ elim (f.some c i) [
            | inl x ↦ inl (x.0, append_old e1 e2 x.0 x.1, x.2)
            | inr x ↦ inr (g.still_over c x)
          ]
          | inr i ↦ elim (g.some c i) [ inl x ↦ inl (x.0, append_new e1 e2 x.0 x.1, x.2) | inr x ↦ inr x ]
        ];
        too_long = λ c h. elim (g.too_long c h) [
          | inl x ↦ elim (f.too_long c x) [
            | inl y ↦ inl y
            | inr y ↦ inr (n1.within c y.0, λ d t. y.1 d (subst (λ u. Goes c u d) (sym (see1 c y.0)) t))
          ]
          | inr y ↦ inr (n2.within c y.0, λ d t. y.1 d (subst (λ u. Goes c u d) (sym (see2 c y.0)) t))
        ];
        still_over = λ c h. g.still_over c (f.still_over c h);
        parted = λ a b c d i l h t e. elim (in_append e1 e2 a i) [
          | inl u ↦ elim (in_append e1 e2 b l) [
            | inl v ↦ f.parted a b c d u v h t e
            | inr v ↦ absurd (cross a b c d u v h t e)
          ]
          | inr u ↦ elim (in_append e1 e2 b l) [
            | inl v ↦ absurd (cross b a d c v u t h (sym e))
            | inr v ↦ g.parted a b c d u v h t e
          ]
        ];
        disjoint = disjoint_append has e1 e2 f.disjoint g.disjoint
            (λ a b c i l h t. apart c (f.within a c i h) (g.within b c l t));
        others = λ c h.
            let no1 = false_from_ne_true (has r1.set c) (λ i. false≢true (sym h ∙ n1.within c i)) in
            let no2 = false_from_ne_true (has r2.set c) (λ i. false≢true (sym h ∙ n2.within c i)) in
            g.others c no2 ∙ f.others c no1;
      }
