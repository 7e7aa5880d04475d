-- A step of all copies of a station: copy after copy, each with its results at the bound.
use Rattle.std.proofs.Common.{◌≡◌, ℕ, ◌≤◌, ◌<◌, List, [], ◌∷◌, ◌++◌, inl, inr, Bool}
use Rattle.std.proofs.Common.{true, false, nat_lt, refl, sym, ap, ◌∙◌, subst, arith, length}
use Rattle.std.proofs.lemmas.Bool.{false≢true, and_parts, false_from_ne_true}
use Rattle.run_laws.specs.Queue.{In}
use Rattle.run_laws.specs.Machine.{Config, IsSettled}
use Rattle.run_laws.specs.Simulation.{Simulation}
use Rattle.run_laws.specs.Window.{LocalStation, earlier_than}
use Rattle.run_laws.specs.Handlers.{HandlesLawfully}
use Rattle.sim_base.specs.Marked.{JoinsMarks, SortedMarked}
use Rattle.run_laws.specs.Copies.{Copy, Carries, takes, messages_taken, view, Turns}
use Rattle.run_laws.specs.Copies.{ComesTo, alone_from, IsStepped, AreOver, SoFar}
use Rattle.run_laws.proofs.Lists.{in_append, append_old, append_new, filter_all}
use Rattle.run_laws.proofs.Parts.{sorted_part, all_part}
use Rattle.run_laws.proofs.Until.{IsCutOf, cut_of_local}
use Rattle.run_laws.proofs.ComesTo.{disjoint_append, view-moved, turns-settle}
use Rattle.run_laws.specs.StepLaws.{AreReady}

-- ---- messages_taken

module _ {S M N K : Type 0} (sim : Simulation S M N) (has : K → ℕ → Bool) (ends : ℕ → ℕ) where
  -- a message that a clone takes comes before its end
  taken_early : (c : ℕ) (q : List (M × K)) →
      earlier_than sim.time (ends c) (messages_taken sim has ends c q) ≡ messages_taken sim has ends c q
  taken_early c q = filter_all (λ m. nat_lt (sim.time m) (ends c)) (messages_taken sim has ends c q)
      (all_part (takes sim has ends) c (λ m. nat_lt (sim.time m) (ends c) ≡ true) q
      (λ x k e. (and_parts (has k c) (nat_lt (sim.time x) (ends c)) e).1))

  -- ---- SoFar

  module _ (s bound : ℕ) where
    -- at first no copy was stepped
    pub so_far_none : (over : K) → SoFar sim has ends s bound [] [] [] over over
    so_far_none over = record {
      split = record {
        inhabited = λ b i. absurd i;
        from = λ b i. absurd i;
        parted = λ a b d c e i. absurd i;
        disjoint = tt;
      };
      carried = λ a c i. absurd i;
      ran = λ a b c i. absurd i;
      length_max = λ b i. absurd i;
      too_long = λ c h. inl h;
      idle = λ c f. refl;
    }

module _ {S M N K : Type 0} {sim : Simulation S M N} {Good : ℕ → S → Type 0} (law : HandlesLawfully sim Good)
    {has : K → ℕ → Bool} {join : K → K → K} (j : JoinsMarks has join) (ends : ℕ → ℕ) (s bound : ℕ) where
  -- one copy more
  pub so_far_more : (old new results : List (Copy S M N K)) (r : Copy S M N K) (out next : List (M × K))
      (over0 over over_after : K) (n : ℕ) →
      ((a : Copy S M N K) (c : ℕ) → In a old → Carries has a c → Carries has r c → ⊥) →
      SoFar sim has ends s bound old new out over0 over
      → ComesTo sim has ends s bound r results out next over over_after n →
      SoFar sim has ends s bound (old ++ r ∷ []) (new ++ results) next over0 over_after
  so_far_more old new results r out next over0 over over_after n apart h e =
      let in_old : (b : Copy S M N K) (c : ℕ) → In b new → Carries has b c → Carries has r c → ⊥ =
      λ b c i l k. let x = h.split.from b i in apart x.0 c x.1 (x.2 c l) k in
      let same_out : (c : ℕ) → (Carries has r c → ⊥)
      → messages_taken sim has ends c next ≡ messages_taken sim has ends c out =
      λ c f. e.others c (false_from_ne_true (has r.set c) f) in
      let was_out : (c : ℕ) → Carries has r c → messages_taken sim has ends c out ≡ [] =
      λ c k. h.idle c (λ a i l. apart a c i l k) in
      let begins : (c : ℕ) → Carries has r c → view sim has ends c r out ≡ view sim has ends c r [] =
      λ c k. view-moved law j ends s bound c r out [] (was_out c k) in
      record {
        split = record {
          inhabited = λ b i. elim (in_append new results b i) [
            | inl l ↦ h.split.inhabited b l
            | inr l ↦ e.inhabited b l
          ];
          from = λ b i. elim (in_append new results b i) [
            | inl l ↦ let x = h.split.from b l in (x.0, append_old old (r ∷ []) x.0 x.1, x.2)
            | inr l ↦ (r, append_new old (r ∷ []) r (inl refl), λ c k. e.within b c l k)
          ];
          parted = λ a b1 b2 c d i j1 j2 k1 k2 l1 l2 same. elim (in_append old (r ∷ []) a i) [
            | inl u ↦ elim (in_append new results b1 j1) [
              | inl v1 ↦ elim (in_append new results b2 j2) [
                | inl v2 ↦ h.split.parted a b1 b2 c d u v1 v2 k1 k2 l1 l2 same
                | inr v2 ↦ absurd (apart a d u k2 (e.within b2 d v2 l2))
              ]
              | inr v1 ↦ absurd (apart a c u k1 (e.within b1 c v1 l1))
            ]
            | inr u ↦ elim u [
              | inl p ↦ elim (in_append new results b1 j1) [
                | inl v1 ↦ absurd (in_old b1 c v1 l1 (subst (λ u. Carries has u c) p k1))
                | inr v1 ↦ elim (in_append new results b2 j2) [
                  | inl v2 ↦
                      absurd (in_old b2 d v2 l2 (subst (λ u. Carries has u d) p k2))
                  | inr v2 ↦ e.parted b1 b2 c d v1 v2 l1 l2 same
                ]
              ]
              | inr q ↦ absurd q
            ]
          ];
          disjoint = disjoint_append has new results h.split.disjoint e.disjoint
              (λ a b c i l k t. in_old a c i k (e.within b c l t));
        };
        carried = λ a c i k. elim (in_append old (r ∷ []) a i) [
          | inl l ↦ elim (h.carried a c l k) [
            | inl x ↦ inl (x.0, append_old new results x.0 x.1, x.2)
            | inr x ↦ inr (e.still_over c x)
          ]
          | inr l ↦ elim l [
            | inl p ↦ elim (e.some c (subst (λ u. Carries has u c) p k)) [
              | inl x ↦ inl
                  (x.0, append_new new results x.0 x.1, x.2)
              | inr x ↦ inr x
            ]
            | inr q ↦ absurd q
          ]
        ];
        ran = λ a b c i l k t. elim (in_append old (r ∷ []) a i) [
          | inl u ↦ elim (in_append new results b l) [
            | inl v ↦ let x = h.ran a b c u v k t in let y =
                view-moved law j ends s bound c b out next (sym (same_out c (apart a c u k))) in (
                  subst (λ z. Turns sim has ends s bound c (view sim has ends c a []) z) y x.0,
                  subst (IsSettled sim.time bound) y x.1,
                )
            | inr v ↦ absurd (apart a c u k (e.within b c v t))
          ]
          | inr u ↦ elim u [
            | inl p ↦ elim (in_append new results b l) [
              | inl v ↦ absurd (in_old b c v t (subst (λ u. Carries has u c) p k))
              | inr v ↦ let x = e.ran b c v t in (
                subst (λ z. Turns sim has ends s bound c z (view sim has ends c b next))
                    (begins c (e.within b c v t) ∙ ap (λ z. view sim has ends c z []) (sym p)) x.0,
                x.1,
              )
            ]
            | inr q ↦ absurd q
          ]
        ];
        length_max = λ b i. elim (in_append new results b i) [ inl l ↦ h.length_max b l | inr l ↦ e.length_max b l ];
        too_long = λ c g. elim (e.too_long c g) [
          | inl x ↦ elim (h.too_long c x) [
            | inl y ↦ inl y
            | inr y ↦ inr (y.0, append_old old (r ∷ []) y.0 y.1, y.2, y.3)
          ]
          | inr x ↦ inr (
            r,
            append_new old (r ∷ []) r (inl refl),
            x.0,
            λ d t. x.1 d (subst (λ z. Turns sim has ends s bound c z d) (sym (begins c x.0)) t),
          )
        ];
        idle = λ c f. same_out c (f r (append_new old (r ∷ []) r (inl refl)))
            ∙ h.idle c (λ a i. f a (append_old old (r ∷ []) a i));
      }

  -- the end of a clone's turns is the result of its window alone, before its end
  pub ends_alone : (a : Copy S M N K) (c : ℕ) (d : Config (LocalStation S M N) M) → Good s a.state →
      SortedMarked sim.order a.pending → Turns sim has ends s bound c (view sim has ends c a []) d →
      IsSettled sim.time bound d → IsCutOf sim (ends c) (alone_from sim has ends s bound a c) d
  ends_alone a c d good sorted ran done =
      cut_of_local law (ends c) s bound a.log a.state (messages_taken sim has ends c a.pending) d good
      (sorted_part (takes sim has ends) sim.order c a.pending sorted)
      (taken_early sim has ends c a.pending) ran done

  -- if no clone is over the limit, each has the result of its window alone
  pub IsStepped-SoFar : (old new : List (Copy S M N K)) (out : List (M × K)) (over0 over : K) →
      AreReady K sim Good s old →
      ((c : ℕ) → has over c ≡ false) → SoFar sim has ends s bound old new out over0 over →
      IsStepped sim has ends s bound old new out
  IsStepped-SoFar old new out over0 over fine none h =
      let carried : (a : Copy S M N K) (c : ℕ) → In a old → Carries has a c → (b : Copy S M N K) × In b new
      × Carries has b c = λ a c i k. elim (h.carried a c i k) [
        | inl x ↦ x
        | inr x ↦ absurd (false≢true (sym (none c) ∙ x))
      ] in
      let is : (a b : Copy S M N K) (c : ℕ) → In a old → In b new → Carries has a c → Carries has b c
      → IsCutOf sim (ends c) (alone_from sim has ends s bound a c) (view sim has ends c b out) = λ a b c i l k t.
      let x = h.ran a b c i l k t in let y = fine a i in ends_alone a c (view sim has ends c b out) y.0 y.1 x.0 x.1 in
      record {
        split = h.split;
        carried = carried;
        log = λ a b c i l k t. (is a b c i l k t).log;
        state = λ a b c i l k t. (is a b c i l k t).state;
        pending = λ a b c i l k t. (is a b c i l k t).pending;
        sent = λ a c i k. let x = carried a c i k in (is a x.0 c i x.1 k x.2).aside;
      }

  -- those over the limit are the clones whose logs are too long
  pub are_over : (old new : List (Copy S M N K)) (out : List (M × K)) (over0 over : K) →
      AreReady K sim Good s old →
      ((c : ℕ) → has over0 c ≡ false) → SoFar sim has ends s bound old new out over0 over →
      AreOver sim has ends s bound old over
  are_over old new out over0 over fine none h = record {
    from = λ c g. elim (h.too_long c g) [
      | inl x ↦ absurd (false≢true (sym (none c) ∙ x))
      | inr x ↦
          let y = fine x.0 x.1 in
          let d = turns-settle law j ends s bound x.0 [] c y.0 y.1 in
          let e = ends_alone x.0 c d.0 y.0 y.1 d.1 d.2 in
          (x.0, x.1, x.2, subst (λ l. sim.limit < length l) e.log (x.3 d.0 d.1 d.2))
    ];
    all = λ a c i k long. elim (h.carried a c i k) [
      | inl x ↦
          let y = fine a i in
          let r = h.ran a x.0 c i x.1 k x.2 in
          let e = ends_alone a c (view sim has ends c x.0 out) y.0 y.1 r.0 r.1 in
          let b : length x.0.log ≤ sim.limit = h.length_max x.0 x.1 in
          let same : length x.0.log ≡ length (alone_from sim has ends s bound a c).at.log = ap (λ l. length l) e.log in
          absurd (omega (arith, b, long, same))
      | inr x ↦ x
    ];
  }
