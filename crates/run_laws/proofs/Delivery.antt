-- Messages are given to copies one after another; then the stations' sends have reached them.
use Rattle.std.proofs.Common.{◌≡◌, ℕ, List, [], ◌∷◌, ◌++◌, ◌⊎◌, inl, inr, Bool, true, cond, refl, sym, ap, ◌∙◌, subst}
use Rattle.std.specs.List.{AllByRecursion, AllZip}
use Rattle.std.proofs.lemmas.Bool.{cases_Bool}
use Rattle.sim_base.specs.Clones.{Clone}
use Rattle.run_laws.specs.Queue.{insert, In}
use Rattle.run_laws.specs.Simulation.{Simulation}
use Rattle.run_laws.specs.Handlers.{IsOrder}
use Rattle.sim_base.specs.Marked.{SortedMarked}
use Rattle.run_laws.specs.Copies.{part, Copy, Carries, Disjoint, takes}
use Rattle.run_laws.specs.Copies.{messages_taken, IsGiven, SoFarGiven, ends_of, IsDelivered}
use Rattle.run_laws.proofs.Queue.{all_in, in_insert, insert_old, insert_new}
use Rattle.sim_base.proofs.Elements.{in_cons_if, cons_if_new}
use Rattle.run_laws.proofs.Lists.{in_append, append_old, append_new}
use Rattle.run_laws.proofs.Parts.{part-append}

-- ---- part

module _ {M K : Type 0} (takes : M → K → ℕ → Bool) where
  -- the messages that a clone takes of a list with one more message
  in_part_push : (c : ℕ) (xs : List (M × K)) (x : M × K) (z : M) → In z (part takes c (xs ++ x ∷ [])) →
      In z (part takes c xs) ⊎ ((takes x.0 x.1 c ≡ true) × (z ≡ x.0))
  in_part_push c xs x z i = elim (in_append (part takes c xs) (part takes c (x ∷ [])) z
      (subst (In z) (part-append takes c xs (x ∷ [])) i)) [
        | inl a ↦ inl a
        | inr a ↦ elim (in_cons_if (takes x.0 x.1 c) x.0 [] z a) [ inl b ↦ inr b | inr b ↦ absurd b ]
      ]

  -- it takes the messages that it took
  part_push_old : (c : ℕ) (xs : List (M × K)) (x : M × K) (z : M) → In z (part takes c xs) →
      In z (part takes c (xs ++ x ∷ []))
  part_push_old c xs x z i = subst (In z) (sym (part-append takes c xs (x ∷ [])))
      (append_old (part takes c xs) (part takes c (x ∷ [])) z i)

  -- and the new message, if it takes that
  part_push_new : (c : ℕ) (xs : List (M × K)) (x : M × K) (z : M) → takes x.0 x.1 c ≡ true → z ≡ x.0 →
      In z (part takes c (xs ++ x ∷ []))
  part_push_new c xs x z t e = subst (In z) (sym (part-append takes c xs (x ∷ [])))
      (append_new (part takes c xs) (part takes c (x ∷ [])) z (cons_if_new (takes x.0 x.1 c) x.0 [] z t e))

-- ---- SoFarGiven

module _ {S M N K : Type 0} (sim : Simulation S M N) (has : K → ℕ → Bool) (ends : ℕ → ℕ) where
  -- with no message the copies stay
  pub given_none : (new : List (Copy S M N K)) → Disjoint has new →
      ((a : Copy S M N K) → In a new → SortedMarked sim.order a.pending) → SoFarGiven sim has ends [] new new
  given_none new d s = record {
    from = λ b i. (
      b,
      i,
      record { set = refl; log = refl; state = refl },
      λ c z h l. inl l,
      λ c z h l. elim l [ inl k ↦ k | inr k ↦ absurd k ],
    );
    clones = record { each = λ a i. (a, i, refl); disjoint = d; sorted = s };
  }

-- ---- AllZip

-- of two lists that match place by place, each element has its match
pub zip_from : {X Y : Type 0} (R : X → Y → Type 0) (xs : List X) (ys : List Y) (y : Y) → AllZip R xs ys → In y ys →
    (x : X) × In x xs × R x y
zip_from R [] [] y h i = absurd i
zip_from R [] (v ∷ ys) y h i = absurd h
zip_from R (u ∷ xs) [] y h i = absurd h
zip_from R (u ∷ xs) (v ∷ ys) y h (inl e) = (u, inl refl, subst (R u) (sym e) h.0)
zip_from R (u ∷ xs) (v ∷ ys) y h (inr i) = let r = zip_from R xs ys y h.1 i in (r.0, inr r.1, r.2)

-- and each of the first list in the second
pub zip_each : {X Y : Type 0} (R : X → Y → Type 0) (xs : List X) (ys : List Y) (x : X) → AllZip R xs ys → In x xs →
    (y : Y) × In y ys × R x y
zip_each R [] [] x h i = absurd i
zip_each R [] (v ∷ ys) x h i = absurd h
zip_each R (u ∷ xs) [] x h i = absurd h
zip_each R (u ∷ xs) (v ∷ ys) x h (inl e) = (v, inl refl, subst (λ t. R t v) (sym e) h.0)
zip_each R (u ∷ xs) (v ∷ ys) x h (inr i) = let r = zip_each R xs ys x h.1 i in (r.0, inr r.1, r.2)

-- ---- Disjoint

module _ {S M N K : Type 0} (has : K → ℕ → Bool) where
  -- of disjoint copies one alone carries a clone
  pub one_of : (xs : List (Copy S M N K)) (a b : Copy S M N K) (c : ℕ) → Disjoint has xs → In a xs → In b xs →
      Carries has a c → Carries has b c → a ≡ b
  one_of [] a b c d i l h k = absurd i
  one_of (x ∷ xs) a b c d (inl e) (inl f) h k = e ∙ sym f
  one_of (x ∷ xs) a b c d (inl e) (inr l) h k =
      absurd (all_in (λ b. (c : ℕ) → Carries has x c → Carries has b c → ⊥) xs b d.0 l c
      (subst (λ t. Carries has t c) e h) k)
  one_of (x ∷ xs) a b c d (inr i) (inl f) h k =
      absurd (all_in (λ b. (c : ℕ) → Carries has x c → Carries has b c → ⊥) xs a d.0 i c
      (subst (λ t. Carries has t c) f k) h)
  one_of (x ∷ xs) a b c d (inr i) (inr l) h k = one_of xs a b c d.1 i l h k

  -- copies that match disjoint ones, and carry a clone only if these carry its origin, are disjoint
  pub disjoint_zip : (R : Copy S M N K → Copy S M N K → Type 0) (origin : ℕ → ℕ) →
      ((a b : Copy S M N K) (c : ℕ) → R a b → Carries has b c → Carries has a (origin c)) →
      (xs ys : List (Copy S M N K)) → AllZip R xs ys → Disjoint has xs → Disjoint has ys
  disjoint_zip R origin back [] [] h d = tt
  disjoint_zip R origin back [] (v ∷ ys) h d = absurd h
  disjoint_zip R origin back (u ∷ xs) [] h d = absurd h
  disjoint_zip R origin back (u ∷ xs) (v ∷ ys) h d = (
    apart ys (λ b i. zip_from R xs ys b h.1 i),
    disjoint_zip R origin back xs ys h.1 d.1,
  )
    where
      -- the first copy carries no clone that one of the others carries
      apart : (zs : List (Copy S M N K)) →
          ((b : Copy S M N K) → In b zs → (x : Copy S M N K) × In x xs × R x b) →
          AllByRecursion (λ b. (c : ℕ) → Carries has v c → Carries has b c → ⊥) zs
      apart [] f = tt
      apart (b ∷ zs) f = (
        (λ c i l. let x = f b (inl refl) in
            all_in (λ b. (c : ℕ) → Carries has u c → Carries has b c → ⊥) xs x.0 d.0 x.1 (origin c)
            (back u v c h.0 i) (back x.0 b c x.2 l)),
        apart zs (λ b i. f b (inr i)),
      )

module _ {S M N K : Type 0} (sim : Simulation S M N) (has : K → ℕ → Bool) (ends : ℕ → ℕ) where
  -- copies that are given a message stay apart
  pub disjoint_given : (m : M) (k : K) (xs ys : List (Copy S M N K)) → AllZip (IsGiven sim has ends m k) xs ys →
      Disjoint has xs → Disjoint has ys
  disjoint_given m k xs ys = disjoint_zip has (IsGiven sim has ends m k) (λ c. c)
      (λ a b c g i. subst (λ t. has t c ≡ true) g.same.set i) xs ys

  -- ---- SoFarGiven, message by message

  -- one message more
  pub given_more : IsOrder sim.order → (msgs : List (M × K)) (new done next : List (Copy S M N K)) (m : M) (k : K) →
      SoFarGiven sim has ends msgs new done → AllZip (IsGiven sim has ends m k) done next →
      SoFarGiven sim has ends (msgs ++ (m, k) ∷ []) new next
  given_more o msgs new done next m k h zip = record {
    from = λ b i.
        let y = zip_from (IsGiven sim has ends m k) done next b zip i in
        let x = h.from y.0 y.1 in
        let q : ℕ → List M = λ c. messages_taken sim has ends c y.0.pending in
        let given : Bool → ℕ → List M = λ t c. cond t (insert sim.order m (messages_taken sim has ends c y.0.pending))
        (messages_taken sim has ends c y.0.pending) in (
          x.0,
          x.1,
          record {
            set = y.2.same.set ∙ x.2.set;
            log = y.2.same.log ∙ x.2.log;
            state = y.2.same.state ∙ x.2.state;
          },
          λ c z g l.
              let p = y.2.parts c (subst (λ t. has t c ≡ true) (sym x.2.set) g) in
              let was : In z (messages_taken sim has ends c y.0.pending)
              → In z (messages_taken sim has ends c x.0.pending)
              ⊎ In z (messages_taken sim has ends c (msgs ++ (m, k) ∷ [])) = λ u. elim (x.3 c z g u) [
                | inl v ↦ inl v
                | inr v ↦ inr (part_push_old (takes sim has ends) c msgs (m, k) z v)
              ] in
              elim (cases_Bool (takes sim has ends m k c)) [
                | inl e ↦ elim (in_insert o m (q c) z (subst (In z) (p ∙ ap (λ b. given b c) e) l)) [
                  | inl d ↦ inr (part_push_new (takes sim has ends) c msgs (m, k) z e d)
                  | inr u ↦ was u
                ]
                | inr e ↦ was (subst (In z) (p ∙ ap (λ b. given b c) e) l)
              ],
          λ c z g l.
              let p = y.2.parts c (subst (λ t. has t c ≡ true) (sym x.2.set) g) in
              let was : In z (messages_taken sim has ends c y.0.pending)
              → In z (messages_taken sim has ends c b.pending) =
              λ u. subst (In z) (sym p) (elim (cases_Bool (takes sim has ends m k c)) [
                | inl e ↦ subst (λ b. In z (given b c)) (sym e) (insert_old o m (q c) z u)
                | inr e ↦ subst (λ b. In z (given b c)) (sym e) u
              ]) in
              elim l [
                | inl u ↦ was (x.4 c z g (inl u))
                | inr u ↦ elim (in_part_push (takes sim has ends) c msgs (m, k) z u) [
                  | inl v ↦ was (x.4 c z g (inr v))
                  | inr v ↦ subst (In z) (sym p)
                      (subst (λ b. In z (given b c)) (sym v.0)
                      (subst (λ t. In t (insert sim.order m (q c))) (sym v.1) (insert_new o m (q c))))
                ]
              ],
        );
    clones = record {
      each = λ a i. let b = h.clones.each a i in let d = zip_each (IsGiven sim has ends m k) done next b.0 zip b.1 in
          (d.0, d.1, d.2.same.set ∙ b.2);
      disjoint = disjoint_given m k done next zip h.clones.disjoint;
      sorted = λ a i. (zip_from (IsGiven sim has ends m k) done next a zip i).2.sorted;
    };
  }

-- ---- IsDelivered

-- all is delivered if the messages are, for each clone, those that the stations sent to s
pub IsDelivered-SoFarGiven : {S M N K : Type 0} (sim : Simulation S M N) (has : K → ℕ → Bool) (cs : List Clone) (s : ℕ)
    (sent : ℕ → List (M × K)) (msgs : List (M × K)) (new done : List (Copy S M N K)) →
    ((c : ℕ) (z : M) → In z (messages_taken sim has (ends_of sim cs) c msgs)
    → (r : ℕ) × In z (messages_taken sim has (ends_of sim cs) c (sent r)) × (sim.to z ≡ s)) →
    ((c r : ℕ) (z : M) → In z (messages_taken sim has (ends_of sim cs) c (sent r)) → sim.to z ≡ s
    → In z (messages_taken sim has (ends_of sim cs) c msgs)) →
    SoFarGiven sim has (ends_of sim cs) msgs new done → IsDelivered sim has cs s sent new done
IsDelivered-SoFarGiven sim has cs s sent msgs new done f g h = record {
  from = λ b i. let x = h.from b i in (
    x.0,
    x.1,
    record {
      same = x.2;
      from = λ c z k l. elim (x.3 c z k l) [ inl u ↦ inl u | inr u ↦ inr (f c z u) ];
      still = λ c z k l. x.4 c z k (inl l);
      got = λ c r z k l t. x.4 c z k (inr (g c r z l t));
    },
  );
  one = λ a b i l c k t. one_of has done a b c h.clones.disjoint i l k t;
  clones = h.clones;
}
