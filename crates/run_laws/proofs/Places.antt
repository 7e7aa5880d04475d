-- The clones at their places, after a change of one and after a new one.
use Rattle.std.proofs.Common.{◌≡◌, ℕ, zero, suc, ◌<◌, List, [], ◌∷◌, ◌++◌}
use Rattle.std.proofs.Common.{inl, inr, refl, sym, ap, subst, arith, length, slice_set, unwrap_or}
use Rattle.std.proofs.lemmas.Bool.{cases_eq}
use Rattle.sim_base.specs.Clones.{Clone, clone_at, nobody}
use Rattle.run_laws.specs.Queue.{In}
use Rattle.run_laws.proofs.Lists.{slice_get-set_same, slice_get-set_other}

-- ---- clone_at of slice_set

-- the changed clone is at its place
clone_set_same : (cs : List Clone) (who : ℕ) (k : Clone) → who < length cs → clone_at (slice_set cs who k) who ≡ k
clone_set_same cs who k l = ap (λ o. unwrap_or o nobody) (slice_get-set_same cs who k l)

-- and each other clone at its own
clone_set_other : (cs : List Clone) (who c : ℕ) (k : Clone) → (c ≡ who → ⊥) →
    clone_at (slice_set cs who k) c ≡ clone_at cs c
clone_set_other cs who c k n = ap (λ o. unwrap_or o nobody) (slice_get-set_other cs c who k n)

-- a property of the changed clone, and of the unchanged others, holds of each
pub set_cases : (P : ℕ → Clone → Type 0) (cs : List Clone) (who : ℕ) (k : Clone) → who < length cs → P who k →
    ((c : ℕ) → (c ≡ who → ⊥) → P c (clone_at cs c)) → (c : ℕ) → P c (clone_at (slice_set cs who k) c)
set_cases P cs who k l a b c = elim (cases_eq c who) [
  | inl e ↦ subst (λ t. P t (clone_at (slice_set cs who k) t)) (sym e)
      (subst (P who) (sym (clone_set_same cs who k l)) a)
  | inr n ↦ subst (P c) (sym (clone_set_other cs who c k n)) (b c n)
]

-- ---- clone_at of ++

-- the new clone has the place after the others
pub clone_push_same : (cs : List Clone) (k : Clone) → clone_at (cs ++ k ∷ []) (length cs) ≡ k
clone_push_same [] k = refl
clone_push_same (x ∷ xs) k = clone_push_same xs k

-- and each other clone stays at its own
pub clone_push_other : (cs : List Clone) (k : Clone) (c : ℕ) → (c ≡ length cs → ⊥) →
    clone_at (cs ++ k ∷ []) c ≡ clone_at cs c
clone_push_other [] k zero n = absurd (n refl)
clone_push_other [] k (suc c) n = refl
clone_push_other (x ∷ xs) k zero n = refl
clone_push_other (x ∷ xs) k (suc c) n = clone_push_other xs k c (λ e. n (ap suc e))

-- ---- In

-- one of the clones has a place
pub place_in : (cs : List Clone) (k : Clone) → In k cs → (c : ℕ) × (c < length cs) × (clone_at cs c ≡ k)
place_in [] k i = absurd i
place_in (x ∷ xs) k (inl e) = (0, omega arith, sym e)
place_in (x ∷ xs) k (inr i) = let h = place_in xs k i in let l = h.1 in (suc h.0, omega arith, h.2)
