-- The states that a machine reaches by its turns: there is one path, and its end is determined.
use Rattle.std.proofs.Common.{◌≡◌, ℕ, ◌≤◌, ◌<◌, List, ◌∷◌, ◌⊎◌, inl, inr, refl, sym, ap, ◌∙◌, subst, arith}
use Rattle.std.specs.declared.cmp.Ordering.{Ordering}
use Rattle.std.specs.List.{AllByRecursion}
use Rattle.run_laws.specs.Machine.{Config, config_after, Next, Reach, stay, go, IsSettled}

-- ---- Next, Reach

module _ {X M : Type 0} {cmp : M → M → Ordering} {time : M → ℕ} {handle : X → M → X × List M} {bound : ℕ} where
  -- a machine has one turn at most
  next_unique : {d e f : Config X M} → Next cmp time handle bound d e → Next cmp time handle bound d f → e ≡ f
  next_unique {d} n k =
      let p : n.m ∷ n.q ≡ k.m ∷ k.q = sym n.pending ∙ k.pending in
      let a : n.m ≡ k.m = cc in
      let b : n.q ≡ k.q = cc in
      n.is ∙ ap (λ m. config_after cmp handle d.at m n.q) a ∙ ap (λ q. config_after cmp handle d.at k.m q) b ∙ sym k.is

  -- turns after turns are turns
  pub reach_trans : {c d e : Config X M} → Reach cmp time handle bound c d → Reach cmp time handle bound d e →
      Reach cmp time handle bound c e
  reach_trans r stay = r
  reach_trans r (go s n) = go (reach_trans r s) n

  -- turns are none, or begin with the one that there is
  pub reach_first : {c d e : Config X M} → Reach cmp time handle bound c d → Next cmp time handle bound c e →
      (d ≡ c) ⊎ Reach cmp time handle bound e d
  reach_first stay k = inl refl
  reach_first {c} {d} {e} (go {d = before} r n) k = elim (reach_first r k) [
    | inl p ↦ inr (subst (λ x. Reach cmp time handle bound e x)
        (next_unique k (subst (λ x. Next cmp time handle bound x d) p n)) stay)
    | inr s ↦ inr (go s n)
  ]

  -- of two that are reached, one is reached from the other
  reach_line : {c d e : Config X M} → Reach cmp time handle bound c d → Reach cmp time handle bound c e →
      Reach cmp time handle bound d e ⊎ Reach cmp time handle bound e d
  reach_line r stay = inr r
  reach_line {c} {d} {e} r (go {d = before} s n) = elim (reach_line r s) [
    | inl t ↦ inl (go t n)
    | inr t ↦ elim (reach_first t n) [
      | inl p ↦ inl (go stay (subst (λ x. Next cmp time handle bound x e) (sym p) n))
      | inr u ↦ inr u
    ]
  ]

  -- ---- IsSettled

  -- with nothing left before the bound there is no next message
  pub is_settled-no_next : (c e : Config X M) → IsSettled time bound c → Next cmp time handle bound c e → ⊥
  is_settled-no_next c e d n = let h = subst (AllByRecursion (λ m. bound ≤ time m)) n.pending d in
      let a : bound ≤ time n.m = h.0 in let b = n.time_max in omega arith

  -- with nothing left before the bound there is no turn
  pub is_settled-stays : {c d : Config X M} → IsSettled time bound c → Reach cmp time handle bound c d → d ≡ c
  is_settled-stays f stay = refl
  is_settled-stays {c}
      {d} f (go {d = before} r n) = absurd
      (is_settled-no_next c d f (subst (λ x. Next cmp time handle bound x d) (is_settled-stays f r) n))

  -- two that are reached and have nothing left are one
  pub ends_same : {c d e : Config X M} → Reach cmp time handle bound c d → IsSettled time bound d →
      Reach cmp time handle bound c e → IsSettled time bound e → d ≡ e
  ends_same r f s g = elim (reach_line r s) [ inl t ↦ sym (is_settled-stays f t) | inr t ↦ is_settled-stays g t ]

  -- ---- Reach, and the invariants of each turn

  -- a property that holds at the start and that each turn keeps holds at the end
  pub reach_keeps : {c d : Config X M} (P : Config X M → Type 0) → P c →
      ((x : X) (m : M) (q : List M) → time m < bound → P (record { at = x; pending = m ∷ q })
      → P (config_after cmp handle x m q)) →
      Reach cmp time handle bound c d → P d
  reach_keeps P a f stay = a
  reach_keeps {c} {d} P a f (go {d = e} r n) = subst P (sym n.is)
      (f e.at n.m n.q n.time_max (subst (λ q. P (record { at = e.at; pending = q })) n.pending (reach_keeps P a f r)))
