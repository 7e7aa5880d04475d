-- The source of a trigger: a clone of the script, or the branch of an earlier trigger, if it was made.
use Rattle.std.proofs.Common.{◌≡◌, ℕ, zero, suc, ◌<◌, List, [], ◌∷◌, inl, inr, true, false, Option, Some, None, refl}
use Rattle.std.proofs.Common.{sym, ap, ◌∙◌, arith, subst, cond, map, length, take, get_or}
use Rattle.std.specs.Prelude.{slice_get}
use Rattle.std.specs.Str.{bytes_eq}
use Rattle.std.proofs.lemmas.List.Quantifiers.{position-Some}
use Rattle.sim_base.specs.Clones.{Clone, clone_at, nobody, place_of}
use Rattle.run_laws.specs.Queue.{In}
use Rattle.run_laws.specs.Simulation.{Simulation}
use Rattle.watch_points.specs.Branches.{Branch, Trigger, initial_branch, with_branch, branch_by, branch_named, outcomes}
use Rattle.watch_points.specs.Branches.{branches_at, branch_from, due_time, HaveNewNames}
use Rattle.watch_points.specs.Keeping.{option_at}
use Rattle.watch_points.proofs.Branches.{old, new, in-with_branch, branch_if_due-made, branch_named-added}
use Rattle.watch_points.proofs.Branches.{branch_named-after, branch_named-none}
use Rattle.watch_points.proofs.BranchSteps.{branch_named-branches_at}

-- ---- branch_named

-- a clone of the script is found by its name
branch_named-place : (name : List ℕ) (ls : List Clone) (k : ℕ) → k < length ls →
    bytes_eq (get_or ls k nobody).name name ≡ true →
    ((j : ℕ) → j < k → bytes_eq (get_or ls j nobody).name name ≡ false) →
    branch_named name (map initial_branch ls) ≡ Some (initial_branch (clone_at ls k))
branch_named-place name [] k l t f = absurd (omega (arith, l))
branch_named-place name (c ∷ ls) zero l t f =
    ap (λ b. cond b (Some (initial_branch c)) (branch_named name (map initial_branch ls))) t
branch_named-place name (c ∷ ls) (suc k) l t f =
    ap (λ b. cond b (Some (initial_branch c)) (branch_named name (map initial_branch ls))) (f zero (omega arith))
    ∙ branch_named-place name ls k (omega (arith, l)) t (λ j b. f (suc j) (omega (arith, b)))

pub branch_named-script : (name : List ℕ) (ls : List Clone) (k : ℕ) → place_of name ls ≡ Some k →
    branch_named name (map initial_branch ls) ≡ Some (initial_branch (clone_at ls k))
branch_named-script name ls k e =
    let p = position-Some (λ (c : Clone). bytes_eq c.name name) ls k nobody e in
    branch_named-place name ls k p.0 p.1 p.2

module _ {S M N : Type 0} (sim : Simulation S M N) where
  -- a branch that is made has the trigger's new name
  pub branch_by-name : (front : ℕ) (bs : List Branch) (w : Trigger N) (y : Branch) →
      branch_by sim front bs w ≡ Some y → y.clone.name ≡ w.new
  branch_by-name front bs w y h = by (branch_named w.who bs) refl h
    where
      by : (o : Option Branch) → branch_named w.who bs ≡ o → branch_from sim front w o ≡ Some y → y.clone.name ≡ w.new
      by None e g = absurd (cc)
      by (Some b) e g =
          ap (λ (z : Branch). z.clone.name) (branch_if_due-made sim w b.clone (due_time sim front w b) y g).2

  -- and no end
  pub branch_by-no_end : (front : ℕ) (bs : List Branch) (w : Trigger N) (y : Branch) →
      branch_by sim front bs w ≡ Some y → y.clone.end ≡ None
  branch_by-no_end front bs w y h = by (branch_named w.who bs) refl h
    where
      by : (o : Option Branch) → branch_named w.who bs ≡ o → branch_from sim front w o ≡ Some y → y.clone.end ≡ None
      by None e g = absurd (cc)
      by (Some b) e g =
          ap (λ (z : Branch). z.clone.end) (branch_if_due-made sim w b.clone (due_time sim front w b) y g).2

  -- a name that finds no branch, and that is no trigger's new name, finds none after all triggers
  branch_named-still_none : (front : ℕ) (bs : List Branch) (ws : List (Trigger N)) (name : List ℕ) →
      branch_named name bs ≡ None →
      ((i : ℕ) (v : Trigger N) → slice_get ws i ≡ Some v → v.new ≡ name → ⊥) →
      branch_named name (branches_at sim front bs ws) ≡ None
  branch_named-still_none front bs [] name e f = e
  branch_named-still_none front bs (w ∷ ws) name e f =
      branch_named-still_none front (with_branch bs (branch_by sim front bs w)) ws name
      (by (branch_named name (with_branch bs (branch_by sim front bs w))) refl) (λ i v. f (suc i) v)
    where
      by : (o : Option Branch) → branch_named name (with_branch bs (branch_by sim front bs w)) ≡ o →
          branch_named name (with_branch bs (branch_by sim front bs w)) ≡ None
      by None g = g
      by (Some x) g = elim (branch_named-after name bs (branch_by sim front bs w) x g) [
        | old h ↦ (let no : ⊥ = cc in absurd no)
        | new h made is ↦ absurd (f zero w refl (sym (branch_by-name front bs w x made) ∙ is))
      ]

  -- the new name of an earlier trigger finds the branch of that trigger, if it made one
  pub branch_named-outcome : (front : ℕ) (names : List (List ℕ)) (bs : List Branch) (ws : List (Trigger N)) (i j : ℕ)
      (v : Trigger N) → ((x : Branch) → In x bs → In x.clone.name names) → HaveNewNames names ws → j < i →
      slice_get ws j ≡ Some v →
      branch_named v.new (branches_at sim front bs (take i ws)) ≡ option_at (outcomes sim front bs ws) j
  branch_named-outcome front names bs [] i j v h fresh l e = absurd (cc)
  branch_named-outcome front names bs (w ∷ ws) zero j v h fresh l e = absurd (omega (arith, l))
  branch_named-outcome front names bs (w ∷ ws) (suc i) zero v h fresh l e =
      let same : w ≡ v = cc in
      subst (λ (u : Trigger N). branch_named u.new (branches_at sim front (with_branch bs (branch_by sim front bs w))
      (take i ws)) ≡ branch_by sim front bs w) same (by (branch_by sim front bs w) refl)
    where
      -- no branch has the name before
      unnamed : branch_named w.new bs ≡ None
      unnamed = branch_named-none w.new bs (λ b k is. fresh.0 (subst (λ n. In n names) is (h b k)))

      -- it is no later trigger's new name
      later : (ws : List (Trigger N)) (names : List (List ℕ)) (i : ℕ) → HaveNewNames names ws → In w.new names → (k : ℕ)
          (u : Trigger N) → slice_get (take i ws) k ≡ Some u → u.new ≡ w.new → ⊥
      later [] names zero f there k u e s = absurd (cc)
      later [] names (suc i) f there k u e s = absurd (cc)
      later (x ∷ xs) names zero f there k u e s = absurd (cc)
      later (x ∷ xs) names (suc i) f there zero u e s =
          let is : x ≡ u = cc in
          f.0 (subst (λ n. In n names) (sym s ∙ ap (λ (z : Trigger N). z.new) (sym is)) there)
      later (x ∷ xs) names (suc i) f there (suc k) u e s = later xs (x.new ∷ names) i f.1 (inr there) k u e s

      by : (o : Option Branch) → branch_by sim front bs w ≡ o →
          branch_named w.new (branches_at sim front (with_branch bs (branch_by sim front bs w)) (take i ws))
          ≡ branch_by sim front bs w
      by None g = branch_named-still_none front (with_branch bs (branch_by sim front bs w)) (take i ws) w.new
          (subst (λ o. branch_named w.new (with_branch bs o) ≡ None) (sym g) unnamed)
          (λ k u q s. later ws (w.new ∷ names) i fresh.1 (inl refl) k u q s) ∙ sym g
      by (Some y) g = branch_named-branches_at sim front (with_branch bs (branch_by sim front bs w)) (take i ws) w.new y
          (subst (λ o. branch_named w.new (with_branch bs o) ≡ Some y) (sym g)
          (branch_named-added w.new bs y unnamed (branch_by-name front bs w y g))) ∙ sym g
  branch_named-outcome front names bs (w ∷ ws) (suc i) (suc j) v h fresh l e =
      branch_named-outcome front (w.new ∷ names) (with_branch bs (branch_by sim front bs w)) ws i j v
      (λ x k. elim (in-with_branch bs (branch_by sim front bs w) x k) [
        | inl m ↦ inr (h x m)
        | inr m ↦ inl (branch_by-name front bs w x m)
      ]) fresh.1 (omega (arith, l)) e
