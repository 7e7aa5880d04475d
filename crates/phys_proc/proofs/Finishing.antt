-- The end of a copy that has stopped.
use Rattle.std.proofs.Common.{◌≡◌, ℕ, ◌+◌, ◌<◌, ◌≤◌, ◌&&◌, true, List, [], ◌∷◌, ◌++◌, refl, sym, ap, ◌∙◌, subst, arith}
use Rattle.std.proofs.Common.{not}
use Rattle.std.proofs.lemmas.Bool.{false≢true, and_parts}
use Rattle.sim_base.specs.declared.message.Msg.{Msg}
use Rattle.clone_sets.specs.Sets.{has, minus, union, size}
use Rattle.clone_sets.specs.declared.set.CloneSet.{CloneSet}
use Rattle.clone_sets.proofs.SetLaws.{has-empty, has-minus}
use Rattle.copy_pending.specs.Merged.{IsPart}
use Rattle.net_model.specs.Net.{Net}
use Rattle.run_laws.proofs.Parts.{all_part_of}
use Rattle.phys_proc.specs.Own.{StationCopy, MarkedMessages, IsCopy, IsAdvance, ComesFrom, NextDue, NothingDue, half}
use Rattle.phys_proc.specs.Own.{IsLowerBound, may_handle, takes_at}
use Rattle.phys_proc.specs.Stops.{IsFull, IsParting}
use Rattle.phys_proc.proofs.Halves.{same_none}
use Rattle.phys_proc.proofs.ComesFrom.{comes_from-start, advance-done, advance-over, advance-split, advance-from}
use Rattle.phys_proc.proofs.ComesFrom.{first_half, second_half, first_smaller, second_smaller, parts_few}

-- ---- the halves of a copy

-- the others of a copy are some of its clones, if there are any
pub others_part : (set takers c : CloneSet) → has (minus set takers) c ≡ true → IsPart (minus set takers) set
others_part set takers c one = record {
  some = λ e. false≢true (sym (has-empty c) ∙ ap (λ s. has s c) (sym e) ∙ one);
  within = λ d h. (and_parts (has set d) (not (has takers d)) (sym (has-minus set takers d) ∙ h)).0;
}

-- ---- NothingDue and NextDue, about the present copy

module _ (ends : ℕ → ℕ) (bound : ℕ) (a b : StationCopy) where
  -- if nothing of b is due, as the rest of a, nothing of b alone is due
  pub settled_here : NothingDue ends bound a b → NothingDue ends bound b b
  settled_here d = record {
    same = same_none ends b;
    settled = λ c i. d.settled c (subst (λ k. has k c ≡ true) d.same.copy.set i);
  }

  -- if nothing of b is pending before the bound, nothing of b is due
  pub idle_here : IsLowerBound bound b → NothingDue ends bound b b
  idle_here late = record {
    same = same_none ends b;
    settled = λ c i. all_part_of (takes_at ends) c (λ (m : Msg). bound ≤ m.key.time) b.pending late;
  }

  -- the next due message of b, as the rest of a, is that of b alone
  pub due_here : (m : Msg) (takers : CloneSet) → NextDue ends bound a b m takers → NextDue ends bound b b m takers
  due_here m takers d = record {
    same = same_none ends b;
    marks = d.marks;
    rest = d.rest;
    pending = d.pending;
    time_max = d.time_max;
    take = λ c. d.take c ∙ ap (λ k. has k c && takes_at ends m d.marks c) (sym d.same.copy.set);
    nonempty = d.nonempty;
  }

-- ---- IsAdvance

module _ (net : Net) (s : ℕ) (ends : ℕ → ℕ) (bound : ℕ) (copy : StationCopy) (sent : MarkedMessages) (steps : ℕ)
    (fits : IsCopy net s copy) where
  -- the copy has come as far as itself
  abbrev comes_from-copy : ComesFrom net s ends bound copy copy sent sent steps steps
  comes_from-copy = comes_from-start net s ends bound copy sent steps fits

  -- a copy with nothing due is finished unchanged
  pub advance-settled : (done new : List StationCopy) (over : CloneSet) → NothingDue ends bound copy copy
      → new ≡ done ++ copy ∷ [] → IsAdvance net s ends bound copy done new sent sent over over steps steps
  advance-settled done new over d e = advance-done net s ends bound copy copy copy sent sent steps steps
      comes_from-copy d done done new over over refl refl e

  -- of a copy that is full nothing comes, and all its clones go over the limit
  pub advance-full : (done : List StationCopy) (over new : CloneSet) → IsFull net.limit ends bound copy
      → new ≡ union over copy.set → IsAdvance net s ends bound copy done done sent sent over new steps steps
  advance-full done over new x e = advance-over net s ends bound copy copy copy sent sent steps steps
      comes_from-copy x.msg x.takers x.due done done over over new refl refl x.all x.full e

  module _ (takers : CloneSet) (x : IsParting ends bound copy takers) where
    -- the half for those that take the message is a copy of the station
    pub some_fits : (a : StationCopy) → a ≡ half copy takers → IsCopy net s a
    some_fits a e = subst (IsCopy net s) (sym e)
        (first_half net s ends bound copy copy copy sent sent steps steps comes_from-copy x.msg takers x.due)

    -- and so is the half for the others
    pub others_fit : (a : StationCopy) → a ≡ half copy (minus copy.set takers) → IsCopy net s a
    others_fit a e = subst (IsCopy net s) (sym e)
        (second_half net s ends bound copy copy copy sent sent steps steps comes_from-copy x.msg takers x.due x.differ)

    -- the half for those that take the message has fewer clones than the copy
    pub some_smaller : (a b : StationCopy) → a ≡ half copy takers → b.set ≡ a.set → size b.set < size copy.set
    some_smaller a b e f =
        let h = first_smaller net s ends bound copy copy copy sent sent steps steps comes_from-copy x.msg takers x.due
        x.differ in
        let k = ap (λ (u : StationCopy). size u.set) e in
        let l = ap size f in
        omega (arith, h, k, l)

    -- and so has the half for the others
    pub others_smaller : (a b : StationCopy) → a ≡ half copy (minus copy.set takers) → b.set ≡ a.set
        → size b.set < size copy.set
    others_smaller a b e f =
        let h = second_smaller net s ends bound copy copy copy sent sent steps steps comes_from-copy x.msg takers
        x.due in
        let k = ap (λ (u : StationCopy). size u.set) e in
        let l = ap size f in
        omega (arith, h, k, l)

    -- and both together may handle as much as the copy
    pub both_few : (a b : StationCopy) → a ≡ half copy takers → b ≡ half copy (minus copy.set takers)
        → may_handle net.limit a + may_handle net.limit b ≡ may_handle net.limit copy
    both_few a b e f =
        let h = parts_few net s ends bound copy copy copy sent sent steps steps comes_from-copy x.msg takers x.due in
        let k = ap (may_handle net.limit) e in
        let l = ap (may_handle net.limit) f in
        omega (arith, h, k, l)

    -- the ends of both halves are together an end of the copy
    pub advance-parts : (a a1 b b1 : StationCopy) (done done1 done2 done3 done4 : List StationCopy)
        (sent1 sent2 sent3 sent4 : MarkedMessages) (over over1 over2 over3 over4 : CloneSet)
        (steps1 steps2 steps3 steps4 : ℕ)
        → a ≡ half copy takers → b ≡ half copy (minus copy.set takers)
        → ComesFrom net s ends bound a a1 sent sent1 steps steps1 → done1 ≡ done → over1 ≡ over
        → IsAdvance net s ends bound a1 done1 done2 sent1 sent2 over1 over2 steps1 steps2
        → ComesFrom net s ends bound b b1 sent2 sent3 steps2 steps3 → done3 ≡ done2 → over3 ≡ over2
        → IsAdvance net s ends bound b1 done3 done4 sent3 sent4 over3 over4 steps3 steps4
        → IsAdvance net s ends bound copy done done4 sent sent4 over over4 steps steps4
    advance-parts a a1 b b1 done done1 done2 done3 done4 sent1 sent2 sent3 sent4 over over1 over2 over3 over4 steps1
        steps2 steps3 steps4 is_a is_b on_a d1 o1 adv_a on_b d3 o3 adv_b =
        let a_here = advance-from net s ends bound a a1 sent sent1 steps steps1 on_a done done2 sent2 over over2 steps2
        (subst (λ k. IsAdvance net s ends bound a1 k done2 sent1 sent2 over over2 steps1 steps2) d1
        (subst (λ k. IsAdvance net s ends bound a1 done1 done2 sent1 sent2 k over2 steps1 steps2) o1 adv_a)) in
        let b_here = advance-from net s ends bound b b1 sent2 sent3 steps2 steps3 on_b done2 done4 sent4 over2 over4
        steps4
        (subst (λ k. IsAdvance net s ends bound b1 k done4 sent3 sent4 over2 over4 steps3 steps4) d3
        (subst (λ k. IsAdvance net s ends bound b1 done3 done4 sent3 sent4 k over4 steps3 steps4) o3 adv_b)) in
        advance-split net s ends bound copy copy copy sent sent steps steps comes_from-copy x.msg takers x.due
        done done done2 done4 sent2 sent4 over over over2 over4 steps2 steps4 refl refl
        (subst (λ u. IsAdvance net s ends bound u done done2 sent sent2 over over2 steps steps2) is_a a_here)
        (subst (λ u. IsAdvance net s ends bound u done2 done4 sent2 sent4 over2 over4 steps2 steps4) is_b b_here)
