-- The progress of a copy towards the bound.
use Rattle.std.proofs.Common.{◌≡◌, ◌≢◌, ℕ, ◌+◌, ◌*◌, ◌-◌, ◌<◌, ◌≤◌, ◌&&◌, not}
use Rattle.std.proofs.Common.{true, false, List, [], ◌∷◌, ◌++◌, ◌⊎◌, inl, inr, refl}
use Rattle.std.proofs.Common.{sym, ap, ◌∙◌, subst, arith, append_assoc, append-nil, length, length-append}
use Rattle.sim_base.proofs.ListLaws.{all_append}
use Rattle.std.proofs.lemmas.Bool.{cases_Bool, false≢true, and_parts, or_right, not-true}
use Rattle.sim_base.specs.declared.message.Msg.{Msg}
use Rattle.clone_sets.specs.Sets.{has, union, meet, minus, empty, size}
use Rattle.clone_sets.specs.declared.set.CloneSet.{CloneSet}
use Rattle.clone_sets.proofs.SetLaws.{has-union, has-meet, has-minus, has-empty, same_members}
use Rattle.clone_sets.proofs.SizeLaws.{meet_smaller, minus_smaller, size_some, size_parts}
use Rattle.clone_sets.proofs.CountLaws.{set_has_clone}
use Rattle.net_model.specs.Net.{Net, Site, site_of}
use Rattle.stations.specs.Fits.{IsOfKind}
use Rattle.stations.specs.Good.{IsGood}
use Rattle.stations.specs.Runs.{simulation}
use Rattle.stations.proofs.KindLaws.{good_kind}
use Rattle.stations.proofs.Lawful.{site_is}
use Rattle.stations.proofs.GoodLaws.{lawful-stations}
use Rattle.sim_base.specs.Marked.{JoinsMarks}
use Rattle.run_laws.specs.Copies.{ComesTo, sends_aside}
use Rattle.run_laws.proofs.ComesTo.{comes_to-settled, comes_to-over, comes_to-handle, comes_to-same, comes_to-split}
use Rattle.phys_proc.proofs.Counting.{not_empty, empty_within, few_more, few_apart, shared_more, shared_apart}
use Rattle.phys_proc.proofs.Counting.{alone-append}
use Rattle.std.proofs.Math.Bool.{and-false}
use Rattle.std.proofs.Math.Nat.{add-mul}
use Rattle.phys_proc.specs.Own.{StationCopy, MarkedMessages, handled_alone_by, may_handle, takes_at, IsCopy}
use Rattle.phys_proc.specs.Own.{IsSameToClones, NextDue, NothingDue, IsHandled, IsAdvance, ComesFrom, half}
use Rattle.phys_proc.proofs.Halves.{copy_same, narrowed_same, copy_half, narrowed_half}

-- ---- JoinsMarks, IsGood and IsHandled

-- the union of two sets has the clones of both
pub sets_join : JoinsMarks has union
sets_join = record { joined = λ a b c. has-union a b c }

-- a copy's state is good
pub good_state : (net : Net) (s : ℕ) (a : StationCopy) → IsCopy net s a → IsGood net s a.state
good_state net s a f =
    let is : site_of net s ≡ f.suits.site = ap (site_of net) (sym f.station)
    ∙ site_is net a.state.sender.station f.suits.site f.suits.is_there in
    record {
      station = f.station;
      kind = subst (λ (x : Site). IsOfKind x x.kind a.state.kind) (sym is) f.suits.kind;
      fits = good_kind a.state.handled a.state.kind f.fits.kind;
    }

-- a copy that has handled a message has one entry more
pub longer_log : (net : Net) (s : ℕ) (copy new : StationCopy) (before after : MarkedMessages) (m : Msg) (k : CloneSet)
    (q : MarkedMessages) → copy.pending ≡ (m, k) ∷ q → IsHandled net s copy new before after
    → length new.log ≡ length copy.log + 1
longer_log net s copy new before after m k q p h = ap (λ (u : StationCopy). length u.log) (h m k q p).0
    ∙ length-append copy.log _

-- ---- ComesFrom

module _ (net : Net) (s : ℕ) (ends : ℕ → ℕ) (bound : ℕ) where
  -- the end of a copy at the bound: the copies that it becomes, its sends, the clones that go over, and its gains
  abbrev pub Comes : StationCopy → List StationCopy → MarkedMessages → MarkedMessages → CloneSet → CloneSet → ℕ → Type 0
  Comes = ComesTo (simulation net) has ends s bound

  -- how far a copy of the station has come on its way to the bound
  abbrev pub From : StationCopy → StationCopy → MarkedMessages → MarkedMessages → ℕ → ℕ → Type 0
  From = ComesFrom net s ends bound

  -- at first a copy is at its start, and no step was taken
  pub comes_from-start : (first : StationCopy) (start : MarkedMessages) (steps : ℕ) → IsCopy net s first
      → From first first start start steps steps
  comes_from-start first start steps f =
      record {
        fits = f;
        set = refl;
        taken = 0;
        log = omega arith;
        counted = omega arith;
        next = λ results after over over_after n h. subst (Comes first results start after over over_after)
            (plus_none n) h;
      }
    where
      plus_none : (n : ℕ) → n ≡ n + 0
      plus_none n = omega arith

  -- messages were passed over
  abbrev pub comes_from-same : (first copy new : StationCopy) (start sent : MarkedMessages) (steps0 steps : ℕ)
      → From first copy start sent steps0 steps → IsSameToClones ends copy new → From first new start sent steps0 steps
  comes_from-same first copy new start sent steps0 steps o h = record {
    fits = copy_same ends net s copy new o.fits h;
    set = h.copy.set ∙ o.set;
    taken = o.taken;
    log = ap length h.copy.log ∙ o.log;
    counted = o.counted;
    next = λ results after over over_after n e. o.next results after over over_after n
        (comes_to-same (lawful-stations net o.fits.valid) sets_join ends s bound copy new results sent after over
        over_after n (narrowed_same ends net s copy new h) (λ c i. subst (λ k. has k c ≡ true) (sym h.copy.set) i)
        e);
  }

  module _ (first copy new : StationCopy) (start sent : MarkedMessages) (steps0 steps : ℕ)
      (o : From first copy start sent steps0 steps) (m : Msg) (takers : CloneSet)
      (d : NextDue ends bound copy new m takers) where
    -- without the messages that none of its clones takes, the copy has come as far
    abbrev pub comes_from-new : From first new start sent steps0 steps
    comes_from-new = comes_from-same first copy new start sent steps0 steps o d.same

    -- ---- takes_at

    -- a taker is a clone of the copy, and takes the message
    takes_of : (c : ℕ) → has takers c ≡ true → (has new.set c ≡ true) × (takes_at ends m d.marks c ≡ true)
    takes_of c i = let h = and_parts (has copy.set c) (takes_at ends m d.marks c) (sym (d.take c) ∙ i) in
        (subst (λ k. has k c ≡ true) (sym d.same.copy.set) h.0, h.1)

    -- and a clone that is no taker does not take it
    takes_not : (c : ℕ) → has new.set c ≡ true → has takers c ≡ false → takes_at ends m d.marks c ≡ false
    takes_not c i none = ap (λ b. b && takes_at ends m d.marks c) (sym (ap (λ k. has k c) (sym d.same.copy.set) ∙ i))
        ∙ sym (d.take c) ∙ none

    -- if the takers are all its clones, each takes it
    all_take : takers ≡ new.set → (c : ℕ) → has new.set c ≡ true → takes_at ends m d.marks c ≡ true
    all_take e c i = (takes_of c (ap (λ k. has k c) e ∙ i)).1

    -- ---- ComesTo

    -- if all take it and the log is full, the first copy has no results, and its clones go over the limit
    comes-over : takers ≡ new.set → net.limit ≤ length new.log → (over : CloneSet)
        → Comes first [] start sent over (union over new.set) (0 + o.taken)
    comes-over e full over = comes_from-new.next [] sent over (union over new.set) 0
        (comes_to-over (lawful-stations net o.fits.valid) sets_join ends s bound new m d.marks d.rest sent over
        (let h = comes_from-new.fits.length_max in omega arith) d.pending (all_take e) d.time_max)

    -- if all take it and the log is not full, the copy that handles it has advanced by one step
    pub comes_from-handle : (next : StationCopy) (after : MarkedMessages) (steps1 : ℕ) → takers ≡ new.set
        → length new.log < net.limit
        → IsHandled net s new next sent after → steps1 ≡ steps + 1 → From first next start after steps0 steps1
    comes_from-handle next after steps1 e less handled tick =
        let x = handled m d.marks d.rest d.pending in
        let n0 = comes_from-new in
        let c0 = o.counted in
        record {
          fits = x.2;
          set = ap (λ (u : StationCopy). u.set) x.0 ∙ n0.set;
          taken = o.taken + 1;
          log = let a = longer_log net s new next sent after m d.marks d.rest d.pending handled in let b = n0.log in
              omega (arith, a, b);
          counted = omega (arith, c0, tick);
          next = λ results last over over_after n h.
              subst (Comes first results start last over over_after) (one_more n o.taken)
              (n0.next results last over over_after (n + 1)
              (comes_to-handle (lawful-stations net o.fits.valid) sets_join ends s bound new m d.marks d.rest sent
              results last over over_after n n0.fits.inhabited (good_state net s new n0.fits) less d.pending
              n0.fits.sorted (all_take e) d.time_max
              (subst (λ u. Comes u results (sent ++ sends_aside (simulation net) s new m) last over over_after n) x.0
              (subst (λ u. Comes next results u last over over_after n) x.1 h))));
        }
      where
        one_more : (n t : ℕ) → (n + 1) + t ≡ n + (t + 1)
        one_more n t = omega arith

    -- if only some take it, the results of the first copy are those of both halves
    comes-split : (mid after : MarkedMessages) (e1 e2 : List StationCopy) (over over1 over2 : CloneSet) (x1 x2 : ℕ)
        → Comes (half new takers) e1 sent mid over over1 x1
        → Comes (half new (minus new.set takers)) e2 mid after over1 over2 x2 →
        Comes first (e1 ++ e2) start after over over2 ((x1 + x2) + o.taken)
    comes-split mid after e1 e2 over over1 over2 x1 x2 f g = comes_from-new.next (e1 ++ e2) after over over2 (x1 + x2)
        (comes_to-split (lawful-stations net o.fits.valid) sets_join ends s bound new (half new takers)
        (half new (minus new.set takers)) m d.marks d.rest sent mid after e1 e2 over over1 over2 x1 x2
        comes_from-new.fits.length_max d.pending comes_from-new.fits.sorted d.time_max
        (narrowed_half ends net s new takers (λ c i. (takes_of c i).0))
        (narrowed_half ends net s new (minus new.set takers) (λ c i. (in_others c i).0))
        (λ c i. (takes_of c i).1)
        (λ c i. takes_not c (in_others c i).0 (in_others c i).1)
        (λ c i. elim (cases_Bool (has takers c)) [
          | inl y ↦ inl y
          | inr n ↦ inr (has-minus new.set takers c ∙ (ap (λ b. b && not (has takers c)) i ∙ ap not n))
        ])
        f g)
      where
        in_others : (c : ℕ) → has (minus new.set takers) c ≡ true → (has new.set c ≡ true) × (has takers c ≡ false)
        in_others c i = let h = and_parts (has new.set c) (not (has takers c)) (sym (has-minus new.set takers c)
            ∙ i) in (h.0, not-true (has takers c) h.1)

    -- ---- size and may_handle

    -- its log is longer than the first one by the handled messages
    new_log : length new.log ≡ length first.log + o.taken
    new_log = comes_from-new.log

    -- it has clones, so the first copy has
    clones_some : 0 < size first.set
    clones_some = subst (λ k. 0 < size k) comes_from-new.set
        (size_some new.set (not_empty new.set comes_from-new.fits.inhabited.0 comes_from-new.fits.inhabited.1))

    -- the takers are some of its clones
    takers_meet : meet new.set takers ≡ takers
    takers_meet = same_members (meet new.set takers) takers (λ c. has-meet new.set takers c
        ∙ both c (cases_Bool (has takers c)))
      where
        both : (c : ℕ) → (has takers c ≡ true) ⊎ (has takers c ≡ false) → (has new.set c && has takers c) ≡ has takers c
        both c (inl y) = ap (λ b. b && has takers c) (takes_of c y).0
        both c (inr n) = ap (λ b. has new.set c && b) n ∙ and-false (has new.set c) ∙ sym n

    -- the takers and the others are together as many as the clones of the first copy
    parts_size : size takers + size (minus new.set takers) ≡ size first.set
    parts_size =
        let h = size_parts new.set takers in
        let m = ap size takers_meet in
        let e = ap size comes_from-new.set in
        omega (arith, h, m, e)

    -- the halves together may handle as much as the copy
    pub parts_few : may_handle net.limit (half new takers) + may_handle net.limit (half new (minus new.set takers))
        ≡ may_handle net.limit new
    parts_few =
        let h = parts_size in
        let d = add-mul (size takers) (size (minus new.set takers)) (net.limit - length new.log) in
        let e = ap (λ n. n * (net.limit - length new.log)) h in
        let k = ap (λ k. size k * (net.limit - length new.log)) comes_from-new.set in
        omega (arith, d, e, k)

    -- ---- IsAdvance

    -- if all clones take the message and the log is full, all clones of the first copy go over
    pub advance-over : (done0 done1 : List StationCopy) (over0 over1 over2 : CloneSet) → done1 ≡ done0 → over1 ≡ over0
        → takers ≡ new.set → net.limit ≤ length new.log → over2 ≡ union over1 new.set →
        IsAdvance net s ends bound first done0 done1 start sent over0 over2 steps0 steps
    advance-over done0 done1 over0 over1 over2 done over e full is = record {
      results = [];
      gained = 0 + o.taken;
      done = done ∙ sym (append-nil done0);
      steps = let c0 = o.counted in omega (arith, c0);
      comes = subst (λ u. Comes first [] start sent over0 u (0 + o.taken)) (sym (is ∙ ap (λ u. union u new.set) over))
          (comes-over e full over0);
      fits = tt;
      at_most = let h = few_more (size first.set) (length first.log) (length new.log) o.taken net.limit clones_some
          new_log comes_from-new.fits.length_max in omega (arith, h);
      shared = λ none. absurd (no_union over1 (comes_from-new.fits.inhabited.0) comes_from-new.fits.inhabited.1
          (sym is ∙ none));
    }
      where
        no_union : (a : CloneSet) (c : ℕ) → has new.set c ≡ true → union a new.set ≡ empty → ⊥
        no_union a c i e = not_empty (union a new.set) c
            (has-union a new.set c ∙ or_right (has a c) (has new.set c) i) e

    -- if only some clones take the message, the ends of both halves are together an end of the first copy
    pub advance-split : (done0 done1 done2 done3 : List StationCopy) (mid after : MarkedMessages)
        (over0 over1 over2 over3 : CloneSet) (steps1 steps2 : ℕ) → done1 ≡ done0 → over1 ≡ over0 →
        IsAdvance net s ends bound (half new takers) done1 done2 sent mid over1 over2 steps steps1
        → IsAdvance net s ends bound (half new (minus new.set takers)) done2 done3 mid after over2 over3 steps1
        steps2 →
        IsAdvance net s ends bound first done0 done3 start after over0 over3 steps0 steps2
    advance-split done0 done1 done2 done3 mid after over0 over1 over2 over3 steps1 steps2 done over a b = record {
      results = a.results ++ b.results;
      gained = (a.gained + b.gained) + o.taken;
      done = b.done ∙ (ap (λ l. l ++ b.results) (a.done ∙ ap (λ l. l ++ a.results) done)
          ∙ append_assoc done0 a.results b.results);
      steps = let c0 = o.counted in let c1 = a.steps in let c2 = b.steps in omega (arith, c0, c1, c2);
      comes = subst (λ u. Comes first (a.results ++ b.results) start after u over3 ((a.gained + b.gained) + o.taken))
          over (comes-split mid after a.results b.results over1 over2 over3 a.gained b.gained a.comes b.comes);
      fits = all_append (IsCopy net s) a.results b.results a.fits b.fits;
      at_most = few_apart (size first.set) (length first.log) (length new.log) o.taken net.limit clones_some new_log
          comes_from-new.fits.length_max (size takers) (size (minus new.set takers)) a.gained b.gained parts_size
          a.at_most
          b.at_most;
      shared = λ none.
          let h = alone-append a.results b.results in
          let k = shared_apart (size first.set) (length first.log) (length new.log) o.taken net.limit clones_some
          new_log comes_from-new.fits.length_max (size takers) (size (minus new.set takers)) a.gained b.gained
          (handled_alone_by a.results) (handled_alone_by b.results)
          parts_size (a.shared (empty_within over2 over3 b.comes.still_over none)) (b.shared none) in
          omega (arith, h, k);
    }

    -- ---- half

    -- if not all clones take the message, there are others
    others_some : takers ≢ new.set → minus new.set takers ≢ empty
    others_some ne none = ne (same_members takers new.set (λ c. same_at c (cases_Bool (has new.set c))))
      where
        same_at : (c : ℕ) → (has new.set c ≡ true) ⊎ (has new.set c ≡ false) → has takers c ≡ has new.set c
        same_at c (inl y) = elim (cases_Bool (has takers c)) [
          | inl t ↦ t ∙ sym y
          | inr f ↦ absurd (false≢true (sym (ap (λ k. has k c) none ∙ has-empty c)
              ∙ (has-minus new.set takers c ∙ (ap (λ b. b && not (has takers c)) y ∙ ap not f))))
        ]
        same_at c (inr n) = elim (cases_Bool (has takers c)) [
          | inl t ↦ absurd (false≢true (sym n ∙ (takes_of c t).0))
          | inr f ↦ f ∙ sym n
        ]

    -- if not all clones take the message, the half for those that do has fewer clones
    pub first_smaller : takers ≢ new.set → size takers < size new.set
    first_smaller ne = subst (λ k. size k < size new.set) takers_meet (meet_smaller new.set takers (others_some ne))

    -- the half for those that take the message is a copy of the station
    pub first_half : IsCopy net s (half new takers)
    first_half = copy_half ends net s new takers comes_from-new.fits (set_has_clone takers d.nonempty)

    -- and so is the half for the others, if not all clones take the message
    pub second_half : (takers ≢ new.set) → IsCopy net s (half new (minus new.set takers))
    second_half ne = copy_half ends net s new (minus new.set takers) comes_from-new.fits
        (set_has_clone (minus new.set takers) (others_some ne))

    -- and that half has fewer clones
    pub second_smaller : size (minus new.set takers) < size new.set
    second_smaller = minus_smaller new.set takers (λ e. d.nonempty (sym takers_meet ∙ e))

  -- ---- NothingDue

  -- if nothing is left before the bound, the result of the first copy is the present copy
  comes-done : (first copy new : StationCopy) (start sent : MarkedMessages) (steps0 steps : ℕ)
      (o : From first copy start sent steps0 steps) → NothingDue ends bound copy new → (over : CloneSet)
      → Comes first (new ∷ []) start sent over over (0 + o.taken) × IsCopy net s new
  comes-done first copy new start sent steps0 steps o d over =
      let n = comes_from-same first copy new start sent steps0 steps o d.same in (
        n.next (new ∷ []) sent over over 0
            (comes_to-settled (lawful-stations net o.fits.valid) sets_join ends s bound new sent over n.fits.inhabited
            n.fits.length_max (λ c i. d.settled c (subst (λ k. has k c ≡ true) d.same.copy.set i))),
        n.fits,
      )

  -- if nothing is due, the present copy is the end of the first copy
  pub advance-done : (first copy new : StationCopy) (start sent : MarkedMessages) (steps0 steps : ℕ)
      (o : From first copy start sent steps0 steps) (d : NothingDue ends bound copy new)
      (done0 done1 done2 : List StationCopy) (over0 over1 : CloneSet) →
      done1 ≡ done0 → over1 ≡ over0 → done2 ≡ done1 ++ new ∷ []
      → IsAdvance net s ends bound first done0 done2 start sent over0 over1 steps0 steps
  advance-done first copy new start sent steps0 steps o d done0 done1 done2 over0 over1 done over is =
      let x = comes-done first copy new start sent steps0 steps o d over0 in record {
        results = new ∷ [];
        gained = 0 + o.taken;
        done = is ∙ ap (λ l. l ++ new ∷ []) done;
        steps = let c0 = o.counted in omega (arith, c0);
        comes = subst (λ u. Comes first (new ∷ []) start sent over0 u (0 + o.taken)) (sym over) x.0;
        fits = (x.1, tt);
        at_most = let h = few_more (size first.set) (length first.log) (length new.log) n.taken net.limit clones_some
            n.log n.fits.length_max in omega (arith, h);
        shared = λ none.
            let k = shared_more (size first.set) (length first.log) (length new.log) n.taken net.limit clones_some
            n.log n.fits.length_max in
            let e = ap (λ k. size k * length new.log) n.set in
            omega (arith, k, e);
      }
    where
      n : From first new start sent steps0 steps
      n = comes_from-same first copy new start sent steps0 steps o d.same

      clones_some : 0 < size first.set
      clones_some = subst (λ k. 0 < size k) n.set
          (size_some new.set (not_empty new.set n.fits.inhabited.0 n.fits.inhabited.1))

  module _ (first copy : StationCopy) (start sent : MarkedMessages) (steps0 steps : ℕ)
      (o : From first copy start sent steps0 steps) where
    -- the first copy has clones
    first_some : 0 < size first.set
    first_some = subst (λ k. 0 < size k) o.set
        (size_some copy.set (not_empty copy.set o.fits.inhabited.0 o.fits.inhabited.1))

    -- the end of the copy from here on is an end of the first
    pub advance-from : (done0 done1 : List StationCopy) (after : MarkedMessages) (over0 over1 : CloneSet) (steps1 : ℕ)
        → IsAdvance net s ends bound copy done0 done1 sent after over0 over1 steps steps1
        → IsAdvance net s ends bound first done0 done1 start after over0 over1 steps0 steps1
    advance-from done0 done1 after over0 over1 steps1 a = record {
      results = a.results;
      gained = a.gained + o.taken;
      done = a.done;
      steps = let c0 = o.counted in let c1 = a.steps in omega (arith, c0, c1);
      comes = o.next a.results after over0 over1 a.gained a.comes;
      fits = a.fits;
      at_most =
          let h = few_apart (size first.set) (length first.log) (length copy.log) o.taken net.limit first_some o.log
          o.fits.length_max (size first.set) 0 a.gained 0 (omega arith)
          (let f = a.at_most in let e = ap (λ k. size k * (net.limit - length copy.log)) o.set in omega (arith, f, e))
          (omega arith) in
          omega (arith, h);
      shared = λ none.
          let k = shared_more (size first.set) (length first.log) (length copy.log) o.taken net.limit first_some o.log
          o.fits.length_max in
          let e = ap (λ k. size k * length copy.log) o.set in
          let f = a.shared none in
          omega (arith, k, e, f);
    }

    -- the number handled, and the number that may still be handled, are together at most the first copy's
    pub left_few : o.taken + may_handle net.limit copy ≤ may_handle net.limit first
    left_few =
        let h = few_apart (size first.set) (length first.log) (length copy.log) o.taken net.limit first_some o.log
        o.fits.length_max (size first.set) 0 (may_handle net.limit copy) 0 (omega arith)
        (let e = ap (λ k. size k * (net.limit - length copy.log)) o.set in omega (arith, e))
        (omega arith) in
        omega (arith, h)

-- ---- ◌-◌

-- below the limit, one more handled leaves fewer to handle
pub fewer_left : (limit a b c : ℕ) → b ≡ a + 1 → a ≡ c → a < limit → limit - b < limit - c
fewer_left limit a b c e f l = omega (arith, e, f)
