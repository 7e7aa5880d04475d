-- The parts are exactly the nonempty intersections.
use Rattle.std.proofs.Common.{◌≡◌, ◌≢◌, ℕ, zero, suc, ◌+◌, ◌<◌, ◌==◌, Bool, true, false, Some, None}
use Rattle.std.proofs.Common.{List, [], ◌∷◌, map, length, Less, refl, ap, ◌∙◌, subst, arith, nat_cmp}
use Rattle.std.specs.Prelude.{option_map, if◌then◌else◌}
use Rattle.std.specs.List.{AllByRecursion, Contains, cons_option, enumerate_from, filter_map}
use Rattle.std.specs.List.Sorted.{IsStrictlySortedBy}
use Rattle.std.proofs.lemmas.List.Elements.{All-from_recursion, All-weaker}
use Rattle.std.proofs.lemmas.Bool.{ne_eqb, eqb-false}
use Rattle.std.proofs.lemmas.Map.Keys.{IsStrictlyIncreasing-from_sorted}
use Rattle.sim_base.proofs.Elements.{contains_tail}
use Rattle.sim_base.proofs.ListLaws.{all_weaker}
use Rattle.sim_base.proofs.OrderLaws.{nat_cmp-lt}
use Rattle.clone_sets.specs.Sets.{empty, meet}
use Rattle.msg_route.specs.Routing.{part_for, parts_of, meet_at, IsShared, IsCut}
use Rattle.msg_route.specs.declared.parts.Part.{Part}

module _ (s : ℕ) where
  -- the parts if the first receiver has the number n
  abbrev parts_from : ℕ → List ℕ → List Part
  parts_from n rs = filter_map (part_for s) (enumerate_from n rs)

  -- a part at the head, unless the meet is empty
  abbrev part_before : Bool → ℕ → ℕ → List Part → List Part
  part_before none n set parts =
      cons_option (option_map (λ k. record { receiver = n; set = k }) (if none then None else Some set)) parts

  -- the part is that of the receiver at some place i
  record Among (n : ℕ) (rs : List ℕ) (p : Part) : Type 0 where
    i : ℕ
    in_range : i < length rs
    number : p.receiver ≡ n + i
    set : p.set ≡ meet_at s rs i
    nonempty : p.set ≢ empty

  -- ---- Among

  -- a part of later receivers is one of all
  among_later : (n r : ℕ) (rs : List ℕ) (parts : List Part)
      → AllByRecursion (Among (n + 1) rs) parts → AllByRecursion (Among n (r ∷ rs)) parts
  among_later n r rs parts h = all_weaker (Among (n + 1) rs) (Among n (r ∷ rs)) parts (λ p f. record {
    i = suc f.i;
    in_range = omega (arith, f.in_range);
    number = omega (arith, f.number);
    set = f.set;
    nonempty = f.nonempty;
  }) h

  -- a part that is not empty is that of the first receiver
  among_before : (b : Bool) (n r : ℕ) (rs : List ℕ) (parts : List Part)
      → (b ≡ false → meet s r ≢ empty) → AllByRecursion (Among n (r ∷ rs)) parts
      → AllByRecursion (Among n (r ∷ rs)) (part_before b n (meet s r) parts)
  among_before true n r rs parts e h = h
  among_before false n r rs parts e h =
      (record { i = 0; in_range = omega arith; number = omega arith; set = refl; nonempty = e refl }, h)

  -- each part is that of some receiver
  among_parts : (n : ℕ) (rs : List ℕ) → AllByRecursion (Among n rs) (parts_from n rs)
  among_parts n [] = tt
  among_parts n (r ∷ rs) =
      among_before (meet s r == empty) n r rs (parts_from (n + 1) rs) (eqb-false (meet s r) empty)
      (among_later n r rs (parts_from (n + 1) rs) (among_parts (n + 1) rs))

  -- ---- Contains

  -- a list keeps its elements after an optional part in front
  contains_before : (b : Bool) (n set : ℕ) (p : Part) (ps : List Part) → Contains ps p
      → Contains (part_before b n set ps) p
  contains_before true n set p ps h = h
  contains_before false n set p ps h = contains_tail _ p ps h

  -- the first part is there unless it is empty
  contains_first : (b : Bool) (n set : ℕ) (ps : List Part)
      → b ≡ false → Contains (part_before b n set ps) (record { receiver = n; set = set })
  contains_first true n set ps e = absurd cc
  contains_first false n set ps e = (0, omega arith, refl)

  -- each meet that is not empty has its part
  contains_part : (n : ℕ) (rs : List ℕ) (i : ℕ)
      → i < length rs → meet_at s rs i ≢ empty
      → Contains (parts_from n rs) (record { receiver = n + i; set = meet_at s rs i })
  contains_part n [] i l some = absurd (omega arith)
  contains_part n (r ∷ rs) zero l some =
      let e : n ≡ n + 0 = omega arith in
      subst (λ k. Contains (parts_from n (r ∷ rs)) (record { receiver = k; set = meet s r })) e
      (contains_first (meet s r == empty) n (meet s r) (parts_from (n + 1) rs) (ne_eqb (meet s r) empty some))
  contains_part n (r ∷ rs) (suc i) l some =
      let e : n + 1 + i ≡ n + suc i = omega arith in
      subst (λ k. Contains (parts_from n (r ∷ rs)) (record { receiver = k; set = meet_at s rs i })) e
      (contains_before (meet s r == empty) n (meet s r) _ (parts_from (n + 1) rs)
      (contains_part (n + 1) rs i (omega arith) some))

  -- ---- IsStrictlySortedBy

  -- the numbers of the parts' receivers
  abbrev numbers : List Part → List ℕ
  numbers parts = map (λ p. p.receiver) parts

  -- later receivers have higher numbers
  above_later : (n : ℕ) (rs : List ℕ) (parts : List Part)
      → AllByRecursion (Among (n + 1) rs) parts → AllByRecursion (λ k. nat_cmp n k ≡ Less) (numbers parts)
  above_later n rs [] h = tt
  above_later n rs (p ∷ ps) h = (nat_cmp-lt n p.receiver (omega (arith, h.0.number)), above_later n rs ps h.1)

  -- the numbers rise with one before them
  rising_before : (b : Bool) (n set : ℕ) (parts : List Part)
      → AllByRecursion (λ k. nat_cmp n k ≡ Less) (numbers parts) → IsStrictlySortedBy nat_cmp (numbers parts)
      → IsStrictlySortedBy nat_cmp (numbers (part_before b n set parts))
  unfolding IsStrictlySortedBy
  rising_before true n set parts f h = h
  rising_before false n set parts f h = (f, h)

  -- the numbers rise
  rising_parts : (n : ℕ) (rs : List ℕ) → IsStrictlySortedBy nat_cmp (numbers (parts_from n rs))
  unfolding IsStrictlySortedBy
  rising_parts n [] = tt
  rising_parts n (r ∷ rs) =
      rising_before (meet s r == empty) n (meet s r) (parts_from (n + 1) rs)
      (above_later n rs (parts_from (n + 1) rs) (among_parts (n + 1) rs)) (rising_parts (n + 1) rs)

  -- ---- IsCut

  -- the part of the receiver at a place has the clones in common
  shared_from : (rs : List ℕ) (p : Part) → Among 0 rs p → IsShared s rs p
  shared_from rs p h =
      let e : h.i ≡ p.receiver = omega (arith, h.number) in record {
        in_range = omega (arith, h.in_range, h.number);
        set = h.set ∙ ap (meet_at s rs) e;
        nonempty = h.nonempty;
      }

  -- the parts are exactly the meets that are not empty
  pub parts_are_cut : (rs : List ℕ) → IsCut s rs (parts_of s rs)
  parts_are_cut rs = record {
    each = All-weaker (Among 0 rs) (IsShared s rs) (shared_from rs) (parts_of s rs)
        (All-from_recursion (Among 0 rs) (parts_of s rs) (among_parts 0 rs));
    all = λ i l some. let e : 0 + i ≡ i = omega arith in
        subst (λ k. Contains (parts_of s rs) (record { receiver = k; set = meet_at s rs i })) e
        (contains_part 0 rs i l some);
    rising = IsStrictlyIncreasing-from_sorted (numbers (parts_of s rs)) (rising_parts 0 rs);
  }
