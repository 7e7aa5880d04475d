-- The effect of giving a message to a copy.
use Rattle.std.proofs.Common.{◌≡◌, ℕ, zero, suc, ◌+◌, ◌<◌, arith, length, slice_set, get_or, ◌==◌, ◌&&◌, Bool}
use Rattle.std.proofs.Common.{true, false, cond, List, [], ◌∷◌, refl, sym, ap, ◌∙◌, eqb-true, map, nat_lt}
use Rattle.std.proofs.Common.{not, inl, inr, ap₂, eq-eqb}
use Rattle.std.proofs.Math.Numerals.{suc-eq-add-one}
use Rattle.std.proofs.lemmas.List.{get_or_default}
use Rattle.std.specs.List.{AllByRecursion, AllZip}
use Rattle.sim_base.specs.Order.{msg_cmp}
use Rattle.sim_base.specs.Pending.{insert_marked}
use Rattle.sim_base.specs.declared.message.Msg.{Msg}
use Rattle.sim_base.proofs.ListLaws.{all_at, all_weaker}
use Rattle.clone_sets.specs.Sets.{has, union, meet, minus, empty}
use Rattle.clone_sets.specs.declared.set.CloneSet.{CloneSet}
use Rattle.clone_sets.proofs.SetLaws.{has-meet, has-minus, has-empty, empty_from_none, same_members}
use Rattle.net_model.specs.Net.{Net}
use Rattle.stations.specs.Runs.{simulation}
use Rattle.sim_base.specs.Marked.{SortedMarked}
use Rattle.run_laws.specs.Copies.{IsGiven, Carries, Disjoint, takes}
use Rattle.run_laws.specs.Queue.{insert}
use Rattle.run_laws.proofs.Parts.{part-insert}
use Rattle.sim_base.proofs.Placing.{sorted_insert_marked}
use Rattle.run_laws.proofs.CopyViews.{takes_join}
use Rattle.run_laws.proofs.MessageOrder.{messages_ordered}
use Rattle.std.proofs.lemmas.Bool.{cases_Bool, eqb-false, false≢true, false_from_ne_true, and_parts, not-true}
use Rattle.phys_proc.specs.Own.{StationCopy, AreMarks, IsCopy, taken_at, with_message}
use Rattle.phys_proc.proofs.Sends.{all_inserted, marks_inserted, marks_join}
use Rattle.phys_proc.proofs.ComesFrom.{sets_join}
use Rattle.phys_proc.proofs.Halves.{IsCopy-like}

-- ---- IsGiven and IsCopy

module _ (net : Net) (ends : ℕ → ℕ) (m : Msg) (k : CloneSet) where
  -- the copy does not change if the message is for none of its clones; if it is for some, it has the message too
  given_by : (none : Bool) (a : StationCopy) → (meet a.set k == empty) ≡ none → SortedMarked msg_cmp a.pending →
      IsGiven (simulation net) has ends m k a
      (record a { pending = cond none a.pending (insert_marked union msg_cmp m (meet a.set k) a.pending) })
  given_by true a e s = record {
    same = record { set = refl; log = refl; state = refl };
    parts = λ c i. sym (ap (λ b. cond (b && nat_lt m.key.time (ends c)) (insert msg_cmp m (taken_at ends c a.pending))
        (taken_at ends c a.pending)) (no_one c i));
    sorted = s;
  }
    where
      no_one : (c : ℕ) → has a.set c ≡ true → has k c ≡ false
      no_one c i = ap (λ b. b && has k c) (sym i)
          ∙ (sym (has-meet a.set k c) ∙ (ap (λ x. has x c) (eqb-true (meet a.set k) empty e) ∙ has-empty c))
  given_by false a e s = record {
    same = record { set = refl; log = refl; state = refl };
    parts = λ c i. part-insert (takes (simulation net) has ends) union (takes_join (simulation net) sets_join ends)
        messages_ordered c m (meet a.set k) a.pending s
        ∙ ap (λ b. cond (b && nat_lt m.key.time (ends c)) (insert msg_cmp m (taken_at ends c a.pending))
        (taken_at ends c a.pending)) (has-meet a.set k c ∙ ap (λ b. b && has k c) i);
    sorted = sorted_insert_marked messages_ordered.total union m (meet a.set k) a.pending s;
  }

  -- in a copy to which it is given, a message is also pending for the clones that take it
  is_given : (a : StationCopy) → SortedMarked msg_cmp a.pending
      → IsGiven (simulation net) has ends m k a (with_message m k a)
  is_given a s = given_by (meet a.set k == empty) a refl s

  -- and it is a copy still
  given_fits : (s : ℕ) (a : StationCopy) → m.to ≡ s → IsCopy net s a → IsCopy net s (with_message m k a)
  given_fits s a e f = IsCopy-like net s a (with_message m k a) f refl refl f.inhabited (is_given a f.sorted).sorted
      (targets_by (meet a.set k == empty)) (marks_by (meet a.set k == empty) refl)
    where
      targets_by : (none : Bool) → AllByRecursion (λ x. x.0.to ≡ s)
          (cond none a.pending (insert_marked union msg_cmp m (meet a.set k) a.pending))
      targets_by true = f.targets
      targets_by false = all_inserted (λ z. z.to ≡ s) (meet a.set k) m a.pending e f.targets

      marks_by : (none : Bool) → (meet a.set k == empty) ≡ none
          → AllByRecursion (λ x. AreMarks a.set x.1)
          (cond none a.pending (insert_marked union msg_cmp m (meet a.set k) a.pending))
      marks_by true n = f.marks
      marks_by false n = marks_inserted (AreMarks a.set) (marks_join a.set) (meet a.set k)
          (record {
            nonempty = eqb-false (meet a.set k) empty n;
            within = λ c i. (and_parts (has a.set c) (has k c) (sym (has-meet a.set k c) ∙ i)).0;
          }) m a.pending f.marks

  -- copies of the station that the message is for are copies of it still
  pub all_fit : (s : ℕ) (xs : List StationCopy) → m.to ≡ s → AllByRecursion (IsCopy net s) xs
      → AllByRecursion (IsCopy net s) (map (with_message m k) xs)
  all_fit s [] e f = tt
  all_fit s (x ∷ xs) e f = (given_fits s x e f.0, all_fit s xs e f.1)

  -- and to each copy it is given
  pub all_given : (xs : List StationCopy) → AllByRecursion (λ a. SortedMarked msg_cmp a.pending) xs
      → AllZip (IsGiven (simulation net) has ends m k) xs (map (with_message m k) xs)
  all_given [] f = tt
  all_given (x ∷ xs) f = (is_given x f.0, all_given xs f.1)

-- ---- map_first

-- the list with f of its first i elements
abbrev pub map_first : (StationCopy → StationCopy) → ℕ → List StationCopy → List StationCopy
map_first f zero xs = xs
map_first f (suc i) [] = []
map_first f (suc i) (x ∷ xs) = f x ∷ map_first f i xs

-- with the next element changed in its place, one more of the first is changed
pub map_first-suc : (f : StationCopy → StationCopy) (i : ℕ) (xs : List StationCopy) (d : StationCopy) → i < length xs
    → slice_set (map_first f i xs) i (f (get_or (map_first f i xs) i d)) ≡ map_first f (i + 1) xs
map_first-suc f i xs d l = by_suc f i xs d l ∙ ap (λ n. map_first f n xs) (suc-eq-add-one i)
  where
    by_suc : (f : StationCopy → StationCopy) (i : ℕ) (xs : List StationCopy) (d : StationCopy) → i < length xs
        → slice_set (map_first f i xs) i (f (get_or (map_first f i xs) i d)) ≡ map_first f (suc i) xs
    by_suc f i [] d l = absurd (omega arith)
    by_suc f zero (x ∷ xs) d l = refl
    by_suc f (suc i) (x ∷ xs) d l = ap (λ t. f x ∷ t) (by_suc f i xs d (omega arith))

-- if the count of changes is the length, all are changed
pub map_first-length : (f : StationCopy → StationCopy) (i : ℕ) (xs : List StationCopy) → i ≡ length xs
    → map_first f i xs ≡ map f xs
map_first-length f i xs e = ap (λ n. map_first f n xs) e ∙ whole xs
  where
    whole : (xs : List StationCopy) → map_first f (length xs) xs ≡ map f xs
    whole [] = refl
    whole (x ∷ xs) = ap (λ t. f x ∷ t) (whole xs)

-- the list keeps its length
pub length-map_first : (f : StationCopy → StationCopy) (i : ℕ) (xs : List StationCopy)
    → length (map_first f i xs) ≡ length xs
length-map_first f zero xs = refl
length-map_first f (suc i) [] = refl
length-map_first f (suc i) (x ∷ xs) = ap suc (length-map_first f i xs)

-- ---- rest_after

-- the clones of k that none of the first i copies represents
abbrev pub rest_after : CloneSet → List StationCopy → ℕ → CloneSet
rest_after k xs zero = k
rest_after k [] (suc i) = k
rest_after k (x ∷ xs) (suc i) = rest_after (minus k x.set) xs i

-- the clones that are left, without those of the next copy, are those left after one copy more
pub rest_more : (f : StationCopy → StationCopy) (k : CloneSet) (xs : List StationCopy) (i : ℕ) (d : StationCopy)
    → i < length xs → minus (rest_after k xs i) (get_or (map_first f i xs) i d).set ≡ rest_after k xs (i + 1)
rest_more f k xs i d l = by_suc k xs i l ∙ ap (rest_after k xs) (suc-eq-add-one i)
  where
    by_suc : (k : CloneSet) (xs : List StationCopy) (i : ℕ) → i < length xs
        → minus (rest_after k xs i) (get_or (map_first f i xs) i d).set ≡ rest_after k xs (suc i)
    by_suc k [] i l = absurd (omega arith)
    by_suc k (x ∷ xs) zero l = refl
    by_suc k (x ∷ xs) (suc i) l = by_suc (minus k x.set) xs i (omega arith)

-- ---- with_message, copy after copy

module _ (m : Msg) (k : CloneSet) where
  -- if the message is for none of its clones, the copy does not change
  not_given : (a : StationCopy) → ((c : ℕ) → has k c ≡ true → ¬ (Carries has a c)) → with_message m k a ≡ a
  not_given a apart =
      let none = empty_from_none (meet a.set k)
      (λ c. has-meet a.set k c ∙ no_one c (has a.set c) (has k c) refl refl) in
      ap (λ b. record a { pending = cond b a.pending (insert_marked union msg_cmp m (meet a.set k) a.pending) })
      (eq-eqb (meet a.set k) empty none)
    where
      no_one : (c : ℕ) (x y : Bool) → has a.set c ≡ x → has k c ≡ y → (x && y) ≡ false
      no_one c false y e f = refl
      no_one c true false e f = refl
      no_one c true true e f = absurd (apart c f e)

  -- and if it is for no clone of some copies, none of them changes
  none_given : (xs : List StationCopy) → ((c : ℕ) → has k c ≡ true → AllByRecursion (λ b. ¬ (Carries has b c)) xs)
      → xs ≡ map (with_message m k) xs
  none_given [] h = refl
  none_given (x ∷ xs) h = ap₂ (λ y ys. y ∷ ys) (sym (not_given x (λ c i. (h c i).0)))
      (none_given xs (λ c i. (h c i).1))

  -- if the first copies represent all its clones, all copies have it once these have it
  pub given_to_all : (rest : CloneSet) (xs : List StationCopy) (i : ℕ) → Disjoint has xs
      → rest_after rest xs i ≡ empty
      → ((c : ℕ) → has k c ≡ true → has rest c ≡ false → AllByRecursion (λ b. ¬ (Carries has b c)) xs)
      → map_first (with_message m k) i xs ≡ map (with_message m k) xs
  given_to_all rest xs zero d e h = none_given xs (λ c i. h c i (ap (λ s. has s c) e ∙ has-empty c))
  given_to_all rest [] (suc i) d e h = refl
  given_to_all rest (x ∷ xs) (suc i) d e h = ap (λ t. with_message m k x ∷ t)
      (given_to_all (minus rest x.set) xs i d.1 e apart)
    where
      not_left : (x y : Bool) → y ≡ false → (x && not y) ≡ false → x ≡ false
      not_left false y o e = refl
      not_left true false o e = absurd (false≢true (sym e))
      not_left true true o e = absurd (false≢true (sym o))

      apart : (c : ℕ) → has k c ≡ true → has (minus rest x.set) c ≡ false
          → AllByRecursion (λ b. ¬ (Carries has b c)) xs
      apart c y n = elim (cases_Bool (has x.set c)) [
        | inl t ↦ all_weaker (λ b. (c : ℕ) → Carries has x c → ¬ (Carries has b c)) (λ b. ¬ (Carries has b c)) xs
            (λ b f. f c t) d.0
        | inr o ↦ (h c y (not_left (has rest c) (has x.set c) o (sym (has-minus rest x.set c) ∙ n))).1
      ]

-- ---- with_message, with one copy first

module _ (m : Msg) (k : CloneSet) where
  -- two sets that share the same clones with a copy have the same effect on it
  same_given : (k1 k2 : CloneSet) (a : StationCopy) → meet a.set k1 ≡ meet a.set k2
      → with_message m k1 a ≡ with_message m k2 a
  same_given k1 k2 a e = ap (λ s. record a {
    pending = cond (s == empty) a.pending (insert_marked union msg_cmp m s a.pending);
  }) e

  -- the clones of another copy may be left out
  without_others : (a b : StationCopy) → ((c : ℕ) → Carries has b c → ¬ (Carries has a c))
      → meet b.set (minus k a.set) ≡ meet b.set k
  without_others a b apart = same_members (meet b.set (minus k a.set)) (meet b.set k) (λ c.
      has-meet b.set (minus k a.set) c ∙ ap (λ x. has b.set c && x) (has-minus k a.set c)
      ∙ left_out (has b.set c) (has k c) (has a.set c) (λ i. false_from_ne_true (has a.set c) (apart c i))
      ∙ sym (has-meet b.set k c))
    where
      left_out : (x y z : Bool) → (x ≡ true → z ≡ false) → (x && (y && not z)) ≡ (x && y)
      left_out false y z h = refl
      left_out true false z h = refl
      left_out true true z h = ap not (h refl)

  -- the copy at place i gets it first, and all copies get it for the other clones
  given_from : (xs : List StationCopy) (i : ℕ) (d : StationCopy) → i < length xs → Disjoint has xs
      → map (with_message m (minus k (get_or xs i d).set)) (slice_set xs i (with_message m k (get_or xs i d)))
      ≡ map (with_message m k) xs
  given_from [] i d l p = absurd (omega arith)
  given_from (x ∷ xs) zero d l p = ap₂ (λ y ys. y ∷ ys)
      (not_given m (minus k x.set) (with_message m k x) (λ c i n. absurd (false≢true (sym (others c i) ∙ n))))
      (behind xs p.0)
    where
      others : (c : ℕ) → has (minus k x.set) c ≡ true → has x.set c ≡ false
      others c i = not-true (has x.set c)
          (and_parts (has k c) (not (has x.set c)) (sym (has-minus k x.set c) ∙ i)).1

      behind : (ys : List StationCopy) → AllByRecursion (λ b. (c : ℕ) → Carries has x c → ¬ (Carries has b c)) ys
          → map (with_message m (minus k x.set)) ys ≡ map (with_message m k) ys
      behind [] h = refl
      behind (y ∷ ys) h = ap₂ (λ u us. u ∷ us)
          (same_given (minus k x.set) k y (without_others x y (λ c i j. h.0 c j i))) (behind ys h.1)
  given_from (x ∷ xs) (suc i) d l p = ap₂ (λ y ys. y ∷ ys)
      (same_given (minus k (get_or xs i d).set) k x (without_others (get_or xs i d) x
      (all_at (λ b. (c : ℕ) → Carries has x c → ¬ (Carries has b c)) xs i d p.0 (omega arith))))
      (given_from xs i d (omega arith) p.1)

  -- if the copy at place i has it, and all get it for the rest of the set, all copies have it
  pub given_first : (xs : List StationCopy) (i : ℕ) (d1 d2 : StationCopy) (rest : CloneSet) (a : StationCopy)
      → i < length xs → Disjoint has xs → rest ≡ minus k (get_or xs i d1).set → a ≡ with_message m k (get_or xs i d2)
      → map (with_message m rest) (slice_set xs i a) ≡ map (with_message m k) xs
  given_first xs i d1 d2 rest a l p e f =
      ap₂ (λ s u. map (with_message m s) (slice_set xs i u))
      (e ∙ ap (λ (u : StationCopy). minus k u.set) (get_or_default xs i d1 d2 l)) f
      ∙ given_from xs i d2 l p

  -- and if that copy represents the whole set, all copies have it once that one does
  pub given_alone : (xs : List StationCopy) (i : ℕ) (d1 d2 : StationCopy) (rest : CloneSet) (a : StationCopy)
      → i < length xs → Disjoint has xs → rest ≡ minus k (get_or xs i d1).set → a ≡ with_message m k (get_or xs i d2)
      → rest ≡ empty → slice_set xs i a ≡ map (with_message m k) xs
  given_alone xs i d1 d2 rest a l p e f none =
      none_given m empty (slice_set xs i a) (λ c n. absurd (false≢true (sym (has-empty c) ∙ n)))
      ∙ (ap (λ s. map (with_message m s) (slice_set xs i a)) (sym none) ∙ given_first xs i d1 d2 rest a l p e f)
