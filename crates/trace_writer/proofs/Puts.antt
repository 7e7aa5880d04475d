-- Texts that are put in parts.
use Rattle.std.proofs.Common.{◌≡◌, ℕ, ◌≤◌, refl, ap, subst, ◌∙◌, arith, List, [], ◌++◌}
use Rattle.std.proofs.Common.{append-nil}
use Rattle.std.proofs.lemmas.List.{append_assoc}
use Rattle.sim_outer.specs.Counts.{IsCounted, HasRisen}
use Rattle.sim_outer.specs.Views.{SinkView}
use Rattle.sim_outer.proofs.Appending.{appended_nothing, appended_then, part_then}
use Rattle.trace_writer.specs.Puts.{IsPartPut, IsPut, IsCutOff}

-- ---- IsPartPut, IsPut, IsCutOff

-- nothing is taken at first
pub taken_none : (v : SinkView) → IsPartPut [] v v
taken_none v = record { bytes = appended_nothing v.bytes; later = omega arith; same = refl }

-- one part was taken, and then another
pub taken_then : (a b : List ℕ) (old mid new : SinkView) → IsPartPut a old mid → IsPartPut b mid new
    → IsPartPut (a ++ b) old new
taken_then a b old mid new h k = let x = h.later in let y = k.later in record {
  bytes = appended_then a b old.bytes mid.bytes new.bytes h.bytes k.bytes;
  later = omega (arith, x, y);
  same = k.same ∙ h.same;
}

-- then the rest, which ends the call
put_then : (a b : List ℕ) (old mid new : SinkView) → IsPartPut a old mid → IsPut b mid new → IsPut (a ++ b) old new
put_then a b old mid new h k = let x = h.later in let y = k.later in record {
  bytes = appended_then a b old.bytes mid.bytes new.bytes h.bytes k.bytes;
  later = omega (arith, x, y);
  counted = subst (λ n. IsCounted n new.calls) h.same k.counted;
}

-- a count that has risen since a later point has risen since an earlier one
rose_earlier : (a b c : ℕ) → a ≤ b → HasRisen b c → HasRisen a c
rose_earlier a b c l r = omega (arith, l, r)

-- one part was taken, and the next was cut off, with more to come
pub cut_then : (a b c : List ℕ) (old mid new : SinkView) → IsPartPut a old mid → IsCutOff b mid new
    → IsCutOff (a ++ (b ++ c)) old new
cut_then a b c old mid new h k = let x = h.later in let y = k.later in record {
  bytes = part_then a b c old.bytes mid.bytes new.bytes h.bytes k.bytes;
  failed = rose_earlier old.faults mid.faults new.faults x k.failed;
  later = omega (arith, x, y);
  counted = subst (λ n. IsCounted n new.calls) h.same k.counted;
}

-- if the first part of the rest is cut off, all of the rest is
pub cut_part : (part others left : List ℕ) (old new : SinkView) → part ++ others ≡ left → IsCutOff part old new
    → IsCutOff left old new
cut_part part others left old new e h =
    subst (λ l. IsCutOff l old new) e (cut_then [] part others old old new (taken_none old) h)

-- ---- a text: its head, the rest, and the end of the call

module _ (head rest text : List ℕ) (is : head ++ rest ≡ text) (v0 v1 v2 : SinkView) where
  -- the whole text was taken
  pub text_put : (v3 : SinkView) → IsPartPut head v0 v1 → IsPartPut rest v1 v2 → IsPut [] v2 v3 → IsPut text v0 v3
  text_put v3 a b c = subst (λ l. IsPut l v0 v3) (append-nil (head ++ rest) ∙ is)
      (put_then (head ++ rest) [] v0 v2 v3 (taken_then head rest v0 v1 v2 a b) c)

  -- cut off after its head
  pub rest_cut : IsPartPut head v0 v1 → IsCutOff rest v1 v2 → IsCutOff text v0 v2
  rest_cut a b = subst (λ l. IsCutOff l v0 v2) (ap (λ l. head ++ l) (append-nil rest) ∙ is)
      (cut_then head rest [] v0 v1 v2 a b)

  -- cut off at its end
  pub end_cut : (v3 : SinkView) → IsPartPut head v0 v1 → IsPartPut rest v1 v2 → IsCutOff [] v2 v3 → IsCutOff text v0 v3
  end_cut v3 a b c = subst (λ l. IsCutOff l v0 v3) (append-nil (head ++ rest) ∙ is)
      (cut_then (head ++ rest) [] [] v0 v2 v3 (taken_then head rest v0 v1 v2 a b) c)

-- ---- the parts of a text, without a page

-- a first part is put, and these bytes are left
pub record IsTakenTo (all left : List ℕ) (old new : SinkView) : Type 0 where
  pub done : List ℕ
  pub parts : done ++ left ≡ all
  pub taken : IsPartPut done old new

module _ (all left part less : List ℕ) (old mid new : SinkView) (h : IsTakenTo all left old mid)
    (parts : part ++ less ≡ left) where
  -- the next part is taken
  pub taken_more : IsPartPut part mid new → IsTakenTo all less old new
  taken_more k = record {
    done = h.done ++ part;
    parts = append_assoc h.done part less ∙ ap (λ l. h.done ++ l) parts ∙ h.parts;
    taken = taken_then h.done part old mid new h.taken k;
  }

  -- the next part is cut off
  pub cut_more : IsCutOff part mid new → IsCutOff all old new
  cut_more k = subst (λ l. IsCutOff l old new) (ap (λ l. h.done ++ l) parts ∙ h.parts)
      (cut_then h.done part less old mid new h.taken k)
