-- Texts that are put one after the other.
use Rattle.std.proofs.Common.{◌≡◌, ◌≤◌, inl, inr, ℕ, zero, suc, ◌+◌, refl, sym, ap, ap₂, ◌∙◌, subst, arith}
use Rattle.std.proofs.Common.{List, [], ◌∷◌, ◌++◌, append-nil, length, length-append, map, Option, Some, None}
use Rattle.std.proofs.lemmas.List.{append_assoc, length-map}
use Rattle.std.proofs.lemmas.List.Concat.{concat_is}
use Rattle.std.proofs.lemmas.List.Folds.{concat-append, flat_map-map}
use Rattle.std.specs.List.{concat, flat_map}
use Rattle.sim_outer.specs.Bytes.{IsAppended, IsPrefixAppended}
use Rattle.sim_outer.specs.Counts.{AreCounted, IsCounted, HasRisen, counts_after, next_count}
use Rattle.sim_outer.specs.Views.{SinkView}
use Rattle.sim_outer.proofs.Appending.{appended_nothing, appended_then}
use Rattle.sim_outer.proofs.Counts.{counted_more}
use Rattle.trace_writer.specs.Puts.{AreCut}
use Rattle.cloner_top.specs.declared.refusal.Refusal.{Refusal}
use Rattle.cloner_top.specs.declared.refusal.Refusal.TheVariants.{CannotWrite}
use Rattle.cloner_top.specs.Outsides.{ArePut, ArePutOrCut, IsNotPut}

-- a call that was counted is one call
counted_one : (old new : Option ℕ) → IsCounted old new → AreCounted 1 old new
counted_one None new h = h
counted_one (Some o) new h = h

-- ---- one text

-- a text that was appended in one call was put
pub put_one : (text : List ℕ) (old new : SinkView) → IsAppended old.bytes text new.bytes → IsCounted old.calls new.calls
    → ArePut (text ∷ []) old new
put_one text old new bytes calls = record {
  bytes = subst (λ t. IsAppended old.bytes t new.bytes) (sym (append-nil text)) bytes;
  calls = counted_one old.calls new.calls calls;
}

-- a text of which a prefix was appended, in a call that failed, was cut off
pub cut_one : (text : List ℕ) (old new : SinkView) → IsPrefixAppended old.bytes text new.bytes
    → HasRisen old.faults new.faults → IsCounted old.calls new.calls → AreCut (text ∷ []) old new
cut_one text old new bytes failed counted = record {
  whole = [];
  text = text;
  others = [];
  parts = refl;
  between = old.bytes;
  before = appended_nothing old.bytes;
  bytes = bytes;
  failed = failed;
  calls = counted_one old.calls new.calls counted;
}

-- ---- texts, and then others

-- n calls, and then m
count_both : (n m before : ℕ) → counts_after m (counts_after n before) ≡ counts_after (n + m) before
count_both n zero before = let e : n ≡ n + 0 = omega arith in ap (λ j. counts_after j before) e
count_both n (suc m) before = let e : suc (n + m) ≡ n + suc m = omega arith in
    ap next_count (count_both n m before) ∙ ap (λ j. counts_after j before) e

pub counted_both : (n m : ℕ) (old mid new : Option ℕ) → AreCounted n old mid → AreCounted m mid new
    → AreCounted (n + m) old new
counted_both n m None mid new h k = let e : mid ≡ None = h in (rw e at k)
counted_both n m (Some o) mid new h k = let e : mid ≡ Some (counts_after n o) = h in
    (rw e at k) ∙ ap Some (count_both n m o)

module _ (first others : List (List ℕ)) where
  -- if the first were put, and then the others, all were put
  pub put_after : (old mid new : SinkView) → ArePut first old mid → ArePut others mid new
      → ArePut (first ++ others) old new
  put_after old mid new h k = record {
    bytes = subst (λ t. IsAppended old.bytes t new.bytes) (sym (concat-append first others))
        (appended_then (concat first) (concat others) old.bytes mid.bytes new.bytes h.bytes k.bytes);
    calls = subst (λ n. AreCounted n old.calls new.calls) (sym (length-append first others))
        (counted_both (length first) (length others) old.calls mid.calls new.calls h.calls k.calls);
  }

  -- if the first were put, and the others were cut off, they were cut off together
  pub cut_after : (old mid new : SinkView) → IsAppended old.bytes (concat first) mid.bytes
      → AreCounted (length first) old.calls mid.calls → old.faults ≤ mid.faults → AreCut others mid new
      → AreCut (first ++ others) old new
  cut_after old mid new bytes counted later cut = record {
    whole = first ++ cut.whole;
    text = cut.text;
    others = cut.others;
    parts = ap (λ t. first ++ t) cut.parts ∙ sym (append_assoc first cut.whole (cut.text ∷ cut.others));
    between = cut.between;
    before = subst (λ t. IsAppended old.bytes t cut.between) (sym (concat-append first cut.whole))
        (appended_then (concat first) (concat cut.whole) old.bytes mid.bytes cut.between bytes cut.before);
    bytes = cut.bytes;
    failed = let r = cut.failed in omega (arith, r, later);
    calls = subst (λ n. AreCounted n old.calls new.calls) many
        (counted_both (length first) (length cut.whole + 1) old.calls mid.calls new.calls counted cut.calls);
  }
    where
      many : length first + (length cut.whole + 1) ≡ length (first ++ cut.whole) + 1
      many = let l = length-append first cut.whole in omega (arith, l)

  -- if the first were cut off, they were cut off together
  pub cut_ahead : (old new : SinkView) → AreCut first old new → AreCut (first ++ others) old new
  cut_ahead old new cut = record {
    whole = cut.whole;
    text = cut.text;
    others = cut.others ++ others;
    parts = ap (λ t. t ++ others) cut.parts ∙ append_assoc cut.whole (cut.text ∷ cut.others) others;
    between = cut.between;
    before = cut.before;
    bytes = cut.bytes;
    failed = cut.failed;
    calls = cut.calls;
  }

-- ---- texts, and then one

module _ {X : Type 0} (f : X → List ℕ) (xs : List X) (last : List ℕ) where
  -- their bytes, one after the other
  all_texts : concat (map f xs ++ last ∷ []) ≡ flat_map f xs ++ last
  all_texts = concat-append (map f xs) (last ∷ [])
      ∙ ap₂ (λ a b. a ++ b) (concat_is (map f xs) ∙ flat_map-map (λ x. x) f xs) (append-nil last)

  -- their number
  how_many : length (map f xs ++ last ∷ []) ≡ length xs + 1
  how_many = length-append (map f xs) (last ∷ []) ∙ ap (λ n. n + 1) (length-map xs f)

  module _ (old mid new : SinkView) where
    -- if all but the last were taken, a call for each, and the last was put, all were put
    pub put_more : IsAppended old.bytes (flat_map f xs) mid.bytes → AreCounted (length xs) old.calls mid.calls
        → ArePut (last ∷ []) mid new → ArePut (map f xs ++ last ∷ []) old new
    put_more bytes calls put = record {
      bytes = subst (λ t. IsAppended old.bytes t new.bytes) (sym all_texts)
          (appended_then (flat_map f xs) last old.bytes mid.bytes new.bytes bytes
          (subst (λ t. IsAppended mid.bytes t new.bytes) (append-nil last) put.bytes));
      calls = subst (λ n. AreCounted n old.calls new.calls) (sym how_many)
          (counted_more (length xs) old.calls mid.calls new.calls calls (of_one mid.calls new.calls put.calls));
    }
      where
        of_one : (a b : Option ℕ) → AreCounted 1 a b → IsCounted a b
        of_one None b h = h
        of_one (Some o) b h = h

    -- if all but the last were taken, and the last was cut off, the texts were cut off
    pub cut_last : IsAppended old.bytes (flat_map f xs) mid.bytes → AreCounted (length xs) old.calls mid.calls
        → old.faults ≤ mid.faults → AreCut (last ∷ []) mid new
        → AreCut (map f xs ++ last ∷ []) old new
    cut_last bytes counted later cut = cut_after (map f xs) (last ∷ []) old mid new
        (subst (λ t. IsAppended old.bytes t mid.bytes) (sym (concat_is (map f xs) ∙ flat_map-map (λ x. x) f xs)) bytes)
        (subst (λ n. AreCounted n old.calls mid.calls) (sym (length-map xs f)) counted) later cut

  -- if those before the last were cut off, the texts were
  pub cut_before : (old new : SinkView) → AreCut (map f xs) old new → AreCut (map f xs ++ last ∷ []) old new
  cut_before old new cut = cut_ahead (map f xs) (last ∷ []) old new cut

-- ---- a text, and then others

-- one call before n others, or after them
count_first : (n before : ℕ) → counts_after n (next_count before) ≡ next_count (counts_after n before)
count_first zero before = refl
count_first (suc n) before = ap next_count (count_first n before)

-- one call, and then n
counted_then : (n : ℕ) (old mid new : Option ℕ) → AreCounted 1 old mid → AreCounted n mid new
    → AreCounted (suc n) old new
counted_then n None mid new h k = let m : mid ≡ None = h in (rw m at k)
counted_then n (Some o) mid new h k = (rw h at k) ∙ ap Some (count_first n o)

module _ (first : List ℕ) (texts : List (List ℕ)) where
  -- their bytes, one after the other
  both_are : concat (first ∷ texts) ≡ concat (first ∷ []) ++ concat texts
  both_are = concat-append (first ∷ []) texts

  module _ (old mid new : SinkView) where
    -- if the first was put, and then the others, all were put
    pub put_then : ArePut (first ∷ []) old mid → ArePut texts mid new → ArePut (first ∷ texts) old new
    put_then h k = record {
      bytes = subst (λ t. IsAppended old.bytes t new.bytes) (sym both_are)
          (appended_then (concat (first ∷ [])) (concat texts) old.bytes mid.bytes new.bytes h.bytes k.bytes);
      calls = counted_then (length texts) old.calls mid.calls new.calls h.calls k.calls;
    }

    -- if the first was put, and the others were cut off, they were cut off together
    pub cut_then : ArePut (first ∷ []) old mid → old.faults ≤ mid.faults → AreCut texts mid new
        → AreCut (first ∷ texts) old new
    cut_then h later k = cut_after (first ∷ []) texts old mid new h.bytes h.calls later k

    -- if the first was put, and the others were put or cut off, so were they together
    pub told_then : ArePut (first ∷ []) old mid → old.faults ≤ mid.faults → ArePutOrCut texts mid new
        → ArePutOrCut (first ∷ texts) old new
    told_then h later (inl k) = inl (put_then h k)
    told_then h later (inr k) = inr (cut_then h later k)

  -- if the first was cut off, they were cut off together
  cut_first : (old new : SinkView) → AreCut (first ∷ []) old new → AreCut (first ∷ texts) old new
  cut_first old new h = cut_ahead (first ∷ []) texts old new h

  -- a text is not put only because a write failed
  pub first_cut : (old new : SinkView) (r : Refusal) → IsNotPut (first ∷ []) old new r → r ≡ CannotWrite
      → AreCut (first ∷ texts) old new
  first_cut old new r h is = cut_first old new (subst (IsNotPut (first ∷ []) old new) is h)

  -- if a write failed for the first, they were not put together, for that cause
  pub first_not_put : (old new : SinkView) (r : Refusal) → IsNotPut (first ∷ []) old new r → r ≡ CannotWrite
      → IsNotPut (first ∷ texts) old new r
  first_not_put old new r h is = subst (IsNotPut (first ∷ texts) old new) (sym is) (first_cut old new r h is)
