-- The tests of a snapshot find the first station and the first message that break a rule.
use Rattle.std.proofs.Common.{◌≡◌, ℕ, zero, suc, ◌+◌, ◌-◌, ◌<◌, ◌≤◌, ◌⊎◌, inl, inr, List, [], ◌∷◌, ◌++◌, length, take, refl}
use Rattle.std.proofs.Common.{sym, ap, ◌∙◌, Option, Some, None, slice_get, Bool, true, false, arith, subst}
use Rattle.std.proofs.Common.{append-nil, append_assoc, length-append}
use Rattle.std.specs.Prelude.{if◌then◌else◌}
use Rattle.std.proofs.lemmas.Bool.{cases_lt}
use Rattle.std.proofs.lemmas.Option.{same_Some, slice_get_past}
use Rattle.sim_base.specs.declared.message.Msg.{Msg}
use Rattle.sim_base.proofs.ListLaws.{take-append}
use Rattle.net_model.specs.Net.{Net}
use Rattle.stations.specs.Fitting.{fits_saved}
use Rattle.stations.specs.declared.saved.Saved.{Saved}
use Rattle.checkpoint.specs.RunKeeps.{completions_to}
use Rattle.checkpoint.specs.Tally.{tally}
use Rattle.checkpoint.specs.Accepted.{first_unfit}
use Rattle.checkpoint.specs.Due.{first_bad, may_be_due}
use Rattle.checkpoint.specs.Firsts.{FindsFirst, FirstBadIsFirst, FirstUnfitIsFirst, IsBad, IsFirst, IsUnfit}
use Rattle.checkpoint.specs.Firsts.{message_before}

module _ (net : Net) where
  -- ---- first_unfit

  -- the data at place i does not fit station s + i
  record IsUnfitAt (s : ℕ) (xs : List Saved) (i : ℕ) : Type 0 where
    pub contents : Saved
    pub is_there : slice_get xs i ≡ Some contents
    pub unfit : fits_saved net (s + i) contents ≡ false

  -- the first place of all is found, as the station s + i
  record IsFoundAt (s : ℕ) (xs : List Saved) (station : ℕ) : Type 0 where
    pub place : ℕ
    pub is : station ≡ s + place
    pub first : IsFirst (IsUnfitAt s xs) place

  abbrev Finds : ℕ → List Saved → Option ℕ → Type 0
  Finds s xs None = (i : ℕ) → ¬ IsUnfitAt s xs i
  Finds s xs (Some station) = IsFoundAt s xs station

  -- data that fits does not count
  not_first : (s : ℕ) (x : Saved) (xs : List Saved) (i : ℕ) → fits_saved net s x ≡ true
      → ((j : ℕ) → j < i → ¬ IsUnfitAt (suc s) xs j) → (j : ℕ) → j < suc i → ¬ IsUnfitAt s (x ∷ xs) j
  not_first s x xs i fits none zero less is =
      let here : s + 0 ≡ s = omega arith in
      let same : x ≡ is.contents = same_Some x is.contents is.is_there in
      let bad : fits_saved net s x ≡ false = subst (λ (y : Saved). fits_saved net s y ≡ false) (sym same)
      (subst (λ (r : ℕ). fits_saved net r is.contents ≡ false) here is.unfit) in
      absurd (cc)
  not_first s x xs i fits none (suc j) less is =
      let next : s + suc j ≡ suc s + j = omega arith in
      none j (omega (arith, less)) (record {
        contents = is.contents;
        is_there = is.is_there;
        unfit = subst (λ (r : ℕ). fits_saved net r is.contents ≡ false) next is.unfit;
      })

  -- a later first is a first of all
  found_later : (s : ℕ) (x : Saved) (xs : List Saved) (o : Option ℕ) → fits_saved net s x ≡ true
      → Finds (suc s) xs o → Finds s (x ∷ xs) o
  found_later s x xs None fits none = λ i is.
      not_first s x xs i fits (λ j less. none j) i (omega arith) is
  found_later s x xs (Some station) fits found =
      let at = found.is in
      let first = found.first in
      let next : s + suc found.place ≡ suc s + found.place = omega arith in
      record {
        place = suc found.place;
        is = omega (arith, at);
        first = record {
          holds = record {
            contents = first.holds.contents;
            is_there = first.holds.is_there;
            unfit = subst (λ (r : ℕ). fits_saved net r first.holds.contents ≡ false) (sym next) first.holds.unfit;
          };
          none_before = not_first s x xs found.place fits first.none_before;
        };
      }

  first_unfit-finds : (s : ℕ) (xs : List Saved) → Finds s xs (first_unfit net s xs)
  first_unfit-finds s [] = λ i is. let there = is.is_there in absurd (cc)
  first_unfit-finds s (x ∷ xs) = by (fits_saved net s x) refl (first_unfit-finds (suc s) xs)
    where
      by : (b : Bool) → fits_saved net s x ≡ b → Finds (suc s) xs (first_unfit net (suc s) xs)
          → Finds s (x ∷ xs) (if b then first_unfit net (suc s) xs else Some s)
      by true fits later = found_later s x xs (first_unfit net (suc s) xs) fits later
      by false unfit later =
          let here : s + 0 ≡ s = omega arith in
          record {
            place = 0;
            is = sym here;
            first = record {
              holds = record {
                contents = x;
                is_there = refl;
                unfit = subst (λ (r : ℕ). fits_saved net r x ≡ false) (sym here) unfit;
              };
              none_before = λ j less. absurd (omega (arith, less));
            };
          }

  -- stations count from 1
  unfit_at : (xs : List Saved) (station i : ℕ) → station ≡ 1 + i → IsUnfitAt 1 xs i → IsUnfit net xs station
  unfit_at xs station i at is =
      let place : station - 1 ≡ i = omega (arith, at) in
      record {
        contents = is.contents;
        low = omega (arith, at);
        is_its = subst (λ (k : ℕ). slice_get xs k ≡ Some is.contents) (sym place) is.is_there;
        unfit = subst (λ (r : ℕ). fits_saved net r is.contents ≡ false) (sym at) is.unfit;
      }

  unfit_place : (xs : List Saved) (station : ℕ) → IsUnfit net xs station → IsUnfitAt 1 xs (station - 1)
  unfit_place xs station is =
      let low = is.low in
      let at : station ≡ 1 + (station - 1) = omega (arith, low) in
      record {
        contents = is.contents;
        is_there = is.is_its;
        unfit = subst (λ (r : ℕ). fits_saved net r is.contents ≡ false) at is.unfit;
      }

  pub first_unfit_is_first : FirstUnfitIsFirst net
  first_unfit_is_first xs = by (first_unfit net 1 xs) (first_unfit-finds 1 xs)
    where
      by : (o : Option ℕ) → Finds 1 xs o → FindsFirst (IsUnfit net xs) o
      by None none = λ station is. none (station - 1) (unfit_place xs station is)
      by (Some station) found =
          let at = found.is in
          record {
            holds = unfit_at xs station found.place at found.first.holds;
            none_before = λ r less is.
                let low = is.low in
                found.first.none_before (r - 1) (omega (arith, at, less, low)) (unfit_place xs r is);
          }

-- ---- first_bad

-- the next element after others
slice_get-seam : {X : Type 0} (xs : List X) (y : X) (ys : List X) → slice_get (xs ++ y ∷ ys) (length xs) ≡ Some y
slice_get-seam [] y ys = refl
slice_get-seam (x ∷ xs) y ys = slice_get-seam xs y ys

module _ (net : Net) (front : ℕ) (saved : List Saved) (due : List Msg) where
  abbrev Bad : ℕ → Type 0
  Bad i = IsBad net front saved due i

  -- the message before others
  message_before-length : (before : List Msg) (m : Msg) (ms : List Msg) → due ≡ before ++ m ∷ ms
      → message_before due (length (before ++ m ∷ [])) ≡ Some m
  message_before-length before m ms parts =
      let long : length (before ++ m ∷ []) ≡ suc (length before) =
      let both = length-append before (m ∷ []) in omega (arith, both) in
      ap (message_before due) long ∙ ap (λ (l : List Msg). slice_get l (length before)) parts
      ∙ slice_get-seam before m ms

  -- a place among the first messages, one more than before
  before_or_here : (before : List Msg) (m : Msg) → (j : ℕ) → j < length (before ++ m ∷ [])
      → (j < length before) ⊎ (j ≡ length before)
  before_or_here before m j less =
      let both = length-append before (m ∷ []) in
      elim (cases_lt j (length before)) [ inl l ↦ inl l | inr more ↦ inr (omega (arith, both, less, more)) ]

  -- whether the message after others is bad
  module _ (before : List Msg) (last : Option Msg) (m : Msg) (ms : List Msg) (parts : due ≡ before ++ m ∷ ms)
      (is_last : last ≡ message_before due (length before)) where
    there : slice_get due (length before) ≡ Some m
    there = ap (λ (l : List Msg). slice_get l (length before)) parts ∙ slice_get-seam before m ms

    tested : may_be_due net front saved (tally (completions_to m.to) before) last m
        ≡ may_be_due net front saved (tally (completions_to m.to) (take (length before) due))
        (message_before due (length before)) m
    tested =
        let first : take (length before) due ≡ before =
        ap (take (length before)) parts ∙ take-append before (m ∷ ms) (length before) refl in
        ap (λ (l : List Msg). may_be_due net front saved (tally (completions_to m.to) l) last m) (sym first)
        ∙ ap (λ (o : Option Msg). may_be_due net front saved
        (tally (completions_to m.to) (take (length before) due)) o m) is_last

    bad_here : may_be_due net front saved (tally (completions_to m.to) before) last m ≡ false → Bad (length before)
    bad_here bad = record { message = m; is_there = there; bad = sym tested ∙ bad }

    good_here : may_be_due net front saved (tally (completions_to m.to) before) last m ≡ true → ¬ Bad (length before)
    good_here good is =
        let same : is.message ≡ m = same_Some is.message m (sym is.is_there ∙ there) in
        let bad = subst (λ (x : Msg). may_be_due net front saved
        (tally (completions_to x.to) (take (length before) due)) (message_before due (length before)) x ≡ false) same
        is.bad in
        let both : may_be_due net front saved (tally (completions_to m.to) before) last m ≡ false = tested ∙ bad in
        absurd (cc)

  first_bad-finds : (before : List Msg) (last : Option Msg) (ms : List Msg) → due ≡ before ++ ms
      → last ≡ message_before due (length before) → ((j : ℕ) → j < length before → ¬ Bad j)
      → FindsFirst Bad (first_bad net front saved before last ms)
  first_bad-finds before last [] parts is_last none = λ i is. elim (cases_lt i (length before)) [
    | inl less ↦ none i less is
    | inr past ↦
        let whole : due ≡ before = parts ∙ append-nil before in
        let long : length due ≤ i = subst (λ (l : List Msg). length l ≤ i) (sym whole) past in
        let nothing = slice_get_past due i long in
        let there = is.is_there in
        absurd (cc)
  ]
  first_bad-finds before last (m ∷ ms) parts is_last none =
      by (may_be_due net front saved (tally (completions_to m.to) before) last m) refl
      (first_bad-finds (before ++ m ∷ []) (Some m) ms (parts ∙ sym (append_assoc before (m ∷ []) ms))
      (sym (message_before-length before m ms parts)))
    where
      later : Option ℕ
      later = first_bad net front saved (before ++ m ∷ []) (Some m) ms

      by : (b : Bool) → may_be_due net front saved (tally (completions_to m.to) before) last m ≡ b
          → (((j : ℕ) → j < length (before ++ m ∷ []) → ¬ Bad j) → FindsFirst Bad later)
          → FindsFirst Bad (if b then later else Some (length before))
      by false bad next = record {
        holds = bad_here before last m ms parts is_last bad;
        none_before = none;
      }
      by true good next = next (λ j less is. elim (before_or_here before m j less) [
        | inl l ↦ none j l is
        | inr here ↦ good_here before last m ms parts is_last good (subst Bad here is)
      ])

pub first_bad_is_first : (net : Net) → FirstBadIsFirst net
first_bad_is_first net front saved due =
    first_bad-finds net front saved due [] None due refl refl (λ j less. absurd (omega (arith, less)))
