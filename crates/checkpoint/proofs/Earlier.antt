-- Past entries that the states of a snapshot count: there are some, and the limit does not depend on which.
use Rattle.std.proofs.Common.{◌≡◌, ℕ, zero, suc, ◌+◌, ◌<◌, ◌≤◌, inl, inr, List, [], ◌∷◌, ◌++◌, length, refl}
use Rattle.std.proofs.Common.{sym, ap, ◌∙◌, Option, Some, slice_get, arith, subst, nat_le, ◌==◌, eq-eqb}
use Rattle.std.proofs.Common.{length-append}
use Rattle.std.specs.Prelude.{if◌then◌else◌}
use Rattle.std.specs.List.{sum_by}
use Rattle.std.proofs.lemmas.Bool.{cases_eq, ne_eqb}
use Rattle.std.proofs.lemmas.Option.{slice_get_cases}
use Rattle.std.proofs.lemmas.List.Elements.{filter-append}
use Rattle.std.proofs.lemmas.List.Sums.{sum_by-cons}
use Rattle.sim_base.specs.declared.message.Payload.TheVariants.{Tick}
use Rattle.sim_base.specs.declared.entry.Line.TheVariants.{Passed}
use Rattle.run_laws.specs.World.{log_of}
use Rattle.run_laws.proofs.Worlds.{log_here, log_there}
use Rattle.stations.specs.Handling.{StateView}
use Rattle.solo_run.specs.Limit.{receiver, first_beyond}
use Rattle.solo_run.specs.SoloView.{Entries}
use Rattle.checkpoint.specs.Laws.{HasHandled}

-- ---- ticks_of_all

-- n entries of station s
abbrev pub ticks_of : ℕ → ℕ → Entries
ticks_of s zero = []
ticks_of s (suc n) = record {
  msg = record { key = record { time = 0; sender = 0; number = 0 }; to = s; payload = Tick };
  line = Passed 0;
} ∷ ticks_of s n

-- as many entries as the stations from s on have handled messages
abbrev pub ticks_of_all : ℕ → List StateView → Entries
ticks_of_all s [] = []
ticks_of_all s (st ∷ sts) = ticks_of s st.handled ++ ticks_of_all (suc s) sts

length-ticks_of : (s n : ℕ) → length (ticks_of s n) ≡ n
length-ticks_of s zero = refl
length-ticks_of s (suc n) = let h = length-ticks_of s n in omega (arith, h)

-- they are the station's log
log_of-ticks_of_own : (s n : ℕ) → length (log_of receiver s (ticks_of s n)) ≡ n
log_of-ticks_of_own s zero = refl
log_of-ticks_of_own s (suc n) = let h = log_of-ticks_of_own s n in rw (eq-eqb s s refl) (omega (arith, h))

-- and no other's
log_of-ticks_of_other : (s r n : ℕ) → (s ≡ r → ⊥) → length (log_of receiver r (ticks_of s n)) ≡ 0
log_of-ticks_of_other s r zero other = refl
log_of-ticks_of_other s r (suc n) other = rw (ne_eqb s r other) (log_of-ticks_of_other s r n other)

length-log_of-append : (r : ℕ) (xs ys : Entries) →
    length (log_of receiver r (xs ++ ys)) ≡ length (log_of receiver r xs) + length (log_of receiver r ys)
length-log_of-append r xs ys =
    ap (λ (l : Entries). length l) (filter-append (λ e. e.msg.to == r) xs ys)
    ∙ length-append (log_of receiver r xs) (log_of receiver r ys)

-- stations before the first have none
log_of-ticks_before : (s r : ℕ) (sts : List StateView) → r < s → length (log_of receiver r (ticks_of_all s sts)) ≡ 0
log_of-ticks_before s r [] less = refl
log_of-ticks_before s r (st ∷ sts) less =
    let a = length-log_of-append r (ticks_of s st.handled) (ticks_of_all (suc s) sts) in
    let b = log_of-ticks_of_other s r st.handled (λ e. absurd (omega (arith, e))) in
    let c = log_of-ticks_before (suc s) r sts (omega arith) in
    omega (arith, a, b, c)

-- each station has as many as its state counts
log_of-ticks_at : (s i : ℕ) (sts : List StateView) (st : StateView) → slice_get sts i ≡ Some st →
    length (log_of receiver (s + i) (ticks_of_all s sts)) ≡ st.handled
log_of-ticks_at s i [] st is = absurd (cc)
log_of-ticks_at s zero (x ∷ xs) st is =
    let here : s + 0 ≡ s = omega arith in
    let same : x ≡ st = cc in
    let a = length-log_of-append s (ticks_of s x.handled) (ticks_of_all (suc s) xs) in
    let b = log_of-ticks_of_own s x.handled in
    let c = log_of-ticks_before (suc s) s xs (omega arith) in
    let count = ap (λ (t : StateView). t.handled) same in
    subst (λ (r : ℕ). length (log_of receiver r (ticks_of_all s (x ∷ xs))) ≡ st.handled) (sym here)
    (omega (arith, a, b, c, count))
log_of-ticks_at s (suc i) (x ∷ xs) st is =
    let next : s + suc i ≡ suc s + i = omega arith in
    let a = length-log_of-append (suc s + i) (ticks_of s x.handled) (ticks_of_all (suc s) xs) in
    let b = log_of-ticks_of_other s (suc s + i) x.handled (λ e. absurd (omega (arith, e))) in
    let c = log_of-ticks_at (suc s) i xs st is in
    subst (λ (r : ℕ). length (log_of receiver r (ticks_of_all s (x ∷ xs))) ≡ st.handled) (sym next)
    (omega (arith, a, b, c))

-- stations after the last have none
log_of-ticks_after : (s r : ℕ) (sts : List StateView) → s + length sts ≤ r →
    length (log_of receiver r (ticks_of_all s sts)) ≡ 0
log_of-ticks_after s r [] more = refl
log_of-ticks_after s r (st ∷ sts) more =
    let a = length-log_of-append r (ticks_of s st.handled) (ticks_of_all (suc s) sts) in
    let b = log_of-ticks_of_other s r st.handled (λ e. absurd (omega (arith, e, more))) in
    let c = log_of-ticks_after (suc s) r sts (omega (arith, more)) in
    omega (arith, a, b, c)

length-ticks_of_all : (s : ℕ) (sts : List StateView) →
    length (ticks_of_all s sts) ≡ sum_by (λ st. st.handled) sts
length-ticks_of_all s [] = refl
length-ticks_of_all s (x ∷ xs) =
    let a = length-append (ticks_of s x.handled) (ticks_of_all (suc s) xs) in
    let b = length-ticks_of s x.handled in
    let c = length-ticks_of_all (suc s) xs in
    let d = sum_by-cons (λ (st : StateView). st.handled) x xs in
    omega (arith, a, b, c, d)

-- so these are past entries that the states count
pub ticks_of_all-handled : (sts : List StateView) → HasHandled sts (ticks_of_all 1 sts)
ticks_of_all-handled sts = record {
  each = λ i st is.
      let h = log_of-ticks_at 1 i sts st is in
      let place : 1 + i ≡ i + 1 = omega arith in
      subst (λ (r : ℕ). st.handled ≡ length (log_of receiver r (ticks_of_all 1 sts))) place (sym h);
  none = λ s outside. elim outside [
    | inl zero_is ↦ log_of-ticks_before 1 s sts (omega (arith, zero_is))
    | inr beyond ↦ log_of-ticks_after 1 s sts (omega (arith, beyond))
  ];
  total = length-ticks_of_all 1 sts;
}

-- ---- first_beyond

-- only the lengths of the logs before matter
first_beyond-lengths : (limit : ℕ) (p q es : Entries) →
    ((s : ℕ) → length (log_of receiver s p) ≡ length (log_of receiver s q)) →
    first_beyond limit p es ≡ first_beyond limit q es
first_beyond-lengths limit p q [] same = refl
first_beyond-lengths limit p q (e ∷ es) same =
    let rest = first_beyond-lengths limit (p ++ e ∷ []) (q ++ e ∷ []) es (λ s. elim (cases_eq e.msg.to s) [
      | inl here ↦
          let a = ap (λ (l : Entries). length l) (log_here receiver s p e here) in
          let b = ap (λ (l : Entries). length l) (log_here receiver s q e here) in
          let c = length-append (log_of receiver s p) (e ∷ []) in
          let d = length-append (log_of receiver s q) (e ∷ []) in
          let now = same s in
          omega (arith, a, b, c, d, now)
      | inr other ↦
          let a = ap (λ (l : Entries). length l) (log_there receiver s p e other) in
          let b = ap (λ (l : Entries). length l) (log_there receiver s q e other) in
          let now = same s in
          omega (arith, a, b, now)
    ]) in
    ap (λ (n : ℕ). if nat_le limit n then Some e.msg.to else first_beyond limit (p ++ e ∷ []) es) (same e.msg.to)
    ∙ ap (λ (o : Option ℕ). if nat_le limit (length (log_of receiver e.msg.to q)) then Some e.msg.to else o) rest

-- so any past entries that the same states count give the same
pub first_beyond-same : (limit : ℕ) (sts : List StateView) (p q es : Entries) → HasHandled sts p → HasHandled sts q →
    first_beyond limit p es ≡ first_beyond limit q es
first_beyond-same limit sts p q es hp hq = first_beyond-lengths limit p q es same
  where
    same : (s : ℕ) → length (log_of receiver s p) ≡ length (log_of receiver s q)
    same zero = hp.none 0 (inl refl) ∙ sym (hq.none 0 (inl refl))
    same (suc i) = elim (slice_get_cases sts i).1 [
      | inl found ↦
          let place : i + 1 ≡ suc i = omega arith in
          subst (λ (r : ℕ). length (log_of receiver r p) ≡ length (log_of receiver r q)) place
          (sym (hp.each i found.0 found.2) ∙ hq.each i found.0 found.2)
      | inr past ↦
          let beyond : length sts < suc i = let h = past.0 in omega (arith, h) in
          hp.none (suc i) (inr beyond) ∙ sym (hq.none (suc i) (inr beyond))
    ]
