-- The tests of pending messages and of stations, one place more.
use Rattle.std.proofs.Common.{◌≡◌, ℕ, zero, suc, ◌+◌, ◌-◌, ◌<◌, ◌≤◌, ◌^◌, ◌==◌, Bool, true, false, nat_lt}
use Rattle.std.proofs.Common.{nat_le, List, [], ◌∷◌}
use Rattle.std.proofs.Common.{length, get_or, take, drop, refl, sym, ap, ◌∙◌, subst, arith, Option, Some}
use Rattle.std.proofs.Common.{slice_get}
use Rattle.std.proofs.Common.{ltb-true}
use Rattle.std.specs.Prelude.{◌&&◌, if◌then◌else◌}
use Rattle.std.proofs.lemmas.Bool.{and_parts, leb-true}
use Rattle.std.proofs.lemmas.List.{drop_more, take_more, length-take-le}
use Rattle.sim_base.specs.declared.message.Msg.{Msg}
use Rattle.sim_base.specs.declared.message.Payload.{Payload}
use Rattle.sim_base.specs.declared.message.Payload.TheVariants.{Tick, Job, Done, Set}
use Rattle.net_model.specs.declared.limits.TheConstants.{MAX_STATIONS}
use Rattle.net_model.specs.Net.{Net}
use Rattle.stations.specs.Fitting.{fits_saved}
use Rattle.stations.specs.declared.saved.Saved.{Saved}
use Rattle.checkpoint.specs.RunKeeps.{completions_in, completions_to}
use Rattle.checkpoint.specs.Tally.{tally}
use Rattle.checkpoint.proofs.Tallying.{tally-append}
use Rattle.checkpoint.specs.Accepted.{first_unfit}
use Rattle.checkpoint.specs.Due.{first_bad, may_be_due, may_carry, next_in, next_of}
use Rattle.snapshot_text.specs.Counts.{HasCounts, is_in_time}

-- the number of a station's next message
pub next_of_station : (saved : List Saved) (s : ℕ) → 0 < s → next_of saved s ≡ next_in (slice_get saved (s - 1))
next_of_station saved zero some = absurd (omega (arith, some))
next_of_station saved (suc i) some =
    let same : i ≡ suc i - 1 = omega arith in
    ap (λ (n : ℕ). next_in (slice_get saved n)) same

-- ---- first_unfit

module _ (net : Net) (xs : List Saved) (i : ℕ) (d : Saved) (less : i < length xs) where
  unfit_more : first_unfit net (1 + i) (drop i xs) ≡ first_unfit net (1 + i) (get_or xs i d ∷ drop (i + 1) xs)
  unfit_more = ap (first_unfit net (1 + i)) (drop_more xs i d less)

  -- a station that fits, and one that does not
  pub unfit_next : fits_saved net (i + 1) (get_or xs i d) ≡ true
      → first_unfit net (1 + i) (drop i xs) ≡ first_unfit net (1 + (i + 1)) (drop (i + 1) xs)
  unfit_next fits =
      let same : i + 1 ≡ 1 + i = omega arith in
      let next : suc (1 + i) ≡ 1 + (i + 1) = omega arith in
      unfit_more ∙ rw (subst (λ (s : ℕ). fits_saved net s (get_or xs i d) ≡ true) same fits)
      (ap (λ (s : ℕ). first_unfit net s (drop (i + 1) xs)) next)

  pub unfit_here : fits_saved net (i + 1) (get_or xs i d) ≡ false
      → first_unfit net (1 + i) (drop i xs) ≡ Some (i + 1)
  unfit_here bad =
      let same : i + 1 ≡ 1 + i = omega arith in
      unfit_more ∙ rw (subst (λ (s : ℕ). fits_saved net s (get_or xs i d) ≡ false) same bad)
      (ap (λ (s : ℕ). let o : Option ℕ = Some s in o) (sym same))

-- ---- first_bad

at_most_one : (b : Bool) (p : Payload) → (if b then completions_in p else 0) ≤ 1
at_most_one false p = omega arith
at_most_one true Tick = omega arith
at_most_one true (Job j) = omega arith
at_most_one true (Done j) = omega arith
at_most_one true (Set c) = omega arith

-- completions are at most as many as messages
pub tally_length : (s : ℕ) (ms : List Msg) → tally (completions_to s) ms ≤ length ms
tally_length s [] = omega arith
tally_length s (m ∷ ms) =
    let rest = tally_length s ms in
    let one = at_most_one (m.to == s) m.payload in
    omega (arith, rest, one)

module _ (net : Net) (front : ℕ) (saved : List Saved) (few : length net.sites ≤ MAX_STATIONS) where
  module _ (counts : List ℕ) (before : List Msg) (has : HasCounts counts before) (last : Option Msg) (m : Msg) where
    abbrev test : Bool → ℕ → Bool
    test b n = is_in_time front last m
        && ((b && nat_le m.key.sender (length net.sites))
        && (nat_lt m.key.number (next_of saved m.key.sender) && may_carry net saved n m.to m.payload))

    -- the count at its receiver is that of the completions before it, where the receiver is a station
    same_test : may_be_due net front saved (get_or counts (m.to - 1) 0) last m
        ≡ may_be_due net front saved (tally (completions_to m.to) before) last m
    same_test = by (nat_lt 0 m.to && nat_le m.to (length net.sites)) refl
      where
        by : (b : Bool) → (nat_lt 0 m.to && nat_le m.to (length net.sites)) ≡ b
            → test b (get_or counts (m.to - 1) 0) ≡ test b (tally (completions_to m.to) before)
        by false is = refl
        by true is =
            let parts : (nat_lt 0 m.to ≡ true) × (nat_le m.to (length net.sites) ≡ true) =
            and_parts (nat_lt 0 m.to) (nat_le m.to (length net.sites)) is in
            let low = ltb-true 0 m.to parts.0 in
            let high = leb-true m.to (length net.sites) parts.1 in
            let there : m.to - 1 + 1 ≡ m.to = omega (arith, low) in
            ap (test true) (has.each (m.to - 1) (omega (arith, low, high, few))
            ∙ ap (λ (s : ℕ). tally (completions_to s) before) there)

  module _ (due : List Msg) (i : ℕ) (d : Msg) (less : i < length due) (counts : List ℕ)
      (has : HasCounts counts (take i due)) (last : Option Msg) where
    bad_more : first_bad net front saved (take i due) last (drop i due)
        ≡ first_bad net front saved (take i due) last (get_or due i d ∷ drop (i + 1) due)
    bad_more = ap (first_bad net front saved (take i due) last) (drop_more due i d less)

    -- a message that may be pending, and one that may not
    pub bad_next : may_be_due net front saved (get_or counts ((get_or due i d).to - 1) 0) last (get_or due i d) ≡ true
        → first_bad net front saved (take i due) last (drop i due)
        ≡ first_bad net front saved (take (i + 1) due) (Some (get_or due i d)) (drop (i + 1) due)
    bad_next good =
        bad_more ∙ rw (sym (same_test counts (take i due) has last (get_or due i d)) ∙ good)
        (ap (λ (l : List Msg). first_bad net front saved l (Some (get_or due i d)) (drop (i + 1) due))
        (sym (take_more due i d less)))

    pub bad_here : may_be_due net front saved (get_or counts ((get_or due i d).to - 1) 0) last (get_or due i d) ≡ false
        → first_bad net front saved (take i due) last (drop i due) ≡ Some i
    bad_here bad =
        bad_more ∙ rw (sym (same_test counts (take i due) has last (get_or due i d)) ∙ bad)
        (ap (λ (n : ℕ). let o : Option ℕ = Some n in o) (length-take-le i due (omega (arith, less))))

    -- the counts after the message
    pub counts_next : (new : List ℕ) → length new ≡ MAX_STATIONS
        → ((s : ℕ) → s < MAX_STATIONS → get_or new s 0 ≡ get_or counts s 0 + completions_to (s + 1) (get_or due i d))
        → HasCounts new (take (i + 1) due)
    counts_next new stations counted = record {
      stations = stations;
      each = λ s within.
          let one = counted s within in
          let old = has.each s within in
          let parts = tally-append (completions_to (s + 1)) (take i due) (get_or due i d ∷ []) in
          let all = ap (tally (completions_to (s + 1))) (take_more due i d less) in
          omega (arith, one, old, parts, all);
    }

    -- there is room for one completion more
    pub count_room : (k : ℕ) → 1 ≤ k → k ≤ MAX_STATIONS → length due < 2 ^ 64 → get_or counts (k - 1) 0 < 2 ^ 64 - 1
    count_room k low high small =
        let old = has.each (k - 1) (omega (arith, low, high)) in
        let most = tally_length (k - 1 + 1) (take i due) in
        let taken = length-take-le i due (omega (arith, less)) in
        omega (arith, old, most, taken, less, small)
