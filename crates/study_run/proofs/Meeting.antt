-- Where a run of clones meets the limit.
use Rattle.std.proofs.Common.{◌≡◌, ◌⊎◌, inl, inr, ℕ, zero, suc, ◌<◌, ◌≤◌, refl, sym}
use Rattle.std.proofs.Common.{ap, ◌∙◌, subst, arith, List, [], ◌∷◌, Option, Some, None}
use Rattle.std.proofs.lemmas.Bool.{cases_lt}
use Rattle.std.specs.Option.{option_or}
use Rattle.sim_base.specs.Clones.{Clone, clone_at}
use Rattle.net_model.specs.Net.{Net}
use Rattle.net_model.specs.Rules.{IsNet}
use Rattle.run_laws.specs.Queue.{In}
use Rattle.run_laws.specs.Fronts.{least}
use Rattle.run_laws.proofs.Gaining.{IsBeyond-later}
use Rattle.run_laws.proofs.NextFronts.{fronts-go_on, fronts-unique, window_end-within}
use Rattle.stations.specs.Runs.{AreFronts, next_front, simulation}
use Rattle.stations.proofs.GoodLaws.{lawful-stations}
use Rattle.world_core.specs.Overs.{IsFirstBeyond, NoneBeyond}
use Rattle.study_run.specs.Limits.{AreWithin, MeetsLimit}
use Rattle.study_run.specs.Laws.{MeetingIsFound, MeetingIsOne, NotWithinAndMet, WithinIsNotFound, WithinOrMet}
use Rattle.study_run.specs.Overs.{first_overrun, first_overrun_of, overrun_at}
use Rattle.study_run.proofs.OverLaws.{first_overrun-ended, is_first, no_windows, none_beyond, rises, window_more}
use Rattle.study_run.proofs.OverLaws.{within_horizon}

-- ---- fronts

module _ (net : Net) (valid : IsNet net) (cs : List Clone) where
  -- the fronts after a front are later
  AreFronts-later : (front : ℕ) (fs : List ℕ) → AreFronts net cs front fs → (g : ℕ) → In g fs → front < g
  AreFronts-later front [] h g i = absurd i
  AreFronts-later front (f ∷ fs) h g (inl e) =
      let is = h.1 in let up = rises net cs valid front h.0 in omega (arith, is, up, e)
  AreFronts-later front (f ∷ fs) h g (inr i) =
      let is = h.1 in
      let up = rises net cs valid front h.0 in
      let more = AreFronts-later f fs h.2 g i in
      omega (arith, is, up, more)

  -- none is past the horizon
  in_horizon : (front : ℕ) (fs : List ℕ) → AreFronts net cs front fs → (g : ℕ) → In g fs → g ≤ net.horizon
  in_horizon front [] h g i = absurd i
  in_horizon front (f ∷ fs) h g (inl e) =
      let is = h.1 in
      let within : next_front net cs front ≤ net.horizon =
      window_end-within (simulation net) (least (simulation net) cs front) in
      omega (arith, is, within, e)
  in_horizon front (f ∷ fs) h g (inr i) = in_horizon f fs h.2 g i

-- ---- MeetsLimit

-- from a front on, at the least window end with a log beyond the limit
record MeetsFrom (net : Net) (cs : List Clone) (front s c : ℕ) : Type 0 where
  pub fronts : List ℕ
  pub are_fronts : AreFronts net cs front fronts
  pub bound : ℕ
  pub is_one : In bound fronts
  pub first : IsFirstBeyond net cs bound s c
  pub before : (f : ℕ) → In f fronts → f < bound → NoneBeyond net cs f

module _ (net : Net) (valid : IsNet net) (cs : List Clone) where
  -- the limit is met in the next window or after it
  meets_next : (n front s c : ℕ) (below : front < net.horizon) (o : Option (ℕ × ℕ))
      → overrun_at net cs (next_front net cs front) ≡ o
      → option_or o (first_overrun net cs n (next_front net cs front)) ≡ Some (s, c)
      → (first_overrun net cs n (next_front net cs front) ≡ Some (s, c)
      → MeetsFrom net cs (next_front net cs front) s c)
      → MeetsFrom net cs front s c
  meets_next n front s c below (Some p) e h on =
      let f : ℕ = next_front net cs front in
      let ahead = valid.lookahead_min in
      let within : f ≤ net.horizon = window_end-within (simulation net) (least (simulation net) cs front) in
      let more = fronts-go_on (lawful-stations net valid) cs f (omega (arith, ahead)) within in
      record {
        fronts = f ∷ more.0;
        are_fronts = (below, refl, more.1);
        bound = f;
        is_one = inl refl;
        first = is_first net cs f s c (e ∙ h);
        before = none_before more.0 more.1;
      }
    where
      none_before : (fs : List ℕ) → AreFronts net cs (next_front net cs front) fs → (g : ℕ)
          → In g (next_front net cs front ∷ fs) → g < next_front net cs front → NoneBeyond net cs g
      none_before fs are g (inl is) less = absurd (omega (arith, is, less))
      none_before fs are g (inr i) less =
          let after = AreFronts-later net valid cs (next_front net cs front) fs are g i in
          absurd (omega (arith, after, less))
  meets_next n front s c below None e h on =
      let m = on h in
      record {
        fronts = next_front net cs front ∷ m.fronts;
        are_fronts = (below, refl, m.are_fronts);
        bound = m.bound;
        is_one = inr m.is_one;
        first = m.first;
        before = none_before m.fronts m.before;
      }
    where
      none_before : {bound : ℕ} (fs : List ℕ) → ((f : ℕ) → In f fs → f < bound → NoneBeyond net cs f)
          → (g : ℕ) → In g (next_front net cs front ∷ fs) → g < bound → NoneBeyond net cs g
      none_before fs before g (inl is) less =
          subst (NoneBeyond net cs) (sym is) (none_beyond net cs (next_front net cs front) e)
      none_before fs before g (inr i) less = before g i less

  -- what the search finds from a front on
  meets_from : (n front s c : ℕ) → first_overrun net cs n front ≡ Some (s, c) → MeetsFrom net cs front s c
  meets_from zero front s c h = absurd (no_windows net cs front s c h)
  meets_from (suc n) front s c h = elim (cases_lt front net.horizon) [
    | inl below ↦ meets_next n front s c below (overrun_at net cs (next_front net cs front)) refl
        (sym (window_more net cs n front below) ∙ h)
        (λ rest. meets_from n (next_front net cs front) s c rest)
    | inr past ↦ absurd (let k = sym (first_overrun-ended net cs (suc n) front past) ∙ h in cc)
  ]

  -- if the search finds it, the limit is met
  pub found_met : (s c : ℕ) → first_overrun_of net cs ≡ Some (s, c) → MeetsLimit net cs s c
  found_met s c h =
      let m = meets_from net.horizon 0 s c h in
      record {
        bound = m.bound;
        is_end = record { fronts = m.fronts; are_fronts = m.are_fronts; is_one = m.is_one };
        first = m.first;
        before = λ f e less. m.before f
            (subst (In f) (fronts-unique (simulation net) cs 0 e.fronts m.fronts e.are_fronts m.are_fronts) e.is_one)
            less;
      }

  -- if it is met, not all logs are within the limit
  not_within : (s c : ℕ) → AreWithin net cs → MeetsLimit net cs s c → ⊥
  not_within s c h m =
      let e = m.is_end in
      let first = m.first in
      let early = in_horizon net valid cs 0 e.fronts e.are_fronts m.bound e.is_one in
      let is = first.is_station in
      let long = IsBeyond-later (lawful-stations net valid) (clone_at cs c) s m.bound net.horizon early first.beyond in
      absurd (h c first.clone s (is.low, is.high) long)

-- at one bound there is one first
first_is_one : (net : Net) (cs : List Clone) (bound s c t d : ℕ) → IsFirstBeyond net cs bound s c
    → IsFirstBeyond net cs bound t d → (s ≡ t) × (c ≡ d)
first_is_one net cs bound s c t d a b = elim (cases_lt s t) [
  | inl less ↦ absurd (b.least_station s a.is_station.low less c a.clone a.beyond)
  | inr most ↦ elim (cases_lt t s) [
    | inl less ↦ absurd (a.least_station t b.is_station.low less d b.clone b.beyond)
    | inr least ↦
        let same : t ≡ s = omega (arith, most, least) in
        let b' : IsFirstBeyond net cs bound s d = subst (λ k. IsFirstBeyond net cs bound k d) same b in (
          sym same,
          elim (cases_lt c d) [
            | inl less ↦ absurd (b'.least_clone c less a.beyond)
            | inr many ↦ elim (cases_lt d c) [
              | inl less ↦ absurd (a.least_clone d less b'.beyond)
              | inr few ↦ omega (arith, many, few)
            ]
          ],
        )
  ]
]

-- ---- the laws

-- the limit is met at no more than one station and clone
pub meeting_is_one : MeetingIsOne
meeting_is_one net cs s c t d m k = elim (cases_lt m.bound k.bound) [
  | inl less ↦ let first = m.first in
      let is = first.is_station in
      absurd (k.before m.bound m.is_end less c first.clone s (is.low, is.high) first.beyond)
  | inr most ↦ elim (cases_lt k.bound m.bound) [
    | inl less ↦ let first = k.first in
        let is = first.is_station in
        absurd (m.before k.bound k.is_end less d first.clone t (is.low, is.high) first.beyond)
    | inr least ↦
        let same : k.bound ≡ m.bound = omega (arith, most, least) in
        first_is_one net cs m.bound s c t d m.first (subst (λ b. IsFirstBeyond net cs b t d) same k.first)
  ]
]

-- it is not met if all logs are within the limit
pub not_both : NotWithinAndMet
not_both net valid cs s c h m = not_within net valid cs s c h m

-- all are within the limit, or it is met as the search finds it
first_overrun_of-cases : (net : Net) → IsNet net → (cs : List Clone) (o : Option (ℕ × ℕ)) → first_overrun_of net cs ≡ o
    → AreWithin net cs ⊎ ((s : ℕ) × ((c : ℕ) × ((first_overrun_of net cs ≡ Some (s, c)) × MeetsLimit net cs s c)))
first_overrun_of-cases net valid cs None e = inl (within_horizon net cs valid e)
first_overrun_of-cases net valid cs (Some (s, c)) e = inr (s, (c, (e, found_met net valid cs s c e)))

-- all logs are within the limit, or it is met
pub within_or_met : WithinOrMet
within_or_met net valid cs = elim (first_overrun_of-cases net valid cs (first_overrun_of net cs) refl) [
  | inl within ↦ inl within
  | inr met ↦ inr (met.0, (met.1.0, met.1.1.1))
]

-- if it is met, the search finds it
met_found : (net : Net) → IsNet net → (cs : List Clone) (s c : ℕ) → MeetsLimit net cs s c
    → first_overrun_of net cs ≡ Some (s, c)
met_found net valid cs s c m = elim (first_overrun_of-cases net valid cs (first_overrun_of net cs) refl) [
  | inl within ↦ absurd (not_within net valid cs s c within m)
  | inr met ↦
      let same = meeting_is_one net cs met.0 met.1.0 s c met.1.1.1 m in
      let e = met.1.1.0 in
      let first = same.0 in
      let second = same.1 in
      let pairs : (met.0, met.1.0) ≡ (s, c) = cc in
      e ∙ ap Some pairs
]

-- it is met exactly if the search through the windows finds it
pub meeting_is_found : MeetingIsFound
meeting_is_found net valid cs s c = (met_found net valid cs s c, found_met net valid cs s c)

-- if all logs are within the limit, the search finds nothing
within_found : (net : Net) → IsNet net → (cs : List Clone) (o : Option (ℕ × ℕ)) → first_overrun_of net cs ≡ o
    → AreWithin net cs → o ≡ None
within_found net valid cs None e h = refl
within_found net valid cs (Some (s, c)) e h = absurd (not_within net valid cs s c h (found_met net valid cs s c e))

-- the search finds nothing exactly if all logs are within the limit
pub within_is_not_found : WithinIsNotFound
within_is_not_found net valid cs = (
  within_found net valid cs (first_overrun_of net cs) refl,
  λ none. within_horizon net cs valid none,
)
