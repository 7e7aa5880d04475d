-- The world before anything was handled.
use Rattle.std.proofs.Common.{◌≡◌, ◌==◌, ℕ, zero, suc, ◌+◌, List, [], ◌∷◌, ◌++◌}
use Rattle.std.proofs.Common.{inl, inr, refl, sym, ap, ◌∙◌, subst, arith, length, nat_lt}
use Rattle.std.proofs.Math.Path.{fun_ext}
use Rattle.std.proofs.lemmas.Bool.Decides.{nat_tests}
use Rattle.std.proofs.lemmas.Option.{slice_get_within}
use Rattle.sim_base.specs.Clones.{base, clone_at}
use Rattle.sim_base.specs.Same.{same_entry}
use Rattle.clone_sets.specs.Sets.{has, one}
use Rattle.clone_sets.proofs.SetLaws.{has-one}
use Rattle.net_model.specs.Net.{Net}
use Rattle.net_model.specs.Rules.{IsNet}
use Rattle.stations.specs.Runs.{simulation}
use Rattle.stations.proofs.GoodLaws.{lawful-stations, stations-to_stations}
use Rattle.run_laws.specs.Handlers.{AreForStations}
use Rattle.run_laws.specs.Copies.{Stands, ends_of}
use Rattle.run_laws.proofs.Beginning.{stands_first}
use Rattle.run_laws.proofs.HandledStays.{handled-0}
use Rattle.run_laws.proofs.Lists.{slice_get-push}
use Rattle.phys_proc.specs.Procs.{ProcView}
use Rattle.phys_proc.specs.Ends.{ends_in}
use Rattle.world_core.specs.Worlds.{WorldStands}
use Rattle.world_core.specs.Opening.{IsFirstProc, AreFirst}

-- ---- AreFirst

-- one more station
pub first_push : (net : Net) (procs : List ProcView) (new : ProcView) (n : ℕ) → length procs ≡ n → AreFirst net procs
    → IsFirstProc net n new → AreFirst net (procs ++ new ∷ [])
first_push net procs new n count f first = λ i p got. elim (slice_get-push procs new p i got) [
  | inl h ↦ f i p h
  | inr h ↦ subst (λ k. IsFirstProc net k p) (sym (h.0 ∙ count)) (subst (IsFirstProc net n) (sym h.1) first)
]

-- ---- one

-- the set of the first clone has exactly the numbers below 1
first_lives : (c : ℕ) → has (one 0) c ≡ nat_lt c 1
first_lives c = has-one 0 c ∙ same c
  where
    same : (c : ℕ) → (0 == c) ≡ nat_lt c 1
    same c = grind (arith, nat_tests)

-- ---- base

-- with only the base clone, no clone ends before the horizon
no_ends : (net : Net) (c : ℕ) → ends_in net.horizon [] c ≡ ends_of (simulation net) (base ∷ []) c
no_ends net zero = refl
no_ends net (suc c) = refl

-- no clone has decisions
no_plans : (net : Net) (c : ℕ) → AreForStations (simulation net) (clone_at (base ∷ []) c).plans
no_plans net zero = tt
no_plans net (suc c) = tt

-- ---- WorldStands

-- stations as they open for the first clone represent the base clone at front 0
pub world_begins : (net : Net) (procs : List ProcView) → IsNet net → length procs ≡ length net.sites
    → AreFirst net procs → WorldStands net (base ∷ []) [] 0 procs
world_begins net procs valid count first = record {
  valid = valid;
  time_max = omega arith;
  count = count;
  at_most = omega arith;
  ends = fun_ext (no_ends net);
  for_stations = λ c l. no_plans net c;
  each = λ i p got.
      let f = first i p got in
      let l = slice_get_within procs i p got in
      record {
        station = f.station;
        living = λ c. ap (λ k. has k c) f.living ∙ first_lives c;
        once = f.once ∙ sym (handled-0 (simulation net) same_entry (base ∷ []) (i + 1));
        copies = subst (Stands (simulation net) has (base ∷ []) 0 (i + 1)) (sym f.copies)
            (stands_first (lawful-stations net valid) (stations-to_stations net valid) has (one 0) (has-one 0) (i + 1)
            (omega arith, omega (arith, l, count)));
      };
}
