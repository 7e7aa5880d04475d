-- The worked looks: at front 10 of the worked journal there is the base clone alone.
use Rattle.std.proofs.Common.{◌≡◌, ◌==◌, ⊎_elim, ◌||◌, ℕ, zero, suc, Bool, true, false, refl, sym, ap, ◌∙◌}
use Rattle.std.proofs.Common.{List, [], ◌∷◌, ◌++◌, length, take, drop, arith}
use Rattle.std.proofs.Math.Bool.{or-true}
use Rattle.std.proofs.lemmas.Bool.Decides.{nat_tests}
use mathlib.Core.List.{IsPrefix}
use Rattle.sim_base.specs.Clones.{Clone, base}
use Rattle.sim_draw.specs.Drawing.{word, generator, state_after}
use Rattle.run_laws.specs.Machine.{run_to}
use Rattle.stations.specs.Handling.{handle}
use Rattle.stations.specs.Examples.OneDesk.{one_desk, desk}
use Rattle.clone_sets.specs.Sets.{one, size}
use Rattle.clone_sets.proofs.SetLaws.{has-one}
use Rattle.decision_book.specs.Examples.{during_a_run}
use Rattle.decision_book.specs.Journal.{Event, NewFront, NewCall, after}
use Rattle.phys_proc.specs.Racks.{IsClassOf, IsSeen}
use Rattle.live_study.specs.Looks.{AreAtFront}

-- ---- fronts of a journal

-- whether an event raised this front
abbrev is_front : ℕ → Event → Bool
is_front front (NewFront f) = f == front
is_front front (NewCall call) = false

-- whether one of these did
abbrev has_front : ℕ → List Event → Bool
has_front front [] = false
has_front front (e ∷ es) = is_front front e || has_front front es

-- an element among others is there
has_front-append : (front : ℕ) (before rest : List Event)
    → has_front front ((before ++ NewFront front ∷ []) ++ rest) ≡ true
has_front-append front [] rest = grind (arith, nat_tests)
has_front-append front (e ∷ before) rest = rw (has_front-append front before rest) (or-true (is_front front e))

-- ---- the clones at front 10

-- what comes before front 10 in the worked journal
before_10 : (before rest : List Event) → (before ++ NewFront 10 ∷ []) ++ rest ≡ during_a_run
    → before ≡ NewFront 5 ∷ NewFront 7 ∷ []
before_10 [] rest p = let h : true ≡ false = ap (λ es. has_front 10 (take 1 es)) p in absurd (cc)
before_10 (a ∷ []) rest p = let h : true ≡ false = ap (λ es. has_front 10 (take 1 (drop 1 es))) p in absurd (cc)
before_10 (a ∷ b ∷ []) rest p = ap (take 2) p
before_10 (a ∷ b ∷ c ∷ more) rest p =
    let h : true ≡ false = sym (has_front-append 10 more rest) ∙ ap (λ es. has_front 10 (drop 3 es)) p in absurd (cc)

-- so one clone is there at front 10
pub one_at_10 : (clones : List Clone) → AreAtFront one_desk during_a_run 10 clones → length clones ≡ 1
one_at_10 clones at = ⊎_elim
    (λ (z : (10 ≡ 0) × (clones ≡ base ∷ [])). absurd (omega (arith, z.0)))
    (λ (z : (before : List Event) × IsPrefix (before ++ NewFront 10 ∷ []) during_a_run
    × (clones ≡ (after one_desk before).clones)).
    ap length (z.2 ∙ ap (λ es. (after one_desk es).clones) (before_10 z.0 z.1.0 z.1.1)))
    at

-- ---- the base clone at front 10

-- it is the only one with its log
class_of_base : IsClassOf one_desk (base ∷ []) desk 10 0 (one 0)
class_of_base zero = (λ h. (omega arith, refl), λ h. has-one 0 0)
class_of_base (suc d) = (
  λ h. (let e : (0 == suc d) ≡ true = sym (has-one 0 (suc d)) ∙ h in absurd (grind (arith, nat_tests, e))),
  λ h. absurd (omega (arith, h.0)),
)

-- the desk has handled three messages in it
pub seen_at_10 : IsSeen one_desk (base ∷ []) desk 10 0 3 1
unfolding run_to handle word generator state_after one size lib.Count.ones
seen_at_10 = record { log = refl; class = one 0; is_class = class_of_base; size = refl }
