-- Every made network accepts the made script: plan by plan, each in the situation after the plans before it.
use Rattle.std.proofs.Common.{◌≡◌, ℕ, zero, suc, ◌+◌, ◌*◌, ◌/◌, ◌%◌, List, [], ◌∷◌, ◌++◌, refl}
use Rattle.std.proofs.Common.{ap, ◌∙◌, subst, arith, None, Some, Ok, nat_lt, nat_le, ◌==◌, true, false, length}
use Rattle.std.specs.Fmt.{digits}
use Rattle.std.specs.List.{AllByRecursion, flat_map, range_with_len}
use Rattle.sim_base.specs.declared.decision.Decision.{Decision}
use Rattle.decision_book.specs.Journal.{Situation}
use Rattle.decision_book.specs.Scripts.{first_refusal, first_refusal_from, lists_of}
use Rattle.decision_book.specs.Scripts.{after_decision, after_all, refusal_or}
use Rattle.decision_book.specs.Replies.{reply}
use Rattle.decision_book.specs.declared.call.Reply.TheVariants.{Accepted}
use Rattle.decision_script.specs.Alone.{decisions}
use Rattle.std.proofs.lemmas.Bool.Decides.{nat_tests}
use Rattle.net_model.specs.Net.{Net, station_named, site_of}
use Rattle.stations.specs.Changes.{accepts}
use Rattle.sim_base.specs.declared.message.Change.{Change}
use Rattle.sim_base.specs.declared.decision.Decision.TheVariants.{Set}
use Rattle.sim_base.specs.declared.lists.TheConstants.{MAX_DECISIONS}
use Rattle.sim_base.specs.Clones.{Clone, clones_with_plan, clone_at, place_of}
use Rattle.decision_book.specs.declared.call.TheConstants.{MAX_CALLS}
use Rattle.study_generator.specs.Branches.{clones_of_plans, last_decisions, own_decision}
use Rattle.study_generator.specs.Nets.{made_net, made_sites, net_with, ward}
use Rattle.study_generator.specs.Numbers.{wards, ward_name}
use Rattle.study_generator.specs.declared.model.TheConstants.{MAX_WARDS}
use Rattle.study_generator.specs.declared.script.TheConstants.{PLANS}
use Rattle.study_generator.specs.Scripts.{fork_of_plan, made_script, plan_name, set_of_plan}

-- ---- the situations between the plans

-- the situation with these clones after this number of calls, at a network with this number of further wards
abbrev situation_with : ℕ → ℕ → List Clone → ℕ → Situation
situation_with n others clones calls =
    record { net = net_with n (suc others); clones = clones; front = 0; calls = calls }

-- the situation after this number of plans
abbrev situation_after : ℕ → ℕ → ℕ → Situation
situation_after n others count = situation_with n others (clones_of_plans count) (2 * count)

-- both decisions of the next plan are accepted, and lead to the situation after it
record IsNextPlan (n others count : ℕ) : Type 0 where
  fork : reply (situation_after n others count) (fork_of_plan (count + 1)) ≡ Accepted
  set : reply (after_decision (situation_after n others count) (fork_of_plan (count + 1))) (set_of_plan (count + 1))
      ≡ Accepted
  leads : after_decision (after_decision (situation_after n others count) (fork_of_plan (count + 1)))
      (set_of_plan (count + 1))
      ≡ situation_after n others (count + 1)

-- ---- reply and after_decision

-- the first ward is the third station
first_ward : (n others : ℕ) → station_named (ward_name 1) (net_with n (suc others)) ≡ Some 3
unfolding digits
first_ward n others =
    let sites = made_sites n (suc others) in
    let there : nat_lt 2 (length sites) ≡ true = grind (arith, nat_tests) in
    rw there refl

-- a set is accepted by these rows of the table, one after another
set_accepted : (net : Net) (clones : List Clone) (calls c at : ℕ) (who station : List ℕ) (change : Change)
    → nat_le MAX_CALLS calls ≡ false
    → (0 == net.horizon) ≡ false
    → place_of who clones ≡ Some c
    → (clone_at clones c).end ≡ None
    → station_named station net ≡ Some 3
    → accepts (site_of net 3) change ≡ Ok tt
    → nat_le MAX_DECISIONS (length (clone_at clones c).plans) ≡ false
    → nat_le net.horizon at ≡ false
    → nat_lt at 0 ≡ false
    → reply (record { net = net; clones = clones; front = 0; calls = calls }) (Set who at station change) ≡ Accepted
set_accepted net clones calls c at who station change left begun there going found takes free early late =
    rw (left, begun, there, going, found, takes, free, early, late) refl

-- no time is before 0
not_late : (at : ℕ) → nat_lt at 0 ≡ false
not_late at = grind (arith, nat_tests)

-- the situation after an accepted set
set_leads : (net : Net) (clones : List Clone) (calls c at : ℕ) (who station : List ℕ) (change : Change)
    → reply (record { net = net; clones = clones; front = 0; calls = calls }) (Set who at station change) ≡ Accepted
    → place_of who clones ≡ Some c
    → station_named station net ≡ Some 3
    → after_decision (record { net = net; clones = clones; front = 0; calls = calls }) (Set who at station change)
    ≡ record {
      net = net;
      clones = clones_with_plan clones c (record { at = at; station = 3; change = change });
      front = 0;
      calls = calls + 1;
    }
set_leads net clones calls c at who station change accepted there found = rw (accepted, there, found) refl

-- the clones between the two decisions of the next plan: it has the decisions of its parent
abbrev clones_between : ℕ → List Clone
clones_between count =
    clones_of_plans count
    ++ record { name = plan_name (count + 1); plans = last_decisions count ((count + 1) / 2); end = None } ∷ []

-- the situation with them, after one call more
abbrev situation_between : ℕ → ℕ → ℕ → Situation
situation_between n others count = situation_with n others (clones_between count) (2 * count + 1)

-- the clones after both
abbrev clones_after_set : ℕ → List Clone
clones_after_set count = clones_with_plan (clones_between count) (count + 1) (own_decision (count + 1))

-- ---- the next plan

-- facts about the next plan, by computation: the fork is accepted and leads there, and the set meets no row of the
-- table
abbrev Facts : ℕ → ℕ → ℕ → Type 0
Facts n others count =
    (reply (situation_after n others count) (fork_of_plan (count + 1)) ≡ Accepted)
    × (after_decision (situation_after n others count) (fork_of_plan (count + 1)) ≡ situation_between n others count)
    × (nat_le MAX_CALLS (2 * count + 1) ≡ false)
    × (place_of (plan_name (count + 1)) (clones_between count) ≡ Some (count + 1))
    × ((clone_at (clones_between count) (count + 1)).end ≡ None)
    × (accepts (ward (suc others) 1) (own_decision (count + 1)).change ≡ Ok tt)
    × (nat_le MAX_DECISIONS (length (clone_at (clones_between count) (count + 1)).plans) ≡ false)
    × (nat_le 5000 (100 * (count + 1)) ≡ false)
    × (situation_with n others (clones_after_set count) (2 * count + 1 + 1) ≡ situation_after n others (count + 1))

-- they hold of each plan, for every number and every number of wards
facts : (n others : ℕ) → AllByRecursion (Facts n others) (range_with_len 0 PLANS)
unfolding digits
facts n others = (
  (refl, refl, refl, refl, refl, refl, refl, refl, refl),
  (
    (refl, refl, refl, refl, refl, refl, refl, refl, refl),
    (
      (refl, refl, refl, refl, refl, refl, refl, refl, refl),
      (
        (refl, refl, refl, refl, refl, refl, refl, refl, refl),
        (
          (refl, refl, refl, refl, refl, refl, refl, refl, refl),
          (
            (refl, refl, refl, refl, refl, refl, refl, refl, refl),
            (
              (refl, refl, refl, refl, refl, refl, refl, refl, refl),
              (
                (refl, refl, refl, refl, refl, refl, refl, refl, refl),
                (
                  (refl, refl, refl, refl, refl, refl, refl, refl, refl),
                  (
                    (refl, refl, refl, refl, refl, refl, refl, refl, refl),
                    (
                      (refl, refl, refl, refl, refl, refl, refl, refl, refl),
                      (
                        (refl, refl, refl, refl, refl, refl, refl, refl, refl),
                        (
                          (refl, refl, refl, refl, refl, refl, refl, refl, refl),
                          (
                            (refl, refl, refl, refl, refl, refl, refl, refl, refl),
                            (
                              (refl, refl, refl, refl, refl, refl, refl, refl, refl),
                              (
                                (refl, refl, refl, refl, refl, refl, refl, refl, refl),
                                tt,
                              ),
                            ),
                          ),
                        ),
                      ),
                    ),
                  ),
                ),
              ),
            ),
          ),
        ),
      ),
    ),
  ),
)

-- so both decisions of the next plan are accepted
is_next : (n others count : ℕ) → Facts n others count → IsNextPlan n others count
is_next n others count (fork, forks, left, there, going, takes, free, early, adds) =
    let net = net_with n (suc others) in
    let clones = clones_between count in
    let who = plan_name (count + 1) in
    let change = (own_decision (count + 1)).change in
    let at = 100 * (count + 1) in
    let calls = 2 * count + 1 in
    let found = first_ward n others in
    let late = not_late at in
    let set : reply (situation_between n others count) (set_of_plan (count + 1)) ≡ Accepted =
    set_accepted net clones calls (count + 1) at who (ward_name 1) change left refl there going found takes free early
    late in
    let leads : after_decision (situation_between n others count) (set_of_plan (count + 1))
    ≡ situation_after n others (count + 1) =
    set_leads net clones calls (count + 1) at who (ward_name 1) change set there found ∙ adds in
    record {
      fork = fork;
      set = ap (λ s. reply s (set_of_plan (count + 1))) forks ∙ set;
      leads = ap (λ s. after_decision s (set_of_plan (count + 1))) forks ∙ leads;
    }

-- ---- first_refusal and after_all

-- the decisions of this number of plans, from one on
abbrev decisions_of_plans : ℕ → ℕ → List Decision
decisions_of_plans first count = flat_map (λ j. fork_of_plan j ∷ set_of_plan j ∷ []) (range_with_len first count)

-- two decisions that are accepted are no refusals
first_refusal_from-Accepted : (s : Situation) (place : ℕ) (d e : Decision) (ds : List Decision)
    → reply s d ≡ Accepted
    → reply (after_decision s d) e ≡ Accepted
    → first_refusal_from s place (d ∷ e ∷ ds)
    ≡ first_refusal_from (after_decision (after_decision s d) e) (place + 1 + 1) ds
first_refusal_from-Accepted s place d e ds first second =
    ap (λ r. refusal_or place r (first_refusal_from (after_decision s d) (place + 1) (e ∷ ds))) first
    ∙ ap (λ r. refusal_or (place + 1) r
    (first_refusal_from (after_decision (after_decision s d) e) (place + 1 + 1) ds)) second

-- so none of the plans from here on is refused
none_refused : (n others before count place : ℕ) → AllByRecursion (Facts n others) (range_with_len before count)
    → first_refusal_from (situation_after n others before) place (decisions_of_plans (before + 1) count) ≡ None
none_refused n others before zero place plans = refl
none_refused n others before (suc count) place (made, plans) =
    let plan = is_next n others before made in
    let further = decisions_of_plans (before + 1 + 1) count in
    first_refusal_from-Accepted (situation_after n others before) place (fork_of_plan (before + 1))
    (set_of_plan (before + 1)) further plan.fork plan.set
    ∙ ap (λ s. first_refusal_from s (place + 1 + 1) further) plan.leads
    ∙ none_refused n others (before + 1) count (place + 1 + 1) plans

-- and they leave the clones of all plans
all_lead : (n others before count : ℕ) → AllByRecursion (Facts n others) (range_with_len before count)
    → after_all (situation_after n others before) (decisions_of_plans (before + 1) count) ≡ situation_after n others
    (before + count)
all_lead n others before zero plans = ap (situation_after n others) (omega arith)
all_lead n others before (suc count) (made, plans) =
    let plan = is_next n others before made in
    let further = decisions_of_plans (before + 1 + 1) count in
    let e : before + 1 + count ≡ before + suc count = omega arith in
    ap (λ s. after_all s further) plan.leads
    ∙ all_lead n others (before + 1) count plans
    ∙ ap (situation_after n others) e

-- ---- the made networks

-- the number of wards is 1 or more
wards_of : (n : ℕ) → suc (n % MAX_WARDS) ≡ wards n
wards_of n = omega arith

-- no decision of the made script is refused
pub all_accepted : (n : ℕ) → first_refusal (made_net n) (decisions made_script.items) ≡ None
all_accepted n =
    subst (λ count. first_refusal (net_with n count) (decisions made_script.items) ≡ None) (wards_of n)
    (none_refused n (n % MAX_WARDS) 0 PLANS 0 (facts n (n % MAX_WARDS)))

-- and it leaves a clone for each plan
pub clones_left : (n : ℕ) → lists_of (made_net n) (decisions made_script.items) ≡ clones_of_plans PLANS
clones_left n =
    subst (λ count. lists_of (net_with n count) (decisions made_script.items) ≡ clones_of_plans PLANS) (wards_of n)
    (ap (λ s. s.clones) (all_lead n (n % MAX_WARDS) 0 PLANS (facts n (n % MAX_WARDS))))
