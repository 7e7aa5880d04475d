use Rattle.std.proofs.Common.{◌≡◌, ℕ, ◌∙◌, List, [], ◌∷◌, ap, arith, length, refl, sym}
use Rattle.sim_base.specs.Clones.{Clone, clone_at}
use Rattle.net_model.specs.Net.{Net}
use Rattle.run_laws.specs.Fronts.{least_of}
use Rattle.stations.specs.Runs.{simulation}
use Rattle.decision_desk.specs.Leasts.{leasts_of}
use Rattle.engine_tests.proofs.decision_desk_tests.least_alone.Goals as goal

-- a single clone has a single least time
leasts_of-one : (net : Net) (cs : List Clone) (front : ℕ) → length cs ≡ 1
    → least_of (simulation net) (clone_at cs 0) front ∷ [] ≡ leasts_of net cs front
leasts_of-one net [] front one = absurd (omega (arith, one))
leasts_of-one net (c ∷ []) front one = refl
leasts_of-one net (c ∷ (d ∷ cs)) front one = absurd (omega (arith, one))

pub returns : goal.returns
returns c =
    let w = c.args.world.now in
    let one : length w.clones ≡ 1 =
    omega (arith, c.if-len-ne1.false, c.len.ensures.value, ap length c.lists.ensures.clones) in
    record {
      value = c.in_ok-from_array.ensures.items ∙ ap (λ t. t ∷ []) c.least_of-least.ensures.value
          ∙ leasts_of-one w.net w.clones w.front one;
    }
