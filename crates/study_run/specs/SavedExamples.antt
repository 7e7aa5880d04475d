-- Scripts for the one desk, whose horizon is 20.
use Rattle.std.specs.Prelude.{List, [], ◌∷◌, codes}
use Rattle.sim_base.specs.Clones.{Clone, base}
use Rattle.sim_base.specs.declared.message.Param.TheVariants.{Service}
use Rattle.stations.specs.Examples.{clone, set_at}
use Rattle.stations.specs.Examples.OneDesk.{desk}
use Rattle.decision_script.specs.Examples.{item_at, set_service, two_clones}
use Rattle.decision_script.specs.Stating.{ScriptView}

-- a set for the base clone, which comes too late, and then the two forks of decision_script
abbrev pub two_clones_and_late_set : ScriptView
two_clones_and_late_set = record {
  analysts = two_clones.analysts;
  items = item_at 1 1 (set_service (codes "base") 20 2 2) ∷ two_clones.items;
}

-- the base clone, and its two forks with one set each
abbrev pub three_clones : List Clone
three_clones =
    base
    ∷ clone (codes "a") (set_at 8 desk Service 2 2 ∷ [])
    ∷ clone (codes "b") (set_at 8 desk Service 2 2 ∷ []) ∷ []
