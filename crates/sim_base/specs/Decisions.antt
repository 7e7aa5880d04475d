-- Decisions, each about one clone, and whether two planned ones are equal.
use Rattle.std.specs.Prelude.{◌≡◌, ℕ, List, Bool, ◌&&◌, ◌==◌}
use Rattle.std.specs.Bool.{Decides}
use Rattle.std.specs.Ordering.{is_eq}
use Rattle.sim_base.specs.Order.{change_cmp}
use Rattle.sim_base.specs.declared.decision.Decision.{Decision}
use Rattle.sim_base.specs.declared.decision.Decision.TheVariants.{Fork, Set, End}
use Rattle.sim_base.specs.declared.decision.Planned.{Planned}

-- the clone that a decision is about: the one that is forked, changed or ended
abbrev pub subject : Decision → List ℕ
subject (Fork new old) = old
subject (Set who at station change) = who
subject (End who at) = who

-- the same time, station, parameter and values
abbrev pub same_plan : Planned → Planned → Bool
same_plan p q = (p.at == q.at && p.station == q.station) && is_eq (change_cmp p.change q.change)

-- two planned decisions are the same exactly when they are equal
abbrev pub PlansAreToldApart : Type 0
PlansAreToldApart = (p q : Planned) → Decides (same_plan p q) (p ≡ q)
