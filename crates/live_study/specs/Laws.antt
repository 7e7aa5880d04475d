-- Laws of live studies in words: `src/laws.rt` shows that they hold.
use Rattle.std.specs.Prelude.{◌≡◌, ℕ, ◌<◌, ◌≤◌, List, [], ◌∷◌, length}
use Rattle.sim_base.specs.Clones.{Clone, clone_at}
use Rattle.sim_base.specs.declared.decision.Decision.{Decision}
use Rattle.net_model.specs.Net.{Net}
use Rattle.stations.specs.Runs.{log_at}
use Rattle.phys_proc.specs.Racks.{FindsClone}
use Rattle.phys_proc.specs.declared.rack.Glance.{Glance}
use Rattle.decision_book.specs.Journal.{Event, after, clones_after}
use Rattle.decision_book.specs.Right.{IsRight}
use Rattle.world_core.specs.Taking.{IsAccepted}
use Rattle.live_study.specs.Looks.{AreAtFront, IsTrueGlance, IsTrueOf}

-- at this front the clone has the log of one of these at each station
abbrev pub HasLogsOfOne : Net → ℕ → List Clone → Clone → Type 0
HasLogsOfOne net front clones k = (c : ℕ) × (c < length clones)
    × ((s : ℕ) → log_at net k s front ≡ log_at net (clone_at clones c) s front)

-- clones that came of others: the first of them have the names of those and, at this front, their logs; at this front
-- each has the logs of one of those
pub record KeepLogs (net : Net) (front : ℕ) (old new : List Clone) : Type 0 where
  pub many : length old ≤ length new
  pub names : (c : ℕ) → c < length old → (clone_at new c).name ≡ (clone_at old c).name
  pub logs : (c s : ℕ) → c < length old → log_at net (clone_at new c) s front ≡ log_at net (clone_at old c) s front
  pub origins : (c : ℕ) → c < length new → HasLogsOfOne net front old (clone_at new c)

-- calls after a front change no log before it
abbrev pub LogsStay : Net → Type 0
LogsStay net = (events : List Event) (front : ℕ) (clones : List Clone) → IsRight net events
    → AreAtFront net events front clones → KeepLogs net front clones (after net events).clones

-- so what a true glance reports of the clones at its front is true of those that the journal leaves
abbrev pub LooksStayTrue : Net → Type 0
LooksStayTrue net = (events : List Event) (s : ℕ) (who : List ℕ) (g : Glance) → IsRight net events
    → IsTrueGlance net events s who g → IsTrueOf net (after net events).clones s who g

-- clones that come of others by these decisions, each of which is accepted at a front not before this one: a set or an
-- end then has a time not before it
abbrev pub ComeOf : Net → ℕ → List Clone → List Decision → List Clone → Type 0
ComeOf net front old [] new = new ≡ old
ComeOf net front old (d ∷ ds) new = (now : ℕ) × (front ≤ now) × IsAccepted net old now d
    × ComeOf net front (clones_after net old d) ds new

-- what a glance reports of the clones of its rack is true of all that come from them from its front on
abbrev pub GlancesStayTrue : Net → Type 0
GlancesStayTrue net = (old new : List Clone) (ds : List Decision) (s : ℕ) (who : List ℕ) (g : Glance)
    → ComeOf net g.front old ds new → g.clones ≡ length old → FindsClone net old s g.front who g.found
    → IsTrueOf net new s who g
