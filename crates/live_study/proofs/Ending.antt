-- How a run ended.
use Rattle.std.proofs.Common.{◌≡◌, ◌∙◌, List, true, true≢false, Bool, Result, Ok, Err, IfOk, IfErr, is_ok, sym, subst}
use Rattle.net_model.specs.Net.{Net}
use Rattle.net_model.specs.Rules.{IsNet}
use Rattle.decision_book.specs.Journal.{Event}
use Rattle.decision_book.specs.Right.{IsRight}
use Rattle.decision_desk.specs.Accounts.{OnlyCalls}
use Rattle.world_core.specs.Worlds.{WorldView}
use Rattle.study_run.specs.declared.fault.StudyFault.{StudyFault}
use Rattle.study_run.specs.declared.fault.StudyFault.TheVariants.{NoMemory, LimitMet}
use Rattle.live_study.specs.Engines.{MeetsLimitLast, StopsEngine}
use Rattle.live_study.proofs.StayingLimits.{met_stays}

-- what holds if a run is finished holds where it is said to be
pub if_is_ok : (run : Result WorldView StudyFault) (finished : Bool) (P : Type 0) → finished ≡ is_ok run
    → IfOk run (λ w. P) → finished ≡ true → P
if_is_ok (Ok w) finished P is holds done = holds
if_is_ok (Err e) finished P is holds done = absurd (true≢false (sym done ∙ is))

-- why a run was stopped, with calls after its journal
stops_on : (net : Net) (h events : List Event) (e : StudyFault) → IsNet net → OnlyCalls h events → IsRight net events
    → StopsEngine net h e → StopsEngine net events e
stops_on net h events NoMemory valid calls right stops = tt
stops_on net h events (LimitMet station who) valid calls right stops =
    subst (λ es. MeetsLimitLast net es station who) (sym calls.1)
    (met_stays net valid h calls.0 (subst (λ es. IsRight net es) calls.1 right) station who stops)

-- so it is of a stopped one
pub if_stopped : (net of : Net) (h events : List Event) (run : Result WorldView StudyFault) → IsNet net → of ≡ net
    → OnlyCalls h events → IsRight net events → IfErr run (λ e. StopsEngine of h e)
    → IfErr run (λ e. StopsEngine net events e)
if_stopped net of h events (Ok w) valid same calls right stops = tt
if_stopped net of h events (Err e) valid same calls right stops =
    stops_on net h events e valid calls right (subst (λ (n : Net). StopsEngine n h e) same stops)
