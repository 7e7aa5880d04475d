-- The looks that analysts have made, once the run has come to the horizon.
use Rattle.std.proofs.Common.{◌≡◌, ℕ, suc, ◌<◌, Bool, true, List, [], ◌∷◌, length, map}
use Rattle.std.proofs.Common.{◌≤◌, Option, Some, None, IfSome}
use Rattle.std.proofs.Common.{Result, Ok, Err, IfOk, is_ok, refl, sym, ap, ap₂, ◌∙◌, subst, arith, slice_index_or}
use Rattle.std.specs.List.{AllByRecursion}
use mathlib.Core.List.{IsPrefix}
use Rattle.sim_base.specs.Reserved.{ReservedView}
use Rattle.sim_base.proofs.ListLaws.{all_append, all_weaker}
use Rattle.net_model.specs.Net.{Net, station_named}
use Rattle.decision_book.specs.Journal.{Event, NewCall}
use Rattle.decision_desk.specs.Accounts.{OnlyCalls}
use Rattle.decision_desk.specs.Passes.{HelmView}
use Rattle.phys_proc.specs.Racks.{RackView}
use Rattle.phys_proc.specs.declared.rack.Glance.{Glance}
use Rattle.journal_text.specs.declared.looked.Looked.{Looked}
use Rattle.world_core.specs.Worlds.{WorldView}
use Rattle.study_run.specs.declared.fault.StudyFault.{StudyFault}
use Rattle.live_study.specs.Asking.{SeatedAnalyst}
use Rattle.live_study.specs.Engines.{InStep}
use Rattle.live_study.specs.Lives.{AreSeenLooks, AreTrueLooks, all_looks, looks_made}
use Rattle.live_study.specs.Looks.{IsReadLook, IsTrueLook, NeverFall, SeesItsStation, WasRead}
use Rattle.live_study.specs.Scripts.{looks_in}
use Rattle.live_study.specs.Showing.{AllReadOneHistory, AreShownOf, HasLooked, looks_to_make}
use Rattle.live_study.proofs.Counting.{SameAt}
use Rattle.live_study.proofs.Truth.{true_look}

-- ---- looks_of, AllLooked

-- the looks that each analyst has made
abbrev pub looks_of : List SeatedAnalyst → List (ReservedView Looked)
looks_of seated = map (λ (a : SeatedAnalyst). a.0.looks) seated

-- each has made all its looks
abbrev pub AllLooked : Net → List SeatedAnalyst → Type 0
AllLooked net seated = AllByRecursion (λ (a : SeatedAnalyst). HasLooked net a.0.todo.items a) seated

-- the index form of that
pub all_looked : (net : Net) (seated : List SeatedAnalyst)
    → ((i : ℕ) (d : SeatedAnalyst) → i < length seated
    → HasLooked net (slice_index_or seated i d).0.todo.items (slice_index_or seated i d)) → AllLooked net seated
all_looked net [] each = tt
all_looked net (a ∷ more) each =
    (each 0 a (omega arith), all_looked net more (λ i d less. each (suc i) d (omega (arith, less))))

-- ---- looks_to_make

-- in order, what they were to look at
asked_in_order : (net : Net) (seated : List SeatedAnalyst) → AllLooked net seated
    → looks_made (looks_of seated) ≡ looks_to_make seated
asked_in_order net [] all = refl
asked_in_order net (a ∷ more) all = ap₂ (λ u us. u ∷ us) all.0.asked (asked_in_order net more all.1)

-- what they had to look at before the run
asked_before : (old new : List SeatedAnalyst) → length new ≡ length old → SameAt old new
    → looks_to_make new ≡ looks_to_make old
asked_before [] [] len same = refl
asked_before [] (b ∷ new) len same = absurd (omega (arith, len))
asked_before (a ∷ old) [] len same = absurd (omega (arith, len))
asked_before (a ∷ old) (b ∷ new) len same =
    let s = same 0 a (omega arith) in
    ap₂ (λ u us. u ∷ us) (ap₂ looks_in s.number s.todo)
    (asked_before old new (omega (arith, len)) (λ i d less. same (suc i) d (omega (arith, less))))

-- all looks that they had to make were made
pub made_all : (net : Net) (old new : List SeatedAnalyst) (looks : List (ReservedView Looked)) → AllLooked net new
    → length new ≡ length old → SameAt old new
    → looks ≡ looks_of new → looks_made looks ≡ looks_to_make old
made_all net old new looks all len same are =
    ap looks_made are ∙ asked_in_order net new all ∙ asked_before old new len same

-- ---- AreSeenLooks

-- what was read was read of the station of the name
known_of : (net : Net) (read : List RackView) (l : Looked) (o : Option Glance)
    → IfSome o (λ g. (s : ℕ) × (station_named l.station net ≡ Some s) × (s ≤ length net.sites) × WasRead read s l.who g)
    → IfSome o (λ g. (s : ℕ) × (station_named l.station net ≡ Some s))
known_of net read l None k = tt
known_of net read l (Some g) k = (k.0, k.1)

-- so at each look nothing was seen exactly if there is no such station
all_seen : (net : Net) (seated : List SeatedAnalyst) → AllLooked net seated
    → AllByRecursion (SeesItsStation net) (all_looks (looks_of seated))
all_seen net [] all = tt
all_seen net (a ∷ more) all =
    all_append (SeesItsStation net) a.0.looks.items (all_looks (looks_of more))
    (all_weaker (IsReadLook net a.1) (SeesItsStation net) a.0.looks.items
    (λ l r. record { unknown = r.unknown; known = known_of net a.1 l l.glance r.known }) all.0.read)
    (all_seen net more all.1)

-- no front of one of them falls
none_falls : (net : Net) (seated : List SeatedAnalyst) → AllLooked net seated
    → AllByRecursion (λ (r : ReservedView Looked). NeverFall r.items) (looks_of seated)
none_falls net [] all = tt
none_falls net (a ∷ more) all = (all.0.rise, none_falls net more all.1)

-- that is what holds of their looks however the run ends
pub seen_all : (net : Net) (seated : List SeatedAnalyst) (looks : List (ReservedView Looked)) → AllLooked net seated
    → looks ≡ looks_of seated → AreSeenLooks net looks
seen_all net seated looks all are = record {
  seen = subst (λ ls. AllByRecursion (SeesItsStation net) (all_looks ls)) (sym are) (all_seen net seated all);
  rise = subst (λ ls. AllByRecursion (λ (r : ReservedView Looked). NeverFall r.items) ls) (sym are)
      (none_falls net seated all);
}

-- ---- AreTrueLooks

-- all that they saw is true
true_looks : (net : Net) (h : HelmView) (w : WorldView) (events : List Event) (published : List RackView)
    (seated : List SeatedAnalyst) → h.net ≡ net → w.net ≡ net → w.front ≡ w.net.horizon → IsPrefix h.helm events
    → AreShownOf h w published → AllReadOneHistory published seated → AllLooked net seated
    → AllByRecursion (IsTrueLook net events) (all_looks (looks_of seated))
true_looks net h w events published [] of world last begins shown up all = tt
true_looks net h w events published (a ∷ more) of world last begins shown up all =
    all_append (IsTrueLook net events) a.0.looks.items (all_looks (looks_of more))
    (all_weaker (IsReadLook net a.1) (IsTrueLook net events) a.0.looks.items
    (λ l r. true_look net h w events published a.1 l of world last begins shown up.0 r) all.0.read)
    (true_looks net h w events published more of world last begins shown up.1 all.1)

-- so it is of a run that came to the horizon
told_at_horizon : (net : Net) (h : HelmView) (w : WorldView) (events : List Event) (published : List RackView)
    (seated : List SeatedAnalyst) (looks : List (ReservedView Looked)) → h.net ≡ net → InStep h w
    → w.front ≡ w.net.horizon → OnlyCalls h.helm events → AreShownOf h w published
    → AllReadOneHistory published seated → AllLooked net seated → looks ≡ looks_of seated
    → AreTrueLooks net events looks
told_at_horizon net h w events published seated looks of in_step last calls shown up all are =
    subst (λ ls. AllByRecursion (IsTrueLook net events) (all_looks ls)) (sym are)
    (true_looks net h w events published seated of (in_step.net ∙ of) last (map NewCall calls.0, sym calls.1) shown up
    all)

-- and it is, if the run is finished
pub told_if : (net : Net) (h : HelmView) (events : List Event) (published : List RackView) (seated : List SeatedAnalyst)
    (looks : List (ReservedView Looked)) (finished : Bool) (run : Result WorldView StudyFault) → h.net ≡ net
    → OnlyCalls h.helm events → IfOk run (λ w. InStep h w × (w.front ≡ w.net.horizon))
    → IfOk run (λ w. AreShownOf h w published) → finished ≡ is_ok run
    → (finished ≡ true → AllReadOneHistory published seated) → AllLooked net seated → looks ≡ looks_of seated
    → IfOk run (λ w. AreTrueLooks net events looks)
told_if net h events published seated looks finished (Err e) of calls in_step shown is read all are = tt
told_if net h events published seated looks finished (Ok w) of calls in_step shown is read all are =
    told_at_horizon net h w events published seated looks of in_step.0 in_step.1 calls shown (read is) all are
