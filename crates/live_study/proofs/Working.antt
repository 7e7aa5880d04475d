-- How the steps of stations add up.
use Rattle.std.proofs.Common.{◌≡◌, ℕ, zero, suc, ◌+◌, ◌-◌, ◌*◌, ◌^◌, ◌<◌, ◌≤◌, List, length, sym, ap, ◌∙◌, arith, subst}
use Rattle.std.proofs.Common.{Result, Ok, Err, IfErr, IfOk}
use Rattle.std.proofs.Math.Nat.{mul-le-mul}
use Rattle.sim_base.specs.Clones.{Clone}
use Rattle.sim_base.specs.declared.lists.TheConstants.{MAX_CLONES}
use Rattle.net_model.specs.Net.{Net}
use Rattle.net_model.specs.Rules.{IsNet}
use Rattle.run_laws.specs.SharedTexts.{station_sum}
use Rattle.decision_book.specs.Books.{BookView}
use Rattle.stations.specs.Runs.{handled_once}
use Rattle.world_core.specs.Overs.{NoneBeyond}
use Rattle.world_core.specs.Worlds.{WorldView, opening_world, total_handled}
use Rattle.study_run.proofs.Reports.{total_is_few}
use Rattle.study_run.proofs.Worlds.{none_handled}
use Rattle.study_run.specs.declared.fault.StudyFault.{StudyFault}
use Rattle.live_study.specs.Driving.{HasCounted}
use Rattle.live_study.specs.Lives.{IsAtHorizon, IsLiveRun}
use Rattle.live_study.specs.declared.run.LiveRun.{LiveRun}
use Rattle.decision_script.specs.Stating.{ScriptView}

-- one station more
pub station_sum-next : (f : ℕ → ℕ) (s : ℕ) → station_sum f (s + 1) ≡ station_sum f s + f (s + 1)
station_sum-next f s =
    let up : s + 1 ≡ suc s = omega arith in
    ap (station_sum f) up ∙ ap (λ n. station_sum f s + f n) (sym up)

-- the sum over some stations is at most the sum over more
sum_over_more : (f : ℕ → ℕ) (n d : ℕ) → station_sum f n ≤ station_sum f (n + d)
sum_over_more f n zero =
    let e : n + 0 ≡ n = omega arith in
    subst (λ m. station_sum f n ≤ station_sum f m) (sym e) (omega arith)
sum_over_more f n (suc d) =
    let h = sum_over_more f n d in
    let e : n + suc d ≡ n + d + 1 = omega arith in
    subst (λ m. station_sum f n ≤ station_sum f m) (sym e) (omega (arith, h, station_sum-next f (n + d)))

-- at the horizon the count up to a station and that of the next fit 64 bits
pub fits : (net : Net) (cs : List Clone) (front s : ℕ) → IsNet net → length cs ≤ MAX_CLONES
    → front ≡ net.horizon → NoneBeyond net cs front → s < length net.sites
    → station_sum (λ k. handled_once net cs k front) s + handled_once net cs (s + 1) front < 2 ^ 64
fits net cs front s valid few at within less =
    let f : ℕ → ℕ = λ k. handled_once net cs k front in
    let all : station_sum f (length net.sites) ≤ length net.sites * (length cs * net.limit) =
    subst (λ t. station_sum (λ k. handled_once net cs k t) (length net.sites)
    ≤ length net.sites * (length cs * net.limit)) (sym at)
    (total_is_few net cs (subst (λ t. NoneBeyond net cs t) at within)) in
    let a : length cs * net.limit ≤ 16777216 = mul-le-mul few valid.limit_max in
    let b : length net.sites * (length cs * net.limit) ≤ 1073741824 = mul-le-mul valid.at_most a in
    let c : 1073741824 < 2 ^ 64 = omega arith in
    let d : ℕ = length net.sites - (s + 1) in
    let e : s + 1 + d ≡ length net.sites = omega (arith, less) in
    let more = subst (λ m. station_sum f (s + 1) ≤ station_sum f m) e (sum_over_more f (s + 1) d) in
    omega (arith, all, b, c, more, station_sum-next f s)

-- at time 0 nothing was handled
pub first_handled : (net : Net) (w : WorldView) → w ≡ opening_world net → total_handled w.net w.clones w.front ≡ 0
first_handled net w is =
    let o = opening_world net in
    ap (λ (v : WorldView). total_handled v.net v.clones v.front) is ∙ none_handled o.net o.clones (length o.net.sites)

-- what a world at the horizon has handled, by the network's own horizon
pub counted_at_horizon : (told net : Net) → told ≡ net → (book : BookView) (run : Result WorldView StudyFault)
    (old new : ℕ) → IfOk run (λ w. IsAtHorizon told book w)
    → IfOk run (λ w. new ≡ old + total_handled w.net w.clones w.front)
    → IfOk run (λ w. new ≡ old + total_handled net w.clones net.horizon)
counted_at_horizon told net same book (Ok w) old new ends counted =
    counted
    ∙ ap (λ k. old + k)
    (ap (λ (v : WorldView). total_handled v.net w.clones v.front) ends.world_is
    ∙ ap (λ (n : Net). total_handled n w.clones n.horizon) same)
counted_at_horizon told net same book (Err e) old new ends counted = tt

-- the same for a run that may be out of memory
pub counted_if_run : {E : Type 0} (told net : Net) → told ≡ net → (script : ScriptView) (live : Result LiveRun E)
    (old new : ℕ) → IfOk live (λ r. IsLiveRun told script r)
    → IfOk live (λ r. IfOk r.run (λ w. new ≡ old + total_handled w.net w.clones w.front))
    → IfOk live (λ r. IfOk r.run (λ w. new ≡ old + total_handled net w.clones net.horizon))
counted_if_run told net same script (Ok r) old new is counted =
    counted_at_horizon told net same r.book r.run old new is.finished counted
counted_if_run told net same script (Err e) old new is counted = tt

-- ---- HasCounted
-- a counter that is ticked as often as the engine's was
pub ticked_if_finished : (run : Result WorldView StudyFault) (counter many old new : ℕ) → HasCounted run counter many
    → new ≡ old + many → IfOk run (λ w. new ≡ old + total_handled w.net w.clones w.front)
ticked_if_finished (Ok w) counter many old new has ticked = omega (arith, has.counts, has.once, ticked)
ticked_if_finished (Err e) counter many old new has ticked = tt

-- if the engine stopped, it is not ticked
pub unticked_if_stopped : (run : Result WorldView StudyFault) (counter many old new : ℕ) → HasCounted run counter many
    → new ≡ old + many → IfErr run (λ e. new ≡ old)
unticked_if_stopped (Ok w) counter many old new has ticked = tt
unticked_if_stopped (Err e) counter many old new has ticked = omega (arith, has.none, ticked)
