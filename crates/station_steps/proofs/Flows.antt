-- The result of a station's step, by its place in the list of stations.
use Rattle.std.proofs.Common.{◌≡◌, ℕ, ◌+◌, ◌<◌, List, [], Option, Some, sym, ap, ◌∙◌, arith, length, option_map}
use Rattle.std.proofs.Common.{slice_get, subst, unwrap_or}
use Rattle.std.proofs.lemmas.List.{length-map}
use Rattle.std.proofs.lemmas.Option.{slice_get_within}
use Rattle.sim_base.proofs.ListLaws.{slice_get-map_back}
use Rattle.net_model.specs.Net.{Net}
use Rattle.phys_proc.specs.Own.{MarkedMessages}
use Rattle.phys_proc.specs.Procs.{ProcView}
use Rattle.station_steps.specs.declared.station_step.StationStep.{StationStep}
use Rattle.station_steps.specs.Windows.{AllFlow, AreStations, HasAdvanced, IsFlow, IsNumbered, MayGiveAll}
use Rattle.station_steps.specs.Windows.{copies_at, done_at, sent_at}
use Rattle.station_steps.specs.Stepping.{AllStepped}
use Rattle.station_steps.proofs.Places.{got_within}

-- ---- copies_at, done_at, sent_at

-- the copies at a place are those of the station there
pub copies_at-got : (procs : List ProcView) (i : ℕ) (p : ProcView) → slice_get procs i ≡ Some p
    → copies_at procs i ≡ p.copies
copies_at-got procs i p got = ap (λ o. unwrap_or (option_map (λ (p : ProcView). p.copies) o) []) got

-- the copies in a task's result at a place are those of the result there
pub done_at-got : (flows : List StationStep) (i : ℕ) (flow : StationStep) → slice_get flows i ≡ Some flow
    → done_at flows i ≡ flow.done.copies
done_at-got flows i flow got = ap (λ o. unwrap_or (option_map (λ (f : StationStep). f.done.copies) o) []) got

-- the same for what they sent
pub sent_at-got : (flows : List StationStep) (i : ℕ) (flow : StationStep) → slice_get flows i ≡ Some flow
    → sent_at flows i ≡ flow.sent.items
sent_at-got flows i flow got = ap (λ o. unwrap_or (option_map (λ (f : StationStep). f.sent.items) o) []) got

-- ---- IsFlow

-- the result of a station's step is that of the task at its place
pub is_flow : (net : Net) (ends : ℕ → ℕ) (bound i : ℕ) (old : ProcView) (flow : StationStep) → old.station ≡ i + 1
    → HasAdvanced net old.station ends bound old flow.done flow.sent.items flow.over flow.handled
    → IsFlow net ends bound i old flow
is_flow net ends bound i old flow number h =
    subst (λ s. HasAdvanced net s ends bound old flow.done flow.sent.items flow.over flow.handled) number h

-- ---- AllFlow

-- results for these bounds are results for bounds that agree at each station
pub AllFlow-bounds : (net : Net) (ends bounds others : ℕ → ℕ) (procs : List ProcView) (flows : List StationStep)
    → ((i : ℕ) → i < length procs → bounds i ≡ others i) → AllFlow net ends bounds procs flows
    → AllFlow net ends others procs flows
AllFlow-bounds net ends bounds others procs flows same all = λ i p flow got there.
    subst (λ b. IsFlow net ends b i p flow) (same i (slice_get_within procs i p got)) (all i p flow got there)

-- ---- AreStations, MayGiveAll

-- stations that were stepped are still stations
pub AreStations-stepped : (net : Net) (ends bounds : ℕ → ℕ) (procs news : List ProcView) (sent : MarkedMessages)
    (over : Option (ℕ × ℕ)) (steps0 steps : ℕ) → AreStations net procs
    → AllStepped net ends bounds procs news sent over steps0 steps → AreStations net news
AreStations-stepped net ends bounds procs news sent over steps0 steps all s = record {
  at_most = let n = ap length s.procs in let m = length-map s.flows (λ (f : StationStep). f.done) in let k = s.count in
      let few = all.at_most in omega (arith, n, m, k, few);
  procs_in_order = λ i p got.
      let f = slice_get-map_back (λ (f : StationStep). f.done) s.flows i p (ap (λ l. slice_get l i) (sym s.procs) ∙ got)
      in
      let l = slice_get_within s.flows i f.0 f.1 in
      let q = got_within procs i (let n = s.count in omega (arith, l, n)) in
      let flow = s.each i q.0 f.0 q.1 f.1 in
      subst (IsNumbered net i) f.2 (record { proc = flow.proc; number = flow.number });
}

-- so what the others sent may be delivered to them
pub MayGiveAll-stepped : (net : Net) (ends bounds : ℕ → ℕ) (procs news : List ProcView) (sent : MarkedMessages)
    (over : Option (ℕ × ℕ)) (steps0 steps : ℕ) → AreStations net procs
    → AllStepped net ends bounds procs news sent over steps0 steps → MayGiveAll news
MayGiveAll-stepped net ends bounds procs news sent over steps0 steps all s =
    let h = AreStations-stepped net ends bounds procs news sent over steps0 steps all s in
    record { at_most = h.at_most; in_order = λ i p got. (h.procs_in_order i p got).number }
