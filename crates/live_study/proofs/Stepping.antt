-- The world goes on as the helm's journal does.
use Rattle.std.proofs.Common.{◌≡◌, ◌⊎◌, inl, inr, ⊎_elim, ℕ, ◌<◌, ◌≤◌, List, [], ◌∷◌, ◌++◌, map}
use Rattle.std.proofs.Common.{sym, ap, ◌∙◌, subst, arith}
use Rattle.std.proofs.lemmas.List.Sums.{fold-append}
use Rattle.sim_base.specs.Clones.{Clone, clone_at}
use Rattle.net_model.specs.Net.{Net}
use Rattle.net_model.specs.Rules.{IsNet}
use Rattle.run_laws.specs.Queue.{In}
use Rattle.run_laws.proofs.Gaining.{IsBeyond-later}
use Rattle.stations.specs.Runs.{next_front}
use Rattle.stations.proofs.GoodLaws.{lawful-stations}
use Rattle.decision_book.specs.declared.call.Call.{Call}
use Rattle.decision_book.specs.Journal.{Event, Situation, NewFront, NewCall, after, after_event, fronts_of, outset}
use Rattle.decision_book.specs.Journal.{front_from, front_of}
use Rattle.decision_book.specs.Right.{EachAfter, IsRight, MayFollow}
use Rattle.decision_book.specs.Scripts.{accepted_of}
use Rattle.decision_book.proofs.JournalScripts.{net_stays}
use Rattle.decision_desk.specs.declared.helm.Turn.{Turn}
use Rattle.decision_desk.specs.Accounts.{RisesFrom}
use Rattle.decision_desk.specs.Passes.{HelmView, IsNextTurn}
use Rattle.decision_desk.proofs.Journals.{front_asked, front_calls, front_from-above, front_raised}
use Rattle.decision_desk.proofs.Leasts.{front_is}
use Rattle.world_core.specs.Overs.{IsFault, IsFirstBeyond, NoneBeyond}
use Rattle.world_core.specs.Taking.{AreAccepted, clones_after_calls}
use Rattle.world_core.specs.Worlds.{WorldView}
use Rattle.world_core.specs.declared.world.WorldFault.{WorldFault}
use Rattle.world_core.specs.declared.world.WorldFault.TheVariants.{EventLimit, NoMemory}
use Rattle.study_run.specs.Faults.{fault_of_window}
use Rattle.live_study.specs.Engines.{InStep, IsAhead, StopsEngine}
use Rattle.live_study.specs.Showing.{Raises}
use Rattle.live_study.proofs.Taking.{taken_behind}

-- events leave the network as it is
net_of : (net : Net) (es : List Event) → (after net es).net ≡ net
net_of net es = net_stays (outset net) es

-- to raise a front changes no clones
pub front_after : (net : Net) (j : List Event) (f : ℕ)
    → (after net (j ++ NewFront f ∷ [])).clones ≡ (after net j).clones
front_after net j f = ap (λ (s : Situation). s.clones) (fold-append after_event (outset net) j (NewFront f ∷ []))

-- ---- the fronts of a journal
-- those of a right journal rise
rises_behind : (net : Net) (before es : List Event) → EachAfter (MayFollow net) before es
    → RisesFrom (front_of before) es
rises_behind net before [] right = tt
rises_behind net before (NewFront f ∷ es) right =
    let at = front_is net before in
    let less = right.0.0 in (
      omega (arith, less, at),
      subst (λ g. RisesFrom g es) (front_raised before f) (rises_behind net (before ++ NewFront f ∷ []) es right.1),
    )
rises_behind net before (NewCall c ∷ es) right =
    subst (λ g. RisesFrom g es) (front_asked before c) (rises_behind net (before ++ NewCall c ∷ []) es right.1)

-- the fronts of a right journal rise, all of them above 0
RisesFrom-right : (net : Net) (es : List Event) → IsRight net es → RisesFrom 0 es
RisesFrom-right net es right = rises_behind net [] es right

-- none of rising fronts is later than the last
no_later_from : (g : ℕ) (es : List Event) (f : ℕ) → RisesFrom g es → In f (fronts_of es) → f ≤ front_from g es
no_later_from g [] f r there = absurd there
no_later_from g (NewFront h ∷ es) f r there = ⊎_elim
    (λ (e : f ≡ h). omega (arith, e, front_from-above h es r.1))
    (λ (more : In f (fronts_of es)). no_later_from h es f r.1 more)
    there
no_later_from g (NewCall c ∷ es) f r there = no_later_from g es f r there

-- with one more, each is one of those before or this one
front_in : (es : List Event) (last f : ℕ) → In f (fronts_of (es ++ NewFront last ∷ []))
    → In f (fronts_of es) ⊎ (f ≡ last)
front_in [] last f there = ⊎_elim (λ (e : f ≡ last). inr e) (λ (none : In f []). absurd none) there
front_in (NewFront h ∷ es) last f there = ⊎_elim
    (λ (e : f ≡ h). inl (inl e))
    (λ (more : In f (fronts_of (es ++ NewFront last ∷ []))). ⊎_elim
    (λ (k : In f (fronts_of es)). inl (inr k))
    (λ (k : f ≡ last). inr k)
    (front_in es last f more))
    there
front_in (NewCall c ∷ es) last f there = front_in es last f there

-- those before the last one are no later than the one before it
pub before_last : (net : Net) (es : List Event) (last f : ℕ) → IsRight net es
    → In f (fronts_of (es ++ NewFront last ∷ [])) → f < last → f ≤ front_of es
before_last net es last f right there less = ⊎_elim
    (λ (k : In f (fronts_of es)). no_later_from 0 es f (RisesFrom-right net es right) k)
    (λ (k : f ≡ last). absurd (omega (arith, k, less)))
    (front_in es last f there)

-- ---- the limit
-- if no log is beyond the limit, none was at an earlier front
none_earlier : (net : Net) (cs : List Clone) (f front : ℕ) → IsNet net → f ≤ front → NoneBeyond net cs front
    → NoneBeyond net cs f
none_earlier net cs f front valid early none c there s is beyond =
    none c there s is (IsBeyond-later (lawful-stations net valid) (clone_at cs c) s f front early beyond)

-- ---- a turn
-- what the world takes in a turn, as the helm's journal tells it
pub record Takes (h : HelmView) (cs : List Call) : Type 0 where
  pub accepted : AreAccepted h.net (after h.net h.helm).clones (front_of h.helm) (accepted_of cs)
  pub clones : (after h.net (h.helm ++ map NewCall cs)).clones ≡ clones_after_calls h.net (after h.net h.helm).clones
      (accepted_of cs)

-- the calls of a turn are such
takes_turn : (h : HelmView) (turn : Turn) (new : HelmView) (cs : List Call) → IsNextTurn h turn new cs → Takes h cs
takes_turn h turn new cs t =
    let s : Situation = after h.net h.helm in
    let taken = taken_behind h.net h.helm cs t.over.right in
    let net : s.net ≡ h.net = net_of h.net h.helm in
    record {
      accepted = subst (λ f. AreAccepted h.net s.clones f (accepted_of cs)) (front_is h.net h.helm)
          (subst (λ (n : Net). AreAccepted n s.clones s.front (accepted_of cs)) net taken.accepted);
      clones = ap (λ (x : Situation). x.clones) (fold-append after_event (outset h.net) h.helm (map NewCall cs))
          ∙ taken.clones
          ∙ ap (λ (n : Net). clones_after_calls n s.clones (accepted_of cs)) net;
    }

-- what the turn returns is accepted by a world in step
pub may_take : (h : HelmView) (w : WorldView) (turn : Turn) (new : HelmView) (cs : List Call) (fresh : List Call)
    → InStep h w
    → IsNextTurn h turn new cs → fresh ≡ turn.fresh.items → AreAccepted w.net w.clones w.front fresh
may_take h w turn new cs fresh i t e =
    subst (λ l. AreAccepted w.net w.clones w.front l) (sym (e ∙ t.over.fresh))
    (subst (λ f. AreAccepted w.net w.clones f (accepted_of cs)) (sym i.front)
    (subst (λ l. AreAccepted w.net l (front_of h.helm) (accepted_of cs)) (sym i.clones)
    (subst (λ (n : Net). AreAccepted n (after h.net h.helm).clones (front_of h.helm) (accepted_of cs)) (sym i.net)
    (takes_turn h turn new cs t).accepted)))

-- and the window comes next
pub goes_ahead : (h : HelmView) (w : WorldView) (turn : Turn) (new : HelmView) (cs : List Call) (fresh : List Call)
    (w2 : WorldView)
    → InStep h w → IsNextTurn h turn new cs → fresh ≡ turn.fresh.items
    → w2 ≡ record w { clones = clones_after_calls w.net w.clones fresh }
    → IsNet w2.net → NoneBeyond w2.net w2.clones w2.front → IsAhead new w2 turn.front
goes_ahead h w turn new cs fresh w2 i t e taken valid none =
    let net : w2.net ≡ w.net = ap (λ (v : WorldView). v.net) taken in
    let front : w2.front ≡ w.front = ap (λ (v : WorldView). v.front) taken in
    let clones : w2.clones ≡ clones_after_calls w.net w.clones fresh = ap (λ (v : WorldView). v.clones) taken in
    let j : List Event = h.helm ++ map NewCall cs in
    let of_net : w2.net ≡ h.net = net ∙ i.net in
    let of_front : w2.front ≡ front_of h.helm = front ∙ i.front in
    let of_clones : w2.clones ≡ (after h.net j).clones =
    clones ∙ ap (clones_after_calls w.net w.clones) (e ∙ t.over.fresh)
    ∙ ap (λ (n : Net). clones_after_calls n w.clones (accepted_of cs)) i.net
    ∙ ap (λ l. clones_after_calls h.net l (accepted_of cs)) i.clones ∙ sym (takes_turn h turn new cs t).clones in
    let next : turn.front ≡ next_front w2.net w2.clones w2.front =
    t.over.front ∙ ap (λ l. next_front h.net l (front_of h.helm)) (sym of_clones)
    ∙ ap (λ (n : Net). next_front n w2.clones (front_of h.helm)) (sym of_net)
    ∙ ap (next_front w2.net w2.clones) (sym of_front) in
    let calls = front_calls h.helm cs in
    let above = t.over.above in
    let within = t.over.within in
    let horizon : w2.net.horizon ≡ h.net.horizon = ap (λ (n : Net). n.horizon) of_net in
    subst (λ (n : HelmView). IsAhead n w2 turn.front) (sym t.new_is) (record {
      net = of_net;
      clones = of_clones ∙ sym (front_after h.net j turn.front);
      bound_is = sym (front_raised j turn.front);
      above = omega (arith, of_front, calls, above);
      within = omega (arith, next);
      time_max = omega (arith, within, horizon);
      length_max = λ f there less.
          let early = before_last h.net j turn.front f t.over.right there less in
          none_earlier w2.net w2.clones f w2.front valid (omega (arith, early, of_front, calls)) none;
    })

-- the engine stops with the window's fault: where a log is beyond the limit at the bound, there
pub stops_ahead : (h : HelmView) (w : WorldView) (bound old_steps new_steps : ℕ) (e : WorldFault) → IsAhead h w bound
    → IsFault w.net w.clones w.front bound old_steps new_steps e → StopsEngine h.net h.helm (fault_of_window e)
stops_ahead h w bound old_steps new_steps NoMemory ahead fault = tt
stops_ahead h w bound old_steps new_steps (EventLimit station who kept) ahead fault =
    let is = ahead.bound_is in
    record {
      first = subst (λ f. IsFirstBeyond h.net (after h.net h.helm).clones f station who) is
          (subst (λ l. IsFirstBeyond h.net l bound station who) ahead.clones
          (subst (λ (n : Net). IsFirstBeyond n w.clones bound station who) ahead.net fault.0));
      none_before = λ f there less. subst (λ l. NoneBeyond h.net l f) ahead.clones
          (subst (λ (n : Net). NoneBeyond n w.clones f) ahead.net (ahead.length_max f there (omega (arith, less, is))));
    }

-- the front is raised after calls
pub raises_next : (h new : HelmView) (turn : Turn) (cs : List Call) → IsNextTurn h turn new cs → Raises h new turn.front
raises_next h new turn cs t = record { calls = cs; helm = ap (λ (n : HelmView). n.helm) t.new_is }
