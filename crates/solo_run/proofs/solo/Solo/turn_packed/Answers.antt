use Rattle.std.proofs.Common.{◌≡◌, ◌-◌, ◌<◌, ◌∙◌, refl, sym, subst, drop, length, Some, slice_get, arith}
use Rattle.std.proofs.lemmas.Option.{get_or_from_slice_get, slice_get_read}
use Rattle.stations.specs.Quick.{IsQuick}
use Rattle.solo_run.specs.EventLists.{all_messages}
use Rattle.solo_run.specs.SoloView.{SoloView, IsSoloAfter}
use Rattle.solo_run.specs.Turns.{HasTurnedBefore, StopsBefore}
use Rattle.solo_run.proofs.Firsts.{all_messages-first}
use Rattle.solo_run.proofs.OneTurn.{solo_view}
use Rattle.solo_run.proofs.Turning.{solo_taken, turned, StopsBefore-StopsAt, if_err}
use Rattle.solo_run.proofs.solo.Solo.turn_packed.Goals as goal

pub is_quick-requires : goal.is_quick-requires
is_quick-requires g c =
    let net = c.args.model.now in
    let states = c.self.inside.states.items in
    let first = c.in-Some.first in
    let solo = subst (λ (w : SoloView). IsSoloAfter net g.past w) (sym c.self.view_is) c.requires.1.0 in
    let v = solo_view states c.self.inside.trace c.self.inside.pending in
    let for_it = (solo_taken net g.past v first (drop 1 (all_messages c.self.inside.pending))
    (all_messages-first c.self.inside.pending first c.in-Some.ensures.first) solo).targets.0 in
    let to = c.to.ensures.value in
    let count = solo.count in
    let within : c.to.result - 1 < length states = omega (arith, to, for_it.0, for_it.1, count) in
    let place = slice_get_read states _ (c.to.result - 1) c.index.result.now refl within c.index.ensures in
    let handled = (solo.states (c.to.result - 1) c.index.result.now place).within in
    let most = solo.valid.limit_max in
    record { below = omega (arith, handled, most) }

pub handle_packed-requires-clause-receiver : goal.handle_packed-requires-clause-receiver
handle_packed-requires-clause-receiver g c =
    let net = c.args.model.now in
    let v = solo_view c.self.inside.states.items c.self.inside.trace c.self.inside.pending in
    let solo = subst (λ (w : SoloView). IsSoloAfter net g.past w) (sym c.self.view_is) c.requires.1.0 in
    (solo_taken net g.past v c.in-Some.first (drop 1 (all_messages c.self.inside.pending))
    (all_messages-first c.self.inside.pending c.in-Some.first c.in-Some.ensures.first) solo).targets.0

pub handle_packed-requires-clause-suits : goal.handle_packed-requires-clause-suits
handle_packed-requires-clause-suits g c i st is =
    let solo = subst (λ (w : SoloView). IsSoloAfter c.args.model.now g.past w) (sym c.self.view_is) c.requires.1.0 in
    (solo.states i st is).suits

pub handle_packed-requires-clause-numbers : goal.handle_packed-requires-clause-numbers
handle_packed-requires-clause-numbers g c i st is =
    let solo = subst (λ (w : SoloView). IsSoloAfter c.args.model.now g.past w) (sym c.self.view_is) c.requires.1.0 in
    (solo.states i st is).station

pub handle_packed-requires-clause-quick : goal.handle_packed-requires-clause-quick
handle_packed-requires-clause-quick g c st is =
    let states = c.self.inside.states.items in
    let there = subst (λ n. slice_get states (n - 1) ≡ Some st) (sym c.to.ensures.value) is in
    let same : c.index.result.now ≡ st = c.index.ensures
    ∙ get_or_from_slice_get states (c.to.result - 1) st c.index.result.now there in
    subst (IsQuick 1) same (c.is_quick.ensures c.if-not-is_quick.false)

pub returns-in_err-sends-clause-stops : goal.returns-in_err-sends-clause-stops
returns-in_err-sends-clause-stops g c =
    let net = c.args.model.now in
    let first = c.in-Some.first in
    let pending = c.self.inside.pending in
    let v = solo_view c.self.inside.states.items c.self.inside.trace pending in
    let stops = StopsBefore-StopsAt net g.past v first (drop 1 (all_messages pending))
    (all_messages-first pending first c.in-Some.ensures.first) c.args.front c.args.steps.now c.handle_packed.new.steps
    c.in_err-sends.field-0.0 c.in-Some.ensures.time_max c.in_err-sends.ensures.full in
    if_err c.from_residual.result c.in_err-sends.field-0.0 _
    (subst (λ (w : SoloView). StopsBefore net c.args.front w c.args.steps.now c.handle_packed.new.steps
    c.in_err-sends.field-0.0) c.self.view_is stops) c.from_residual.ensures.1

pub returns-clause-turned : goal.returns-clause-turned
returns-clause-turned g c _ =
    let net = c.args.model.now in
    let pending = c.self.inside.pending in
    let v = solo_view c.self.inside.states.items c.self.inside.trace pending in
    let solo = subst (λ (w : SoloView). IsSoloAfter net g.past w) (sym c.self.view_is) c.requires.1.0 in
    let new = solo_view c.handle_packed.new.states.items c.push_packed.new.self c.replace_first.new.self in
    let early = c.in-Some.ensures.time_max in
    let horizon = c.requires.1.1 in
    let soon = solo.valid.horizon_max in
    subst (λ (w : SoloView). HasTurnedBefore net g.past c.args.front w new c.args.steps.now c.handle_packed.new.steps)
    c.self.view_is
    (rw c.in-Ok.ensures.ok
    (turned net g.past v c.in-Some.first (drop 1 (all_messages pending))
    (all_messages-first pending c.in-Some.first c.in-Some.ensures.first) c.handle_packed.new.states.items
    (all_messages c.replace_first.new.self) _ _ c.args.front c.args.steps.now c.handle_packed.new.steps solo early
    (omega (arith, early, horizon, soon)) c.in_ok-sends.ensures.ok c.in-Ok-replace_first.ensures.ok
    c.in_ok-sends.ensures.counted))
