use Rattle.std.proofs.Common.{◌≡◌, ◌∙◌, ◌+◌, ◌++◌, ◌∷◌, [], ℕ, List, ap, append-nil, arith, length, length-append, map}
use Rattle.std.proofs.Common.{refl, sym, subst, rules, true, true≢false}
use Rattle.std.specs.Prelude.{vec_capacity}
use Rattle.std.proofs.lemmas.Iterator.Adapters.{YieldsList-from_vec}
use Rattle.std.proofs.lemmas.Iterator.Consumers.{YieldsList-turn}
use Rattle.std.proofs.lemmas.List.{length-map}
use Rattle.phys_proc.specs.Racks.{RackView}
use Rattle.live_study.specs.Asking.{SeatedAnalyst}
use Rattle.live_study.specs.Looks.{AreOfOneHistory}
use Rattle.live_study.proofs.Closing.{all_read_more, of_same, with_image}
use Rattle.live_study.proofs.live.close_seats.Goals as goal
use Rattle.live_study.proofs.live.close_seats.Goals.{then-finished, else-finished}

-- a number that stays the same twice
stays : (new old first : ℕ) → new ≡ old → old ≡ first → new ≡ first
stays new old first e i = e ∙ i

-- ---- learn_last

pub learn_last-requires : goal.learn_last-requires
learn_last-requires g c =
    let step = YieldsList-turn (YieldsList-from_vec {s = c.into_iter-one-iterator.result} c.args.seated.items
    (search rules) (search rules)) c.loop-one.yielded _ c.loop-one.yielded_by _ c.next.new.self c.in-Some.one
    c.in-Some.is c.next.ensures.steps in
    let left = c.loop-one.invariant.left c.if-finished.true in
    record { tells = c.loop-one.invariant.tells c.if-finished.true; left = omega (arith, left, step.0) }

-- ---- push_reserved

pub push_reserved-requires : goal.push_reserved-requires
push_reserved-requires g c =
    let step = YieldsList-turn (YieldsList-from_vec {s = c.into_iter-one-iterator.result} c.args.seated.items
    (search rules) (search rules)) c.loop-one.yielded _ c.loop-one.yielded_by _ c.next.new.self c.in-Some.one
    c.in-Some.is c.next.ensures.steps in
    let f = λ (a : SeatedAnalyst). a.0.pass in
    let first = c.args.reserve.passes in
    omega (
      arith,
      step.0,
      ap length c.loop-one.invariant.passes,
      length-append first.items (map f c.loop-one.yielded),
      length-map c.loop-one.yielded f,
      c.loop-one.passes.ok.0,
      first.ok.0,
      c.loop-one.invariant.for_passes,
      c.requires.passes,
    )

pub push_reserved-requires-in-loop-one : goal.push_reserved-requires-in-loop-one
push_reserved-requires-in-loop-one g c =
    let step = YieldsList-turn (YieldsList-from_vec {s = c.into_iter-one-iterator.result} c.args.seated.items
    (search rules) (search rules)) c.loop-one.yielded _ c.loop-one.yielded_by _ c.next.new.self c.in-Some.one
    c.in-Some.is c.next.ensures.steps in
    let f = λ (a : SeatedAnalyst). a.0.looks in
    let first = c.args.reserve.looks in
    omega (
      arith,
      step.0,
      ap length c.loop-one.invariant.looks,
      length-append first.items (map f c.loop-one.yielded),
      length-map c.loop-one.yielded f,
      c.loop-one.looks.ok.0,
      first.ok.0,
      c.loop-one.invariant.for_looks,
      c.requires.looks,
    )

-- ---- loop

pub loop-one-init : goal.loop-one-init
loop-one-init g c = record {
  passes = sym (append-nil c.args.reserve.passes.items);
  looks = sym (append-nil c.args.reserve.looks.items);
  for_passes = refl;
  for_looks = refl;
  published = refl;
  tells = λ yes. (c.requires.tells yes).0;
  left = λ yes. let left = (c.requires.tells yes).1 in omega (arith, left);
  history = λ yes. tt;
}

pub loop-one-preserved : goal.loop-one-preserved
loop-one-preserved g c =
    let one = c.in-Some.one in
    let done = c.loop-one.yielded in
    let first = c.args.stock.now.published in
    let i = c.loop-one.invariant in
    record {
      passes = with_image (λ (a : SeatedAnalyst). a.0.pass) c.args.reserve.passes.items c.loop-one.passes.items
          c.push_reserved.new.self.items done one i.passes c.push_reserved.ensures.items;
      looks = with_image (λ (a : SeatedAnalyst). a.0.looks) c.args.reserve.looks.items c.loop-one.looks.items
          c.push_reserved-in-loop-one.new.self.items done one i.looks c.push_reserved-in-loop-one.ensures.items;
      for_passes = stays (vec_capacity c.push_reserved.new.self) (vec_capacity c.loop-one.passes)
          (vec_capacity c.args.reserve.passes) c.push_reserved.ensures.capacity i.for_passes;
      for_looks = stays (vec_capacity c.push_reserved-in-loop-one.new.self) (vec_capacity c.loop-one.looks)
          (vec_capacity c.args.reserve.looks) c.push_reserved-in-loop-one.ensures.capacity i.for_looks;
      published = elim c.if-finished.branch [
        | then-finished w ↦ of_same _ _ w.stock-is (λ t. t.published ≡ first)
            (w.learn_last.ensures.published ∙ i.published)
        | else-finished w ↦ of_same _ _ w.stock-is (λ t. t.published ≡ first) i.published
      ];
      tells = elim c.if-finished.branch [
        | then-finished w ↦ λ yes. of_same _ _ w.stock-is (λ t. t.has_published ≡ true) w.learn_last.ensures.tells
        | else-finished w ↦ λ yes. absurd (true≢false (sym yes ∙ w.if-finished.false))
      ];
      left = elim c.if-finished.branch [
        | then-finished w ↦ λ yes.
            let before = i.left yes in
            let fewer = w.learn_last.ensures.left in
            of_same _ _ w.stock-is
            (λ t. length t.spares.items + length (done ++ one ∷ []) ≡ length c.args.seated.items)
            (omega (arith, before, fewer, length-append done (one ∷ [])))
        | else-finished w ↦ λ yes. absurd (true≢false (sym yes ∙ w.if-finished.false))
      ];
      history = elim c.if-finished.branch [
        | then-finished w ↦ λ yes. all_read_more first done one (i.history yes)
            (subst (λ (l : List RackView). AreOfOneHistory l one.1) i.published w.learn_last.ensures.history)
        | else-finished w ↦ λ yes. absurd (true≢false (sym yes ∙ w.if-finished.false))
      ];
    }
