use Rattle.std.proofs.Common.{◌≡◌, inl, inr, arith, sym, ap, ◌∙◌, subst}
use Rattle.std.proofs.lemmas.Bool.{cases_eq}
use Rattle.std.proofs.lemmas.Option.{slice_get_within}
use Rattle.station_steps.specs.declared.station_step.StationStep.{StationStep}
use Rattle.clone_sets.specs.Sets.{IsFirst}
use Rattle.station_steps.proofs.Places.{got_at, one_got}
use Rattle.station_steps.proofs.stepping.first_over.Goals as goal

pub returns-in-Some-clause-first : goal.returns-in-Some-clause-first
returns-in-Some-clause-first c = record {
  flow = c.index-flows-i.result;
  is_there = got_at c.args.flows.now c.loop-i.i c.index-flows-i.result
      (omega (arith, c.loop-i-test.true, c.loop-i.auto.i-end)) c.index-flows-i.is;
  first = subst (λ (x : StationStep). IsFirst x.over c.in-Some.who) (sym c.index-flows-i.is) c.in-Some.ensures.some;
  none_before = c.loop-i.invariant;
}

pub loop-i-preserved : goal.loop-i-preserved
loop-i-preserved c = λ j f l got. elim (cases_eq j c.loop-i.i) [
  | inl e ↦
      let there = got_at c.args.flows.now c.loop-i.i c.index-flows-i.result
      (omega (arith, c.loop-i-test.true, c.loop-i.auto.i-end)) c.index-flows-i.is in
      let same : f ≡ c.index-flows-i.result =
      one_got c.args.flows.now j c.loop-i.i f c.index-flows-i.result e got there in
      ap (λ (x : StationStep). x.over) same ∙ ap (λ (x : StationStep). x.over) c.index-flows-i.is ∙
      c.in_default.ensures.none
  | inr n ↦ c.loop-i.invariant j f (omega (arith, l, n)) got
]

pub returns-clause-first : goal.returns-clause-first
returns-clause-first c = λ i flow got.
    let l = slice_get_within c.args.flows.now i flow got in
    c.loop-i.invariant i flow (omega (arith, l, c.loop-i-test.false, c.loop-i.auto.i-end)) got
