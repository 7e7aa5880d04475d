use Rattle.std.proofs.Common.{◌≡◌, ◌<◌, ℕ, ◌∙◌, ap, arith, length, subst}
use Rattle.net_model.specs.Net.{Net}
use Rattle.net_model.specs.Rules.{IsNet}
use Rattle.run_laws.specs.SharedTexts.{station_sum}
use Rattle.stations.specs.Runs.{handled_once}
use Rattle.live_study.proofs.Working.{fits, station_sum-next}
use Rattle.live_study.proofs.work.handled_in.Goals as goal

pub overflow_add-total : goal.overflow_add-total
overflow_add-total c =
    let w = c.args.world.now in
    let sites = ap (λ (n : Net). length n.sites) c.model-2.ensures.value in
    let few = c.lists-few.ensures in
    let valid = subst IsNet c.model.ensures.value c.lookahead-valid.ensures.valid in
    let less : c.loop-s.s < length w.net.sites = omega (arith, c.loop-s-test.true, c.len-many.ensures.value, sites) in
    let small = fits w.net w.clones w.front c.loop-s.s valid
    few.at_most c.requires.finished few.length_max less in
    omega (arith, c.loop-s.invariant.sum, c.figures-total.ensures.handled, small)

pub loop-s-preserved : goal.loop-s-preserved
loop-s-preserved c =
    let w = c.args.world.now in
    let f : ℕ → ℕ = λ s. handled_once w.net w.clones s w.front in
    let sites = ap (λ (n : Net). length n.sites) c.model-2.ensures.value in
    record {
      within = omega (arith, c.loop-s-test.true, c.len-many.ensures.value, sites);
      sum = omega (arith, c.loop-s.invariant.sum, c.figures-total.ensures.handled, station_sum-next f c.loop-s.s);
    }

pub returns : goal.returns
returns c =
    let w = c.args.world.now in
    let sites = ap (λ (n : Net). length n.sites) c.model-2.ensures.value in
    let all : c.loop-s.s ≡ length w.net.sites =
    omega (arith, c.loop-s-test.false, c.loop-s.invariant.within, c.len-many.ensures.value, sites) in
    record {
      value = c.loop-s.invariant.sum
          ∙ ap (λ n. station_sum (λ s. handled_once w.net w.clones s w.front) n) all;
    }
