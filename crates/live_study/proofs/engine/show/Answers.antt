use Rattle.std.proofs.Common.{◌≡◌, ◌∙◌, ◌+◌, ◌-◌, ◌≤◌, ap, refl, sym, subst, arith, length}
use Rattle.std.proofs.lemmas.Bool.Decides.{nat_tests}
use Rattle.net_model.specs.Net.{Net}
use Rattle.live_study.specs.Driving.{MayShow}
use Rattle.live_study.specs.Showing.{AreShownTo, AreShownUpTo, TellsEach}
use Rattle.live_study.proofs.Closing.{of_same}
use Rattle.live_study.proofs.Publishing.{round_skips}
use Rattle.live_study.proofs.engine.show.Goals as goal
use Rattle.live_study.proofs.engine.show.Goals.{then-last+in_ok-show_one, else-last+else-is_watched}

pub loop-s-init : goal.loop-s-init
loop-s-init g c = record {
  within = omega arith;
  same = refl;
  shown = c.requires.may_show.shown;
  readers = refl;
  tells = λ last low. absurd (omega (arith, low));
}

pub show_one-requires-clause-may_show : goal.show_one-requires-clause-may_show
show_one-requires-clause-may_show g c =
    let helm = c.args.helm.now in
    let racks = c.loop-s.stocker.stock.published in
    let s = c.loop-s.s in
    let may = c.requires.may_show in
    let back : s ≡ s + 1 - 1 = omega arith in
    subst (λ w. MayShow helm w (s + 1 - 1) racks) (sym c.loop-s.invariant.same)
    (subst (λ n. MayShow helm c.args.world.now n racks) back
    (record { net = may.net; at = may.at; shown = c.loop-s.invariant.shown }))

pub loop-s-preserved : goal.loop-s-preserved
loop-s-preserved g c =
    let helm = c.args.helm.now in
    let world = c.args.world.now in
    let s = c.loop-s.s in
    let i = c.loop-s.invariant in
    let many = ap (λ (n : Net). length n.sites) c.model-2.ensures.value in
    let within : s + 1 ≤ length world.net.sites = omega (arith, c.loop-s-test.true, c.len-many.ensures.value, many) in
    elim c.if-last.branch [
      | then-last+in_ok-show_one w ↦ record {
        within = within;
        same = w.world-is ∙ w.show_one.ensures.same ∙ i.same;
        shown = of_same _ _ w.stocker-is (λ t. AreShownTo helm world (s + 1) t.stock.published)
            (of_same _ _ (sym i.same) (λ v. AreShownTo helm v (s + 1) w.show_one.new.stocker.stock.published)
            w.in_ok-show_one.ensures.shown);
        readers = of_same _ _ w.stocker-is (λ t. t.stock.readers ≡ c.args.stocker.now.stock.readers)
            (w.show_one.ensures.readers ∙ i.readers);
        tells = λ last low.
            of_same _ _ w.stocker-is
            (λ t. TellsEach t.stock.readers t.stock.has_published (length t.stock.spares.items))
            w.in_ok-show_one.ensures.tells;
      }
      | else-last+else-is_watched w ↦ record {
        within = within;
        same = w.world-is ∙ i.same;
        shown = of_same _ _ w.stocker-is (λ t. AreShownTo helm world (s + 1) t.stock.published)
            (round_skips helm world s c.loop-s.stocker.stock.published i.shown
            (λ last. absurd (grind (
              arith,
              nat_tests,
              last,
              w.if-last.false,
              c.front.ensures.value,
              c.horizon.ensures.value,
              ap (λ (n : Net). n.horizon) c.model.ensures.value,
            ))));
        readers = of_same _ _ w.stocker-is (λ t. t.stock.readers ≡ c.args.stocker.now.stock.readers) i.readers;
        tells = λ last low. absurd (grind (arith, nat_tests, last, w.if-last.false));
      }
    ]

pub returns-clause-shown : goal.returns-clause-shown
returns-clause-shown g c =
    let world = c.args.world.now in
    let i = c.loop-s.invariant in
    let many = ap (λ (n : Net). length n.sites) c.model-2.ensures.value in
    let all : c.loop-s.s ≡ length world.net.sites =
    omega (arith, i.within, c.loop-s-test.false, c.len-many.ensures.value, many) in
    subst (λ n. AreShownUpTo c.args.helm.now world n c.loop-s.stocker.stock.published) all i.shown.up_to

pub returns-clause-tells : goal.returns-clause-tells
returns-clause-tells g c at =
    let i = c.loop-s.invariant in
    let horizon = ap (λ (n : Net). n.horizon) c.model.ensures.value in
    let some = c.len-many.ensures.valid.nonempty in
    i.tells (grind (arith, nat_tests, at, c.front.ensures.value, c.horizon.ensures.value, horizon))
    (omega (arith, c.loop-s-test.false, c.len-many.ensures.value, some))
