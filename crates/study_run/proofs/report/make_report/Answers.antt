use Rattle.std.proofs.Common.{◌≡◌, ◌∙◌, List, ap, arith, length, subst, sym}
use Rattle.sim_base.specs.declared.figures.Figures.{Figures}
use Rattle.net_model.specs.Net.{Net}
use Rattle.world_core.specs.Overs.{NoneBeyond}
use Rattle.study_run.specs.Limits.{AreWithin}
use Rattle.trace_report.specs.Outputs.{figures_to}
use Rattle.trace_report.specs.ReportText.{HaveSmallSums}
use Rattle.study_run.proofs.Reports.{few_at, figures_count, figures_none, figures_pushed}
use Rattle.study_run.proofs.Reports.{figures_small, report_is, text_on}
use Rattle.study_run.proofs.report.make_report.Goals as goal

pub loop-s-init : goal.loop-s-init
loop-s-init c = c.new-figures.ensures.items ∙ figures_none c.args.model.now c.args.world.now.clones

pub loop-s-preserved : goal.loop-s-preserved
loop-s-preserved c =
    figures_pushed c.args.model.now c.args.world.now.net c.args.world.now.clones c.args.world.now.front c.loop-s.s
    c.figures.result c.loop-s.figures.items c.push.new.self.items
    c.requires.may_report.net c.requires.may_report.ended c.figures.ensures.copies c.figures.ensures.handled
    c.figures.ensures.alone c.loop-s.invariant c.in_ok-push.ensures.items

pub report_text-requires-clause-all : goal.report_text-requires-clause-all
report_text-requires-clause-all c =
    let last : c.loop-s.s ≡ length c.args.model.now.sites =
    omega (arith, c.loop-s-test.false, c.loop-s.auto.s-end, c.len-s-end.ensures.value) in
    let all = c.as_slice.ensures.value
    ∙ (c.loop-s.invariant ∙ ap (figures_to c.args.model.now c.args.world.now.clones) last) in
    ap length all ∙ figures_count c.args.model.now c.args.world.now.clones (length c.args.model.now.sites)

pub report_text-requires-clause-sums : goal.report_text-requires-clause-sums
report_text-requires-clause-sums c =
    let few = c.lists-short.ensures.at_most in
    let may = c.requires.may_report in
    let within : AreWithin c.args.model.now c.args.world.now.clones =
    subst (NoneBeyond c.args.model.now c.args.world.now.clones) may.ended
    (subst (λ (n : Net). NoneBeyond n c.args.world.now.clones c.args.world.now.front) may.net
    c.lists-short.ensures.length_max) in
    let last : c.loop-s.s ≡ length c.args.model.now.sites =
    omega (arith, c.loop-s-test.false, c.loop-s.auto.s-end, c.len-s-end.ensures.value) in
    let all = c.as_slice.ensures.value
    ∙ (c.loop-s.invariant ∙ ap (figures_to c.args.model.now c.args.world.now.clones) last) in
    subst (λ (l : List Figures). HaveSmallSums l) (sym all) (record {
      handled = figures_small c.args.model.now c.args.world.now.clones (λ (f : Figures). f.handled)
          (λ s low high. (few_at c.args.model.now c.args.world.now.clones within s low high).handled_few)
          c.len-s-end.ensures.valid few;
      alone = figures_small c.args.model.now c.args.world.now.clones (λ (f : Figures). f.alone)
          (λ s low high. (few_at c.args.model.now c.args.world.now.clones within s low high).alone_few)
          c.len-s-end.ensures.valid few;
    })

pub returns : goal.returns
returns c =
    let last : c.loop-s.s ≡ length c.args.model.now.sites =
    omega (arith, c.loop-s-test.false, c.loop-s.auto.s-end, c.len-s-end.ensures.value) in
    let all = c.as_slice.ensures.value
    ∙ (c.loop-s.invariant ∙ ap (figures_to c.args.model.now c.args.world.now.clones) last) in
    record {
      text = text_on (λ t. t.items) c.report_text.result _ _
          (report_is c.args.model.now c.args.world.now.clones c.as_slice.result.now all) c.report_text.ensures;
    }
