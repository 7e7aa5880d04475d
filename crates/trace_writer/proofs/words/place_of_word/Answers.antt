use Rattle.std.proofs.Common.{◌≡◌, ◌≤◌, sym, subst, drop, arith}
use Rattle.std.specs.List.{AllByRecursion}
use Rattle.trace_writer.specs.Words.{entry_word}
use Rattle.trace_writer.proofs.Searching.{up_to, from_it, from_place}
use Rattle.trace_writer.proofs.words.place_of_word.Goals as goal

pub loop-low-preserved-then-word_at-word : goal.loop-low-preserved-then-word_at-word
loop-low-preserved-then-word_at-word c =
    let h = c.loop-low.invariant in
    let at = c.word_at.ensures.value in
    record {
      order = omega (arith, c.loop-low-test.true);
      within = h.within;
      before = up_to _ c.args.word c.args.log.now at.entry at.rest c.requires.order.rise at.is
          (omega (arith, at.word_is, c.if-word_at-word.true));
      behind = h.behind;
    }

pub loop-low-preserved : goal.loop-low-preserved
loop-low-preserved c =
    let h = c.loop-low.invariant in
    let at = c.word_at.ensures.value in
    record {
      order = omega (arith, c.loop-low-test.true);
      within = omega (arith, c.loop-low-test.true, h.within);
      before = h.before;
      behind = from_it _ c.args.word c.args.log.now at.entry at.rest c.requires.order.rise at.is
          (omega (arith, at.word_is, c.if-word_at-word.false));
    }

pub returns-clause-value : goal.returns-clause-value
returns-clause-value c =
    let h = c.loop-low.invariant in
    let same : c.loop-low.high ≡ c.loop-low.low = omega (arith, c.loop-low-test.false, h.order) in
    sym (from_place c.loop-low.low c.args.word c.args.log.now h.before
    (subst (λ n. AllByRecursion (λ f. c.args.word ≤ entry_word f) (drop n c.args.log.now)) same h.behind))
