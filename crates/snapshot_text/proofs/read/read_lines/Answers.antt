use Rattle.std.proofs.Common.{rules, ◌≡◌, Option, Some, None, sym, ap, ◌∙◌, arith}
use Rattle.snapshot_text.specs.Reading.{ReaderView, ends, of_lines, step}
use Rattle.snapshot_text.proofs.Parts.{line-refused, line-taken}
use Rattle.snapshot_text.proofs.read.read_lines.Goals as goal

pub returns-then-not-branch-clause-refused : goal.returns-then-not-branch-clause-refused
returns-then-not-branch-clause-refused c =
    let none : Option (Option ReaderView) = None in
    let refused : step c.args.model.now c.lines.reader c.in-Some.first.now ≡ none = search rules in
    λ other. ap (of_lines c.args.model.now) (sym c.lines.invariant.same
    ∙ line-refused (step c.args.model.now) ends c.lines.line c.lines.reader c.lines.rest.now c.in-Some.first.now
    c.in-Some.more.now c.in-Some.ensures.cut refused)

pub lines-preserved : goal.lines-preserved
lines-preserved c =
    let taken : step c.args.model.now c.lines.reader c.in-Some.first.now ≡ Some c.take_line.new.reader = search rules in
    let shorter = c.in-Some.ensures.shorter in
    let most = c.lines.invariant.at_most in
    record {
      same = sym (line-taken (step c.args.model.now) ends c.lines.line c.lines.reader c.lines.rest.now
          c.in-Some.first.now c.in-Some.more.now c.take_line.new.reader c.in-Some.ensures.cut taken)
          ∙ c.lines.invariant.same;
      at_most = omega (arith, shorter, most);
    }
