use Rattle.std.proofs.Common.{◌≤◌, ◌∙◌, subst, arith}
use Rattle.std.specs.List.{AllByRecursion}
use Rattle.sim_base.specs.Clones.{clone_at}
use Rattle.stations.specs.Runs.{trace_of}
use Rattle.trace_writer.specs.Words.{first_word}
use Rattle.trace_writer.specs.Kept.{trace_before}
use Rattle.trace_writer.specs.declared.texts.Mark.{Mark}
use Rattle.trace_writer.proofs.LinePuts.{same_lines, time_fits}
use Rattle.trace_writer.proofs.Marks.{marks_same}
use Rattle.trace_writer.proofs.putting.begin_text.Goals as goal

pub first_word-word-requires : goal.first_word-word-requires
first_word-word-requires c =
    let v = c.args.traces.now in
    let is = c.len-clones.ensures in
    record {
      fits = time_fits v.net is.valid v.clones is.in_net c.args.c c.requires.in_range c.parting_at.result
          c.parting_at.ensures.value;
    }

pub returns-clause-begun : goal.returns-clause-begun
returns-clause-begun c =
    let v = c.args.traces.now in
    let is = c.len-clones.ensures in
    let kept = c.keep_to.ensures.kept in
    let word = c.first_word-word.ensures.value in
    let same = same_lines v.net is.valid v.clones is.in_net c.args.c c.requires.in_range c.parting_at.result
    c.parting_at.ensures.value in
    let most = kept.at_most in
    let old = trace_before v.net v.clones c.args.c in
    record {
      text_is = kept.text_is v.net old c.requires.before ∙ same c.keep_to.result (omega (arith, most, word));
      marks = marks_same v.net old (trace_of v.net (clone_at v.clones c.args.c)) c.keep_to.new.text.items
          (first_word c.parting_at.result) c.keep_to.new.marks.items same
          (subst (λ n. AllByRecursion (λ (m : Mark). m.word ≤ n) c.keep_to.new.marks.items) word kept.early)
          (kept.marks_are v.net old c.requires.before);
    }
