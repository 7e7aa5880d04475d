use Rattle.std.proofs.Common.{◌≤◌, ◌<◌, ◌∷◌, [], ◌∙◌, sym, subst, length, take, get_or, arith}
use Rattle.std.specs.List.{AllByRecursion}
use Rattle.std.proofs.lemmas.List.{take_more}
use Rattle.sim_base.proofs.ListLaws.{all_append, all_at, all_weaker}
use Rattle.trace_writer.specs.Kept.{IsMarkOf, AreMarksOf}
use Rattle.trace_writer.specs.declared.texts.Mark.{Mark}
use Rattle.trace_writer.proofs.Marks.{IsEarly, before_zero, marks_cut, marks_take, read_same}
use Rattle.trace_writer.proofs.kept.keep_to.Goals as goal

pub mark-init : goal.mark-init
mark-init c = record {
  within = omega arith;
  word = omega arith;
  size = omega arith;
  early = tt;
  is = λ net es h. sym (before_zero net es);
}

pub mark-preserved : goal.mark-preserved
mark-preserved c =
    let h = c.mark.invariant in
    let text = c.args.text.now.items in
    let marks = c.args.marks.now.items in
    let i = c.mark.count in
    let m = c.index-last.result.now in
    let there : i < length marks = omega (arith, c.mark-test.true, c.len.ensures, c.args.marks.now.ok.0) in
    let one = read_same marks i c.index.result.now m there c.index.ensures c.index-last.ensures in
    let two = read_same marks i c.index-then-index-word.result.now m there c.index-then-index-word.ensures
    c.index-last.ensures in
    let three = read_same marks i c.index-then-last-index.result.now m there c.index-then-last-index.ensures
    c.index-last.ensures in
    let word : m.word ≤ c.args.word = subst (λ (n : Mark). n.word ≤ c.args.word) one c.if-index-word.true in
    let more : c.mark.last.size ≤ m.size = subst (λ (n : Mark). c.mark.last.size ≤ n.size) two c.if-last-index.true in
    let room : m.size ≤ c.len-then-last-index.result =
    subst (λ (n : Mark). n.size ≤ c.len-then-last-index.result) three c.if-index-len.true in
    let newest : IsEarly c.args.word m.size m = record { word = word; size_is = omega arith } in
    record {
      within = omega (arith, there);
      word = word;
      size = omega (arith, room, c.len-then-last-index.ensures, c.args.text.now.ok.0);
      early = subst (AllByRecursion (IsEarly c.args.word m.size)) (sym (take_more marks i m there))
          (all_append (IsEarly c.args.word m.size) (take i marks) (get_or marks i m ∷ [])
          (all_weaker (IsEarly c.args.word c.mark.last.size) (IsEarly c.args.word m.size) (take i marks)
          (λ (n : Mark) (e : IsEarly c.args.word c.mark.last.size n). let a = e.size_is in
          record { word = e.word; size_is = omega (arith, a, more) }) h.early)
          (subst (IsEarly c.args.word m.size) c.index-last.ensures newest, tt));
      is = λ net es all. (subst (IsMarkOf net es text) (sym c.index-last.ensures)
          (all_at (IsMarkOf net es text) marks i m all there)).is;
    }

pub returns : goal.returns
returns c =
    let h = c.mark.invariant in
    let text = c.args.text.now.items in
    let marks = c.args.marks.now.items in
    let now = c.truncate-2.ensures.items in
    let left = c.truncate.ensures.items in
    record {
      kept = record {
        at_most = h.word;
        text_is = λ net es m. now ∙ h.is net es m;
        marks_are = λ net es m. subst (λ t. AreMarksOf net es t c.truncate.new.self.items) (sym now)
            (subst (AreMarksOf net es (take c.mark.last.size text)) (sym left)
            (marks_cut net es text c.mark.last.size c.args.word (take c.mark.count marks) h.size
            (marks_take net es text c.mark.count marks m) h.early));
        early = subst (AllByRecursion (λ (m : Mark). m.word ≤ c.args.word)) (sym left)
            (all_weaker (IsEarly c.args.word c.mark.last.size) (λ (m : Mark). m.word ≤ c.args.word)
            (take c.mark.count marks) (λ m e. e.word) h.early);
      };
    }
