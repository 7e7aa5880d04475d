use Rattle.std.proofs.Common.{rules, ◌≡◌, ◌++◌, ◌∷◌, [], ◌-◌, ◌<◌, Some, length, sym, ap, ◌∙◌, arith}
use Rattle.std.proofs.lemmas.List.{length_push}
use Rattle.snapshot_lines.specs.Forms.{read_as, read_many}
use Rattle.snapshot_lines.specs.Grammar.{number_word}
use Rattle.snapshot_lines.proofs.ReadingMany.{one_more}
use Rattle.snapshot_lines.proofs.read_words.read_weights.Goals as goal

pub weights-preserved : goal.weights-preserved
weights-preserved c =
    let read : number_word.read c.weights.rest ≡ Some (c.in_ok-weight.weight, c.in_ok-weight.more) = search rules in
    let items : c.push.new.self.items ≡ c.weights.weights.items ++ c.in_ok-weight.weight ∷ [] = search rules in
    let some : 0 < c.weights.left = search rules in
    record {
      same = c.weights.invariant.same
          ∙ one_more number_word c.weights.weights.items c.weights.left c.weights.rest c.in_ok-weight.more
          c.in_ok-weight.weight some read
          ∙ ap (λ l. read_as (λ more. l ++ more) (read_many number_word (c.weights.left - 1) c.in_ok-weight.more))
          (sym items);
      count = let pushed = length_push c.weights.weights.items c.in_ok-weight.weight in
          let new = ap length items in
          let count = c.weights.invariant.count in
          omega (arith, pushed, new, count, some);
    }
