use Rattle.std.proofs.Common.{◌≡◌, ◌==◌, ◌+◌, ◌-◌, length, drop, Some, None, ◌∙◌, sym, arith}
use Rattle.std.specs.Prelude.{position}
use Rattle.std.proofs.lemmas.List.{length-drop, take_all}
use Rattle.decision_script.proofs.Cutting.{cut_bytes, uncut_bytes}
use Rattle.decision_script.proofs.text_lines.cut_at.Goals as goal

pub returns-in_err-at-clause-cut : goal.returns-in_err-at-clause-cut
returns-in_err-at-clause-cut c =
    let none : position (λ b. b == c.args.between) c.args.bytes.now ≡ None =
    sym c.place_of.ensures.value ∙ c.in_err-at.was in
    rw c.from_residual.ensures (uncut_bytes c.args.between c.args.bytes.now none)

pub returns-clause-cut : goal.returns-clause-cut
returns-clause-cut c =
    let some : position (λ b. b == c.args.between) c.args.bytes.now ≡ Some c.in_ok-at.at =
    sym c.place_of.ensures.value ∙ c.in_ok-at.was in
    let all = take_all (length c.args.bytes.now - (c.in_ok-at.at + 1)) (drop (c.in_ok-at.at + 1) c.args.bytes.now)
    (let n = length-drop (c.in_ok-at.at + 1) c.args.bytes.now in omega (arith, n)) in
    rw all (cut_bytes c.args.between c.args.bytes.now c.in_ok-at.at some)
