use Rattle.std.proofs.Common.{◌≡◌, ℕ, ◌+◌, length, decimal, sym, ap, ◌∙◌, arith}
use Rattle.stations.specs.declared.saved.Saved.{Saved}
use Rattle.snapshot_lines.specs.Grammar.{shape_form}
use Rattle.snapshot_lines.specs.Spaced.{spaced}
use Rattle.snapshot_lines.proofs.StationText.{station_length}
use Rattle.snapshot_lines.proofs.lengths.station_len.Goals as goal

pub returns-clause-value : goal.returns-clause-value
returns-clause-value c =
    let x : Saved = c.args.saved.now in
    let station = ap (λ (n : ℕ). length (decimal n)) c.from.ensures in
    let a = c.number_len.ensures.value in
    let b = c.number_len-2.ensures.value in
    let d = c.number_len-3.ensures.value in
    let e = c.number_len-4.ensures.value in
    let shape = c.shape_len.ensures.value in
    let sum : c.number_len.result + c.number_len-2.result + c.number_len-3.result + c.number_len-4.result
    + c.shape_len.result + 27
    ≡ length (decimal c.args.station) + length (decimal x.next) + length (decimal x.drawn)
    + length (decimal x.handled) + length (spaced ((shape_form 0).write x.shape)) + 31 =
    omega (arith, station, a, b, d, e, shape) in
    omega arith ∙ (sum ∙ sym (station_length c.args.station x))
