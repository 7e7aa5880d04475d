use Rattle.std.proofs.Common.{rules, ◌≡◌, ℕ, List, [], ◌∷◌, ◌++◌}
use Rattle.std.specs.Prelude.{codes}
use Rattle.snapshot_lines.specs.Grammar.{shape_form}
use Rattle.snapshot_lines.specs.Spaced.{spaced}
use Rattle.snapshot_lines.proofs.StationText.{number_words, station_pushed}
use Rattle.snapshot_lines.proofs.write_lines.push_station.Goals as goal

pub returns : goal.returns
returns c =
    let out : List ℕ = c.args.out.now.items in
    let first : c.push_station_numbers.new.out.items
    ≡ out ++ (codes "station" ++ spaced (number_words c.args.station c.args.saved.now)) = search rules in
    let second : c.push_shape.new.out.items
    ≡ c.push_station_numbers.new.out.items ++ spaced ((shape_form 0).write c.args.saved.now.shape) = search rules in
    let third : c.extend_from_slice.new.self.items ≡ c.push_shape.new.out.items ++ 10 ∷ [] = search rules in
    record {
      value = station_pushed c.args.station c.args.saved.now out c.push_station_numbers.new.out.items
          c.push_shape.new.out.items c.extend_from_slice.new.self.items first second third;
    }
