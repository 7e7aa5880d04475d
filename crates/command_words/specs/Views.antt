-- What contracts see of the values that were read.
use Rattle.std.specs.Prelude.{option_map}
use Rattle.command_words.specs.declared.given.Given.{Given}
use Rattle.command_words.specs.Values.{GivenView, positionals_of}

-- the values that were read, as plain data
abbrev pub given_view : Given → GivenView
given_view g = record {
  workers = option_map (λ s. s.now) g.workers;
  clone = option_map (λ s. s.now) g.clone;
  until = option_map (λ s. s.now) g.until;
  positionals = positionals_of (option_map (λ s. s.now) g.mode) (option_map (λ s. s.now) g.first)
      (option_map (λ s. s.now) g.second) (option_map (λ s. s.now) g.third);
}
