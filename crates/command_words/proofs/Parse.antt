-- The result of parsing the command.
use Rattle.std.proofs.Common.{◌≡◌, inl, inr, ℕ, Bool, true, false, List, [], ◌∷◌}
use Rattle.std.proofs.Common.{map, refl, Some, None, option_map, codes, slice_get, cond, Option}
use Rattle.std.specs.Prelude.{find, option_and_then}
use Rattle.std.specs.Str.{bytes_eq}
use Rattle.std.specs.Borrow.{Bor}
use Rattle.clap.specs.Facts.{Entry}
use Rattle.clap.specs.Walk.{row_of, texts}
use Rattle.clap.specs.Words.{Kinds, HasKind, fault_of, is_simple, is_simple_and_free, first_of}
use Rattle.clap.specs.Words.{first_value, found_of, rows_of, kind_of, matches_of}
use Rattle.clap.specs.declared.error.Error.{Error}
use Rattle.clap.specs.declared.error.kind.ErrorKind.TheVariants.{OutOfMemory}
use Rattle.clap.specs.declared.parser.matches.ArgMatches.{ArgMatches}
use Rattle.clap.specs.declared.parser.matches.Found.{Found}
use Rattle.clap.proofs.OnLiterals.{clap_on_literals}
use Rattle.command_words.specs.Application.{cloner_app}
use Rattle.command_words.specs.Clap.{clap_values, unless_fault}
use Rattle.command_words.specs.Values.{GivenView, positionals_of}

-- ---- is_simple, is_simple_and_free

-- clap finds its values in all words
pub is_simple-cloner_app : is_simple cloner_app ≡ true
unfolding clap_on_literals
is_simple-cloner_app = refl

-- and refuses words that have a fault
pub is_simple_and_free-cloner_app : is_simple_and_free cloner_app ≡ true
unfolding clap_on_literals
is_simple_and_free-cloner_app = refl

-- ---- HasKind

-- clap refuses words only if they have a fault, or if out of memory
pub HasKind-refused : (kinds : Kinds) (e : Error) (g : Option GivenView) → HasKind kinds e
    → (kind_of e ≡ OutOfMemory → ⊥) → None ≡ unless_fault kinds g
HasKind-refused [] e g (inl memory) other = absurd (other memory)
HasKind-refused [] e g (inr among) other = absurd among
HasKind-refused (k ∷ ks) e g h other = refl

-- ---- first_of

-- a first value after a reference
first_text : (xs : List (Bor (List ℕ))) → slice_get (texts xs) 0 ≡ option_map (λ s. s.now) (slice_get xs 0)
first_text [] = refl
first_text (x ∷ xs) = refl

-- the first value of a row
first_in : (es : List Entry) (id : List ℕ)
    → first_of id (map row_of es) ≡ option_and_then (λ a. option_map (λ s. s.now) (slice_get a.vals.items 0))
    (option_map (λ e. e.1) (find (λ e. bytes_eq e.0.now id) es))
first_in [] id = refl
first_in (e ∷ es) id = one (bytes_eq e.0.now id) (first_in es id)
  where
    one : (b : Bool) → first_of id (map row_of es) ≡ option_and_then
        (λ a. option_map (λ s. s.now) (slice_get a.vals.items 0))
        (option_map (λ x. x.1) (find (λ x. bytes_eq x.0.now id) es))
        → option_and_then (λ r. slice_get r.values 0)
        (cond b (Some (row_of e)) (find (λ r. bytes_eq r.id id) (map row_of es)))
        ≡ option_and_then (λ a. option_map (λ s. s.now) (slice_get a.vals.items 0))
        (option_map (λ x. x.1) (cond b (Some e) (find (λ x. bytes_eq x.0.now id) es)))
    one true again = first_text e.1.vals.items
    one false again = again

-- clap's value is that of the row
first_is : (f : Found) (id : List ℕ) → first_of id (rows_of f) ≡ first_value f id
first_is f id = first_in f.entries.items id

-- ---- clap_values

-- if clap refuses the words, it finds no values
pub refused_words : (words : List (List ℕ)) (e : Error) → HasKind (fault_of cloner_app words) e
    → (kind_of e ≡ OutOfMemory → ⊥) → None ≡ clap_values words
unfolding clap_values
refused_words words e h other = HasKind-refused (fault_of cloner_app words) e _ h other

-- if it takes them, it finds the values that it returns
pub read_words : (words : List (List ℕ)) (m : ArgMatches) → fault_of cloner_app words ≡ []
    → rows_of (found_of m) ≡ matches_of cloner_app words
    → Some (record {
      workers = first_value (found_of m) (codes "workers");
      clone = first_value (found_of m) (codes "clone");
      until = first_value (found_of m) (codes "until");
      positionals = positionals_of (first_value (found_of m) (codes "mode"))
          (first_value (found_of m) (codes "first")) (first_value (found_of m) (codes "second"))
          (first_value (found_of m) (codes "third"));
    }) ≡ clap_values words
unfolding clap_values
read_words words m none rows =
    rw (
      none,
      ← rows,
      first_is (found_of m) (codes "mode"),
      first_is (found_of m) (codes "first"),
      first_is (found_of m) (codes "second"),
      first_is (found_of m) (codes "third"),
      first_is (found_of m) (codes "workers"),
      first_is (found_of m) (codes "clone"),
      first_is (found_of m) (codes "until"),
    ) refl
