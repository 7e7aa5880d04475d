-- A prefix of a piece was written, followed by more of it.
use Rattle.std.proofs.Common.{ℕ, ◌+◌, ◌-◌, List, length, take, drop, sym, subst}
use Rattle.std.proofs.KnownBytes.{Appends-trans}
use Rattle.std.proofs.Math.Seq.{take-add}
use Rattle.std.proofs.lemmas.List.{take_rest}
use Rattle.std.specs.Io.KnownBytes.{Appends}
use Rattle.std.specs.declared.option.Option.{Option}

-- a prefix of a piece that was appended, and then some of the rest, make a longer prefix that was appended
pub Appends-more : (a b c : Option (List ℕ)) (piece : List ℕ) (done n : ℕ) → Appends a b (take done piece)
    → Appends b c (take n (take (length piece - done) (drop done piece))) → Appends a c (take (done + n) piece)
Appends-more a b c piece done n prefix more =
    subst (Appends a c) (sym (take-add done n piece))
    (Appends-trans a b c _ _ prefix (subst (λ l. Appends b c (take n l)) (take_rest piece done) more))
