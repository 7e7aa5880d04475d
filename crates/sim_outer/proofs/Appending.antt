-- The bytes that a sink took, one piece after another.
use Rattle.std.proofs.Common.{◌≡◌, ℕ, ◌+◌, refl, sym, ap, ◌∙◌, arith, min, List, [], ◌++◌}
use Rattle.std.proofs.Common.{append-nil, length, take, Option, Some, None}
use Rattle.std.proofs.lemmas.List.{append_assoc, take-append-le, take_all}
use Rattle.std.proofs.Math.Seq.{take-append-add}
use Rattle.sim_outer.specs.Bytes.{IsAppended, IsPrefixAppended}

-- ---- IsAppended

-- if nothing is appended, nothing changes
pub appended_nothing : (old : Option (List ℕ)) → IsAppended old [] old
appended_nothing None = refl
appended_nothing (Some b) = ap Some (sym (append-nil b))

-- to append one piece and then another is to append both as one
pub appended_then : (a b : List ℕ) (old mid new : Option (List ℕ)) → IsAppended old a mid → IsAppended mid b new
    → IsAppended old (a ++ b) new
appended_then a b None mid new h k = let m : mid ≡ None = h in (rw m at k)
appended_then a b (Some o) mid new h k = (rw h at k) ∙ ap Some (append_assoc o a b)

-- ---- take

-- at most the first n of a list and others are as many of that list
pub take-append-prefix : (n : ℕ) (b c : List ℕ) → take (min n (length b)) (b ++ c) ≡ take n b
take-append-prefix n b c = grind (arith, take-append-le (min n (length b)) b c, take_all)

-- ---- IsPrefixAppended

-- a whole piece and then a part of another are a part of both and the bytes after them
pub part_then : (a b c : List ℕ) (old mid new : Option (List ℕ)) → IsAppended old a mid → IsPrefixAppended mid b new
    → IsPrefixAppended old (a ++ (b ++ c)) new
part_then a b c None mid new h k = let m : mid ≡ None = h in (rw m at k)
part_then a b c (Some o) mid new h k =
    let k2 : IsPrefixAppended (Some (o ++ a)) b new = rw h at k in (
      length a + min k2.0 (length b),
      k2.1
          ∙ ap Some (append_assoc o a (take k2.0 b)
          ∙ ap (λ t. o ++ t) (sym (take-append-add a (b ++ c) (min k2.0 (length b))
          ∙ ap (λ t. a ++ t) (take-append-prefix k2.0 b c)))),
    )
