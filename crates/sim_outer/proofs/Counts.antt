-- Calls, one after another.
use Rattle.std.proofs.Common.{◌≡◌, ℕ, suc, ◌+◌, refl, sym, ap, ◌∙◌, arith, Option, Some, None}
use Rattle.sim_outer.specs.Counts.{counts_after, AreCounted, IsCounted}

-- ---- AreCounted

-- after no calls the count does not change
pub none_counted : (old : Option ℕ) → AreCounted 0 old old
none_counted None = refl
none_counted (Some b) = refl

-- one call more
pub counted_more : (n : ℕ) (old mid new : Option ℕ) → AreCounted n old mid → IsCounted mid new
    → AreCounted (n + 1) old new
counted_more n None mid new h k = let m : mid ≡ None = h in (rw m at k)
counted_more n (Some b) mid new h k =
    let m : mid ≡ Some (counts_after n b) = h in
    let up : n + 1 ≡ suc n = omega arith in
    (rw m at k) ∙ ap (λ j. Some (counts_after j b)) (sym up)
