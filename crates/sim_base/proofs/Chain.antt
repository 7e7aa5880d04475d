-- Steps one after another.
use Rattle.std.proofs.Common.{◌≡◌, refl, Result, Ok, Err, IfOk}
use Rattle.sim_base.specs.Chain.{◌>>=◌}

-- ---- >>=

-- if the whole chain is Ok, each step is
pub bind-Ok : {A B F : Type 0} (r : Result A F) (f : A → Result B F) (y : B) → (r >>= f) ≡ Ok y
    → (x : A) × (r ≡ Ok x) × (f x ≡ Ok y)
bind-Ok (Ok x) f y h = (x, refl, h)
bind-Ok (Err e) f y h = absurd (cc)

-- the result of each step is passed to the next
pub bind-IfOk : {A B F : Type 0} (P : A → Type 0) (Q : B → Type 0) (r : Result A F) (f : A → Result B F) → IfOk r P
    → ((x : A) → P x → IfOk (f x) Q) → IfOk (r >>= f) Q
bind-IfOk P Q (Ok x) f h g = g x h
bind-IfOk P Q (Err e) f h g = tt
