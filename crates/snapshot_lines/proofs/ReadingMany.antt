-- Values of a form, read one after the other.
use Rattle.std.proofs.Common.{◌≡◌, ℕ, zero, suc, ◌-◌, ◌<◌, List, [], ◌∷◌, ◌++◌, Some, None}
use Rattle.std.proofs.Common.{refl, sym, ap, ◌∙◌, arith, append_assoc}
use Rattle.snapshot_lines.specs.Forms.{Form, Read, read_as, read_many, read_then}

module _ {A : Type 0} (f : Form A) where
  -- one value more
  pub one_more : (done : List A) (left : ℕ) (ws rest : List (List ℕ)) (a : A) → 0 < left → f.read ws ≡ Some (a, rest)
      → read_as (λ more. done ++ more) (read_many f left ws)
      ≡ read_as (λ more. (done ++ a ∷ []) ++ more) (read_many f (left - 1) rest)
  one_more done zero ws rest a some read = absurd (omega (arith, some))
  one_more done (suc n) ws rest a some read =
      ap (λ (r : Read A). read_as (λ more. done ++ more)
      (read_then r (λ (b : A) z. read_as (λ more. b ∷ more) (read_many f n z)))) read
      ∙ pushed (read_many f n rest)
      ∙ ap (λ (k : ℕ). read_as (λ more. (done ++ a ∷ []) ++ more) (read_many f k rest))
      (let one : n ≡ suc n - 1 = omega arith in one)
    where
      pushed : (r : Read (List A)) → read_as (λ more. done ++ more) (read_as (λ more. a ∷ more) r)
          ≡ read_as (λ more. (done ++ a ∷ []) ++ more) r
      pushed None = refl
      pushed (Some (more, z)) = ap (λ (l : List A). let r : Read (List A) = Some (l, z) in r)
          (sym (append_assoc done (a ∷ []) more))

  -- no value more, though some are left
  pub one_missing : (done : List A) (left : ℕ) (ws : List (List ℕ)) → 0 < left → f.read ws ≡ None
      → read_as (λ more. done ++ more) (read_many f left ws) ≡ None
  one_missing done zero ws some none = absurd (omega (arith, some))
  one_missing done (suc n) ws some none = ap (λ (r : Read A). read_as (λ more. done ++ more)
      (read_then r (λ (b : A) z. read_as (λ more. b ∷ more) (read_many f n z)))) none
