-- The prefix of a file: the bytes that were taken, if these are all or the most possible.
use Rattle.std.proofs.Common.{◌≡◌, ◌≤◌, ℕ, List, ◌++◌, None, Some, IfSome, []}
use Rattle.std.proofs.Common.{ap₂, length, take, min, sym, ap, ◌∙◌, append-nil, arith}
use Rattle.std.proofs.lemmas.List.{take_all, take_at, take_min}
use Rattle.std.specs.Io.KnownBytes.{Consumes, IsAtEnd}
use Rattle.std.specs.declared.option.Option.{Option}
use Rattle.sim_outer.specs.Files.{prefix_of}
use Rattle.sim_outer.specs.declared.inputs.TheConstants.{MAX_FETCHED}

-- ---- prefix_of

-- a prefix of a file with all its bytes, or with as many as a fetch returns, is the result of a fetch
pub take_prefix_of : (file : List ℕ) → take (min (length file) MAX_FETCHED) file ≡ prefix_of file
unfolding prefix_of
take_prefix_of file = ap (λ n. take n file) (omega arith) ∙ take_min MAX_FETCHED file

-- all was taken, for the next read gave nothing
pub prefix_of-all : (a b c : Option (List ℕ)) (bytes none : List ℕ) → Consumes a b bytes → Consumes b c none
    → none ≡ [] → IsAtEnd c
    → length bytes ≤ MAX_FETCHED → IfSome a (λ file. bytes ≡ prefix_of file)
unfolding prefix_of
prefix_of-all None b c bytes none taken more empty end most = tt
prefix_of-all (Some file) None c bytes none taken more empty end most = absurd taken
prefix_of-all (Some file) (Some rest) None bytes none taken more empty end most = absurd more
prefix_of-all (Some file) (Some rest) (Some last) bytes none taken more empty end most =
    let over : rest ≡ [] = more ∙ ap₂ ◌++◌ empty end in
    sym (ap (take MAX_FETCHED) (taken ∙ ap (λ l. bytes ++ l) over ∙ append-nil bytes)
    ∙ take_all MAX_FETCHED bytes most)

-- as much was taken as may be
pub prefix_of-most : (a b : Option (List ℕ)) (bytes : List ℕ) → Consumes a b bytes → length bytes ≡ MAX_FETCHED
    → IfSome a (λ file. bytes ≡ prefix_of file)
unfolding prefix_of
prefix_of-most None b bytes taken most = tt
prefix_of-most (Some file) None bytes taken most = absurd taken
prefix_of-most (Some file) (Some rest) bytes taken most =
    sym (ap (take MAX_FETCHED) taken ∙ take_at bytes rest MAX_FETCHED most)
