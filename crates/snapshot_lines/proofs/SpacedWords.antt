-- Words after spaces.
use Rattle.std.proofs.Common.{◌≡◌, ℕ, List, [], ◌∷◌, ◌++◌, length, ◌+◌, refl, sym, ap, ◌∙◌, append_assoc, append-nil}
use Rattle.std.specs.List.{join_with_byte}
use Rattle.std.proofs.lemmas.List.{length-append}
use Rattle.snapshot_lines.specs.Spaced.{spaced}

-- words with spaces between them: the first, and the others each after a space
pub joined_spaced : (w : List ℕ) (ws : List (List ℕ)) → join_with_byte 32 (w ∷ ws) ≡ w ++ spaced ws
joined_spaced w [] = sym (append-nil w)
joined_spaced w (v ∷ vs) = ap (λ (t : List ℕ). w ++ 32 ∷ t) (joined_spaced v vs)

pub spaced_append : (ws vs : List (List ℕ)) → spaced (ws ++ vs) ≡ spaced ws ++ spaced vs
spaced_append [] vs = refl
spaced_append (w ∷ ws) vs =
    ap (λ (t : List ℕ). (32 ∷ w) ++ t) (spaced_append ws vs) ∙ sym (append_assoc (32 ∷ w) (spaced ws) (spaced vs))

-- a line of words, and its line feed
pub ended_spaced : (w : List ℕ) (ws : List (List ℕ))
    → join_with_byte 32 (w ∷ ws) ++ 10 ∷ [] ≡ w ++ (spaced ws ++ 10 ∷ [])
ended_spaced w ws = ap (λ (t : List ℕ). t ++ 10 ∷ []) (joined_spaced w ws) ∙ append_assoc w (spaced ws) (10 ∷ [])

pub length_line : (w : List ℕ) (ws : List (List ℕ)) → length (join_with_byte 32 (w ∷ ws) ++ 10 ∷ [])
    ≡ length w + (length (spaced ws) + 1)
length_line w ws =
    ap length (ended_spaced w ws) ∙ length-append w (spaced ws ++ 10 ∷ [])
    ∙ ap (λ (n : ℕ). length w + n) (length-append (spaced ws) (10 ∷ []))
