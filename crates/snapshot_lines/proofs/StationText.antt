-- The line of a station, in two parts.
use Rattle.std.proofs.Common.{◌≡◌, ℕ, suc, ◌+◌, List, [], ◌∷◌, ◌++◌, length, decimal, sym, ap, ◌∙◌, append_assoc, arith}
use Rattle.std.specs.Prelude.{codes}
use Rattle.std.proofs.lemmas.List.{length-append}
use Rattle.stations.specs.declared.saved.Saved.{Saved}
use Rattle.snapshot_lines.specs.Forms.{line_of}
use Rattle.snapshot_lines.specs.Texts.{ended}
use Rattle.snapshot_lines.specs.Grammar.{shape_form, station_line}
use Rattle.snapshot_lines.specs.Spaced.{spaced}
use Rattle.snapshot_lines.proofs.SpacedWords.{ended_spaced, spaced_append}

-- the words before the shape
abbrev pub number_words : ℕ → Saved → List (List ℕ)
number_words s x = decimal s ∷ codes "next" ∷ decimal x.next ∷ codes "drawn" ∷ decimal x.drawn
    ∷ codes "handled" ∷ decimal x.handled ∷ []

pub station_text : (s : ℕ) (x : Saved) → ended (line_of (station_line s 0) x)
    ≡ (codes "station" ++ spaced (number_words s x)) ++ (spaced ((shape_form 0).write x.shape) ++ 10 ∷ [])
station_text s x =
    let words : List (List ℕ) = (shape_form 0).write x.shape in
    ended_spaced (codes "station") (number_words s x ++ words)
    ∙ (ap (λ (t : List ℕ). codes "station" ++ (t ++ 10 ∷ [])) (spaced_append (number_words s x) words)
    ∙ (ap (λ (t : List ℕ). codes "station" ++ t) (append_assoc (spaced (number_words s x)) (spaced words) (10 ∷ []))
    ∙ sym (append_assoc (codes "station") (spaced (number_words s x)) (spaced words ++ 10 ∷ []))))

-- a text after its parts are added one after the other
pub station_pushed : (s : ℕ) (x : Saved) (out numbers shape all : List ℕ)
    → numbers ≡ out ++ (codes "station" ++ spaced (number_words s x))
    → shape ≡ numbers ++ spaced ((shape_form 0).write x.shape)
    → all ≡ shape ++ 10 ∷ [] → all ≡ out ++ ended (line_of (station_line s 0) x)
station_pushed s x out numbers shape all first second third =
    let words : List ℕ = spaced ((shape_form 0).write x.shape) in
    let front : List ℕ = codes "station" ++ spaced (number_words s x) in
    third ∙ (ap (λ (t : List ℕ). t ++ 10 ∷ []) second
    ∙ (append_assoc numbers words (10 ∷ [])
    ∙ (ap (λ (t : List ℕ). t ++ (words ++ 10 ∷ [])) first
    ∙ (append_assoc out front (words ++ 10 ∷ [])
    ∙ ap (λ (t : List ℕ). out ++ t) (sym (station_text s x))))))

-- ---- its length

length_spaced : (w : List ℕ) (ws : List (List ℕ)) → length (spaced (w ∷ ws)) ≡ suc (length w) + length (spaced ws)
length_spaced w ws = length-append (32 ∷ w) (spaced ws)

numbers_length : (a b c d : List ℕ)
    → length (spaced (a ∷ codes "next" ∷ b ∷ codes "drawn" ∷ c ∷ codes "handled" ∷ d ∷ []))
    ≡ length a + length b + length c + length d + 23
numbers_length a b c d =
    let after_b : List (List ℕ) = codes "drawn" ∷ c ∷ codes "handled" ∷ d ∷ [] in
    let after_c : List (List ℕ) = codes "handled" ∷ d ∷ [] in
    let first = length_spaced a (codes "next" ∷ b ∷ after_b) in
    let second = length_spaced b after_b in
    let third = length_spaced c after_c in
    let fourth = length_spaced d [] in
    omega (arith, first, second, third, fourth)

pub station_length : (s : ℕ) (x : Saved) → length (ended (line_of (station_line s 0) x))
    ≡ length (decimal s) + length (decimal x.next) + length (decimal x.drawn) + length (decimal x.handled)
    + length (spaced ((shape_form 0).write x.shape)) + 31
station_length s x =
    let words : List ℕ = spaced ((shape_form 0).write x.shape) in
    let front : List ℕ = spaced (number_words s x) in
    let whole = ap length (station_text s x) in
    let parts = length-append (codes "station" ++ front) (words ++ 10 ∷ []) in
    let numbers = numbers_length (decimal s) (decimal x.next) (decimal x.drawn) (decimal x.handled) in
    let end = length-append words (10 ∷ []) in
    omega (arith, whole, parts, numbers, end)
