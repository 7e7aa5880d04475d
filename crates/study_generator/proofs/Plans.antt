-- The canonical text of the made script, plan by plan.
use Rattle.std.proofs.Common.{◌≡◌, ℕ, ◌+◌, ◌*◌, List, [], ◌∷◌, ◌++◌, refl, ap, ◌∙◌, append_assoc, codes, decimal}
use Rattle.std.specs.Fmt.{digits}
use Rattle.std.specs.List.{flat_map, range_with_len}
use Rattle.decision_script.specs.Printing.{canonical_text, line_text, words_of_decision}
use Rattle.study_generator.specs.declared.script.TheConstants.{PLANS}
use Rattle.study_generator.specs.Scripts.{fork_of_plan, made_script, set_of_plan}

-- ---- canonical_text

-- the digit 1 as it is written
decimal_one : decimal 1 ≡ codes "1"
unfolding digits
decimal_one = refl

-- the two lines of a plan
abbrev pub plan_text : ℕ → List ℕ
plan_text j = line_text (words_of_decision (fork_of_plan j)) ++ line_text (words_of_decision (set_of_plan j))

-- the lines of all plans, one after another, are the canonical text
pub plans_are_canonical : flat_map plan_text (range_with_len 1 PLANS) ≡ canonical_text made_script
unfolding canonical_text digits
plans_are_canonical = refl

-- ---- line_text

-- the words of a set with its numbers written as a, b, c, d and e
abbrev words_of_set : List ℕ → List ℕ → List ℕ → List ℕ → List ℕ → List (List ℕ)
words_of_set a b c d e =
    codes "set" ∷ (codes "plan" ++ a) ∷ codes "at" ∷ b ∷ (codes "ward" ++ c) ∷ codes "service" ∷ d ∷ e ∷ []

-- the line of a set with its numbers written as a, b, c, d and e
set_line : (a b c d e : List ℕ)
    → line_text (words_of_set a b c d e)
    ≡ codes "set plan"
    ++ (a
    ++ (codes " at " ++ (b ++ (codes " ward"
    ++ (c ++ (codes " service " ++ (d ++ (codes " " ++ (e ++ codes "\n")))))))))
set_line a b c d e =
    let at_d = append_assoc d (codes " " ++ e) (codes "\n") in
    let from_c = codes " service " ++ (d ++ (codes " " ++ e)) in
    let at_c = append_assoc c from_c (codes "\n") ∙ ap (λ x. c ++ (codes " service " ++ x)) at_d in
    let from_b = codes " ward" ++ (c ++ from_c) in
    let at_b = append_assoc b from_b (codes "\n") ∙ ap (λ x. b ++ (codes " ward" ++ x)) at_c in
    let at_a = append_assoc a (codes " at " ++ (b ++ from_b)) (codes "\n") ∙ ap (λ x. a ++ (codes " at " ++ x)) at_b in
    ap (λ x. codes "set plan" ++ x) at_a

-- the line of a plan's set
pub set_of_plan-line : (j : ℕ)
    → line_text (words_of_decision (set_of_plan j))
    ≡ codes "set plan"
    ++ (decimal j
    ++ (codes " at " ++ (decimal (100 * j) ++ (codes " ward1 service 1 " ++ (decimal (2 + j) ++ codes "\n")))))
set_of_plan-line j =
    ap (λ one. line_text (words_of_set (decimal j) (decimal (100 * j)) one one (decimal (2 + j)))) decimal_one
    ∙ set_line (decimal j) (decimal (100 * j)) (codes "1") (codes "1") (decimal (2 + j))
