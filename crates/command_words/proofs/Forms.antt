-- The request of the values that clap finds.
use Rattle.std.proofs.Common.{◌≡◌, ◌∙◌, ℕ, List, [], ◌∷◌, refl, ap, Option, Some, None, option_map}
use Rattle.std.proofs.Common.{option_and_then}
use Rattle.command_words.specs.declared.given.Given.{Given}
use Rattle.command_words.specs.Clap.{up_to_four}
use Rattle.command_words.specs.Requests.{RequestView, form, form_of}
use Rattle.command_words.specs.Rules.{values}
use Rattle.command_words.specs.Values.{GivenView}
use Rattle.command_words.specs.Views.{given_view}
use Rattle.command_words.proofs.Bridge.{more_than_four}

-- ---- form_of
-- no form has more than four positionals
form_of_few : (w c n : Option (List ℕ)) (words : List (List ℕ))
    → option_and_then form_of (up_to_four (record { workers = w; clone = c; until = n; positionals = words }))
    ≡ form_of (record { workers = w; clone = c; until = n; positionals = words })
form_of_few w c n [] = refl
form_of_few w c n (x ∷ []) = refl
form_of_few w c n (x ∷ y ∷ []) = refl
form_of_few w c n (x ∷ y ∷ z ∷ []) = refl
form_of_few w c n (x ∷ y ∷ z ∷ u ∷ []) = refl
form_of_few w c n (x ∷ y ∷ z ∷ u ∷ t ∷ more) =
    ap (λ (v : Option GivenView). option_and_then form_of v) (more_than_four w c n x y z u t more)

-- the same if a rule is broken
form_by_few : (v : Option GivenView)
    → option_and_then form_of (option_and_then up_to_four v) ≡ option_and_then form_of v
form_by_few None = refl
form_by_few (Some v) = form_of_few v.workers v.clone v.until v.positionals

-- ---- form_given
-- the request of the values that were read
abbrev pub form_given : Option Given → Option RequestView
form_given given = option_and_then (λ g. form_of (given_view g)) given

-- it is the request of their values
by_values : (given : Option Given) → form_given given ≡ option_and_then form_of (option_map given_view given)
by_values None = refl
by_values (Some g) = refl

-- the request of what clap finds is that of the words
pub form_found : (words : List (List ℕ)) (given : Option Given)
    → option_map given_view given ≡ option_and_then up_to_four (values words) → form_given given ≡ form words
form_found words given same =
    by_values given ∙ ap (λ (v : Option GivenView). option_and_then form_of v) same ∙ form_by_few (values words)
