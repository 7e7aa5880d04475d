-- The looks of all analysts, one after the other: what they were to look at, and that no front of one of them falls.
use Rattle.std.proofs.Common.{◌≡◌, ◌≢◌, ℕ, zero, suc, ◌+◌, ◌≤◌, List, [], ◌∷◌, ◌++◌, length, map, refl, sym}
use Rattle.std.proofs.Common.{ap, ap₂, ◌∙◌, subst, arith, append-nil}
use Rattle.std.specs.List.{AllByRecursion, flat_map}
use Rattle.std.proofs.lemmas.List.{map-append}
use Rattle.std.proofs.lemmas.List.Concat.{flat_map-append}
use Rattle.sim_base.specs.Reserved.{ReservedView}
use Rattle.sim_base.proofs.ListLaws.{all_append, all_push, all_weaker}
use Rattle.net_model.specs.Net.{Net}
use Rattle.decision_script.specs.declared.item.Act.{Act}
use Rattle.decision_script.specs.declared.item.Act.TheVariants.{Decide, Look}
use Rattle.decision_script.specs.declared.item.Item.{Item}
use Rattle.decision_script.specs.Stating.{ScriptView}
use Rattle.journal_text.specs.declared.looked.Looked.{Looked}
use Rattle.live_study.specs.Asking.{SeatedAnalyst}
use Rattle.live_study.specs.Lives.{AreSeenLooks, all_looks, looks_made}
use Rattle.live_study.specs.Looks.{AreMadeLooks, HasMadeLooks, IsNoEarlier, NeverFall, look_of}
use Rattle.live_study.specs.Opening.{numbers_to}
use Rattle.live_study.specs.Scripts.{AskedLook, acts_by, each_acts, each_looks, look_onto, looks_in}
use Rattle.live_study.specs.Showing.{looks_to_make}
use Rattle.live_study.proofs.Beginning.{length-each_acts, length-numbers_to}

-- ---- numbers_to
-- the numbers up to n are at most n
numbers_to-most : (n : ℕ) → AllByRecursion (λ x. x ≤ n) (numbers_to n)
numbers_to-most zero = tt
numbers_to-most (suc n) = all_push (λ x. x ≤ suc n) (numbers_to n) (n + 1)
    (all_weaker (λ x. x ≤ n) (λ x. x ≤ suc n) (numbers_to n) (λ x h. omega (arith, h)) (numbers_to-most n))
    (omega arith)

-- each of these differs from those after it
abbrev Differ : List ℕ → Type 0
Differ [] = Unit {0}
Differ (x ∷ xs) = AllByRecursion (λ y. y ≢ x) xs × Differ xs

-- with one number more that differs from each of them
differ-with : (xs : List ℕ) (z : ℕ) → Differ xs → AllByRecursion (λ x. z ≢ x) xs → Differ (xs ++ z ∷ [])
differ-with [] z d new = (tt, tt)
differ-with (x ∷ xs) z d new = (all_push (λ y. y ≢ x) xs z d.0 new.0, differ-with xs z d.1 new.1)

-- the numbers up to n differ
numbers_differ : (n : ℕ) → Differ (numbers_to n)
numbers_differ zero = tt
numbers_differ (suc n) = differ-with (numbers_to n) (n + 1) (numbers_differ n)
    (all_weaker (λ x. x ≤ n) (λ x. n + 1 ≢ x) (numbers_to n) (λ x h e. omega (arith, h, e)) (numbers_to-most n))

-- ---- one analyst's looks
-- the look that an act asks for is of the analyst that has the act
onto_own : (x : ℕ) (act : Act) → AllByRecursion (λ (q : AskedLook). q.0 ≡ x) (look_onto x act)
onto_own x (Decide d) = tt
onto_own x (Look who station) = (refl, tt)

-- and so are the looks among its acts
in_own : (x : ℕ) (acts : List Act) → AllByRecursion (λ (q : AskedLook). q.0 ≡ x) (looks_in x acts)
in_own x [] = tt
in_own x (act ∷ acts) =
    all_append (λ (q : AskedLook). q.0 ≡ x) (look_onto x act) (looks_in x acts) (onto_own x act) (in_own x acts)

-- these are of the analyst of this number
abbrev AreOf : ℕ → List Looked → Type 0
AreOf x ls = AllByRecursion (λ l. l.analyst ≡ x) ls

-- what was looked at by an analyst is in looks of that analyst
of_asked : (x : ℕ) (ls : List Looked) → AllByRecursion (λ (q : AskedLook). q.0 ≡ x) (map look_of ls) → AreOf x ls
of_asked x [] all = tt
of_asked x (l ∷ ls) all = (all.0, of_asked x ls all.1)

-- looks that an analyst's acts ask for are of that analyst
own_looks : (x : ℕ) (acts : List Act) (ls : List Looked) → map look_of ls ≡ looks_in x acts → AreOf x ls
own_looks x acts ls e = of_asked x ls (subst (AllByRecursion (λ (q : AskedLook). q.0 ≡ x)) (sym e) (in_own x acts))

-- ---- the looks of each
-- these are of the analysts of these numbers
abbrev AreOfEach : List ℕ → List (ReservedView Looked) → Type 0
AreOfEach [] [] = Unit {0}
AreOfEach [] (r ∷ rs) = ⊥
AreOfEach (x ∷ xs) [] = ⊥
AreOfEach (x ∷ xs) (r ∷ rs) = AreOf x r.items × AreOfEach xs rs

-- if all have made the looks that they had to make, the looks of each are of its number
each_own : (seated : List SeatedAnalyst) (looks : List (ReservedView Looked)) → looks_made looks ≡ looks_to_make seated
    → AreOfEach (map (λ (a : SeatedAnalyst). a.0.number) seated) looks
each_own [] [] e = tt
each_own [] (r ∷ rs) e = absurd (cc)
each_own (a ∷ more) [] e = absurd (cc)
each_own (a ∷ more) (r ∷ rs) e = (own_looks a.0.number a.0.todo.items r.items (cc), each_own more rs (cc))

-- the looks of other analysts
others_apart : (x : ℕ) (xs : List ℕ) (looks : List (ReservedView Looked)) → AllByRecursion (λ y. y ≢ x) xs
    → AreOfEach xs looks → AllByRecursion (λ (l : Looked). l.analyst ≢ x) (all_looks looks)
others_apart x [] [] differ own = tt
others_apart x [] (r ∷ rs) differ own = absurd own
others_apart x (y ∷ ys) [] differ own = absurd own
others_apart x (y ∷ ys) (r ∷ rs) differ own =
    all_append (λ (l : Looked). l.analyst ≢ x) r.items (all_looks rs)
    (all_weaker (λ (l : Looked). l.analyst ≡ y) (λ (l : Looked). l.analyst ≢ x) r.items
    (λ l e f. differ.0 (sym e ∙ f)) own.0)
    (others_apart x ys rs differ.1 own.1)

-- a look of another analyst is no earlier
other_later : (x : ℕ) (k l : Looked) → k.analyst ≡ x → l.analyst ≢ x → IsNoEarlier k l
other_later x k l e ne = λ same. absurd (ne (same ∙ e))

-- ---- NeverFall
-- looks of one analyst that never fall, followed by such looks of others
rise_on : (x : ℕ) (ls more : List Looked) → NeverFall ls → AreOf x ls → NeverFall more
    → AllByRecursion (λ (l : Looked). l.analyst ≢ x) more → NeverFall (ls ++ more)
rise_on x [] more rise own then apart = then
rise_on x (k ∷ ls) more rise own then apart = (
  all_append (IsNoEarlier k) ls more rise.0
      (all_weaker (λ (l : Looked). l.analyst ≢ x) (IsNoEarlier k) more (λ l ne. other_later x k l own.0 ne) apart),
  rise_on x ls more rise.1 own.1 then apart,
)

-- if no analyst's looks fall, and each has a number of its own, all together never fall
all_rise : (xs : List ℕ) (looks : List (ReservedView Looked)) → Differ xs → AreOfEach xs looks
    → AllByRecursion (λ (r : ReservedView Looked). NeverFall r.items) looks → NeverFall (all_looks looks)
all_rise [] [] differ own rise = tt
all_rise [] (r ∷ rs) differ own rise = absurd own
all_rise (x ∷ xs) [] differ own rise = absurd own
all_rise (x ∷ xs) (r ∷ rs) differ own rise = rise_on x r.items (all_looks rs) rise.0 own.0
    (all_rise xs rs differ.1 own.1 rise.1) (others_apart x xs rs differ.0 own.1)

-- ---- what they were to look at
-- what several have to look at, one after the other
abbrev joined : List (List AskedLook) → List AskedLook
joined each = flat_map (λ qs. qs) each

-- what was looked at in all is what each has looked at, one after the other
made_in_order : (looks : List (ReservedView Looked)) → map look_of (all_looks looks) ≡ joined (looks_made looks)
made_in_order [] = refl
made_in_order (r ∷ rs) = map-append look_of r.items (all_looks rs)
    ∙ ap (λ qs. map look_of r.items ++ qs) (made_in_order rs)

-- what analysts of these numbers with these acts have to look at
abbrev looks_of_each : List ℕ → List (List Act) → List (List AskedLook)
looks_of_each [] todo = []
looks_of_each (x ∷ xs) [] = []
looks_of_each (x ∷ xs) (acts ∷ todo) = looks_in x acts ∷ looks_of_each xs todo

-- what analysts have to look at, by their numbers and their acts
to_make_is : (seated : List SeatedAnalyst)
    → looks_to_make seated ≡ looks_of_each (map (λ (a : SeatedAnalyst). a.0.number) seated)
    (map (λ (a : SeatedAnalyst). a.0.todo.items) seated)
to_make_is [] = refl
to_make_is (a ∷ more) = ap (λ qs. looks_in a.0.number a.0.todo.items ∷ qs) (to_make_is more)

-- with one analyst more
of_each-with : (xs : List ℕ) (todo : List (List Act)) (x : ℕ) (acts : List Act) → length xs ≡ length todo
    → looks_of_each (xs ++ x ∷ []) (todo ++ acts ∷ []) ≡ looks_of_each xs todo ++ looks_in x acts ∷ []
of_each-with [] [] x acts len = refl
of_each-with [] (t ∷ todo) x acts len = absurd (omega (arith, len))
of_each-with (y ∷ xs) [] x acts len = absurd (omega (arith, len))
of_each-with (y ∷ xs) (t ∷ todo) x acts len =
    ap (λ qs. looks_in y t ∷ qs) (of_each-with xs todo x acts (omega (arith, len)))

-- for the analysts of a script, that is what the script asks for
in_script_order : (items : List Item) (n : ℕ)
    → joined (looks_of_each (numbers_to n) (each_acts items n)) ≡ each_looks items n
in_script_order items zero = refl
in_script_order items (suc n) =
    let own : List AskedLook = looks_in (n + 1) (acts_by (n + 1) items) in
    ap joined (of_each-with (numbers_to n) (each_acts items n) (n + 1) (acts_by (n + 1) items)
    (length-numbers_to n ∙ sym (length-each_acts items n)))
    ∙ flat_map-append (λ (qs : List AskedLook). qs) (looks_of_each (numbers_to n) (each_acts items n)) (own ∷ [])
    ∙ ap₂ (λ us vs. us ++ vs) (in_script_order items n) (append-nil own)

-- all looks of the script were made, in order
made_of_script : (s : ScriptView) (n : ℕ) (seated : List SeatedAnalyst) (looks : List (ReservedView Looked))
    → n ≡ length s.analysts → map (λ (a : SeatedAnalyst). a.0.number) seated ≡ numbers_to n
    → map (λ (a : SeatedAnalyst). a.0.todo.items) seated ≡ each_acts s.items n
    → looks_made looks ≡ looks_to_make seated → HasMadeLooks s (all_looks looks)
made_of_script s n seated looks many numbers todo made =
    made_in_order looks ∙ ap joined (made ∙ to_make_is seated ∙ ap₂ looks_of_each numbers todo)
    ∙ in_script_order s.items n ∙ ap (each_looks s.items) many

-- with what was seen at them
pub seen_of_script : (net : Net) (s : ScriptView) (n : ℕ) (seated : List SeatedAnalyst)
    (looks : List (ReservedView Looked)) → n ≡ length s.analysts
    → map (λ (a : SeatedAnalyst). a.0.number) seated ≡ numbers_to n
    → map (λ (a : SeatedAnalyst). a.0.todo.items) seated ≡ each_acts s.items n
    → looks_made looks ≡ looks_to_make seated → AreSeenLooks net looks → AreMadeLooks net s (all_looks looks)
seen_of_script net s n seated looks many numbers todo made seen = record {
  made = made_of_script s n seated looks many numbers todo made;
  seen = seen.seen;
  rise = all_rise (numbers_to n) looks (numbers_differ n)
      (subst (λ xs. AreOfEach xs looks) numbers (each_own seated looks made)) seen.rise;
}
