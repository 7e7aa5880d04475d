-- Who calls and looks in a live study: analysts of its script.
use Rattle.std.proofs.Common.{◌≡◌, ◌⊎◌, inl, inr, ℕ, zero, suc, ◌+◌, ◌<◌, ◌≤◌, nat_eq}
use Rattle.std.proofs.Common.{List, [], ◌∷◌, length, sym, subst, arith}
use Rattle.std.specs.List.{All, AllByRecursion}
use Rattle.std.proofs.lemmas.List.Elements.{All-from_recursion}
use Rattle.sim_base.proofs.ListLaws.{all_append, all_of_map}
use Rattle.decision_script.specs.declared.item.Act.{Act}
use Rattle.decision_script.specs.declared.item.Act.TheVariants.{Decide, Look}
use Rattle.decision_script.specs.declared.item.Item.{Item}
use Rattle.decision_script.specs.Stating.{ScriptView, IsAnalyst}
use Rattle.decision_book.specs.declared.call.Call.{Call}
use Rattle.decision_desk.specs.Accounts.{calls_from}
use Rattle.journal_text.specs.declared.looked.Looked.{Looked}
use Rattle.live_study.specs.Looks.{HasMadeLooks, look_of}
use Rattle.live_study.specs.Scripts.{AskedLook, acts_by, each_looks, looks_in}
use Rattle.live_study.proofs.Counting.{not_empty, rest_empty}

-- ---- callers
-- a number that is not 0 is at least 1
from_one : (x : ℕ) → (x ≡ 0 → ⊥) → 1 ≤ x
from_one x h = omega arith

-- a number that is not beyond another is at most that
up_to : (x many : ℕ) → (many < x → ⊥) → x ≤ many
up_to x many h = omega arith

-- if only the callers from 1 to a number have calls, each caller is one of them
callers_from : (many n : ℕ) (calls : List Call) → ((x : ℕ) → (x ≡ 0) ⊎ (many < x) → calls_from x n calls ≡ [])
    → AllByRecursion (λ (c : Call). IsAnalyst many c.caller) calls
callers_from many n [] others = tt
callers_from many n (c ∷ cs) others =
    let own : (c.caller ≡ 0) ⊎ (many < c.caller) → ⊥ =
    λ h. not_empty (nat_eq c.caller c.caller) (n, c) (calls_from c.caller (n + 1) cs) (grind arith)
    (others c.caller h) in (
      record { low = from_one c.caller (λ h. own (inl h)); high = up_to c.caller many (λ h. own (inr h)) },
      callers_from many (n + 1) cs
          (λ x h. rest_empty (nat_eq c.caller x) (n, c) (calls_from x (n + 1) cs) (others x h)),
    )

-- so if only the callers from 1 to a number have calls, each call is of one of these
pub callers_within : (many : ℕ) (calls : List Call) → ((x : ℕ) → (x ≡ 0) ⊎ (many < x) → calls_from x 0 calls ≡ [])
    → All (λ (c : Call). IsAnalyst many c.caller) calls
callers_within many calls others =
    All-from_recursion (λ (c : Call). IsAnalyst many c.caller) calls (callers_from many 0 calls others)

-- ---- lookers
-- a look by one of the first n analysts
abbrev IsByOneOf : ℕ → AskedLook → Type 0
IsByOneOf many t = IsAnalyst many t.0

-- the looks of one of the first n analysts
looks_within : (many a : ℕ) (acts : List Act) → IsAnalyst many a → AllByRecursion (IsByOneOf many) (looks_in a acts)
looks_within many a [] is = tt
looks_within many a (Decide d ∷ acts) is = looks_within many a acts is
looks_within many a (Look who station ∷ acts) is = (is, looks_within many a acts is)

-- the looks of the first n analysts, if n is at most the number of analysts
each_within : (many : ℕ) (items : List Item) (n : ℕ) → n ≤ many → AllByRecursion (IsByOneOf many) (each_looks items n)
each_within many items zero high = tt
each_within many items (suc n) high =
    all_append (IsByOneOf many) (each_looks items n) (looks_in (n + 1) (acts_by (n + 1) items))
    (each_within many items n (omega (arith, high)))
    (looks_within many (n + 1) (acts_by (n + 1) items)
    (record { low = omega arith; high = omega (arith, high) }))

-- each look that was made for a script is by one of its analysts
pub lookers_within : (s : ScriptView) (looks : List Looked) → HasMadeLooks s looks
    → All (λ (l : Looked). IsAnalyst (length s.analysts) l.analyst) looks
lookers_within s looks made =
    let many = length s.analysts in
    All-from_recursion (λ (l : Looked). IsAnalyst many l.analyst) looks
    (all_of_map (IsByOneOf many) look_of looks
    (subst (AllByRecursion (IsByOneOf many)) (sym made) (each_within many s.items many (omega arith))))
