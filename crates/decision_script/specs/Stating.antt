-- Scripts, and the rules that every script meets.
use Rattle.std.specs.Prelude.{ℕ, ◌-◌, ◌≤◌, ◌≡◌, ◌==◌, true, MatchBool}
use Rattle.std.specs.Prelude.{codes, List, [], length, slice_get, unwrap_or, Some}
use Rattle.std.specs.List.{All}
use Rattle.sim_base.specs.Names.{is_name, AreDistinct}
use Rattle.sim_base.specs.declared.decision.Decision.{Decision}
use Rattle.sim_base.specs.declared.decision.Decision.TheVariants.{Fork, Set, End}
use Rattle.sim_base.specs.declared.message.Param.{Param}
use Rattle.sim_base.specs.Params.{param_values}
use Rattle.decision_script.specs.declared.item.Act.{Act}
use Rattle.decision_script.specs.declared.item.Act.TheVariants.{Decide, Look}
use Rattle.decision_script.specs.declared.item.Item.{Item}
use Rattle.decision_script.specs.declared.number.TheConstants.{MAX_NUMBER}
use Rattle.decision_script.specs.declared.script.TheConstants.{MAX_ANALYSTS, MAX_ITEMS}

-- the names of the analysts in order, and the items in order
pub record ScriptView : Type 0 where
  pub analysts : List (List ℕ)
  pub items : List Item

-- the name of the analyst of this number, from 1
abbrev pub analyst_name : List (List ℕ) → ℕ → List ℕ
analyst_name analysts a = unwrap_or (slice_get analysts (a - 1)) []

-- these bytes are a name
abbrev pub IsName : List ℕ → Type 0
IsName name = is_name name ≡ true

-- a number fits 32 bits
abbrev pub Fits32 : ℕ → Type 0
Fits32 n = n ≤ MAX_NUMBER

-- values of a parameter that fit 32 bits; the second value of a parameter with one is 0
abbrev pub IsChange : Param → ℕ → ℕ → Type 0
IsChange param a b = Fits32 a × MatchBool (param_values param == 1) (b ≡ 0) (Fits32 b)

-- names are names, and numbers fit 32 bits
abbrev pub IsDecision : Decision → Type 0
IsDecision (Fork new old) = IsName new × IsName old
IsDecision (Set who at station change) = IsName who × Fits32 at × IsName station
    × IsChange change.param change.a change.b
IsDecision (End who at) = IsName who × Fits32 at

-- the same for an act: such a decision, or a look with two names
abbrev pub IsAct : Act → Type 0
IsAct (Decide decision) = IsDecision decision
IsAct (Look who station) = IsName who × IsName station

-- the number of one of `analysts` analysts
pub record IsAnalyst (analysts number : ℕ) : Type 0 where
  pub low : 1 ≤ number
  pub high : number ≤ analysts

-- an item of one of `analysts` analysts
pub record IsItem (analysts : ℕ) (item : Item) : Type 0 where
  pub analyst : IsAnalyst analysts item.analyst
  pub act : IsAct item.act

-- the first analyst is main, no two have the same name, and no limit of a script is exceeded
pub record IsScript (s : ScriptView) : Type 0 where
  pub first : slice_get s.analysts 0 ≡ Some (codes "main")
  pub named : All IsName s.analysts
  pub distinct : AreDistinct s.analysts
  pub few_analysts : length s.analysts ≤ MAX_ANALYSTS
  pub few_items : length s.items ≤ MAX_ITEMS
  pub valid : All (IsItem (length s.analysts)) s.items
