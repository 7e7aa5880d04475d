-- The analysts of a script, and what each of them does.
use Rattle.std.specs.Prelude.{◌≡◌, ◌⊎◌, ℕ, zero, suc, ◌+◌, ◌<◌, nat_eq, if◌then◌else◌, List, [], ◌∷◌, ◌++◌, length}
use Rattle.std.specs.List.{flat_map}
use Rattle.sim_base.specs.declared.decision.Decision.{Decision}
use Rattle.net_model.specs.Net.{Net}
use Rattle.decision_script.specs.declared.item.Act.{Act}
use Rattle.decision_script.specs.declared.item.Act.TheVariants.{Decide, Look}
use Rattle.decision_script.specs.declared.item.Item.{Item}
use Rattle.decision_script.specs.Stating.{ScriptView, IsAnalyst}
use Rattle.decision_book.specs.Books.{BookView}
use Rattle.decision_desk.specs.Accounts.{calls_by}
use Rattle.decision_desk.specs.Legal.{IsLegal}
use Rattle.live_study.specs.Asking.{decisions_asked, decisions_in}

-- the act of an item if it is this analyst's
abbrev pub own_act : ℕ → Item → List Act
own_act a item = if nat_eq item.analyst a then item.act ∷ [] else []

-- the acts of an analyst, in order
abbrev pub acts_by : ℕ → List Item → List Act
acts_by a items = flat_map (own_act a) items

-- those of the analysts from 1 to n
abbrev pub each_acts : List Item → ℕ → List (List Act)
each_acts items zero = []
each_acts items (suc n) = each_acts items n ++ acts_by (n + 1) items ∷ []

-- the decisions of an analyst, in order
abbrev pub decisions_by : ℕ → List Item → List Decision
decisions_by a items = decisions_asked (acts_by a items)

-- a look that is asked for: the number of the analyst, the clone and the station
abbrev pub AskedLook : Type 0
AskedLook = ℕ × List ℕ × List ℕ

-- the look that an act asks for, if any
abbrev pub look_onto : ℕ → Act → List AskedLook
look_onto a (Decide d) = []
look_onto a (Look who station) = (a, who, station) ∷ []

-- those of an analyst's acts, in order
abbrev pub looks_in : ℕ → List Act → List AskedLook
looks_in a acts = flat_map (look_onto a) acts

-- those of the analysts from 1 to n: by analyst, and then in the analyst's order
abbrev pub each_looks : List Item → ℕ → List AskedLook
each_looks items zero = []
each_looks items (suc n) = each_looks items n ++ looks_in (n + 1) (acts_by (n + 1) items)

-- a journal of a script over a network: it is legal, each analyst's calls in it are its decisions, in order, and
-- no other caller has calls
pub record IsJournalOf (net : Net) (s : ScriptView) (book : BookView) : Type 0 where
  pub net_is : book.net ≡ net
  pub legal : IsLegal net book.events
  pub asked_all : (a : ℕ) → IsAnalyst (length s.analysts) a →
      decisions_in (calls_by a book.events) ≡ decisions_by a s.items
  pub others : (x : ℕ) → (x ≡ 0) ⊎ (length s.analysts < x) → calls_by x book.events ≡ []
