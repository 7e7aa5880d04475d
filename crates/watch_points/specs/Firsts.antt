-- The first line of a text that breaks a rule, and the first watch that does not fit: each breaks the rule, and none
-- before it does.
use Rattle.std.specs.Prelude.{◌≡◌, ◌≢◌, ◌⊎◌, ℕ, ◌-◌, ◌<◌, ◌≤◌, List, [], ◌∷◌, length, reverse, slice_get, take}
use Rattle.std.specs.Prelude.{Option, Some, Result, Ok, Err}
use Rattle.std.specs.List.{enumerate_from, flat_map}
use Rattle.sim_base.specs.Clones.{Clone}
use Rattle.sim_base.specs.declared.limits.TheConstants.{MAX_FILE_BYTES}
use Rattle.net_model.specs.Net.{Net}
use Rattle.decision_script.specs.Lines.{lines}
use Rattle.decision_script.specs.declared.fault.LineFault.{LineFault}
use Rattle.decision_book.specs.declared.call.Reply.TheVariants.{Accepted}
use Rattle.watch_points.specs.Checking.{fit, watch_reply}
use Rattle.watch_points.specs.Faults.{fault_line}
use Rattle.watch_points.specs.Reading.{fault_at, watches}
use Rattle.watch_points.specs.Sentences.{line_saying}
use Rattle.watch_points.specs.declared.fault.WatchFault.{WatchFault}
use Rattle.watch_points.specs.declared.fault.WatchFault.TheVariants.{TooManyLines}
use Rattle.watch_points.specs.declared.fitting.Unfit.{Unfit}
use Rattle.watch_points.specs.declared.watch.TheConstants.{MAX_WATCHES}
use Rattle.watch_points.specs.declared.watch.Watch.{Watch}

-- ---- lines

-- the watch that a line says, if it says one
abbrev pub watch_in : Result (Option Watch) LineFault → List Watch
watch_in (Ok (Some w)) = w ∷ []
watch_in _ = []

-- the watches that lines say, in order; lines count from 1
abbrev pub watches_in : List (List ℕ) → List Watch
watches_in ls = flat_map (λ p. watch_in (line_saying p.0 p.1)) (enumerate_from 1 ls)

-- a line after others has this fault: its words break a rule, or it says one watch more than there may be
abbrev pub HasFault : List (List ℕ) → ℕ → List ℕ → WatchFault → Type 0
HasFault before line text fault =
    ((broken : LineFault) × (line_saying line text ≡ Err broken) × (fault ≡ fault_at line broken))
    ⊎ ((w : Watch) × (line_saying line text ≡ Ok (Some w)) × (MAX_WATCHES ≤ length (watches_in before))
    × (fault ≡ TooManyLines line))

-- the line of this number, from 1, has this fault
pub record BreaksRule (ls : List (List ℕ)) (line : ℕ) (fault : WatchFault) : Type 0 where
  pub text : List ℕ
  pub low : 1 ≤ line
  pub is_there : slice_get ls (line - 1) ≡ Some text
  pub has_fault : HasFault (take (line - 1) ls) line text fault

-- the fault names its line, which breaks a rule, and no line before it does
pub record IsFirstFault (ls : List (List ℕ)) (fault : WatchFault) : Type 0 where
  pub breaks : BreaksRule ls (fault_line fault) fault
  pub none_before : (line : ℕ) (other : WatchFault) → line < fault_line fault → ¬ BreaksRule ls line other

-- lines without a fault state the watches that they say; otherwise the first fault is found
abbrev pub StatesOrFails : List (List ℕ) → Result (List Watch) WatchFault → Type 0
StatesOrFails ls (Ok ws) = (ws ≡ watches_in ls) × ((line : ℕ) (fault : WatchFault) → ¬ BreaksRule ls line fault)
StatesOrFails ls (Err fault) = IsFirstFault ls fault

-- this holds for each text that is no longer than a file may be
abbrev pub FirstFaultIsFound : Type 0
FirstFaultIsFound = (text : List ℕ) → length text ≤ MAX_FILE_BYTES → StatesOrFails (lines text) (watches text)

-- ---- watches

-- the watch at this place, from 0, is refused by this reply after those before it
pub record IsRefused (net : Net) (cs : List Clone) (ws : List Watch) (i : ℕ) (unfit : Unfit) : Type 0 where
  pub watch : Watch
  pub is_there : slice_get ws i ≡ Some watch
  pub line_is : unfit.line ≡ watch.line
  pub reply_is : unfit.reply ≡ watch_reply net cs (reverse (take i ws)) watch
  pub refused : unfit.reply ≢ Accepted

-- a watch is refused so, and none before it is refused
pub record IsFirstRefused (net : Net) (cs : List Clone) (ws : List Watch) (unfit : Unfit) : Type 0 where
  pub place : ℕ
  pub is_refused : IsRefused net cs ws place unfit
  pub none_before : (j : ℕ) (other : Unfit) → j < place → ¬ IsRefused net cs ws j other

-- no watch is refused, or the first that is refused is found
abbrev pub FitsOrFails : Net → List Clone → List Watch → Result (Unit {0}) Unfit → Type 0
FitsOrFails net cs ws (Ok done) = (j : ℕ) (unfit : Unfit) → ¬ IsRefused net cs ws j unfit
FitsOrFails net cs ws (Err unfit) = IsFirstRefused net cs ws unfit

-- this holds for all watches
abbrev pub FirstRefusedIsFound : Type 0
FirstRefusedIsFound = (net : Net) (cs : List Clone) (ws : List Watch) → FitsOrFails net cs ws (fit net cs ws)
