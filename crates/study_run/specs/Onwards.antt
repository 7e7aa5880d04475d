-- How a run of all clones advances step by step, in any mode.
use Rattle.std.specs.Prelude.{ℕ, Result, IfOk, IfErr}
use Rattle.study_run.specs.declared.fault.StudyFault.{StudyFault}

-- the state of a run: the state of its mode, the world, and the steps counted
pub record RunState (A W : Type 0) : Type 0 where
  pub mode : A
  pub world : W
  pub steps : ℕ

-- a run state, from its parts
abbrev pub run_state : {A W : Type 0} → A → W → ℕ → RunState A W
run_state a world steps = record { mode = a; world = world; steps = steps }

-- some run has reached this state
abbrev pub HasComeTo : {A W : Type 0} → (RunState A W → RunState A W → Type 0) → RunState A W → Type 0
HasComeTo {A} {W} gone_on state = (first : RunState A W) × gone_on first state

-- each run that has reached the old state has reached the new one
abbrev pub LeadsTo : {A W : Type 0} → (RunState A W → RunState A W → Type 0) → RunState A W → RunState A W → Type 0
LeadsTo {A} {W} gone_on old new = (first : RunState A W) → gone_on first old → gone_on first new

-- each run that has reached the old state goes on to a world, or stops
pub record GoesOn {A W : Type 0} (gone_on : RunState A W → RunState A W → Type 0)
    (stopped : RunState A W → ℕ → StudyFault → Type 0) (old : RunState A W) (new : A) (new_steps : ℕ)
    (run : Result W StudyFault) : Type 0 where
  pub goes_on : (first : RunState A W) → gone_on first old → IfOk run (λ w. gone_on first (run_state new w new_steps))
  pub stops : (first : RunState A W) → gone_on first old → IfErr run (λ e. stopped first new_steps e)
