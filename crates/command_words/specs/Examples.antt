-- Worked examples: command lines and their requests.
use Rattle.std.specs.Prelude.{◌≡◌, ◌==◌, ℕ, codes, List, [], ◌∷◌, map, Option, Some, None}
use Rattle.std.specs.List.{slice_split}
use Rattle.command_words.specs.declared.request.Mode.{Mode}
use Rattle.command_words.specs.declared.request.Mode.TheVariants.{Links, Report, Run, Save, Solo, Stats}
use Rattle.command_words.specs.Requests.{FileNames, Number, RequestView, Resume, form, study_of}
use Rattle.command_words.specs.Requests.{live_by as live_of}
use Rattle.command_words.specs.Requests.{watch_by as watch_of}

-- the words of a line, split at single spaces
abbrev pub words_of : List ℕ → List (List ℕ)
words_of line = slice_split (λ b. b == 32) line

-- the words of a command line, and their request, None if it has no known form
pub record Example : Type 0 where
  pub words : List (List ℕ)
  pub asks : Option RequestView

-- the example of a line as it is typed
abbrev pub line : List ℕ → Option RequestView → Example
line text asks = record { words = words_of text; asks = asks }

-- each line has the request of its example
abbrev pub AreRight : List Example → Type 0
AreRight examples = map (λ e. form e.words) examples ≡ map (λ e. e.asks) examples

-- a study of the texts m and s, in this mode and with this number of workers
abbrev pub of_m_and_s : Mode → ℕ → Option RequestView
of_m_and_s mode workers = Some (study_of (FileNames (codes "m") (codes "s")) mode workers)

-- all clones of the texts m and s, with this number of workers
abbrev pub run_by : ℕ → Option RequestView
run_by workers = of_m_and_s Run workers

-- the clone `fast` of the texts m and s
abbrev pub solo_fast : Option RequestView
solo_fast = of_m_and_s (Solo (codes "fast")) 1

-- all clones of the texts m and s, while analysts decide, with this number of workers
abbrev pub live_by : ℕ → Option RequestView
live_by workers = Some (live_of (codes "m") (codes "s") workers)

-- all clones of the texts m and s, with the watches of the text w, with this number of workers
abbrev pub watch_by : ℕ → Option RequestView
watch_by workers = Some (watch_of (codes "m") (codes "s") (codes "w") workers)

-- the report of the study of a number, with this number of workers
abbrev pub gen_by : ℕ → ℕ → Option RequestView
gen_by number workers = Some (study_of (Number number) Report workers)

-- all clones of two texts with odd names, with one worker
abbrev pub run_named : List ℕ → List ℕ → Option RequestView
run_named model script = Some (study_of (FileNames model script) Run 1)

-- the snapshot of the clone `fast` of the texts m and s at this time
abbrev pub save_fast : ℕ → Option RequestView
save_fast until = of_m_and_s (Save (codes "fast") until) 1

-- the rest of the run of the clone in the snapshot x
abbrev pub resume_x : Option RequestView
resume_x = Some (record { assignment = Resume (codes "m") (codes "x"); workers = 1 })

-- the modes; one worker without --workers
abbrev pub modes : List Example
modes =
    line (codes "run m s") (run_by 1)
    ∷ line (codes "solo m s --clone fast") solo_fast
    ∷ line (codes "live m s") (live_by 1)
    ∷ line (codes "gen 7") (gen_by 7 1)
    ∷ line (codes "watch m s w") (watch_by 1)
    ∷ line (codes "stats m s") (of_m_and_s Stats 1)
    ∷ line (codes "save m s --clone fast --until 10") (save_fast 10)
    ∷ line (codes "resume m x") resume_x
    ∷ line (codes "links m s") (of_m_and_s Links 1)
    ∷ line (codes "walk m s") None
    ∷ line (codes "Run m s") None
    ∷ line (codes "report m s") None
    ∷ line (codes "--help") None
    ∷ []

-- an option's value is the next word, or part of the same word
abbrev pub option_values : List Example
option_values =
    line (codes "run m s --workers 4") (run_by 4)
    ∷ line (codes "run m s --workers=4") (run_by 4)
    ∷ line (codes "solo m s --clone=fast") solo_fast
    ∷ line (codes "live m s --workers 4") (live_by 4)
    ∷ line (codes "stats m s --workers 2") (of_m_and_s Stats 2)
    ∷ line (codes "links m s --workers=3") (of_m_and_s Links 3)
    ∷ line (codes "save m s --clone=fast --until=10") (save_fast 10)
    -- no value, or an empty one
    ∷ line (codes "run m s --workers") None
    ∷ line (codes "run m s --workers=") None
    ∷ line (codes "save m s --clone fast --until") None
    ∷ line (codes "save m s --clone fast --until=") None
    -- a word with a dash is not a value
    ∷ line (codes "run m --workers -- s") None
    ∷ line (codes "run m s --workers -4") None
    ∷ line (codes "solo m s --clone --clone fast") None
    ∷ line (codes "save m s --until --clone fast") None
    ∷ line (codes "save m s --clone fast --until -1") None
    ∷ []

-- options may be anywhere before `--`
abbrev pub option_places : List Example
option_places =
    line (codes "--workers 4 run m s") (run_by 4)
    ∷ line (codes "run --workers=4 m s") (run_by 4)
    ∷ line (codes "run m --workers 4 s") (run_by 4)
    ∷ line (codes "--clone fast solo m s") solo_fast
    ∷ line (codes "watch m s --workers 4 w") (watch_by 4)
    ∷ line (codes "gen --workers 16 999999") (gen_by 999999 16)
    ∷ line (codes "--until 10 save m --clone fast s") (save_fast 10)
    ∷ line (codes "save --clone=fast m s --until=10") (save_fast 10)
    ∷ []

-- each option may occur once, with its whole name, and there are no other options
abbrev pub option_names : List Example
option_names =
    line (codes "run m s --workers 4 --workers 4") None
    ∷ line (codes "run --workers=4 m s --workers 2") None
    ∷ line (codes "solo m s --clone fast --clone=fast") None
    ∷ line (codes "save m s --clone fast --until 10 --until 10") None
    ∷ line (codes "save --until=10 m s --clone fast --until=9") None
    ∷ line (codes "run m s --work 4") None
    ∷ line (codes "run m s --workersx=4") None
    ∷ line (codes "run m s --from 4") None
    ∷ line (codes "run m s -w 4") None
    ∷ line (codes "save m s --clone fast --unti 10") None
    ∷ line (codes "save m s --clone fast --untilx=10") None
    ∷ []

-- after `--` each word is a positional, and before it a positional does not begin with a dash, unless it is a single
-- dash
abbrev pub dashes : List Example
dashes =
    line (codes "-- run m s") (run_by 1)
    ∷ line (codes "--workers=2 run -- m s") (run_by 2)
    ∷ line (codes "run m s --") (run_by 1)
    ∷ line (codes "run -- m s --workers 4") None
    ∷ line (codes "run m -") (run_named (codes "m") (codes "-"))
    ∷ line (codes "run -m s") None
    ∷ line (codes "run -- -m --workers") (run_named (codes "-m") (codes "--workers"))
    ∷ line (codes "run -- m --") (run_named (codes "m") (codes "--"))
    ∷ line (codes "save --clone fast --until 0 -- m s") (save_fast 0)
    ∷ line (codes "save m s --clone fast -- --until 10") None
    ∷ line (codes "resume -- m x") resume_x
    ∷ []

-- the number of positionals is exact, and none is empty
abbrev pub positionals : List Example
positionals =
    record { words = []; asks = None }
    ∷ line (codes "run m") None
    ∷ line (codes "run m s x") None
    ∷ line (codes "live m") None
    ∷ line (codes "live m s t") None
    ∷ line (codes "stats m") None
    ∷ line (codes "stats m s t") None
    ∷ line (codes "links m s t") None
    ∷ line (codes "watch m s") None
    ∷ line (codes "watch m s w x") None
    ∷ line (codes "save m --clone fast --until 10") None
    ∷ line (codes "save m s t --clone fast --until 10") None
    ∷ line (codes "resume m") None
    ∷ line (codes "resume m x y") None
    ∷ line (codes "gen") None
    ∷ line (codes "gen 7 8") None
    ∷ line (codes "run  s") None
    ∷ line (codes "solo m  --clone fast") None
    ∷ line (codes "watch m  w") None
    ∷ line (codes "watch m s ") None
    ∷ line (codes "save m  --clone fast --until 10") None
    ∷ line (codes "resume  x") None
    ∷ line (codes "resume m ") None
    ∷ line (codes " m s") None
    ∷ []

-- the options of each mode
abbrev pub options_of_modes : List Example
options_of_modes =
    line (codes "run m s --clone base") None
    ∷ line (codes "run m s --until 10") None
    ∷ line (codes "live m s --clone x") None
    ∷ line (codes "live m s --until 10") None
    ∷ line (codes "gen 7 --clone fast") None
    ∷ line (codes "gen 7 --until 10") None
    ∷ line (codes "stats m s --clone fast") None
    ∷ line (codes "stats m s --until 10") None
    ∷ line (codes "watch m s w --clone fast") None
    ∷ line (codes "watch m s w --until 10") None
    ∷ line (codes "links m s --clone fast") None
    ∷ line (codes "links m s --until 10") None
    ∷ line (codes "solo m s --clone fast --workers 4") None
    ∷ line (codes "solo m s --clone fast --until 10") None
    ∷ line (codes "solo m s --until 10") None
    ∷ line (codes "solo m s") None
    ∷ line (codes "save m s --clone fast --until 10 --workers 4") None
    ∷ line (codes "save m s --clone fast --workers 4") None
    ∷ line (codes "save m s --until 10 --workers 4") None
    ∷ line (codes "save m s --clone fast") None
    ∷ line (codes "save m s --until 10") None
    ∷ line (codes "save m s --workers 4") None
    ∷ line (codes "save m s") None
    ∷ line (codes "resume m x --workers 4") None
    ∷ line (codes "resume m x --clone fast") None
    ∷ line (codes "resume m x --until 10") None
    ∷ line (codes "resume m x --clone fast --until 10") None
    ∷ line (codes "resume m x --clone fast --workers 4") None
    ∷ line (codes "resume m x --until 10 --workers 4") None
    ∷ line (codes "resume m x --clone fast --until 10 --workers 4") None
    -- words that are not names
    ∷ line (codes "solo m s --clone Fast") None
    ∷ line (codes "solo m s --clone -") None
    ∷ line (codes "save m s --clone Fast --until 10") None
    ∷ []

-- workers are 1 to 16, numbers 1 to 999999 and times 0 to 4294967295, in decimal without a leading zero or sign
abbrev pub numbers : List Example
numbers =
    line (codes "run m s --workers 0") None
    ∷ line (codes "run m s --workers 1") (run_by 1)
    ∷ line (codes "run m s --workers 16") (run_by 16)
    ∷ line (codes "run m s --workers 17") None
    ∷ line (codes "run m s --workers 04") None
    ∷ line (codes "run m s --workers +1") None
    ∷ line (codes "run m s --workers=-1") None
    ∷ line (codes "gen 0") None
    ∷ line (codes "gen 1000000") None
    ∷ line (codes "gen 07") None
    ∷ line (codes "gen +7") None
    ∷ line (codes "save m s --clone fast --until 0") (save_fast 0)
    ∷ line (codes "save m s --clone fast --until 4294967295") (save_fast 4294967295)
    ∷ line (codes "save m s --clone fast --until 4294967296") None
    ∷ line (codes "save m s --clone fast --until 10000000000") None
    ∷ line (codes "save m s --clone fast --until 00") None
    ∷ line (codes "save m s --clone fast --until 010") None
    ∷ line (codes "save m s --clone fast --until=+1") None
    ∷ []
