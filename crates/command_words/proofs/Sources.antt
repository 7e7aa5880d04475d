-- The request of a study that is generated from a number.
use Rattle.std.proofs.Common.{◌≡◌, ◌&&◌, ℕ, Bool, true, false, cond, List, [], ◌∷◌, codes, refl, subst, IfSome}
use Rattle.std.proofs.Common.{Option, Some, None, bytes_eq, option_map, option_and_then}
use Rattle.command_words.specs.declared.request.TheConstants.{MAX_STUDY}
use Rattle.command_words.specs.Numbers.{number_in}
use Rattle.command_words.specs.declared.request.Mode.{Mode}
use Rattle.command_words.specs.declared.request.Mode.TheVariants.{Links, Report, Run, Solo, Stats}
use Rattle.command_words.specs.Requests.{AssignmentView, FileNames, Live, MadeIsReported, Number, RequestView, Study}
use Rattle.command_words.specs.Requests.{Resume, Watch, by_positionals, clone_alone, form_of, form_of_one}
use Rattle.command_words.specs.Requests.{form_of_three, form_of_two, if_named, is_text, live_by, live_form, none_given}
use Rattle.command_words.specs.Requests.{resume_form, save_form, saving, solo_form, study_form, study_of, watch_by}
use Rattle.command_words.specs.Requests.{watch_form, workers_alone}
use Rattle.command_words.specs.Rules.{values}
use Rattle.command_words.specs.Values.{GivenView}

-- a study that is generated from a number writes the report
abbrev IsReportIfMade : AssignmentView → Type 0
IsReportIfMade (Study (Number n) mode) = mode ≡ Report
IsReportIfMade (Study (FileNames model script) mode) = Unit {0}
IsReportIfMade (Live model script) = Unit {0}
IsReportIfMade (Watch model script watches) = Unit {0}
IsReportIfMade (Resume model snapshot) = Unit {0}

-- the same for a request, if any
abbrev AreReportsIfMade : Option RequestView → Type 0
AreReportsIfMade request = IfSome request (λ r. IsReportIfMade r.assignment)

-- ---- the result of each form

-- a choice between two requests with this property
cond-reports : (b : Bool) (x y : Option RequestView) → AreReportsIfMade x → AreReportsIfMade y
    → AreReportsIfMade (cond b x y)
cond-reports true x y h k = h
cond-reports false x y h k = k

-- an optional request with this property
map-reports : {A : Type 0} (f : A → RequestView) (x : Option A) → ((a : A) → IsReportIfMade (f a).assignment)
    → AreReportsIfMade (option_map f x)
map-reports f None each = tt
map-reports f (Some a) each = each a

-- if both file names are there
named-reports : (first second : List ℕ) (x : Option RequestView) → AreReportsIfMade x
    → AreReportsIfMade (if_named first second x)
named-reports first second x h = cond-reports (is_text first && is_text second) x None h tt

-- a study of two files
study-reports : (mode : Mode) (model script : List ℕ) (v : GivenView)
    → AreReportsIfMade (study_form mode model script v)
study-reports mode model script v = named-reports model script _
    (map-reports (study_of (FileNames model script) mode) (workers_alone v.workers v.clone v.until) (λ n. tt))

-- `live`
live-reports : (model script : List ℕ) (v : GivenView) → AreReportsIfMade (live_form model script v)
live-reports model script v = named-reports model script _
    (map-reports (live_by model script) (workers_alone v.workers v.clone v.until) (λ n. tt))

-- `solo`
solo-reports : (model script : List ℕ) (v : GivenView) → AreReportsIfMade (solo_form model script v)
solo-reports model script v = named-reports model script _
    (map-reports (λ name. study_of (FileNames model script) (Solo name) 1) (clone_alone v.workers v.clone v.until)
    (λ n. tt))

-- `save`
save-reports : (model script : List ℕ) (v : GivenView) → AreReportsIfMade (save_form model script v)
save-reports model script v = named-reports model script _
    (map-reports (λ mode. study_of (FileNames model script) mode 1) (saving v.workers v.clone v.until) (λ n. tt))

-- `resume`
resume-reports : (model snapshot : List ℕ) (v : GivenView) → AreReportsIfMade (resume_form model snapshot v)
resume-reports model snapshot v = named-reports model snapshot _
    (cond-reports (none_given v.workers v.clone v.until) _ None tt tt)

-- `gen` of a number that was read
made-reports : (number workers : Option ℕ)
    → AreReportsIfMade (option_and_then (λ n. option_map (study_of (Number n) Report) workers) number)
made-reports None workers = tt
made-reports (Some n) workers = map-reports (study_of (Number n) Report) workers (λ w. refl)

-- ---- all forms

-- one more positional
one-reports : (mode number : List ℕ) (v : GivenView) → AreReportsIfMade (form_of_one mode number v)
one-reports mode number v = cond-reports (bytes_eq mode (codes "gen")) _ None
    (made-reports (number_in 1 MAX_STUDY number) (workers_alone v.workers v.clone v.until)) tt

-- two more positionals
two-reports : (mode first second : List ℕ) (v : GivenView) → AreReportsIfMade (form_of_two mode first second v)
two-reports mode first second v =
    cond-reports (bytes_eq mode (codes "run")) _ _ (study-reports Run first second v)
    (cond-reports (bytes_eq mode (codes "solo")) _ _ (solo-reports first second v)
    (cond-reports (bytes_eq mode (codes "live")) _ _ (live-reports first second v)
    (cond-reports (bytes_eq mode (codes "stats")) _ _ (study-reports Stats first second v)
    (cond-reports (bytes_eq mode (codes "save")) _ _ (save-reports first second v)
    (cond-reports (bytes_eq mode (codes "resume")) _ _ (resume-reports first second v)
    (cond-reports (bytes_eq mode (codes "links")) _ None (study-reports Links first second v) tt))))))

-- `watch`
watch-reports : (model script watches : List ℕ) (v : GivenView)
    → AreReportsIfMade (watch_form model script watches v)
watch-reports model script watches v =
    cond-reports (is_text watches) _ None (named-reports model script _
    (map-reports (watch_by model script watches) (workers_alone v.workers v.clone v.until) (λ n. tt))) tt

-- three more positionals
three-reports : (mode first second third : List ℕ) (v : GivenView)
    → AreReportsIfMade (form_of_three mode first second third v)
three-reports mode first second third v =
    cond-reports (bytes_eq mode (codes "watch")) _ None (watch-reports first second third v) tt

-- any positionals
positionals-report : (words : List (List ℕ)) (v : GivenView) → AreReportsIfMade (by_positionals words v)
positionals-report [] v = tt
positionals-report (mode ∷ []) v = tt
positionals-report (mode ∷ first ∷ []) v = one-reports mode first v
positionals-report (mode ∷ first ∷ second ∷ []) v = two-reports mode first second v
positionals-report (mode ∷ first ∷ second ∷ third ∷ []) v = three-reports mode first second third v
positionals-report (mode ∷ first ∷ second ∷ third ∷ word ∷ words) v = tt

-- any values
values-report : (v : Option GivenView) → AreReportsIfMade (option_and_then form_of v)
values-report None = tt
values-report (Some v) = positionals-report v.positionals v

-- any words
pub made_is_reported : MadeIsReported
made_is_reported words r number mode e is =
    subst IsReportIfMade is (subst AreReportsIfMade e (values-report (values words)))
