-- The figures of a report, and their total.
use Rattle.std.proofs.Common.{◌≡◌, ℕ, zero, suc, ◌+◌, ◌*◌, ◌^◌, ◌<◌, ◌≤◌, refl, sym, ap, ap₂, ◌∙◌, subst, arith}
use Rattle.std.proofs.Common.{suc-mul, List, [], ◌∷◌, ◌++◌, length, length-append, sum_by, Result, Ok, Err, IfOk}
use Rattle.std.proofs.lemmas.List.Sums.{sum_by_push}
use Rattle.std.proofs.Math.Nat.{mul-le-mul}
use Rattle.sim_base.specs.Clones.{Clone}
use Rattle.sim_base.specs.Same.{same_entry}
use Rattle.sim_base.specs.declared.figures.Figures.{Figures}
use Rattle.sim_base.specs.declared.lists.TheConstants.{MAX_CLONES}
use Rattle.net_model.specs.Net.{Net}
use Rattle.net_model.specs.Rules.{IsNet}
use Rattle.run_laws.specs.CountLaws.{AreFew}
use Rattle.run_laws.specs.SharedTexts.{station_sum}
use Rattle.run_laws.proofs.FewGains.{counts_are_few}
use Rattle.stations.specs.Runs.{handled_alone, copies, handled_once, simulation}
use Rattle.world_core.specs.Overs.{most_handled}
use Rattle.trace_report.specs.ReportText.{report_text}
use Rattle.study_run.specs.Laws.{TotalIsFew, TotalIsOfReport}
use Rattle.study_run.specs.Limits.{AreWithin}
use Rattle.trace_report.specs.Outputs.{figures_of, figures_to, report}

-- the messages of a clone at a station are within the limit, and those of all clones at all stations fit 64 bits
small : (net : Net) (cs : List Clone) → IsNet net → length cs ≤ MAX_CLONES
    → most_handled net (length cs) < 2 ^ 64
small net cs valid few =
    let a : length cs * net.limit ≤ 16777216 = mul-le-mul few valid.limit_max in
    let b : length net.sites * (length cs * net.limit) ≤ 1073741824 = mul-le-mul valid.at_most a in
    let c : 1073741824 < 2 ^ 64 = omega arith in
    omega (arith, b, c)

module _ (net : Net) (cs : List Clone) where
  -- ---- figures_to

  -- there is one figure for each of the stations 1 to n
  pub figures_count : (n : ℕ) → length (figures_to net cs n) ≡ n
  unfolding figures_to
  figures_count zero = refl
  figures_count (suc n) =
      let h = figures_count n in
      let e : length (figures_to net cs n) + 1 ≡ suc n = omega (arith, h) in
      length-append (figures_to net cs n) (figures_of net cs (n + 1) ∷ []) ∙ e

  -- one more station
  figures_more : (n : ℕ) → figures_to net cs (n + 1) ≡ figures_to net cs n ++ figures_of net cs (n + 1) ∷ []
  unfolding figures_to
  figures_more n = let e : n + 1 ≡ suc n = omega arith in ap (figures_to net cs) e

  -- for no station there are no figures
  pub figures_none : [] ≡ figures_to net cs 0
  unfolding figures_to
  figures_none = refl

  -- if each station has at most this much
  module _ (f : Figures → ℕ) (each : (s : ℕ) → 1 ≤ s → s ≤ length net.sites
      → f (figures_of net cs s) ≤ length cs * net.limit) where
    -- the stations 1 to n have at most n times as much
    figures_few : (n : ℕ) → n ≤ length net.sites → sum_by f (figures_to net cs n) ≤ n * (length cs * net.limit)
    unfolding figures_to
    figures_few zero l = omega arith
    figures_few (suc n) l =
        let h = figures_few n (omega (arith, l)) in
        let one = each (n + 1) (omega arith) (omega (arith, l)) in
        let m = suc-mul n (length cs * net.limit) in
        subst (λ k. k ≤ suc n * (length cs * net.limit))
        (sym (sum_by_push f (figures_to net cs n) (figures_of net cs (n + 1)))) (omega (arith, h, one, m))

    -- the sum over all stations fits 64 bits, if the clones are not too many
    pub figures_small : IsNet net → length cs ≤ MAX_CLONES → sum_by f (figures_to net cs (length net.sites)) < 2 ^ 64
    figures_small valid few =
        let a = figures_few (length net.sites) (omega arith) in
        let b = small net cs valid few in
        omega (arith, a, b)

  -- if no log is longer than the limit, the counts are few
  pub few_at : AreWithin net cs → (s : ℕ) → 1 ≤ s → s ≤ length net.sites
      → AreFew (simulation net) same_entry cs s net.horizon
  few_at h s low high = counts_are_few (simulation net) same_entry cs s net.horizon
      (λ c there. h c there s (low, high))

  -- ---- the total

  -- the sum over the figures of the stations 1 to n is the sum over these stations
  total_to : (n : ℕ) → sum_by (λ (f : Figures). f.handled) (figures_to net cs n) ≡ station_sum
      (λ s. handled_once net cs s net.horizon) n
  unfolding figures_to
  total_to zero = refl
  total_to (suc n) =
      let h = total_to n in
      let e : n + 1 ≡ suc n = omega arith in
      let at = ap (λ s. handled_once net cs s net.horizon) e in
      sum_by_push (λ (f : Figures). f.handled) (figures_to net cs n) (figures_of net cs (n + 1))
      ∙ ap₂ (λ a b. a + b) h at

  -- if no log is longer than the limit, the total is no more than the limit allows for n stations
  total_few : AreWithin net cs → (n : ℕ) → n ≤ length net.sites
      → station_sum (λ s. handled_once net cs s net.horizon) n ≤ n * (length cs * net.limit)
  total_few within zero l = omega arith
  total_few within (suc n) l =
      let h = total_few within n (omega (arith, l)) in
      let one = (few_at within (suc n) (omega arith) l).handled_few in
      let m = suc-mul n (length cs * net.limit) in
      omega (arith, h, one, m)

-- the report's total is the number of messages handled once at all stations
pub total_is_of_report : TotalIsOfReport
total_is_of_report net cs = total_to net cs (length net.sites)

-- if all logs are within the limit, the total is no more than the limit allows
pub total_is_few : TotalIsFew
total_is_few net cs within = total_few net cs within (length net.sites) (omega arith)

-- ---- the figures of a world

-- figures with the same three numbers are equal
same_figures : (f g : Figures) → f.copies ≡ g.copies → f.handled ≡ g.handled → f.alone ≡ g.alone → f ≡ g
same_figures f g a b c =
    ap₂ (λ x y. record { copies = x; handled = y; alone = f.alone }) a b
    ∙ ap (λ z. record { copies = g.copies; handled = g.handled; alone = z }) c

-- the figures at the horizon with one more station
pub figures_pushed : (net told : Net) (cs : List Clone) (front s : ℕ) (f : Figures) (done all : List Figures)
    → told ≡ net → front ≡ net.horizon
    → f.copies ≡ copies told cs (s + 1) front → f.handled ≡ handled_once told cs (s + 1) front
    → f.alone ≡ handled_alone told cs (s + 1) front
    → done ≡ figures_to net cs s → all ≡ done ++ f ∷ [] → all ≡ figures_to net cs (s + 1)
figures_pushed net told cs front s f done all n h a b c before push =
    let is : f ≡ figures_of net cs (s + 1) = same_figures f (figures_of net cs (s + 1))
    (a ∙ ap₂ (λ (k : Net) t. copies k cs (s + 1) t) n h)
    (b ∙ ap₂ (λ (k : Net) t. handled_once k cs (s + 1) t) n h)
    (c ∙ ap₂ (λ (k : Net) t. handled_alone k cs (s + 1) t) n h) in
    push ∙ (ap₂ (λ xs x. xs ++ x ∷ []) before is ∙ sym (figures_more net cs s))

-- the text of all figures is the report
pub report_is : (net : Net) (cs : List Clone) (figures : List Figures)
    → figures ≡ figures_to net cs (length net.sites) → report_text net figures ≡ report net cs
unfolding report
report_is net cs figures e = ap (report_text net) e

-- an equal text, if there is one
pub text_on : {T E : Type 0} (text : T → List ℕ) (r : Result T E) (a b : List ℕ) → a ≡ b → IfOk r (λ t. text t ≡ a)
    → IfOk r (λ t. text t ≡ b)
text_on text (Ok t) a b e h = h ∙ e
text_on text (Err r) a b e h = tt
