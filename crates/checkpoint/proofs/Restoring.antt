-- The saved data of a run's state fits its station, and restores the state.
use Rattle.std.proofs.Common.{◌≡◌, ℕ, ◌≤◌, List, [], ◌∷◌, length, true, refl, sym, ap, ◌∙◌}
use Rattle.std.proofs.Common.{Option, Some, arith, subst, eq-eqb}
use Rattle.std.specs.Prelude.{option_map}
use Rattle.std.specs.List.{AllByRecursion}
use Rattle.std.proofs.lemmas.Bool.{le-leb, lt-ltb, and_from as and}
use Rattle.sim_base.specs.Weights.{IsWeight}
use Rattle.net_model.specs.declared.station.Kind.{Kind}
use Rattle.net_model.specs.declared.station.Kind.TheVariants as kind
use Rattle.net_model.specs.declared.limits.TheConstants.{MAX_WEIGHT}
use Rattle.net_model.specs.Net.{Net, Site, site_at, site_of}
use Rattle.net_model.specs.Rules.{IsNet, is_within}
use Rattle.stations.specs.declared.kind_state.KindState.{KindState}
use Rattle.stations.specs.declared.kind_state.KindState.TheVariants.{Source, Server, Delay, Router, Sink}
use Rattle.stations.specs.declared.sender.TheConstants.{MAX_STAY_SUM}
use Rattle.stations.specs.Fits.{FitsKind, IsOfKind}
use Rattle.stations.specs.Fitting.{is_job_of, fits_shape}
use Rattle.stations.specs.Handling.{StateView}
use Rattle.stations.specs.Saving.{shape_of, restored_kind}
use Rattle.stations.proofs.Lawful.{site_is}
use Rattle.stations.proofs.RestoringLaws.{range-true, within-true, all_pass-true, line-true}
use Rattle.checkpoint.specs.RunKeeps.{RunKeepsKind, sent_of, jobs_of}
use Rattle.checkpoint.specs.SavedLaws.{StateIsRestored}

module _ (net : Net) where
  -- the shape of a kind's state restores that state
  restored_kind-shape_of : (k : Kind) (handled : ℕ) (s : KindState) → RunKeepsKind net k handled s →
      restored_kind k (shape_of s) ≡ Some s
  restored_kind-shape_of (kind.Source lo hi jobs class) handled (Source s) kept =
      ap (λ (n : ℕ). let x : Option KindState =
      Some (Source (record { lo = s.lo; hi = s.hi; jobs = n; sent = s.sent })) in x) (sym kept)
  restored_kind-shape_of (kind.Server servers room lo hi by_class) handled (Server s) kept = refl
  restored_kind-shape_of (kind.Delay lo hi) handled (Delay s) kept = refl
  restored_kind-shape_of (kind.Router turn) handled (Router s) kept = refl
  restored_kind-shape_of kind.Sink handled (Sink s) kept = refl
  restored_kind-shape_of k handled s kept = absurd kept

  -- and fits the station
  fits_shape-shape_of : (site : Site) (k : Kind) (handled : ℕ) (s : KindState) → handled ≤ net.limit → IsNet net →
      RunKeepsKind net k handled s → FitsKind handled s → IsOfKind site k s → sent_of s ≤ jobs_of s →
      fits_shape net site handled k (shape_of s) ≡ true
  fits_shape-shape_of site (kind.Source lo hi jobs class) handled (Source s) few valid kept fits of sent =
      and _ _ (range-true 1 s.lo s.hi fits.range) (le-leb s.sent jobs (let k = kept in omega (arith, k, sent)))
  fits_shape-shape_of site (kind.Server servers room lo hi by_class) handled (Server s) few valid kept fits of sent =
      let rules = fits.rules in
      and _ _ (and _ _ (within-true 1 _ s.servers rules.at_least rules.at_most)
      (and _ _ (le-leb s.room _ rules.small) (range-true 1 s.lo s.hi rules.service)))
      (and _ _ (and _ _ (and _ _ (le-leb s.busy _ fits.busy) (le-leb (length s.waiting) _ fits.length_max))
      (line-true (length s.waiting) s.busy s.servers fits.line))
      (and _ _ (and _ _ (le-leb s.done handled fits.done) (le-leb s.lost handled fits.lost))
      (all_pass-true (is_job_of net) s.waiting kept)))
  fits_shape-shape_of site (kind.Delay lo hi) handled (Delay s) few valid kept fits of sent =
      and _ _ (range-true 0 s.lo s.hi fits.range) (le-leb s.passed handled fits.passed)
  fits_shape-shape_of site (kind.Router turn) handled (Router s) few valid kept fits of sent =
      and _ _ (and _ _ (eq-eqb (length s.weights.items) (length site.links) of)
      (all_pass-true (is_within 1 MAX_WEIGHT) s.weights.items (weights s.weights.items fits.weights.all)))
      (le-leb s.passed handled fits.passed)
    where
      weights : (ws : List ℕ) → AllByRecursion IsWeight ws → AllByRecursion (λ w. is_within 1 MAX_WEIGHT w ≡ true) ws
      weights [] all = tt
      weights (w ∷ ws) all = (within-true 1 MAX_WEIGHT w all.0.heavy all.0.light, weights ws all.1)
  fits_shape-shape_of site kind.Sink handled (Sink s) few valid kept fits of sent =
      let short = valid.limit_max in
      let k = kept in
      and _ _ (le-leb s.got handled fits.got) (lt-ltb s.stay MAX_STAY_SUM (omega (arith, k, few, short)))
  fits_shape-shape_of site k handled s few valid kept fits of sent = absurd kept

  -- a state with another kind's state, and with another station, seed and stream for its draws
  abbrev restored_as : StateView → ℕ → ℕ → ℕ → KindState → StateView
  restored_as st station seed stream k = record {
    sender = record {
      station = station;
      next = st.sender.next;
      draws = record { seed = seed; stream = stream; count = st.sender.draws.count };
    };
    handled = st.handled;
    kind = k;
  }

  -- so the data of the whole state fits the station, and restores that state
  pub state_is_restored : IsNet net → StateIsRestored net
  state_is_restored valid s st is =
      let site : Site = site_of net s in
      let number : site_at net s ≡ Some is.suits.site = subst (λ (r : ℕ). site_at net r ≡ Some is.suits.site) is.station
      is.suits.is_there in
      let same : site ≡ is.suits.site = site_is net s is.suits.site number in
      let of : IsOfKind site site.kind st.kind =
      subst (λ (q : Site). IsOfKind q q.kind st.kind) (sym same) is.suits.kind in
      let kind = restored_kind-shape_of site.kind st.handled st.kind is.kept.kind in (
        and _ _ (and _ _ (le-leb st.handled net.limit is.within)
            (and _ _ (le-leb st.sender.next _ is.fits.sender.next)
            (le-leb st.sender.draws.count _ is.fits.sender.draws)))
            (fits_shape-shape_of site site.kind st.handled st.kind is.within valid is.kept.kind is.fits.kind of
            is.sent),
        ap (option_map (λ (k : KindState). restored_as st s net.seed site.stream k)) kind
            ∙ sym (ap (λ (n : ℕ).
            Some (restored_as st n st.sender.draws.seed st.sender.draws.stream st.kind)) is.station
            ∙ ap (λ (n : ℕ). Some (restored_as st s n st.sender.draws.stream st.kind)) is.kept.seed
            ∙ ap (λ (n : ℕ). Some (restored_as st s net.seed n st.kind)) is.kept.stream),
      )
