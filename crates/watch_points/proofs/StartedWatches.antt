-- Watches that have started: a watcher with them follows the script's clones at front 0.
use Rattle.std.proofs.Common.{◌≡◌, ℕ, zero, suc, ◌+◌, ◌≤◌, Bool, true, List, [], ◌∷◌, ◌++◌, Option, Some, None}
use Rattle.std.proofs.Common.{inl, inr, refl, sym, ap, ◌∙◌, subst, arith, map, length, take, option_map, get_or}
use Rattle.std.proofs.Common.{unwrap_or}
use Rattle.std.specs.Prelude.{position, slice_get}
use Rattle.std.specs.Option.{option_or}
use Rattle.std.specs.Str.{bytes_eq}
use Rattle.std.proofs.lemmas.List.{length-map, map-append, take-take, take_all}
use Rattle.std.proofs.lemmas.List.Quantifiers.{position-Some}
use Rattle.std.proofs.lemmas.Option.{slice_get-get_or, slice_get_within}
use Rattle.std.proofs.lemmas.Slice.Eq.{bytes_eq-Decides}
use Rattle.sim_base.specs.Clones.{Clone, clone_at, place_of}
use Rattle.sim_base.specs.declared.entry.Line.{Line}
use Rattle.sim_base.proofs.ListLaws.{slice_get-map_back, slice_get-map_some}
use Rattle.net_model.specs.Net.{HasStation, Net, site_of, station_named}
use Rattle.net_model.specs.Rules.{IsNet}
use Rattle.run_laws.specs.Queue.{In}
use Rattle.stations.specs.Runs.{simulation}
use Rattle.run_laws.proofs.Lists.{slice_get-push}
use Rattle.stations.proofs.Places.{take-next}
use Rattle.decision_book.proofs.Planned.{station_named-low}
use Rattle.watch_points.specs.Branches.{HaveNewNames, TargetsAreStations, Trigger}
use Rattle.watch_points.specs.FittingWatches.{AreFitting, IsWatchable}
use Rattle.watch_points.specs.Passes.{AreFollowed, CanBeFollowed}
use Rattle.watch_points.specs.Progress.{HaveSources, IsSource}
use Rattle.watch_points.specs.Starting.{AreStarted, IsStarted, source_named}
use Rattle.watch_points.specs.Triggers.{station_number, trigger_of, triggers_of}
use Rattle.watch_points.specs.Watchers.{Follows, HaveStations, active_triggers, progress_of, sources_of}
use Rattle.watch_points.specs.declared.watch.Watch.{Watch}
use Rattle.watch_points.specs.declared.watcher.ActiveWatch.{ActiveWatch}
use Rattle.watch_points.specs.declared.watcher.Progress.{Progress}
use Rattle.watch_points.specs.declared.watcher.Progress.TheVariants.{Waiting}
use Rattle.watch_points.specs.declared.watcher.Source.{Source}
use Rattle.watch_points.specs.declared.watcher.Source.TheVariants.{OfScript, OfWatch}
use Rattle.watch_points.proofs.ClonePlaces.{place_of-some, position-there}
use Rattle.watch_points.proofs.Elements.{slice_get-take}
use Rattle.watch_points.proofs.Following.{followed_at_start}

-- ---- station_named

-- a station that is found is one of the network
pub station_named-within : (name : List ℕ) (net : Net) (s : ℕ) → station_named name net ≡ Some s → HasStation net s
station_named-within name net s e = record {
  low = station_named-low name net s e;
  high = by (position (λ site. bytes_eq site.name name) net.sites) refl e;
}
  where
    by : (o : Option ℕ) → position (λ site. bytes_eq site.name name) net.sites ≡ o →
        option_map (λ i. i + 1) o ≡ Some s → s ≤ length net.sites
    by None is f = absurd (cc)
    by (Some i) is f =
        let l = (position-Some (λ site. bytes_eq site.name name) net.sites i (site_of net s) is).0 in
        let same : i + 1 ≡ s = cc in
        omega (arith, l, same)

-- the number of a station that is found
pub station_number-found : (net : Net) (name : List ℕ) (s : ℕ) → station_named name net ≡ Some s →
    station_number net name ≡ s
station_number-found net name s e = ap (λ o. unwrap_or o 0) e

-- ---- position

-- the element at the first place that passes
pub slice_get-position : {X : Type 0} (p : X → Bool) (xs : List X) (i : ℕ) → position p xs ≡ Some i →
    (x : X) × (slice_get xs i ≡ Some x) × (p x ≡ true)
slice_get-position p [] i e = absurd (cc)
slice_get-position p (x ∷ xs) i e =
    let h = position-Some p (x ∷ xs) i x e in
    (get_or (x ∷ xs) i x, slice_get-get_or (x ∷ xs) i x h.0, h.1)

-- ---- CanBeFollowed

-- the targets are stations
targets_of : (net : Net) (ws : List Watch) →
    ((j : ℕ) (w : Watch) → slice_get ws j ≡ Some w → HasStation net (station_number net w.target)) →
    TargetsAreStations (length net.sites) (triggers_of net ws)
targets_of net [] f = tt
targets_of net (w ∷ ws) f =
    let h = f zero w refl in
    let low = h.low in
    ((omega (arith, low), h.high), targets_of net ws (λ j. f (suc j)))

-- a new name is none of the names before
new_name-other : (names : List (List ℕ)) (ts : List (Trigger Line)) (i : ℕ) (t : Trigger Line) →
    HaveNewNames names ts → slice_get ts i ≡ Some t → In t.new names → ⊥
new_name-other names [] i t h e k = absurd (cc)
new_name-other names (u ∷ ts) zero t h e k = let same : t ≡ u = cc in
    h.0 (subst (λ (v : Trigger Line). In v.new names) same k)
new_name-other names (u ∷ ts) (suc i) t h e k = new_name-other (u.new ∷ names) ts i t h.1 e (inr k)

module _ (net : Net) (cs : List Clone) (ws : List Watch) (fits : AreFitting net cs ws) where
  -- the clone that is found by its name is the source
  source-found : (j : ℕ) (who : List ℕ) (s : Source) → IsWatchable cs (take j ws) who →
      source_named cs (take j ws) who ≡ Some s → IsSource cs (triggers_of net ws) j who s
  source-found j who s watchable e = by (place_of who cs) refl e
    where
      of_clone : (c : ℕ) → place_of who cs ≡ Some c → IsWatchable cs (take j ws) who → (clone_at cs c).end ≡ None
      of_clone c is (inl h) = let same : h.0 ≡ c = let a = h.1 in cc in
          ap (λ k. (clone_at cs k).end) (sym same) ∙ h.2
      of_clone c is (inr h) =
          let u = slice_get-take ws j h.0 h.1.0 h.1.1 in
          absurd (new_name-other (map (λ (c : Clone). c.name) cs) (triggers_of net ws) h.0 (trigger_of net h.1.0)
          fits.new_names (slice_get-map_some (trigger_of net) ws h.0 h.1.0 u.1)
          (subst (λ n. In n (map (λ (c : Clone). c.name) cs)) (sym h.1.2) (place_of-some who cs c is).1))

      of_watch : (o : Option ℕ) → position (λ (w : Watch). bytes_eq w.new who) (take j ws) ≡ o →
          option_map OfWatch o ≡ Some s → IsSource cs (triggers_of net ws) j who s
      of_watch None is f = absurd (cc)
      of_watch (Some i) is f =
          let same : OfWatch i ≡ s = cc in
          let at = slice_get-position (λ (w : Watch). bytes_eq w.new who) (take j ws) i is in
          let u = slice_get-take ws j i at.0 at.1 in
          subst (IsSource cs (triggers_of net ws) j who) same (
            u.0,
            (
              trigger_of net at.0,
              slice_get-map_some (trigger_of net) ws i at.0 u.1,
              (bytes_eq-Decides at.0.new who).0 at.2,
            ),
          )

      by : (o : Option ℕ) → place_of who cs ≡ o →
          option_or (option_map OfScript o) (option_map OfWatch
          (position (λ (w : Watch). bytes_eq w.new who) (take j ws))) ≡ Some s →
          IsSource cs (triggers_of net ws) j who s
      by None is f = of_watch (position (λ (w : Watch). bytes_eq w.new who) (take j ws)) refl f
      by (Some c) is f =
          let same : OfScript c ≡ s = cc in
          subst (IsSource cs (triggers_of net ws) j who) same (is, of_clone c is watchable)

  module _ (active : List ActiveWatch) (started : AreStarted net cs ws active) where
    -- the watch at a place
    watch-at : (j : ℕ) (a : ActiveWatch) → slice_get active j ≡ Some a → slice_get ws j ≡ Some a.watch
    watch-at j a e = ap (λ l. slice_get l j) (sym started.watches)
        ∙ slice_get-map_some (λ (a : ActiveWatch). a.watch) active j a e

    -- the watches have their stations
    stations-started : HaveStations net active
    stations-started j a e = let h = started.each j a e in record { station = h.station; target = h.target }

    -- and their sources
    sources-started : HaveSources cs (triggers_of net ws) (sources_of active)
    sources-started j t s e f =
        let a = slice_get-map_back (λ (a : ActiveWatch). a.source) active j s f in
        let here = watch-at j a.0 a.1 in
        let same : trigger_of net a.0.watch ≡ t =
        let at = slice_get-map_some (trigger_of net) ws j a.0.watch here in cc in
        subst (λ (u : Trigger Line). IsSource cs (triggers_of net ws) j u.who s) same
        (subst (IsSource cs (triggers_of net ws) j a.0.watch.who) a.2
        (source-found j a.0.watch.who a.0.source (fits.each j a.0.watch here).source
        (started.each j a.0 a.1).source))

    -- the targets are stations
    targets-started : TargetsAreStations (length net.sites) (triggers_of net ws)
    targets-started = targets_of net ws (λ j w e.
        let t = (fits.each j w e).target in
        subst (HasStation net) (sym (station_number-found net w.target t.0 t.1))
        (station_named-within w.target net t.0 t.1))

    can_be_followed : CanBeFollowed (simulation net) cs (triggers_of net ws) (sources_of active)
    can_be_followed = record {
      new_names = fits.new_names;
      targets = targets-started;
      have_sources = sources-started;
    }

    -- all wait
    waiting : (j : ℕ) (p : Progress) → slice_get (progress_of active) j ≡ Some p → p ≡ Waiting 0
    waiting j p e =
        let a = slice_get-map_back (λ (a : ActiveWatch). a.progress) active j p e in
        sym a.2 ∙ (started.each j a.0 a.1).progress

    -- as many watches as the text has
    length-started : length active ≡ length ws
    length-started = sym (length-map active (λ (a : ActiveWatch). a.watch)) ∙ ap length started.watches

    followed : AreFollowed (simulation net) cs (triggers_of net ws) 0 (progress_of active) cs
    followed = followed_at_start (simulation net) cs (triggers_of net ws) (progress_of active)
        (length-map active (λ (a : ActiveWatch). a.progress) ∙ length-started
        ∙ sym (length-map ws (trigger_of net))) waiting

    -- so a watcher with them follows the script's clones
    pub started-follows : IsNet net → Follows
        (record { net = net; script_len = length cs; front = 0; active = active }) net cs 0
    started-follows valid =
        let all : take (length cs) cs ≡ cs = take_all (length cs) cs (omega arith) in
        record {
          valid = valid;
          same_net = refl;
          same_front = refl;
          script_max = omega arith;
          clones_max = λ l. let e = length-started in let h = fits.clones_max (omega (arith, l, e)) in
              omega (arith, h, e);
          stations = stations-started;
          can_be_followed = subst (λ ls. CanBeFollowed (simulation net) ls (active_triggers net active)
              (sources_of active)) (sym all)
              (subst (λ vs. CanBeFollowed (simulation net) cs (triggers_of net vs) (sources_of active))
              (sym started.watches) can_be_followed);
          are_followed = subst (λ ls. AreFollowed (simulation net) ls (active_triggers net active) 0
              (progress_of active) cs) (sym all)
              (subst (λ vs. AreFollowed (simulation net) cs (triggers_of net vs) 0 (progress_of active) cs)
              (sym started.watches) followed);
        }

-- ---- AreStarted

-- one more watch has started
pub AreStarted-more : (net : Net) (cs : List Clone) (ws : List Watch) (active : List ActiveWatch) (i : ℕ)
    (w : Watch) (a : ActiveWatch) → length active ≡ i → slice_get ws i ≡ Some w → AreStarted net cs (take i ws) active →
    a.watch ≡ w → IsStarted net cs (take i ws) a → AreStarted net cs (take (i + 1) ws) (active ++ a ∷ [])
AreStarted-more net cs ws active i w a many here h same is = record {
  watches = map-append (λ (a : ActiveWatch). a.watch) active (a ∷ [])
      ∙ ap (λ l. l ++ a.watch ∷ []) h.watches ∙ ap (λ v. take i ws ++ v ∷ []) same ∙ sym (take-next ws i w here);
  each = λ j b e. elim (slice_get-push active a b j e) [
    | inl old ↦ (let l = slice_get_within active j b old in
        subst (λ vs. IsStarted net cs vs b)
        (take-take j i ws (omega (arith, l, many)) ∙ sym (take-take j (i + 1) ws (omega (arith, l, many))))
        (h.each j b old))
    | inr new ↦ (let at : j ≡ i = new.0 ∙ many in
        subst (IsStarted net cs (take j (take (i + 1) ws))) (sym new.1)
        (subst (λ n. IsStarted net cs (take n (take (i + 1) ws)) a) (sym at)
        (subst (λ vs. IsStarted net cs vs a) (sym (take-take i (i + 1) ws (omega arith))) is)))
  ];
}

-- before the first watch
pub AreStarted-none : (net : Net) (cs : List Clone) (ws : List Watch) → AreStarted net cs (take 0 ws) []
AreStarted-none net cs ws = record { watches = refl; each = λ j a e. absurd (cc) }

-- a watchable name is found
pub source_named-there : (cs : List Clone) (earlier : List Watch) (name : List ℕ) → IsWatchable cs earlier name →
    source_named cs earlier name ≡ None → ⊥
source_named-there cs earlier name (inl h) none =
    let found : source_named cs earlier name ≡ Some (OfScript h.0) =
    ap (λ o. option_or (option_map OfScript o) (option_map OfWatch
    (position (λ (w : Watch). bytes_eq w.new name) earlier))) h.1 in
    let never : ⊥ = cc in never
source_named-there cs earlier name (inr h) none = by (place_of name cs) none
  where
    of_watch : (o : Option ℕ) → position (λ (w : Watch). bytes_eq w.new name) earlier ≡ o →
        option_map OfWatch o ≡ None → ⊥
    of_watch None is f = position-there (λ (w : Watch). bytes_eq w.new name) earlier h.0 h.1.0 h.1.1
        ((bytes_eq-Decides h.1.0.new name).1 h.1.2) is
    of_watch (Some i) is f = let never : ⊥ = cc in never

    by : (o : Option ℕ) → option_or (option_map OfScript o) (option_map OfWatch
        (position (λ (w : Watch). bytes_eq w.new name) earlier)) ≡ None → ⊥
    by None f = of_watch (position (λ (w : Watch). bytes_eq w.new name) earlier) refl f
    by (Some c) f = let never : ⊥ = cc in never
