-- Watches that the table of refusals accepts fit.
use Rattle.std.proofs.Common.{◌≡◌, ◌⊎◌, ℕ, zero, suc, ◌+◌, ◌<◌, ◌≤◌, ◌||◌, Bool, true, false, not, cond, List, [], ◌∷◌}
use Rattle.std.proofs.Common.{◌++◌}
use Rattle.std.proofs.Common.{Option, Some, None, Result, Ok, Err, inl, inr, refl, sym, ap, ◌∙◌, subst, arith, map}
use Rattle.std.proofs.Common.{length}
use Rattle.std.proofs.Common.{take, nat_le, is_none, is_some, option_map, append-nil, append_assoc}
use Rattle.std.specs.Prelude.{slice_get, reverse}
use Rattle.std.specs.List.{list_any}
use Rattle.std.specs.Str.{bytes_eq}
use Rattle.std.proofs.lemmas.Bool.{leb-false}
use Rattle.std.proofs.lemmas.List.{length-reverse}
use Rattle.std.proofs.lemmas.Slice.Eq.{bytes_eq-Decides}
use Rattle.sim_base.specs.Clones.{Clone, clone_at, place_of}
use Rattle.sim_base.specs.declared.lists.TheConstants.{MAX_CLONES, MAX_DECISIONS}
use Rattle.net_model.specs.Net.{Net, site_of, station_named}
use Rattle.run_laws.specs.Queue.{In}
use Rattle.stations.specs.Changes.{accepts}
use Rattle.stations.specs.declared.change.ChangeFault.{ChangeFault}
use Rattle.stations.specs.declared.change.ChangeFault.TheVariants as refused
use Rattle.decision_book.specs.Replies.{row, first_row, change_row, fault_row}
use Rattle.decision_book.specs.declared.call.Reply.{Reply}
use Rattle.decision_book.specs.declared.call.Reply.TheVariants.{Accepted, Ended, NameTaken}
use Rattle.decision_book.specs.declared.call.Reply.TheVariants.{TooManyClones, UnknownStation, WrongParameter}
use Rattle.decision_book.specs.declared.call.Reply.TheVariants.{ListFull}
use Rattle.decision_book.proofs.Rows.{first_row-Accepted}
use Rattle.watch_points.specs.Branches.{HaveNewNames}
use Rattle.watch_points.specs.Checking.{watched_clone, script_clone, branch_clone, is_taken, is_server, server_row}
use Rattle.watch_points.specs.Checking.{clone_rows, watch_rows, watch_reply, if_accepted, fit_after}
use Rattle.watch_points.specs.FittingWatches.{AcceptedWatchesFit, FitsAfter, IsWatchable}
use Rattle.watch_points.specs.Triggers.{triggers_of}
use Rattle.watch_points.specs.declared.fitting.Unfit.{Unfit}
use Rattle.watch_points.specs.declared.fitting.WatchedClone.{WatchedClone}
use Rattle.watch_points.specs.declared.watch.Watch.{Watch}
use Rattle.watch_points.proofs.ClonePlaces.{place_of-in}
use Rattle.watch_points.proofs.Elements.{reverse-cons, slice_get-after}

-- ---- if_accepted

-- if all watches fit, this one is accepted, and the later ones fit
if_accepted-ok : (reply : Reply) (line : ℕ) (later : Result (Unit {0}) Unfit) →
    if_accepted reply line later ≡ Ok tt → (reply ≡ Accepted) × (later ≡ Ok tt)
if_accepted-ok Accepted line later e = (refl, e)
if_accepted-ok _ line later e = absurd (cc)

-- ---- clone_rows

-- the model has the station, which is a server, and the target, which takes the change
pub record HasBoth (net : Net) (w : Watch) : Type 0 where
  pub station : (s : ℕ) × (station_named w.station net ≡ Some s) × (is_server (site_of net s).kind ≡ true)
  pub target : (s : ℕ) × (station_named w.target net ≡ Some s) × (accepts (site_of net s) w.change ≡ Ok tt)

module _ (net : Net) (cs : List Clone) (earlier : List Watch) (w : Watch) where
  -- what an accepted watch passed: its clone has no end, the name is new, there is room, and it has both stations
  record HasPassedRows (c : WatchedClone) : Type 0 where
    no_end : c.end ≡ None
    is_new : is_taken cs earlier w.new ≡ false
    room : length cs + length earlier < MAX_CLONES
    both : HasBoth net w

  -- the row of a change
  change-ok : (s : ℕ) (r : Result (Unit {0}) ChangeFault) (more : List (Option Reply)) →
      first_row (fault_row r ∷ more) ≡ Accepted → r ≡ Ok tt
  change-ok s (Ok u) more e = refl
  change-ok s (Err refused.WrongParameter) more e = absurd (cc)
  change-ok s (Err refused.OutOfRange) more e = absurd (cc)

  -- a negation that is false
  not-false : (b : Bool) → not b ≡ false → b ≡ true
  not-false true e = refl
  not-false false e = absurd (cc)

  -- the rows of the stations
  both-stations : (o p : Option ℕ) → station_named w.station net ≡ o → station_named w.target net ≡ p →
      (more : List (Option Reply)) →
      first_row (row (is_none o || is_none p) UnknownStation ∷ server_row net o ∷ change_row net p w.change ∷ more)
      ≡ Accepted → HasBoth net w
  both-stations None p is_o is_p more e = absurd (cc)
  both-stations (Some s) None is_o is_p more e = absurd (cc)
  both-stations (Some s) (Some t) is_o is_p more e =
      let a = first_row-Accepted (not (is_server (site_of net s).kind)) WrongParameter
      (change_row net (Some t) w.change ∷ more) (λ e. absurd (cc)) e in
      record {
        station = (s, is_o, not-false (is_server (site_of net s).kind) a.0);
        target = (t, is_p, change-ok t (accepts (site_of net t) w.change) more a.1);
      }

  -- the rows of a watch of this clone
  rows-passed : (c : WatchedClone) → first_row (clone_rows net cs earlier w c) ≡ Accepted → HasPassedRows c
  rows-passed c e = by c.end refl e
    where
      by : (end : Option ℕ) → c.end ≡ end →
          first_row (option_map (λ at. Ended at) end ∷ row (is_taken cs earlier w.new) NameTaken
          ∷ row (nat_le MAX_CLONES (length cs + length earlier)) TooManyClones
          ∷ row (is_none (station_named w.station net) || is_none (station_named w.target net)) UnknownStation
          ∷ server_row net (station_named w.station net)
          ∷ change_row net (station_named w.target net) w.change
          ∷ row (nat_le MAX_DECISIONS c.decisions) ListFull
          ∷ []) ≡ Accepted → HasPassedRows c
      by (Some at) is e = absurd (cc)
      by None is e =
          let rest : List (Option Reply) =
          row (is_none (station_named w.station net) || is_none (station_named w.target net)) UnknownStation
          ∷ server_row net (station_named w.station net)
          ∷ change_row net (station_named w.target net) w.change
          ∷ row (nat_le MAX_DECISIONS c.decisions) ListFull
          ∷ [] in
          let a = first_row-Accepted (is_taken cs earlier w.new) NameTaken
          (row (nat_le MAX_CLONES (length cs + length earlier)) TooManyClones ∷ rest) (λ e. absurd (cc)) e in
          let b = first_row-Accepted (nat_le MAX_CLONES (length cs + length earlier)) TooManyClones rest
          (λ e. absurd (cc)) a.1 in
          record {
            no_end = is;
            is_new = a.0;
            room = leb-false MAX_CLONES (length cs + length earlier) b.0;
            both = both-stations (station_named w.station net) (station_named w.target net) refl refl
                (row (nat_le MAX_DECISIONS c.decisions) ListFull ∷ []) b.1;
          }

  -- an accepted watch has a clone, and passed the rows
  reply-passed : watch_reply net cs earlier w ≡ Accepted →
      (c : WatchedClone) × (watched_clone cs earlier w.who ≡ Some c) × HasPassedRows c
  reply-passed e = by (watched_clone cs earlier w.who) refl e
    where
      by : (o : Option WatchedClone) → watched_clone cs earlier w.who ≡ o →
          first_row (watch_rows net cs earlier w o) ≡ Accepted →
          (c : WatchedClone) × (watched_clone cs earlier w.who ≡ Some c) × HasPassedRows c
      by None is e = absurd (cc)
      by (Some c) is e = (c, is, rows-passed c e)

-- ---- names

-- the names of the clones, and of the branches of earlier watches
abbrev all_names : List Clone → List Watch → List (List ℕ)
all_names cs [] = map (λ (c : Clone). c.name) cs
all_names cs (w ∷ earlier) = w.new ∷ all_names cs earlier

-- a name that is not taken is none of them
not_taken : (cs : List Clone) (earlier : List Watch) (name : List ℕ) → is_taken cs earlier name ≡ false →
    In name (all_names cs earlier) → ⊥
not_taken cs earlier name e i = elim (among earlier i) [
  | inl is ↦ (let yes : is_taken cs earlier name ≡ true =
      ap (λ b. b || list_any (λ (w : Watch). bytes_eq w.new name) earlier) (place_of-in name cs is) in
      let never : ⊥ = cc in never)
  | inr is ↦ (let yes : is_taken cs earlier name ≡ true =
      ap (λ b. is_some (place_of name cs) || b) is ∙ or-true (is_some (place_of name cs)) in
      let never : ⊥ = cc in never)
]
  where
    or-true : (b : Bool) → (b || true) ≡ true
    or-true true = refl
    or-true false = refl

    among : (earlier : List Watch) → In name (all_names cs earlier) →
        In name (map (λ (c : Clone). c.name) cs) ⊎ (list_any (λ (w : Watch). bytes_eq w.new name) earlier ≡ true)
    among [] i = inl i
    among (w ∷ earlier) (inl is) = inr (ap (λ b. b || list_any (λ (w : Watch). bytes_eq w.new name) earlier)
        ((bytes_eq-Decides w.new name).1 (sym is)))
    among (w ∷ earlier) (inr j) = elim (among earlier j) [
      | inl is ↦ inl is
      | inr is ↦ inr (ap (λ b. bytes_eq w.new name || b) is ∙ or-true (bytes_eq w.new name))
    ]

-- ---- watched_clone

-- an element of a list is one of the list with one more at the end
slice_get-longer : {X : Type 0} (xs ys : List X) (i : ℕ) (x : X) → slice_get xs i ≡ Some x →
    slice_get (xs ++ ys) i ≡ Some x
slice_get-longer [] ys i x e = absurd (cc)
slice_get-longer (z ∷ xs) ys zero x e = e
slice_get-longer (z ∷ xs) ys (suc i) x e = slice_get-longer xs ys i x e

-- one more earlier watch leaves what is watchable
watchable-more : (cs : List Clone) (earlier : List Watch) (u : Watch) (name : List ℕ) →
    IsWatchable cs (reverse earlier) name → IsWatchable cs (reverse (u ∷ earlier)) name
watchable-more cs earlier u name (inl c) = inl c
watchable-more cs earlier u name (inr h) =
    inr (
      h.0,
      (
        h.1.0,
        ap (λ l. slice_get l h.0) (reverse-cons u earlier)
            ∙ slice_get-longer (reverse earlier) (u ∷ []) h.0 h.1.0 h.1.1,
        h.1.2,
      ),
    )

-- a clone without an end is watchable
watchable : (cs : List Clone) (earlier : List Watch) (name : List ℕ) (c : WatchedClone) →
    watched_clone cs earlier name ≡ Some c → c.end ≡ None → IsWatchable cs (reverse earlier) name
watchable cs [] name c e no_end = by (place_of name cs) refl e
  where
    by : (o : Option ℕ) → place_of name cs ≡ o → option_map (λ k. script_clone (clone_at cs k)) o ≡ Some c →
        IsWatchable cs [] name
    by None is e = absurd (cc)
    by (Some k) is e =
        let same : script_clone (clone_at cs k) ≡ c = cc in
        inl (k, is, ap (λ (w : WatchedClone). w.end) same ∙ no_end)
watchable cs (u ∷ earlier) name c e no_end =
    by (bytes_eq u.new name) refl e (λ f. watchable cs earlier name c f no_end)
  where
    by : (b : Bool) → bytes_eq u.new name ≡ b →
        cond b (option_map branch_clone (watched_clone cs earlier u.who)) (watched_clone cs earlier name) ≡ Some c →
        (watched_clone cs earlier name ≡ Some c → IsWatchable cs (reverse earlier) name) →
        IsWatchable cs (reverse (u ∷ earlier)) name
    by false is e rest = watchable-more cs earlier u name (rest e)
    by true is e rest =
        inr (
          length earlier,
          (
            u,
            ap (λ l. slice_get l (length earlier)) (reverse-cons u earlier)
                ∙ ap (slice_get (reverse earlier ++ u ∷ [])) (sym (length-reverse earlier))
                ∙ slice_get-after (reverse earlier) [] u,
            (bytes_eq-Decides u.new name).0 is,
          ),
        )

-- ---- fit_after

-- what holds of watches that fit after earlier ones, of which the last comes first
record AreFittingAfter (net : Net) (cs : List Clone) (earlier ws : List Watch) : Type 0 where
  new_names : HaveNewNames (all_names cs earlier) (triggers_of net ws)
  clones_max : 0 < length ws → length cs + length earlier + length ws ≤ MAX_CLONES
  each : (j : ℕ) (w : Watch) → slice_get ws j ≡ Some w → FitsAfter net cs (reverse earlier ++ take j ws) w

fit_after-fitting : (net : Net) (cs : List Clone) (earlier ws : List Watch) → fit_after net cs earlier ws ≡ Ok tt →
    AreFittingAfter net cs earlier ws
unfolding fit_after
fit_after-fitting net cs earlier [] e = record {
  new_names = tt;
  clones_max = λ l. absurd (omega (arith, l));
  each = λ j w f. absurd (cc);
}
fit_after-fitting net cs earlier (w ∷ ws) e =
    let a = if_accepted-ok (watch_reply net cs earlier w) w.line (fit_after net cs (w ∷ earlier) ws) e in
    let passed = reply-passed net cs earlier w a.0 in
    let rest = fit_after-fitting net cs (w ∷ earlier) ws a.1 in
    record {
      new_names = (not_taken cs earlier w.new passed.2.is_new, rest.new_names);
      clones_max = λ l. many (length ws) (length earlier) passed.2.room rest.clones_max;
      each = fits passed rest;
    }
  where
    many : (n m : ℕ) → length cs + m < MAX_CLONES → (0 < n → length cs + suc m + n ≤ MAX_CLONES) →
        length cs + m + suc n ≤ MAX_CLONES
    many zero m a f = omega (arith, a)
    many (suc n) m a f = let h = f (omega arith) in omega (arith, h)

    fits : (c : WatchedClone) × (watched_clone cs earlier w.who ≡ Some c) × HasPassedRows net cs earlier w c →
        AreFittingAfter net cs (w ∷ earlier) ws → (j : ℕ) (v : Watch) → slice_get (w ∷ ws) j ≡ Some v →
        FitsAfter net cs (reverse earlier ++ take j (w ∷ ws)) v
    fits passed rest zero v f =
        let same : w ≡ v = cc in
        subst (λ u. FitsAfter net cs (reverse earlier ++ []) u) same
        (subst (λ l. FitsAfter net cs l w) (sym (append-nil (reverse earlier))) (record {
          source = watchable cs earlier w.who passed.0 passed.1 passed.2.no_end;
          station = passed.2.both.station;
          target = passed.2.both.target;
        }))
    fits passed rest (suc j) v f =
        subst (λ l. FitsAfter net cs l v)
        (ap (λ l. l ++ take j ws) (reverse-cons w earlier) ∙ append_assoc (reverse earlier) (w ∷ []) (take j ws))
        (rest.each j v f)

-- watches that the table accepts fit
pub accepted_watches_fit : AcceptedWatchesFit
accepted_watches_fit net cs ws e =
    let h = fit_after-fitting net cs [] ws e in
    record {
      new_names = h.new_names;
      clones_max = λ l. let k = h.clones_max l in omega (arith, k);
      each = h.each;
    }
