-- The least times that are due in the clones, after accepted calls.
use Rattle.std.proofs.Common.{◌≡◌, ⊎_elim, ℕ, zero, suc, ◌+◌, ◌<◌, ◌≤◌, min, Bool, true, false, cond, List, [], ◌∷◌}
use Rattle.std.proofs.Common.{◌++◌, map, length, Option, Some, None, option_map, is_none, unwrap_or}
use Rattle.std.proofs.Common.{slice_get, slice_set, nat_lt, nat_le, refl, sym, ap, ◌∙◌, subst, arith, fold, take, drop}
use Rattle.std.proofs.Common.{◌-◌, length-append}
use Rattle.std.proofs.Math.Seq.{drop-append_seam, take-append_seam}
use Rattle.std.proofs.lemmas.List.{length-map, map_push, map-set}
use Rattle.std.proofs.lemmas.List.Sums.{fold-append}
use Rattle.std.proofs.lemmas.Option.{slice_get-map, slice_get-get_or, unwrap_or-slice_get}
use Rattle.std.specs.Str.{bytes_eq}
use Rattle.sim_base.specs.declared.decision.Decision.{Decision}
use Rattle.sim_base.specs.declared.decision.Decision.TheVariants.{Fork, Set, End}
use Rattle.sim_base.specs.Clones.{Clone, clone_at, place_of, nobody, fork_of, with_plan, with_end}
use Rattle.sim_base.specs.Decisions.{subject}
use Rattle.sim_base.specs.declared.message.Change.{Change}
use Rattle.sim_base.specs.declared.lists.TheConstants.{MAX_DECISIONS}
use Rattle.net_model.specs.Net.{Net, station_named}
use Rattle.net_model.specs.Rules.{IsNet}
use Rattle.run_laws.specs.Fronts.{earlier, least_of, least, window_end, next_front}
use Rattle.run_laws.specs.Runs.{end_of}
use Rattle.run_laws.proofs.DueTimes.{least_of-fork, least_of-with_plan, least_of-with_end}
use Rattle.run_laws.proofs.NextFronts.{next_front-rises, window_end-within}
use Rattle.stations.specs.Runs.{simulation}
use Rattle.stations.proofs.GoodLaws.{lawful-stations}
use Rattle.decision_book.specs.declared.call.Call.{Call}
use Rattle.decision_book.specs.declared.call.Reply.TheVariants.{Accepted, UnknownStation, ListFull}
use Rattle.decision_book.specs.Journal.{Event, Situation, NewCall, NewFront, after, after_event}
use Rattle.decision_book.specs.Journal.{outset, front_of, clones_after, if_accepted, clone_place, plan_of_set, calls_of}
use Rattle.decision_book.specs.Replies.{row, first_row, rows, reply, time_rows, change_row}
use Rattle.decision_book.specs.Right.{IsRight, MayFollow, EachAfter}
use Rattle.decision_book.specs.Scripts.{accepted_onto, accepted_of}
use Rattle.decision_book.proofs.ClonesByName.{place_of-bounds, place_of-cons}
use Rattle.decision_book.proofs.Growing.{calls_of-push_calls}
use Rattle.decision_book.proofs.JournalScripts.{ChangesNothing, accepted_or_refused, each_later, net_stays}
use Rattle.decision_book.proofs.Rows.{IsOpen, IsOpen-accepted, first_row-Accepted, first_row-change, first_row-times}
use Rattle.decision_book.proofs.Scripts.{situation_of_journal}
use Rattle.decision_desk.specs.Leasts.{leasts_of, earliest, leasts_with, leasts_with_at, leasts_with_calls}
use Rattle.decision_desk.specs.Leasts.{helm_at, calls_at}
use Rattle.decision_desk.specs.Passes.{IsSince, IsTurnAhead, IsHelmTurn}
use Rattle.decision_desk.specs.declared.helm.Turn.{Turn}
use Rattle.decision_desk.proofs.Journals.{front_calls}
use Rattle.decision_book.specs.Books.{BookView}

-- ---- place_of

-- a place stays after the first one if it stays among the others
found_on : (b : Bool) (o p : Option ℕ) (i : ℕ) → ((k : ℕ) → o ≡ Some k → p ≡ Some k)
    → cond b (Some 0) (option_map (λ n. suc n) o) ≡ Some i → cond b (Some 0) (option_map (λ n. suc n) p) ≡ Some i
found_on true o p i f e = e
found_on false None p i f e = absurd cc
found_on false (Some k) p i f e = ap (option_map (λ n. suc n)) (f k refl) ∙ e

-- one more clone at the end
place_of-push : (m : List ℕ) (cs more : List Clone) (i : ℕ) → place_of m cs ≡ Some i → place_of m (cs ++ more) ≡ Some i
place_of-push m [] more i e = absurd cc
place_of-push m (c ∷ cs) more i e = place_of-cons m c (cs ++ more)
    ∙ found_on (bytes_eq c.name m) (place_of m cs) (place_of m (cs ++ more)) i (λ k h. place_of-push m cs more k h)
    (sym (place_of-cons m c cs) ∙ e)

-- a clone changes, except for its name
place_of-set : (m : List ℕ) (cs : List Clone) (j : ℕ) (k : Clone) → k.name ≡ (clone_at cs j).name
    → place_of m (slice_set cs j k) ≡ place_of m cs
place_of-set m [] j k e = refl
place_of-set m (c ∷ cs) zero k e =
    place_of-cons m k cs ∙ (ap (λ (n : List ℕ). cond (bytes_eq n m) (Some 0)
    (option_map (λ n. suc n) (place_of m cs))) e ∙ sym (place_of-cons m c cs))
place_of-set m (c ∷ cs) (suc j) k e = place_of-cons m c (slice_set cs j k)
    ∙ (ap (λ o. cond (bytes_eq c.name m) (Some 0) (option_map (λ n. suc n) o)) (place_of-set m cs j k e)
    ∙ sym (place_of-cons m c cs))

-- an accepted decision leaves each clone at its place
place_of-decided : (net : Net) (m : List ℕ) (cs : List Clone) (d : Decision) (i : ℕ) → place_of m cs ≡ Some i
    → place_of m (clones_after net cs d) ≡ Some i
place_of-decided net m cs (Fork new old) i e = place_of-push m cs _ i e
place_of-decided net m cs (Set who at station change) i e = place_of-set m cs (clone_place who cs) _ refl ∙ e
place_of-decided net m cs (End who at) i e = place_of-set m cs (clone_place who cs) _ refl ∙ e

-- calls do so as well
place_of-calls : (m : List ℕ) (s : Situation) (calls : List Call) (i : ℕ) → place_of m s.clones ≡ Some i
    → place_of m (fold after_event s (map NewCall calls)).clones ≡ Some i
place_of-calls m s [] i e = e
place_of-calls m s (c ∷ cs) i e = place_of-calls m (after_event s (NewCall c)) cs i (⊎_elim
    (λ (h : c.reply ≡ Accepted). ap
    (λ r. place_of m (if_accepted r (clones_after s.net s.clones c.decision) s.clones)) h
    ∙ place_of-decided s.net m s.clones c.decision i e)
    (λ (h : ChangesNothing c.reply). ap (place_of m) (h.1 (clones_after s.net s.clones c.decision) s.clones) ∙ e)
    (accepted_or_refused c.reply))

-- ---- first_row

-- the time of an accepted set or end
abbrev IsTimely : Situation → ℕ → Type 0
IsTimely s at = (s.front ≤ at) × (at < s.net.horizon)

-- the time of a set that is accepted
timely_set : (s : Situation) (clone : ℕ) (who : List ℕ) (at : ℕ) (station : List ℕ) (change : Change)
    → first_row (rows s clone (Set who at station change)) ≡ Accepted → IsTimely s at
timely_set s clone who at station change h =
    let full = row (nat_le MAX_DECISIONS (length (clone_at s.clones clone).plans)) ListFull in
    let times = time_rows s.net s.front at in
    let one = first_row-Accepted (is_none (station_named station s.net)) UnknownStation
    (change_row s.net (station_named station s.net) change ∷ full ∷ times) (λ e. cc) h in
    let two = first_row-change s.net (station_named station s.net) change (full ∷ times) one.1 in
    let three = first_row-Accepted (nat_le MAX_DECISIONS (length (clone_at s.clones clone).plans)) ListFull times
    (λ e. cc) two in
    first_row-times s.net s.front at three.1

-- ---- leasts_with

-- the least time of the clone at a place
least_at : (net : Net) (front : ℕ) (cs : List Clone) (i : ℕ) → i < length cs
    → slice_get (leasts_of net cs front) i ≡ Some (least_of (simulation net) (clone_at cs i) front)
least_at net front cs i lt = slice_get-map (λ c. least_of (simulation net) c front) cs i
    ∙ ap (option_map (λ c. least_of (simulation net) c front)) (slice_get-get_or cs i nobody lt
    ∙ ap (λ (k : Clone). Some k) (sym (unwrap_or-slice_get cs i nobody)))

-- the least times change to those of the clones after a decision
abbrev Changes : Situation → ℕ → Decision → Type 0
Changes s p d = leasts_with_at p (Some (least_of (simulation s.net) (clone_at s.clones p) s.front))
    (leasts_of s.net s.clones s.front) d ≡ leasts_of s.net (clones_after s.net s.clones d) s.front

-- a fork begins with the least time of its origin
changes_fork : (s : Situation) (p : ℕ) (new old : List ℕ) → clone_place old s.clones ≡ p
    → (clone_at s.clones p).end ≡ None → Changes s p (Fork new old)
changes_fork s p new old place going =
    let L : Clone → Option ℕ = λ c. least_of (simulation s.net) c s.front in
    let k : ℕ → Clone = λ i. fork_of (clone_at s.clones i) new in
    sym (map_push L s.clones (k (clone_place old s.clones))
    ∙ ap (λ t. map L s.clones ++ t ∷ [])
    (ap (λ i. L (k i)) place ∙ least_of-fork (simulation s.net) (clone_at s.clones p) new s.front going))

-- a set changes it to the lesser of it and the set's time
changes_set : (s : Situation) (p : ℕ) (who : List ℕ) (at : ℕ) (station : List ℕ) (change : Change) → IsNet s.net
    → clone_place who s.clones ≡ p → (clone_at s.clones p).end ≡ None → IsTimely s at
    → Changes s p (Set who at station change)
changes_set s p who at station change valid place going time =
    let sim = simulation s.net in
    let L : Clone → Option ℕ = λ c. least_of sim c s.front in
    let plan = plan_of_set s.net at station change in
    let k : Clone = clone_at s.clones p in
    let late = time.0 in
    let ends : end_of sim k ≡ s.net.horizon = ap (λ o. unwrap_or o s.net.horizon) going in
    let before : nat_lt at (end_of sim k) ≡ true = grind (arith, time.1, ends) in
    let new : L (with_plan k plan) ≡ earlier (Some at) (L k) =
    least_of-with_plan (lawful-stations s.net valid) k plan s.front at refl late
    ∙ ap (λ b. cond b (earlier (Some at) (L k)) (L k)) before in
    sym (ap (λ i. map L (slice_set s.clones i (with_plan (clone_at s.clones i) plan))) place
    ∙ (map-set L s.clones p (with_plan k plan) ∙ ap (λ t. slice_set (map L s.clones) p t) new))

-- an end drops it unless it is below the end
changes_end : (s : Situation) (p : ℕ) (who : List ℕ) (at : ℕ) → IsNet s.net → clone_place who s.clones ≡ p
    → (clone_at s.clones p).end ≡ None → IsTimely s at → Changes s p (End who at)
changes_end s p who at valid place going time =
    let sim = simulation s.net in
    let L : Clone → Option ℕ = λ c. least_of sim c s.front in
    let k : Clone = clone_at s.clones p in
    let ends : end_of sim k ≡ s.net.horizon = ap (λ o. unwrap_or o s.net.horizon) going in
    let within : at ≤ end_of sim k = omega (arith, time.1, ends) in
    sym (ap (λ i. map L (slice_set s.clones i (with_end (clone_at s.clones i) at))) place
    ∙ (map-set L s.clones p (with_end k at) ∙ ap (λ t. slice_set (map L s.clones) p t)
    (least_of-with_end (lawful-stations s.net valid) k at s.front (record { late = time.0; within = within }))))

-- the least times after an accepted decision
changes : (s : Situation) (d : Decision) → IsNet s.net → (o : IsOpen s d) → Changes s o.clone d
changes s (Fork new old) valid o = changes_fork s o.clone new old (ap (λ q. unwrap_or q 0) o.place) o.going
changes s (Set who at station change) valid o =
    changes_set s o.clone who at station change valid (ap (λ q. unwrap_or q 0) o.place) o.going
    (timely_set s o.clone who at station change o.rest)
changes s (End who at) valid o = changes_end s o.clone who at valid (ap (λ q. unwrap_or q 0) o.place) o.going
    (first_row-times s.net s.front at o.rest)

-- ---- leasts_with_calls

-- the least times after calls, if these are the clones after all calls
leasts_with_calls-accepted : (net : Net) (before : List Event) (cs : List Call) (s : Situation) (all : List Clone)
    → IsNet s.net → after net before ≡ s → EachAfter (MayFollow net) before (map NewCall cs)
    → all ≡ (fold after_event s (map NewCall cs)).clones
    → leasts_with_calls all (leasts_of s.net s.clones s.front) (accepted_of cs) ≡ leasts_of s.net all s.front
leasts_with_calls-accepted net before [] s all valid is right end = ap (λ cl. leasts_of s.net cl s.front) (sym end)
leasts_with_calls-accepted net before (c ∷ cs) s all valid is right end =
    let d = c.decision in
    let ts = leasts_of s.net s.clones s.front in
    let then = fold-append after_event (outset net) before (NewCall c ∷ [])
    ∙ ap (λ (x : Situation). after_event x (NewCall c)) is in
    let answer : c.reply ≡ reply s d = right.0.answer ∙ ap (λ (x : Situation). reply x d) is in
    let more = leasts_with_calls-accepted net (before ++ NewCall c ∷ []) cs (after_event s (NewCall c)) all valid then
    right.1 end in
    ⊎_elim
    (λ (h : c.reply ≡ Accepted).
    let o = IsOpen-accepted s d (sym answer ∙ h) in
    let place : place_of (subject d) all ≡ Some o.clone = ap (place_of (subject d)) end
    ∙ place_of-calls (subject d) s (c ∷ cs) o.clone o.place in
    let one : leasts_with (place_of (subject d) all) ts d ≡ leasts_of s.net (clones_after s.net s.clones d) s.front =
    ap (λ q. leasts_with q ts d) place
    ∙ (ap (λ t. leasts_with_at o.clone t ts d)
    (least_at s.net s.front s.clones o.clone (place_of-bounds (subject d) s.clones o.clone o.place))
    ∙ changes s d valid o) in
    ap (λ r. leasts_with_calls all ts (accepted_onto r c (accepted_of cs))) h
    ∙ (ap (λ us. leasts_with_calls all us (accepted_of cs))
    (one ∙ sym (ap (λ r. leasts_of s.net (if_accepted r (clones_after s.net s.clones d) s.clones) s.front) h))
    ∙ more))
    (λ (h : ChangesNothing c.reply).
    ap (leasts_with_calls all ts) (h.0 c (accepted_of cs))
    ∙ (ap (λ cl. leasts_with_calls all (leasts_of s.net cl s.front) (accepted_of cs))
    (sym (h.1 (clones_after s.net s.clones d) s.clones)) ∙ more))
    (accepted_or_refused c.reply)

-- ---- front_of

-- the front after a journal is the last one in it, or 0
pub front_is : (net : Net) (es : List Event) → (after net es).front ≡ front_of es
front_is net es = ap (λ (s : Situation). s.front) (situation_of_journal net es)

-- ---- leasts_with_calls, after a journal

-- the least times after the calls since the helm's last turn
leasts_after : (net : Net) (helm : List Event) (cs : List Call) → IsNet net → IsRight net (helm ++ map NewCall cs)
    → leasts_with_calls (after net (helm ++ map NewCall cs)).clones
    (leasts_of net (after net helm).clones (front_of helm)) (accepted_of cs)
    ≡ leasts_of net (after net (helm ++ map NewCall cs)).clones (front_of helm)
leasts_after net helm cs valid right =
    let s = after net helm in
    let all = (after net (helm ++ map NewCall cs)).clones in
    let same : s.net ≡ net = net_stays (outset net) helm in
    let l = leasts_with_calls-accepted net helm cs s all (subst (λ n. IsNet n) (sym same) valid) refl
    (each_later (MayFollow net) [] helm (map NewCall cs) right)
    (ap (λ (x : Situation). x.clones) (fold-append after_event (outset net) helm (map NewCall cs))) in
    subst (λ f. leasts_with_calls all (leasts_of net s.clones f) (accepted_of cs) ≡ leasts_of net all f)
    (front_is net helm)
    (subst (λ n. leasts_with_calls all (leasts_of n s.clones s.front) (accepted_of cs) ≡ leasts_of n all s.front)
    same l)

-- ---- earliest

-- the least time of all clones is the earliest of theirs
least-earliest : (net : Net) (cs : List Clone) (front : ℕ)
    → least (simulation net) cs front ≡ earliest (leasts_of net cs front)
least-earliest net [] front = refl
least-earliest net (c ∷ cs) front = ap (earlier (least_of (simulation net) c front)) (least-earliest net cs front)

-- the earliest of three times does not depend on which two are compared first
pub earlier_again : (a b c : Option ℕ) → earlier (earlier a b) c ≡ earlier a (earlier b c)
earlier_again None b c = refl
earlier_again (Some a) None c = refl
earlier_again (Some a) (Some b) None = refl
earlier_again (Some a) (Some b) (Some c) = let e : min (min a b) c ≡ min a (min b c) = omega arith in ap (λ n. Some n) e

-- a time is the earlier of itself and none
pub earlier_none : (a : Option ℕ) → earlier a None ≡ a
earlier_none None = refl
earlier_none (Some a) = refl

-- ---- next_front

-- the front that ends the window of these least times
next_is : (net : Net) (helm : List Event) (cs : List Call) → IsNet net → IsRight net (helm ++ map NewCall cs)
    → window_end (simulation net) (earliest
    (leasts_with_calls (after net (helm ++ map NewCall cs)).clones
    (leasts_of net (after net helm).clones (front_of helm)) (accepted_of cs)))
    ≡ next_front (simulation net) (after net (helm ++ map NewCall cs)).clones (front_of helm)
next_is net helm cs valid right = ap (λ t. window_end (simulation net) t)
    (ap earliest (leasts_after net helm cs valid right)
    ∙ sym (least-earliest net (after net (helm ++ map NewCall cs)).clones (front_of helm)))

-- it is later than a front below the horizon
next_is-later : (net : Net) (cs : List Clone) (front : ℕ) → IsNet net → front < net.horizon
    → front < next_front (simulation net) cs front
next_is-later net cs front valid below = next_front-rises (lawful-stations net valid) cs front valid.lookahead_min below

-- and it is not past the horizon
next_is-within : (net : Net) (cs : List Clone) (front : ℕ) → next_front (simulation net) cs front ≤ net.horizon
next_is-within net cs front = window_end-within (simulation net) (least (simulation net) cs front)

-- ---- helm_at, calls_at

-- the journal as it was with `known` calls is the part that only calls follow
helm_and_calls_at : (es helm : List Event) (cs : List Call) (known : ℕ) → es ≡ helm ++ map NewCall cs
    → known ≡ length (calls_of helm) → (helm_at known es ≡ helm) × (calls_at known es ≡ cs)
helm_and_calls_at es helm cs known is count =
    let calls : calls_of es ≡ calls_of helm ++ cs = ap calls_of is ∙ calls_of-push_calls helm cs in
    let longer : length (calls_of es) ≡ length (calls_of helm) + length cs =
    ap length calls ∙ length-append (calls_of helm) cs in
    let all : length es ≡ length helm + length cs =
    ap length is ∙ (length-append helm (map NewCall cs) ∙ ap (λ n. length helm + n) (length-map cs NewCall)) in
    let n : length es - (length (calls_of es) - known) ≡ length helm = omega (arith, longer, all, count) in (
      ap (λ k. take k es) n ∙ (ap (take (length helm)) is ∙ take-append_seam helm (map NewCall cs)),
      ap (λ k. drop k (calls_of es)) count
          ∙ (ap (drop (length (calls_of helm))) calls ∙ drop-append_seam (calls_of helm) cs),
    )

-- ---- IsTurnAhead

-- the result of the helm's next turn, after a journal that continues another with only calls
turn_ahead : (b : BookView) (helm : List Event) (cs fresh : List Call) (known front : ℕ) (least ts : List (Option ℕ))
    (all : List Clone) → b.events ≡ helm ++ map NewCall cs → known ≡ length (calls_of helm)
    → front_of helm < b.net.horizon → least ≡ leasts_of b.net (after b.net helm).clones (front_of helm) → IsNet b.net
    → IsRight b.net b.events
    → fresh ≡ accepted_of (drop known (calls_of b.events)) → all ≡ (after b.net b.events).clones
    → ts ≡ leasts_with_calls all least fresh → front ≡ window_end (simulation b.net) (earliest ts)
    → IsTurnAhead b helm cs fresh front
turn_ahead b helm cs fresh known front least ts all is count below least_is valid right fresh_is all_is ts_is front_at =
    let net = b.net in
    let here = (after net b.events).clones in
    let same : fresh ≡ accepted_of cs =
    fresh_is ∙ ap accepted_of (helm_and_calls_at b.events helm cs known is count).1 in
    let times : ts ≡ leasts_with_calls here (leasts_of net (after net helm).clones (front_of helm)) (accepted_of cs) =
    ts_is ∙ (ap (λ a. leasts_with_calls a least fresh) all_is
    ∙ (ap (λ l. leasts_with_calls here l fresh) least_is
    ∙ ap (leasts_with_calls here (leasts_of net (after net helm).clones (front_of helm))) same)) in
    let next : window_end (simulation net)
    (earliest (leasts_with_calls here (leasts_of net (after net helm).clones (front_of helm)) (accepted_of cs)))
    ≡ next_front (simulation net) here (front_of helm) =
    subst (λ (es : List Event). window_end (simulation net)
    (earliest (leasts_with_calls (after net es).clones (leasts_of net (after net helm).clones (front_of helm))
    (accepted_of cs))) ≡ next_front (simulation net) (after net es).clones (front_of helm))
    (sym is) (next_is net helm cs valid (subst (λ (es : List Event). IsRight net es) is right)) in
    let found : front ≡ next_front (simulation net) here (front_of helm) =
    front_at ∙ (ap (λ l. window_end (simulation net) (earliest l)) times ∙ next) in
    let stays : front_of b.events ≡ front_of helm = ap front_of is ∙ front_calls helm cs in
    let at : (after net b.events).front ≡ front_of helm = front_is net b.events ∙ stays in
    let more : front_of helm < front =
    subst (λ n. front_of helm < n) (sym found) (next_is-later net here (front_of helm) valid below) in
    record {
      fresh_is = same;
      front_is = found;
      next = found ∙ ap (next_front (simulation net) here) (sym at);
      later = omega (arith, at, more);
      above = omega (arith, stays, more);
      within = subst (λ n. n ≤ net.horizon) (sym found) (next_is-within net here (front_of helm));
      right = right;
    }

-- if only calls came since `known` calls were there, the accepted ones and the next front are found
pub is_turn_ahead : (b : BookView) (fresh : List Call) (known front : ℕ) (least ts : List (Option ℕ))
    (all : List Clone) → IsSince b known least → IsNet b.net → IsRight b.net b.events
    → fresh ≡ accepted_of (drop known (calls_of b.events)) → all ≡ (after b.net b.events).clones
    → ts ≡ leasts_with_calls all least fresh → front ≡ window_end (simulation b.net) (earliest ts)
    → IsTurnAhead b (helm_at known b.events) (calls_at known b.events) fresh front
is_turn_ahead b fresh known front least ts all s valid right fresh_is all_is ts_is front_at =
    let p = helm_and_calls_at b.events s.helm s.calls known s.events s.known_is in
    subst (λ (h : List Event). IsTurnAhead b h (calls_at known b.events) fresh front) (sym p.0)
    (subst (λ (cs : List Call). IsTurnAhead b s.helm cs fresh front) (sym p.1)
    (turn_ahead b s.helm s.calls fresh known front least ts all s.events s.known_is s.below s.least_is valid right
    fresh_is all_is ts_is front_at))

-- the calls since then are calls of the book
pub known_calls : (b : BookView) (known : ℕ) (least : List (Option ℕ)) → IsSince b known least
    → known ≤ length (calls_of b.events)
known_calls b known least s = omega (
  arith,
  s.known_is,
  ap length (ap calls_of s.events ∙ calls_of-push_calls s.helm s.calls)
      ∙ length-append (calls_of s.helm) s.calls,
)

-- ---- IsHelmTurn

-- the book after a turn of the helm
pub is_helm_turn : (old new : BookView) (known : ℕ) (turn : Turn) (helm : List Event) (cs : List Call)
    → old.events ≡ helm ++ map NewCall cs → known ≡ length (calls_of helm)
    → IsTurnAhead old (helm_at known old.events) (calls_at known old.events) turn.fresh.items turn.front
    → new ≡ record old { events = old.events ++ NewFront turn.front ∷ [] } → IsHelmTurn old helm cs turn new
is_helm_turn old new known turn helm cs is count a then =
    let p = helm_and_calls_at old.events helm cs known is count in
    record {
      over = record {
        fresh = a.fresh_is ∙ ap accepted_of p.1;
        front = a.front_is ∙ ap (λ (h : List Event). next_front (simulation old.net) (after old.net old.events).clones
            (front_of h)) p.0;
        above = a.above;
        within = a.within;
        right = a.right;
      };
      new_is = then;
    }
